-- The lent buffers as the world of a run, and what a part of a line does to them.
use Rattle.std.specs.Prelude.{List, ℕ}
use Rattle.register.specs.Runs.{World}
use Rattle.bench_sent.specs.Sent.{items_of}
use Rattle.bench_state.specs.State.{world_of}
use Rattle.bench_state.specs.declared.Bench.{Bench}

-- What the bench keeps in lent buffers: the images, what the coordinators keep, and the rows of what was sent.
pub record Lent : Type 0 where
  pub images : List ℕ
  pub kept : List ℕ
  pub numbers : List ℕ
  pub bytes : List ℕ

abbrev pub lent : List ℕ → List ℕ → List ℕ → List ℕ → Lent
lent images kept numbers bytes = record { images = images; kept = kept; numbers = numbers; bytes = bytes }

-- the world that the record and the buffers stand for
unfoldable pub world_in : Bench → Lent → World
world_in b l = world_of b l.images l.kept (items_of b.settings.size l.numbers l.bytes b.sent)

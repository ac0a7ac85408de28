-- What the inner workers of this crate ask and give.
use Rattle.std.specs.Prelude.{◌≡◌, ◌||◌, true, List, ℕ, ◌≤◌, eqb, length}
use Rattle.bench_parse.specs.Lines.{Line}
use Rattle.bench_rules.specs.Play.{Stage, waiting, events_of, Turn, first}
use Rattle.bench_rules.specs.Turning.{Lent, lent}
use Rattle.bench_print.specs.Printing.{printed_into}
use Rattle.bench_state.specs.State.{bench_range}
use Rattle.bench_rules.specs.declared.After.{After}
use Rattle.bench_state.specs.declared.Bench.{Bench}
use Rattle.bench_player.specs.Lining.{stage_of}
use Rattle.bench_limits.specs.Limits.{last_message, text_length}

-- The bench after a line, by its stage; a stage that is the one before has every byte kept.
pub record Staged (b : Bench) (l : Lent) (before : Stage) (t : Turn) (out : List ℕ) (r : After) (l' : Lent) (out' : List ℕ) : Type 0 where
  pub stage_is : stage_of r.bench l' (events_of t.stage) ≡ t.stage
  pub few : r.bench.sent ≤ last_message
  pub right : eqb r.bench.settings.n 0 || bench_range r.bench.settings ≡ true
  pub text-is : out' ≡ printed_into 0 t.printed out
  pub used-is : r.used ≡ length t.printed
  pub within : r.used ≤ text_length
  pub unmoved-keeps : t.stage ≡ before → (r.bench ≡ b) × (l' ≡ l)

-- the same for a line while no set is accepted, whatever the rows hold
pub record First (b : Bench) (images kept : List ℕ) (said : Line) (out : List ℕ) (r : After) (images' kept' out' : List ℕ) : Type 0 where
  pub staged : (numbers bytes : List ℕ)
      → Staged b (lent images kept numbers bytes) waiting (first said) out r (lent images' kept' numbers bytes) out'

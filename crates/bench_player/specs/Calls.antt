-- Calls of `play_line`, one after the other.
use Rattle.std.specs.Prelude.{List, [], ◌∷◌, ◌++◌, ℕ, take}
use Rattle.bench_rules.specs.Turning.{Lent}
use Rattle.bench_state.specs.declared.Bench.{Bench}
use Rattle.bench_player.specs.Lining.{Called}
use Rattle.bench_player.specs.declared.LinePlayed.{LinePlayed}

-- Calls for some lines, from a record and buffers to others, and the text printed: of each call the first `used` bytes of its buffer.
pub data Calls : Bench → Lent → List ℕ → List (List ℕ) → List ℕ → Bench → Lent → List ℕ → Type 0 where
  none : (b : Bench) (l : Lent) (out : List ℕ) → Calls b l out [] [] b l out
  call : {b b'' : Bench} {l l'' : Lent} {out out'' line text : List ℕ} {rest : List (List ℕ)} (r : LinePlayed) (l' : Lent) (out' : List ℕ)
      → Called b l line out r l' out' → Calls r.bench l' out' rest text b'' l'' out''
      → Calls b l out (line ∷ rest) (take r.used out' ++ text) b'' l'' out''

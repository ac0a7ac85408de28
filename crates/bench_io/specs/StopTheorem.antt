-- What the program's status tells of its calls of `read` and `write` (`bench_io::bench_run`).
use Rattle.std.specs.Prelude.{◌≡◌, Bool, List, [], ◌∷◌, ◌++◌, ℕ, ℤ, pos, negsuc, length}
use Rattle.bench_rules.specs.Turning.{Lent}
use Rattle.bench_io.specs.Workers.{goes_on, cannot_write, failed_status, most_turns, read_status, Turns, none, next, RunLeft}
use Rattle.bench_io.specs.declared.Pass.{Pass}

-- what `read` answered, turn by turn
unfoldable pub answers : {p₀ : Pass} {l₀ : Lent} {line₀ out₀ : List ℕ} {p : Pass} {l : Lent} {text line out : List ℕ} {chunks : List (List ℕ)}
    → Turns p₀ line₀ l₀ out₀ chunks text p line l out → List ℤ
answers none = []
answers (next got interrupted chunk ts on moved t) = answers ts ++ got ∷ []

-- answers after each of which the program goes on: some bytes came, or a signal interrupted the call
pub data GoOn : List ℤ → Type 0 where
  start : GoOn []
  then : {before : List ℤ} (got : ℤ) (interrupted : Bool) → GoOn before → read_status got interrupted ≡ goes_on → GoOn (before ++ got ∷ [])

-- Why the program stops: after such answers `read` answered 0, and it leaves with 0; or `read` answered -1, or a call of `write` failed, or all
-- turns that a run is given were used up, and it leaves with 1.
pub data Stops {left : ℕ} (r : RunLeft left) : Type 0 where
  at_the_end : (before : List ℤ) → GoOn before → answers r.ran.turns ≡ before ++ pos 0 ∷ [] → left ≡ 0 → Stops r
  not_read : (before : List ℤ) → GoOn before → answers r.ran.turns ≡ before ++ negsuc 0 ∷ [] → left ≡ failed_status → Stops r
  not_written : r.status ≡ cannot_write → left ≡ failed_status → Stops r
  used_up : length (answers r.ran.turns) ≡ most_turns → left ≡ failed_status → Stops r

-- The program leaves with 0 or 1, and for one of these reasons.
abbrev pub TheStatusTellsWhy : Type 0
TheStatusTellsWhy = (left : ℕ) (r : RunLeft left) → Stops r

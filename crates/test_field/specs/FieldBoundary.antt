-- What the probes give, by the definitions below them.
use Rattle.std.specs.Prelude.{◌≡◌, cond, List, [], ◌∷◌, ℕ, ◌<◌, eqb, ltb, length}
use Rattle.gf256.specs.Product.{power, power_count}
use Rattle.settings.specs.Ranges.{settings_refusal}
use Rattle.settings.specs.Refusal.{bad_length}
use Rattle.settings.specs.Times.{draw_of, number_of}
use Rattle.settings.specs.declared.Clock.{Clock}
use Rattle.settings.specs.Times.{Draw}
use Rattle.settings.specs.Times.{Drawn, Refused}

-- 2 to the k within the table
unfoldable pub power_or_zero : ℕ → ℕ
power_or_zero k = cond (ltb k power_count) (power k) 0

-- r is the logarithm of a: below 255, and its power is a; 0 for 0
pub record IsLog (a r : ℕ) : Type 0 where
  pub of_zero : a ≡ 0 → r ≡ 0
  pub below : (a ≡ 0 → ⊥) → r < power_count
  pub entry : (a ≡ 0 → ⊥) → power r ≡ a

-- the refusal of five settings
unfoldable pub settings_number : (n m size capacity stripes : ℕ) → ℕ
settings_number n m size capacity stripes = settings_refusal (record { n = n; m = m; size = size; capacity = capacity; stripes = stripes })

unfoldable pub clock_of : ℕ → ℕ → Clock
clock_of coordinator last = record { coordinator = coordinator; last = last }

-- what a draw writes: the time and the next last count
abbrev pub drawn_numbers : ℕ
drawn_numbers = 2

-- A draw: the number, and what the buffer of two numbers holds afterwards.
pub record DrawGiven : Type 0 where
  pub number : ℕ
  pub drawn : List ℕ

-- the time and the next last count; a refused draw leaves the buffer
unfoldable pub draw_written : Draw → List ℕ → List ℕ
draw_written (Drawn time next) out = time ∷ next.last ∷ []
draw_written (Refused number) out = out

unfoldable pub draw_given : Draw → List ℕ → DrawGiven
draw_given d out = record { number = number_of d; drawn = draw_written d out }

-- 2 for a buffer that has not two numbers, else what the clock gives: the lowest number first
unfoldable pub draw_at : ℕ → ℕ → ℕ → List ℕ → DrawGiven
draw_at coordinator last reading out =
    cond (eqb (length out) drawn_numbers) (draw_given (draw_of (clock_of coordinator last) reading) out) (record { number = bad_length; drawn = out })

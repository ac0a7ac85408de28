-- The first refusal of a list of checks: the first check refuses, or passes and leaves it to the rest. Where none refuses, each passed.
use mathlib.Core.Path.{◌≡◌, refl}
use mathlib.Core.Bool.{Bool, true, false}
use mathlib.Core.List.{List, [], ◌∷◌}
use Prim.Native.Nat.{ℕ, zero, suc}
use native.Mathlib.Omega.{arith}
use Rattle.settings.specs.Refusal.{refuse_unless, first_refusal}

pub first_stop : (k : ℕ) (rest : List ℕ) → (k ≡ 0 → ⊥) → k ≡ first_refusal (k ∷ rest)
unfolding first_refusal
first_stop zero rest h = absurd (h refl)
first_stop (suc k) rest h = refl

pub first_pass : (k : ℕ) (rest : List ℕ) → k ≡ 0 → first_refusal (k ∷ rest) ≡ first_refusal rest
unfolding first_refusal
first_pass k rest e = rw e

pub first_alone : (k : ℕ) → first_refusal (k ∷ []) ≡ k
unfolding first_refusal
first_alone zero = refl
first_alone (suc k) = refl

pub passed_first : (k : ℕ) (rest : List ℕ) → first_refusal (k ∷ rest) ≡ 0 → k ≡ 0
unfolding first_refusal
passed_first zero rest e = refl
passed_first (suc k) rest e = e

pub passed_rest : (k : ℕ) (rest : List ℕ) → first_refusal (k ∷ rest) ≡ 0 → first_refusal rest ≡ 0
unfolding first_refusal
passed_rest zero rest e = e
passed_rest (suc k) rest e = absurd (omega arith)

-- a check that passed
pub tested : (b : Bool) (k : ℕ) → refuse_unless b (suc k) ≡ 0 → b ≡ true
tested true k e = refl
tested false k e = absurd (omega arith)

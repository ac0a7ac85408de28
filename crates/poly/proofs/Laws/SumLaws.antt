-- Sums of the values of a function below a count.
-- Assumes nothing.
use mathlib.Core.Path.{◌≡◌, refl, sym, ap, ap₂, ◌∙◌}
use Prim.Native.Nat.{ℕ, suc, ◌<◌}
use native.Mathlib.Omega.{arith}
use native.Mathlib.Decide.{ℕ_discrete}
use Rattle.poly.specs.Field.{Field, IsField}
use Rattle.poly.specs.Polynomial.{sum}
use Rattle.poly.proofs.Laws.RingLaws.{add_left_comm, mul_zero, zero_add}

module _ (F : Field) where
  open F use {carrier, add}

  -- Equal terms, equal sums.
  pub sum_cong : (k : ℕ) (f g : ℕ → carrier) → ((i : ℕ) → i < k → f i ≡ g i) → sum F k f ≡ sum F k g
  unfolding sum
  sum_cong ℕ.zero f g e = refl
  sum_cong (suc k) f g e = ap₂ add (sum_cong k f g (λ i h. e i (omega arith))) (e k (omega arith))

module _ (F : Field) (L : IsField F) where
  open F use {carrier, zero, add, mul}
  open L use {add_assoc, add_comm, add-zero, distrib}

  -- A sum of zeros is zero.
  pub sum_zero : (k : ℕ) (f : ℕ → carrier) → ((i : ℕ) → i < k → f i ≡ zero) → sum F k f ≡ zero
  unfolding sum
  sum_zero ℕ.zero f e = refl
  sum_zero (suc k) f e = ap₂ add (sum_zero k f (λ i h. e i (omega arith))) (e k (omega arith)) ∙ add-zero zero

  -- The sum of f i + g i.
  pub sum_add : (k : ℕ) (f g : ℕ → carrier) → sum F k (λ i. add (f i) (g i)) ≡ add (sum F k f) (sum F k g)
  unfolding sum
  sum_add ℕ.zero f g = sym (add-zero zero)
  sum_add (suc k) f g = ap (λ s. add s (add (f k) (g k))) (sum_add k f g) ∙ simp (add_assoc, add_comm, add_left_comm F L)

  -- The sum of c · f i.
  pub sum_mul : (k : ℕ) (c : carrier) (f : ℕ → carrier) → sum F k (λ i. mul c (f i)) ≡ mul c (sum F k f)
  unfolding sum
  sum_mul ℕ.zero c f = sym (mul_zero F L c)
  sum_mul (suc k) c f = ap (λ s. add s (mul c (f k))) (sum_mul k c f) ∙ sym (distrib c (sum F k f) (f k))

  -- The sum of f i + c · g i.
  pub sum_linear : (k : ℕ) (c : carrier) (f g : ℕ → carrier) → sum F k (λ i. add (f i) (mul c (g i))) ≡ add (sum F k f) (mul c (sum F k g))
  sum_linear k c f g = sum_add k f (λ i. mul c (g i)) ∙ ap (add (sum F k f)) (sum_mul k c g)

  -- A sum with one term that is not zero is that term.
  pub sum_single : (k : ℕ) (f : ℕ → carrier) (i : ℕ) → i < k → ((j : ℕ) → j < k → (j ≡ i → ⊥) → f j ≡ zero) → sum F k f ≡ f i
  unfolding sum
  sum_single ℕ.zero f i h e = absurd (omega arith)
  sum_single (suc k) f i h e = at (ℕ_discrete k i) (sum_single k f i)
    where
      at : Dec (k ≡ i) → (i < k → ((j : ℕ) → j < k → (j ≡ i → ⊥) → f j ≡ zero) → sum F k f ≡ f i) → add (sum F k f) (f k) ≡ f i
      at (yes q) ih = ap₂ add (sum_zero k f (λ j l. e j (omega arith) (λ r. omega arith))) (ap f q) ∙ zero_add F L (f i)
      at (no n) ih = ap₂ add (ih (omega arith) (λ j l. e j (omega arith))) (e k (omega arith) n) ∙ add-zero (f i)

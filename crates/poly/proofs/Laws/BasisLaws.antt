-- Lagrange's basis polynomials: their values, and their coefficients.
-- Assumes nothing.
use mathlib.Core.Path.{◌≡◌, refl, sym, ap, ap₂, ◌∙◌}
use mathlib.Core.List.{List, [], ◌∷◌}
use Prim.Native.Nat.{ℕ, suc, ◌<◌, ◌≤◌}
use native.Mathlib.Omega.{arith}
use native.Mathlib.Decide.{ℕ_discrete}
use borrow.Author.Tests.{eq-eqb, ne_eqb}
use lib.Dec.{eqb}
use lib.ListN.{length}
use Rattle.poly.specs.Field.{Field, IsField}
use Rattle.poly.specs.Polynomial.{pick, sub, eval, factor, basis_to}
use Rattle.poly.proofs.Laws.RingLaws.{mul_zero, zero_mul, sub_eq, sub_of_eq, mul_left_comm}
use Rattle.poly.proofs.Laws.CoefficientLaws.{scale, times_root, eval_scale, eval_times_root, length_scale, length_times_root}

-- `pick` by a test on numbers gives the first value if they are equal.
pub pick_same : {A : Type 0} (k i : ℕ) (a b : A) → k ≡ i → pick (eqb k i) a b ≡ a
unfolding pick
pick_same k i a b e = rw (eq-eqb k i e)

-- It gives the second if they are not.
pub pick_other : {A : Type 0} (k i : ℕ) (a b : A) → (k ≡ i → ⊥) → pick (eqb k i) a b ≡ b
unfolding pick
pick_other k i a b n = rw (ne_eqb k i n)

module _ (F : Field) where
  open F use {carrier, one, mul, inv}

  -- Equal points, equal factors.
  pub factor_cong : (pts pts' : ℕ → carrier) (i k : ℕ) (x : carrier) → pts i ≡ pts' i → pts k ≡ pts' k → factor F pts i k x ≡ factor F pts' i k x
  unfolding factor
  factor_cong pts pts' i k x o e = cc

  -- The product skips i.
  pub basis_to_skip : (k : ℕ) (pts : ℕ → carrier) (i : ℕ) (x : carrier) → k ≡ i → basis_to F (suc k) pts i x ≡ basis_to F k pts i x
  unfolding basis_to
  basis_to_skip k pts i x e = pick_same k i _ _ e

  -- It takes in each other factor.
  pub basis_to_step : (k : ℕ) (pts : ℕ → carrier) (i : ℕ) (x : carrier) →
      (k ≡ i → ⊥) → basis_to F (suc k) pts i x ≡ mul (basis_to F k pts i x) (factor F pts i k x)
  unfolding basis_to
  basis_to_step k pts i x n = pick_other k i _ _ n

  -- Equal points, equal products.
  pub basis_to_cong : (k : ℕ) (pts pts' : ℕ → carrier) (i : ℕ) (x : carrier) →
      ((j : ℕ) → j < k → pts j ≡ pts' j) → pts i ≡ pts' i → basis_to F k pts i x ≡ basis_to F k pts' i x
  unfolding basis_to
  basis_to_cong ℕ.zero pts pts' i x e o = refl
  basis_to_cong (suc k) pts pts' i x e o =
      ap₂ (λ b f. pick (eqb k i) b (mul b f)) (basis_to_cong k pts pts' i x (λ j h. e j (omega arith)) o)
      (factor_cong pts pts' i k x o (e k (omega arith)))

  -- The coefficients of the product.
  unfoldable pub basis_poly : ℕ → (ℕ → carrier) → ℕ → List carrier
  basis_poly ℕ.zero pts i = one ∷ []
  basis_poly (suc k) pts i = pick (eqb k i) (basis_poly k pts i) (scale F (inv (sub F (pts i) (pts k))) (times_root F (pts k) (basis_poly k pts i)))

  -- They are the same after i.
  pub basis_poly_skip : (k : ℕ) (pts : ℕ → carrier) (i : ℕ) → k ≡ i → basis_poly (suc k) pts i ≡ basis_poly k pts i
  unfolding basis_poly
  basis_poly_skip k pts i e = pick_same k i _ _ e

  -- Each other factor multiplies them.
  pub basis_poly_step : (k : ℕ) (pts : ℕ → carrier) (i : ℕ) →
      (k ≡ i → ⊥) → basis_poly (suc k) pts i ≡ scale F (inv (sub F (pts i) (pts k))) (times_root F (pts k) (basis_poly k pts i))
  unfolding basis_poly
  basis_poly_step k pts i n = pick_other k i _ _ n

  -- Up to i there is a coefficient more than k.
  pub length_basis_poly_before : (k : ℕ) (pts : ℕ → carrier) (i : ℕ) → k ≤ i → length (basis_poly k pts i) ≡ suc k
  length_basis_poly_before ℕ.zero pts i h = unfold basis_poly in refl
  length_basis_poly_before (suc k) pts i h =
      ap length (basis_poly_step k pts i (λ e. omega arith)) ∙ rw (length_scale F, length_times_root F)
      (ap suc (length_basis_poly_before k pts i (omega arith)))

  -- From there on, since i is left out, there are k.
  pub length_basis_poly : (k : ℕ) (pts : ℕ → carrier) (i : ℕ) → i < k → length (basis_poly k pts i) ≡ k
  length_basis_poly ℕ.zero pts i h = absurd (omega arith)
  length_basis_poly (suc k) pts i h = by (ℕ_discrete k i) (length_basis_poly k pts i)
    where
      by : Dec (k ≡ i) → (i < k → length (basis_poly k pts i) ≡ k) → length (basis_poly (suc k) pts i) ≡ suc k
      by (yes e) ih = ap length (basis_poly_skip k pts i e) ∙ length_basis_poly_before k pts i (omega arith)
      by (no n) ih = ap length (basis_poly_step k pts i n) ∙ rw (length_scale F, length_times_root F) (ap suc (ih (omega arith)))

module _ (F : Field) (L : IsField F) where
  open F use {carrier, zero, one, mul, inv}
  open L use {add-zero, mul_comm, mul-one, mul-inv}

  -- A factor is one at point i.
  pub factor_one : (pts : ℕ → carrier) (i k : ℕ) → (pts i ≡ pts k → ⊥) → factor F pts i k (pts i) ≡ one
  unfolding factor
  factor_one pts i k n = mul-inv (sub F (pts i) (pts k)) (λ z. n (sub_eq F L (pts i) (pts k) z))

  -- A factor is zero at point k.
  pub factor_zero : (pts : ℕ → carrier) (i k : ℕ) (x : carrier) → x ≡ pts k → factor F pts i k x ≡ zero
  unfolding factor
  factor_zero pts i k x e = ap (λ d. mul d (inv (sub F (pts i) (pts k)))) (sub_of_eq F L x (pts k) e) ∙ zero_mul F L _

  -- At point i the product is one.
  pub basis_to_at : (k : ℕ) (pts : ℕ → carrier) (i : ℕ) → ((j : ℕ) → j < k → pts i ≡ pts j → i ≡ j) → basis_to F k pts i (pts i) ≡ one
  basis_to_at ℕ.zero pts i d = unfold basis_to in refl
  basis_to_at (suc k) pts i d = by (ℕ_discrete k i) (basis_to_at k pts i (λ j h. d j (omega arith)))
    where
      by : Dec (k ≡ i) → basis_to F k pts i (pts i) ≡ one → basis_to F (suc k) pts i (pts i) ≡ one
      by (yes e) ih = basis_to_skip F k pts i (pts i) e ∙ ih
      by (no n) ih = basis_to_step F k pts i (pts i) n ∙ ap₂ mul ih (factor_one pts i k (λ e. n (sym (d k (omega arith) e)))) ∙ mul-one one

  -- At any other of its points it is zero.
  pub basis_to_other : (k : ℕ) (pts : ℕ → carrier) (i j : ℕ) → j < k → (j ≡ i → ⊥) → basis_to F k pts i (pts j) ≡ zero
  basis_to_other ℕ.zero pts i j h n = absurd (omega arith)
  basis_to_other (suc k) pts i j h n = by (ℕ_discrete k i) (ℕ_discrete k j) (λ l. basis_to_other k pts i j l n)
    where
      by : Dec (k ≡ i) → Dec (k ≡ j) → (j < k → basis_to F k pts i (pts j) ≡ zero) → basis_to F (suc k) pts i (pts j) ≡ zero
      by (yes e) o ih = basis_to_skip F k pts i (pts j) e ∙ ih (omega arith)
      by (no m) (yes e) ih = basis_to_step F k pts i (pts j) m ∙ rw (factor_zero pts i k (pts j) (ap pts (sym e))) (mul_zero F L _)
      by (no m) (no o) ih = basis_to_step F k pts i (pts j) m ∙ rw (ih (omega arith)) (zero_mul F L _)

  -- Their polynomial has the product for its value everywhere.
  pub eval_basis_poly : (k : ℕ) (pts : ℕ → carrier) (i : ℕ) (x : carrier) → eval F (basis_poly F k pts i) x ≡ basis_to F k pts i x
  unfolding eval factor
  eval_basis_poly ℕ.zero pts i x = unfold basis_poly basis_to in rw (mul_zero F L x) (add-zero one)
  eval_basis_poly (suc k) pts i x = by (ℕ_discrete k i) (eval_basis_poly k pts i x)
    where
      by : Dec (k ≡ i) → eval F (basis_poly F k pts i) x ≡ basis_to F k pts i x → eval F (basis_poly F (suc k) pts i) x ≡ basis_to F (suc k) pts i x
      by (yes e) ih = ap (λ p. eval F p x) (basis_poly_skip F k pts i e) ∙ ih ∙ sym (basis_to_skip F k pts i x e)
      by (no n) ih =
          ap (λ p. eval F p x) (basis_poly_step F k pts i n) ∙ eval_scale F L _ _ x ∙ rw (eval_times_root F L, ih, basis_to_step F k pts i x n, factor)
          (simp (mul_comm, mul_left_comm F L))

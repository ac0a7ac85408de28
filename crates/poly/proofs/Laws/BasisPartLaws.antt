-- Lagrange's basis polynomial by parts: one for all points at once, one for each point and x, one for each point alone.
-- Assumes nothing.
use mathlib.Core.Path.{◌≡◌, refl, sym, ap, ap₂, ◌∙◌}
use Prim.Native.Nat.{ℕ, suc, ◌<◌, ◌≤◌}
use native.Mathlib.Omega.{arith}
use native.Mathlib.Decide.{ℕ_discrete}
use Rattle.poly.specs.Field.{Field, IsField}
use Rattle.poly.specs.Polynomial.{sub, factor, basis_to, basis, roots_to, others_to}
use Rattle.poly.proofs.Laws.RingLaws.{mul_left_comm, sub_eq, other_is_zero}
use Rattle.poly.proofs.Laws.BasisLaws.{pick_same, pick_other, basis_to_skip, basis_to_step}

module _ (F : Field) where
  open F use {carrier, mul}

  -- The product skips i.
  pub others_to_skip : (k : ℕ) (pts : ℕ → carrier) (i : ℕ) (x : carrier) → k ≡ i → others_to F (suc k) pts i x ≡ others_to F k pts i x
  unfolding others_to
  others_to_skip k pts i x e = pick_same k i _ _ e

  -- It takes in each other difference.
  pub others_to_step : (k : ℕ) (pts : ℕ → carrier) (i : ℕ) (x : carrier) →
      (k ≡ i → ⊥) → others_to F (suc k) pts i x ≡ mul (others_to F k pts i x) (sub F x (pts k))
  unfolding others_to
  others_to_step k pts i x n = pick_other k i _ _ n

  -- Another difference for all.
  pub roots_to_step : (k : ℕ) (pts : ℕ → carrier) (x : carrier) → roots_to F (suc k) pts x ≡ mul (roots_to F k pts x) (sub F x (pts k))
  unfolding roots_to
  roots_to_step k pts x = refl

  -- Up to i nothing is left out.
  roots_before : (k : ℕ) (pts : ℕ → carrier) (i : ℕ) (x : carrier) → k ≤ i → roots_to F k pts x ≡ others_to F k pts i x
  roots_before ℕ.zero pts i x h = unfold roots_to others_to in refl
  roots_before (suc k) pts i x h =
      roots_to_step k pts x ∙ ap (λ p. mul p (sub F x (pts k))) (roots_before k pts i x (omega arith)) ∙ sym (others_to_step k pts i x (λ e. omega arith))

module _ (F : Field) (L : IsField F) where
  open F use {carrier, zero, one, mul, inv}
  open L use {mul_assoc, mul_comm, mul-one, mul-inv}

  -- From there on, i's own difference is.
  pub roots_others : (k : ℕ) (pts : ℕ → carrier) (i : ℕ) (x : carrier) → i < k → roots_to F k pts x ≡ mul (others_to F k pts i x) (sub F x (pts i))
  roots_others ℕ.zero pts i x h = absurd (omega arith)
  roots_others (suc k) pts i x h = roots_to_step F k pts x ∙ by (ℕ_discrete k i) (roots_others k pts i x)
    where
      by : Dec (k ≡ i) → (i < k → roots_to F k pts x ≡ mul (others_to F k pts i x) (sub F x (pts i)))
          → mul (roots_to F k pts x) (sub F x (pts k)) ≡ mul (others_to F (suc k) pts i x) (sub F x (pts i))
      by (yes e) ih =
          ap₂ mul (roots_before F k pts i x (omega arith) ∙ sym (others_to_skip F k pts i x e)) (ap (λ j. sub F x (pts j)) e)
      by (no n) ih = rw (ih (omega arith), others_to_step F k pts i x n) (simp (mul_assoc, mul_comm, mul_left_comm F L))

  -- b · (u · 1/v) · (o · v) = b · o · u.
  moved : (b o u v : carrier) → (v ≡ zero → ⊥) → mul (mul b (mul u (inv v))) (mul o v) ≡ mul (mul b o) u
  moved b o u v z =
      let sorted : mul (mul b (mul u (inv v))) (mul o v) ≡ mul (mul (mul b o) u) (mul v (inv v)) = simp (mul_assoc, mul_comm, mul_left_comm F L) in
      sorted ∙ rw (mul-inv v z) (mul-one _)

  -- r = g · d and b · h = g make b = r · (1/d · 1/h).
  parted : (b r g d h : carrier) → (d ≡ zero → ⊥) → (h ≡ zero → ⊥) → r ≡ mul g d → mul b h ≡ g → b ≡ mul r (mul (inv d) (inv h))
  parted b r g d h nd nh er eg =
      let sorted : mul (mul (mul b h) d) (mul (inv d) (inv h)) ≡ mul (mul b (mul h (inv h))) (mul d (inv d)) = simp (mul_assoc, mul_comm, mul_left_comm F L) in
      sym
      (ap (λ p. mul p (mul (inv d) (inv h))) (er ∙ ap (λ p. mul p d) (sym eg)) ∙ sorted
      ∙ rw (mul-inv d nd, mul-inv h nh) (mul-one _ ∙ mul-one b))

  module _ (pts : ℕ → carrier) (i : ℕ) where
    -- The basis polynomial times the product of its denominators is the product of its numerators.
    basis_others : (k : ℕ) (x : carrier) → ((j : ℕ) → j < k → (j ≡ i → ⊥) → pts j ≡ pts i → ⊥) →
        mul (basis_to F k pts i x) (others_to F k pts i (pts i)) ≡ others_to F k pts i x
    unfolding factor
    basis_others ℕ.zero x d = unfold basis_to others_to in mul-one one
    basis_others (suc k) x d = by (ℕ_discrete k i) (basis_others k x (λ j h. d j (omega arith)))
      where
        by : Dec (k ≡ i) → mul (basis_to F k pts i x) (others_to F k pts i (pts i)) ≡ others_to F k pts i x
            → mul (basis_to F (suc k) pts i x) (others_to F (suc k) pts i (pts i)) ≡ others_to F (suc k) pts i x
        by (yes e) ih = ap₂ mul (basis_to_skip F k pts i x e) (others_to_skip F k pts i (pts i) e) ∙ ih ∙ sym (others_to_skip F k pts i x e)
        by (no n) ih =
            ap₂ mul (basis_to_step F k pts i x n) (others_to_step F k pts i (pts i) n)
            ∙ moved (basis_to F k pts i x) (others_to F k pts i (pts i)) (sub F x (pts k)) (sub F (pts i) (pts k))
            (λ z. d k (omega arith) n (sym (sub_eq F L (pts i) (pts k) z)))
            ∙ ap (λ p. mul p (sub F x (pts k))) ih ∙ sym (others_to_step F k pts i x n)

    -- The product of the denominators is not zero.
    others_nonzero : (k : ℕ) → (one ≡ zero → ⊥) → ((j : ℕ) → j < k → (j ≡ i → ⊥) → pts j ≡ pts i → ⊥) → others_to F k pts i (pts i) ≡ zero → ⊥
    others_nonzero ℕ.zero o d z = o (unfold others_to in z)
    others_nonzero (suc k) o d z = by (ℕ_discrete k i) (others_nonzero k o (λ j h. d j (omega arith)))
      where
        by : Dec (k ≡ i) → (others_to F k pts i (pts i) ≡ zero → ⊥) → ⊥
        by (yes e) ih = ih (sym (others_to_skip F k pts i (pts i) e) ∙ z)
        by (no n) ih =
            d k (omega arith) n
            (sym (sub_eq F L (pts i) (pts k) (other_is_zero F L (others_to F k pts i (pts i)) (sub F (pts i) (pts k)) ih (sym (others_to_step F k pts i (pts i) n) ∙ z))))

    -- So a basis polynomial is the product for all points, times the inverse of i's own difference, times that of its denominators.
    pub basis_parts : (m : ℕ) (x : carrier) → (one ≡ zero → ⊥) → i < m → ((j : ℕ) → j < m → (j ≡ i → ⊥) → pts j ≡ pts i → ⊥) → (x ≡ pts i → ⊥) →
        basis F m pts i x ≡ mul (roots_to F m pts x) (mul (inv (sub F x (pts i))) (inv (others_to F m pts i (pts i))))
    unfolding basis
    basis_parts m x o h d n =
        parted (basis_to F m pts i x) (roots_to F m pts x) (others_to F m pts i x) (sub F x (pts i)) (others_to F m pts i (pts i))
        (λ z. n (sub_eq F L x (pts i) z)) (others_nonzero m o d) (roots_others m pts i x h) (basis_others m x d)

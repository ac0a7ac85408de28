-- The theorems on polynomials over a field and on Lagrange's interpolation.
-- Points and values are functions of a number, of which the first m count.
-- Assumes nothing.
use mathlib.Core.Path.{◌≡◌, refl, sym, ap, ap₂, ◌∙◌}
use mathlib.Core.List.{List, [], ◌∷◌}
use Prim.Native.Nat.{ℕ, suc, ◌<◌, ◌≤◌}
use native.Mathlib.Omega.{arith}
use lib.ListN.{length, replicate}
use Rattle.poly.specs.Field.{Field, IsField}
use Rattle.poly.specs.Polynomial.{eval, Different, basis, interpolated}
use Rattle.poly.proofs.Laws.RingLaws.{mul_zero, zero_mul, one_mul, mul_linear, sub_eq, sub_of_eq}
use Rattle.poly.proofs.Laws.SumLaws.{sum_cong, sum_zero, sum_linear, sum_single}
use Rattle.poly.proofs.Laws.CoefficientLaws.{minus, scale, sum_of, eval_minus, eval_scale, eval_sum_of, eval_zeros, length_minus, length_scale, length_sum_of}
use Rattle.poly.proofs.Laws.RootLaws.{suffixes, length_suffixes, root_of_quotient, zero_quotient, zero_minus}
use Rattle.poly.proofs.Laws.BasisLaws.{basis_to_cong, basis_to_at, basis_to_other, basis_poly, eval_basis_poly, length_basis_poly}

module _ (F : Field) where
  open F use {carrier, mul}

  -- Fewer of different points are different.
  pub fewer_different : (k m : ℕ) (pts : ℕ → carrier) → k ≤ m → Different F m pts → Different F k pts
  unfolding Different
  fewer_different k m pts l d i j hi hj e = omega (arith, d i j (omega arith) (omega arith) e)

  -- Lagrange's value depends only on the first m points and values.
  pub interpolated_cong : (m : ℕ) (pts pts' vals vals' : ℕ → carrier) (x : carrier) →
      ((i : ℕ) → i < m → pts i ≡ pts' i) → ((i : ℕ) → i < m → vals i ≡ vals' i) → interpolated F m pts vals x ≡ interpolated F m pts' vals' x
  unfolding interpolated basis
  interpolated_cong m pts pts' vals vals' x ep ev = sum_cong F m _ _ (λ i h. ap₂ mul (basis_to_cong F m pts pts' i x ep (ep i h)) (ev i h))

module _ (F : Field) (L : IsField F) where
  open F use {carrier, zero, one, add, mul}
  open L use {mul_comm}

  -- A polynomial with at most m coefficients that is zero at m different points has only zeros for coefficients.
  pub roots : (m : ℕ) (pts : ℕ → carrier) (p : List carrier) → Different F m pts → length p ≤ m →
      ((i : ℕ) → i < m → eval F p (pts i) ≡ zero) → p ≡ replicate (length p) zero
  unfolding Different
  roots ℕ.zero pts [] d l r = refl
  roots ℕ.zero pts (c ∷ cs) d l r = absurd (omega arith)
  roots (suc m) pts [] d l r = refl
  roots (suc m) pts (c ∷ cs) d l r =
      zero_quotient F L (pts m) c cs
      (roots m pts (suffixes F (pts m) cs) (fewer_different F m (suc m) pts (omega arith) d) (omega (arith, length_suffixes F (pts m) cs)) others)
      (r m (omega arith))
    where
      apart : (i : ℕ) → i < m → pts i ≡ pts m → ⊥
      apart i h e = omega (arith, d i m (omega arith) (omega arith) e)

      others : (i : ℕ) → i < m → eval F (suffixes F (pts m) cs) (pts i) ≡ zero
      others i h = root_of_quotient F L (pts m) c cs (pts i) (apart i h) (r m (omega arith)) (r i (omega arith))

  -- The difference of two polynomials that agree there is zero.
  pub minus_zero : (m : ℕ) (pts : ℕ → carrier) (p q : List carrier) → Different F m pts → length p ≤ m → length q ≤ m →
      ((i : ℕ) → i < m → eval F p (pts i) ≡ eval F q (pts i)) → minus F p q ≡ replicate (length (minus F p q)) zero
  minus_zero m pts p q d lp lq e =
      roots m pts (minus F p q) d (omega (arith, length_minus F p q)) (λ i h. eval_minus F L p q (pts i) ∙ sub_of_eq F L _ _ (e i h))

  -- Polynomials with at most m coefficients that agree at m different points agree everywhere.
  pub agree : (m : ℕ) (pts : ℕ → carrier) (p q : List carrier) → Different F m pts → length p ≤ m → length q ≤ m →
      ((i : ℕ) → i < m → eval F p (pts i) ≡ eval F q (pts i)) → (x : carrier) → eval F p x ≡ eval F q x
  agree m pts p q d lp lq e x =
      sub_eq F L _ _ (sym (eval_minus F L p q x) ∙ ap (λ l. eval F l x) (minus_zero m pts p q d lp lq e) ∙ eval_zeros F L (length (minus F p q)) x)

  -- Two lists of coefficients of one length, at most m, that agree at m different points are equal.
  pub unique : (m : ℕ) (pts : ℕ → carrier) (p q : List carrier) → Different F m pts → length p ≡ length q → length p ≤ m →
      ((i : ℕ) → i < m → eval F p (pts i) ≡ eval F q (pts i)) → p ≡ q
  unique m pts p q d s l e = zero_minus F L p q s (minus_zero m pts p q d l (omega arith) e)

  -- Basis polynomial i is one at point i.
  pub basis_at : (m : ℕ) (pts : ℕ → carrier) (i : ℕ) → Different F m pts → i < m → basis F m pts i (pts i) ≡ one
  unfolding basis Different
  basis_at m pts i d h = basis_to_at F L m pts i (λ j l e. d i j h l e)

  -- Basis polynomial i is zero at each other point.
  pub basis_other : (m : ℕ) (pts : ℕ → carrier) (i j : ℕ) → j < m → (j ≡ i → ⊥) → basis F m pts i (pts j) ≡ zero
  unfolding basis
  basis_other m pts i j h n = basis_to_other F L m pts i j h n

  -- Lagrange's value at a point is the value given there.
  pub interpolated_at : (m : ℕ) (pts vals : ℕ → carrier) (i : ℕ) → Different F m pts → i < m → interpolated F m pts vals (pts i) ≡ vals i
  unfolding interpolated
  interpolated_at m pts vals i d h =
      sum_single F L m (λ j. mul (basis F m pts j (pts i)) (vals j)) i h
      (λ j l n. rw (basis_other m pts j i h (λ e. n (sym e))) (zero_mul F L (vals j))) ∙ rw (basis_at m pts i d h) (one_mul F L (vals i))

  -- Lagrange's values are those of one polynomial with m coefficients, at every x.
  pub on_one_polynomial : (m : ℕ) (pts vals : ℕ → carrier) →
      (p : List carrier) × (length p ≡ m) × ((x : carrier) → eval F p x ≡ interpolated F m pts vals x)
  unfolding interpolated basis
  on_one_polynomial m pts vals = (sum_of F m m part, length_sum_of F m m part size, value)
    where
      part : ℕ → List carrier
      part i = scale F (vals i) (basis_poly F m pts i)

      size : (i : ℕ) → i < m → length (part i) ≡ m
      size i h = length_scale F (vals i) (basis_poly F m pts i) ∙ length_basis_poly F m pts i h

      term : (x : carrier) (i : ℕ) → eval F (part i) x ≡ mul (basis F m pts i x) (vals i)
      term x i = eval_scale F L (vals i) (basis_poly F m pts i) x ∙ rw (eval_basis_poly F L) (mul_comm _ _)

      value : (x : carrier) → eval F (sum_of F m m part) x ≡ interpolated F m pts vals x
      value x = eval_sum_of F L m m part x ∙ sum_cong F m _ _ (λ i h. term x i)

  -- Some polynomial with m coefficients goes through m different points with any values.
  pub exists_through : (m : ℕ) (pts vals : ℕ → carrier) → Different F m pts →
      (p : List carrier) × (length p ≡ m) × ((i : ℕ) → i < m → eval F p (pts i) ≡ vals i)
  exists_through m pts vals d = let (p, l, e) = on_one_polynomial m pts vals in (p, l, λ i h. e (pts i) ∙ interpolated_at m pts vals i d h)

  -- A polynomial with at most m coefficients that has these values at m different points has Lagrange's value everywhere.
  pub interpolates : (m : ℕ) (pts vals : ℕ → carrier) (p : List carrier) → Different F m pts → length p ≤ m →
      ((i : ℕ) → i < m → eval F p (pts i) ≡ vals i) → (x : carrier) → eval F p x ≡ interpolated F m pts vals x
  interpolates m pts vals p d l e x =
      let (q, s, v) = on_one_polynomial m pts vals in
      agree m pts p q d l (omega arith) (λ i h. e i h ∙ sym (v (pts i) ∙ interpolated_at m pts vals i d h)) x ∙ v x

  -- Lagrange's value is linear in the values.
  pub interpolated_linear : (m : ℕ) (pts vals vals' : ℕ → carrier) (c x : carrier) →
      interpolated F m pts (λ i. add (vals i) (mul c (vals' i))) x ≡ add (interpolated F m pts vals x) (mul c (interpolated F m pts vals' x))
  unfolding interpolated
  interpolated_linear m pts vals vals' c x =
      sum_cong F m _ _ (λ i h. mul_linear F L (basis F m pts i x) (vals i) c (vals' i)) ∙ sum_linear F L m c _ _

  -- Values that are all zero give zero.
  pub interpolated_zero : (m : ℕ) (pts vals : ℕ → carrier) (x : carrier) → ((i : ℕ) → i < m → vals i ≡ zero) → interpolated F m pts vals x ≡ zero
  unfolding interpolated
  interpolated_zero m pts vals x e = sum_zero F L m _ (λ i h. rw (e i h) (mul_zero F L _))

  -- Lagrange's values at m different other points give, from there, the same values everywhere.
  pub round_trip : (m : ℕ) (pts vals pts' vals' : ℕ → carrier) → Different F m pts' →
      ((i : ℕ) → i < m → vals' i ≡ interpolated F m pts vals (pts' i)) → (x : carrier) → interpolated F m pts' vals' x ≡ interpolated F m pts vals x
  round_trip m pts vals pts' vals' d e x =
      let (p, l, v) = on_one_polynomial m pts vals in
      sym (interpolates m pts' vals' p d (omega arith) (λ i h. v (pts' i) ∙ sym (e i h)) x) ∙ v x

  -- So they give back the values that were given first.
  pub recovered : (m : ℕ) (pts vals pts' vals' : ℕ → carrier) → Different F m pts → Different F m pts' →
      ((i : ℕ) → i < m → vals' i ≡ interpolated F m pts vals (pts' i)) → (i : ℕ) → i < m → interpolated F m pts' vals' (pts i) ≡ vals i
  recovered m pts vals pts' vals' d d' e i h = round_trip m pts vals pts' vals' d' e (pts i) ∙ interpolated_at m pts vals i d h

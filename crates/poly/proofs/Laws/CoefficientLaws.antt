-- Polynomials as lists of coefficients: their sum, their multiples, and the product with x − b.
-- Assumes nothing.
use mathlib.Core.Path.{◌≡◌, refl, sym, ap, ◌∙◌}
use mathlib.Core.List.{List, [], ◌∷◌}
use Prim.Native.Nat.{ℕ, suc, ◌<◌, max}
use native.Mathlib.Omega.{arith}
use lib.ListN.{length, replicate}
use Rattle.poly.specs.Field.{Field, IsField}
use Rattle.poly.specs.Polynomial.{sub, eval, sum}
use Rattle.poly.proofs.Laws.RingLaws.{mul_left_comm, mul_zero, zero_add, neg_one_mul, distrib_right}

module _ (F : Field) where
  open F use {carrier, zero, one, add, mul, neg}

  -- p + q, coefficient by coefficient; the longer one gives the rest.
  unfoldable pub plus : List carrier → List carrier → List carrier
  plus [] q = q
  plus (a ∷ p) [] = a ∷ p
  plus (a ∷ p) (b ∷ q) = add a b ∷ plus p q

  -- k · p.
  unfoldable pub scale : carrier → List carrier → List carrier
  scale k [] = []
  scale k (a ∷ p) = mul k a ∷ scale k p

  -- p − q.
  unfoldable pub minus : List carrier → List carrier → List carrier
  minus p q = plus p (scale (neg one) q)

  -- (x − b) · p.
  unfoldable pub times_root : carrier → List carrier → List carrier
  times_root b p = plus (scale (neg b) p) (zero ∷ p)

  -- f 0 + .. + f (k − 1), with at least m coefficients.
  unfoldable pub sum_of : ℕ → ℕ → (ℕ → List carrier) → List carrier
  sum_of m ℕ.zero f = replicate m zero
  sum_of m (suc k) f = plus (sum_of m k f) (f k)

  -- A sum is as long as the longer of the two.
  pub length_plus : (p q : List carrier) → length (plus p q) ≡ max (length p) (length q)
  unfolding plus
  length_plus [] q = omega arith
  length_plus (a ∷ p) [] = omega arith
  length_plus (a ∷ p) (b ∷ q) = omega (arith, length_plus p q)

  -- A multiple is as long.
  pub length_scale : (k : carrier) (p : List carrier) → length (scale k p) ≡ length p
  unfolding scale
  length_scale k [] = refl
  length_scale k (a ∷ p) = ap suc (length_scale k p)

  -- A difference is as long as the longer of the two.
  pub length_minus : (p q : List carrier) → length (minus p q) ≡ max (length p) (length q)
  unfolding minus
  length_minus p q = length_plus p (scale (neg one) q) ∙ ap (max (length p)) (length_scale (neg one) q)

  -- The product with x − b has one coefficient more.
  pub length_times_root : (b : carrier) (p : List carrier) → length (times_root b p) ≡ suc (length p)
  unfolding times_root
  length_times_root b p = omega (arith, length_plus (scale (neg b) p) (zero ∷ p), length_scale (neg b) p)

  -- A sum of polynomials with m coefficients has m coefficients.
  pub length_sum_of : (m k : ℕ) (f : ℕ → List carrier) → ((i : ℕ) → i < k → length (f i) ≡ m) → length (sum_of m k f) ≡ m
  unfolding sum_of
  length_sum_of m ℕ.zero f e = lib.ListN.length-replicate m zero
  length_sum_of m (suc k) f e =
      omega (arith, length_plus (sum_of m k f) (f k), length_sum_of m k f (λ i h. e i (omega arith)), e k (omega arith))

module _ (F : Field) (L : IsField F) where
  open F use {carrier, zero, one, add, mul, neg}
  open L use {add_assoc, add_comm, add-zero, distrib}

  -- (p + q)(x) = p(x) + q(x).
  pub eval_plus : (p q : List carrier) (x : carrier) → eval F (plus F p q) x ≡ add (eval F p x) (eval F q x)
  unfolding eval plus
  eval_plus [] q x = sym (zero_add F L (eval F q x))
  eval_plus (a ∷ p) [] x = sym (add-zero _)
  eval_plus (a ∷ p) (b ∷ q) x = ap (λ v. add (add a b) (mul x v)) (eval_plus p q x) ∙ simp (distrib, add_assoc, add_comm)

  -- (k · p)(x) = k · p(x).
  pub eval_scale : (k : carrier) (p : List carrier) (x : carrier) → eval F (scale F k p) x ≡ mul k (eval F p x)
  unfolding eval scale
  eval_scale k [] x = sym (mul_zero F L k)
  eval_scale k (a ∷ p) x = ap (λ v. add (mul k a) (mul x v)) (eval_scale k p x) ∙ simp (distrib, mul_left_comm F L)

  -- (p − q)(x) = p(x) − q(x).
  pub eval_minus : (p q : List carrier) (x : carrier) → eval F (minus F p q) x ≡ sub F (eval F p x) (eval F q x)
  unfolding minus sub
  eval_minus p q x = eval_plus p (scale F (neg one) q) x ∙ rw (eval_scale, neg_one_mul F L)

  -- The value of (x − b) · p at x.
  pub eval_times_root : (b : carrier) (p : List carrier) (x : carrier) → eval F (times_root F b p) x ≡ mul (sub F x b) (eval F p x)
  unfolding times_root sub eval
  eval_times_root b p x =
      eval_plus (scale F (neg b) p) (zero ∷ p) x ∙ rw (eval_scale (neg b) p x, zero_add F L (mul x (eval F p x)), distrib_right F L) (add_comm _ _)

  -- Zeros have the value zero.
  pub eval_zeros : (n : ℕ) (x : carrier) → eval F (replicate n zero) x ≡ zero
  unfolding eval
  eval_zeros ℕ.zero x = refl
  eval_zeros (suc n) x = rw (eval_zeros n x, mul_zero F L x) (add-zero zero)

  -- The value of a sum of polynomials is the sum of their values.
  pub eval_sum_of : (m k : ℕ) (f : ℕ → List carrier) (x : carrier) → eval F (sum_of F m k f) x ≡ sum F k (λ i. eval F (f i) x)
  unfolding sum_of sum
  eval_sum_of m ℕ.zero f x = eval_zeros m x
  eval_sum_of m (suc k) f x = eval_plus (sum_of F m k f) (f k) x ∙ ap (λ v. add v (eval F (f k) x)) (eval_sum_of m k f x)

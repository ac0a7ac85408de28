-- Division by x − a, and what the roots of a polynomial say of its coefficients.
-- Assumes nothing.
use mathlib.Core.Path.{◌≡◌, refl, sym, ap, ◌∙◌}
use mathlib.Core.List.{List, [], ◌∷◌}
use Prim.Native.Nat.{suc}
use native.Mathlib.Omega.{arith}
use lib.ListN.{length, replicate}
use Rattle.poly.specs.Field.{Field, IsField}
use Rattle.poly.specs.Polynomial.{sub, eval}
use Rattle.poly.proofs.Laws.RingLaws.{add_left_comm, mul_left_comm, mul_zero, zero_add, sub_mul, sub_eq, sub_of_eq, other_is_zero, neg_one_mul}
use Rattle.poly.proofs.Laws.CoefficientLaws.{scale, plus, minus, eval_zeros}

module _ (F : Field) where
  open F use {carrier}

  -- The values at a of p and of what is left of p after each of its coefficients.
  -- The polynomial c ∷ cs is (x − a) times `suffixes a cs`, with the remainder eval (c ∷ cs) a.
  unfoldable pub suffixes : carrier → List carrier → List carrier
  suffixes a [] = []
  suffixes a (c ∷ cs) = eval F (c ∷ cs) a ∷ suffixes a cs

  -- There are as many as p has coefficients.
  pub length_suffixes : (a : carrier) (p : List carrier) → length (suffixes a p) ≡ length p
  unfolding suffixes
  length_suffixes a [] = refl
  length_suffixes a (c ∷ cs) = ap suc (length_suffixes a cs)

module _ (F : Field) (L : IsField F) where
  open F use {carrier, zero, add, mul}
  open L use {add_assoc, add-zero, distrib}

  -- p(x) + a · q(x) = p(a) + x · q(x): the division, with no differences.
  pub division : (a c : carrier) (cs : List carrier) (x : carrier) →
      add (eval F (c ∷ cs) x) (mul a (eval F (suffixes F a cs) x)) ≡ add (eval F (c ∷ cs) a) (mul x (eval F (suffixes F a cs) x))
  unfolding eval suffixes
  division a c [] x = simp (eval, mul_zero F L)
  division a c (d ∷ ds) x = step (eval F (d ∷ ds) x) (eval F (d ∷ ds) a) (eval F (suffixes F a ds) x) (division a d ds x)
    where
      step : (e r s : carrier) → add e (mul a s) ≡ add r (mul x s) →
          add (add c (mul x e)) (mul a (add r (mul x s))) ≡ add (add c (mul a r)) (mul x (add r (mul x s)))
      step e r s h = sym (ap (λ v. add (add c (mul a r)) (mul x v)) (sym h) ∙ simp (distrib, add_assoc, add_left_comm F L, mul_left_comm F L))

  -- A root of c ∷ cs other than its root a is a root of the quotient.
  pub root_of_quotient : (a c : carrier) (cs : List carrier) (x : carrier) →
      (x ≡ a → ⊥) → eval F (c ∷ cs) a ≡ zero → eval F (c ∷ cs) x ≡ zero → eval F (suffixes F a cs) x ≡ zero
  root_of_quotient a c cs x n ra rx = other_is_zero F L (sub F x a) q (λ z. n (sub_eq F L x a z)) (sub_mul F L x a q ∙ sub_of_eq F L (mul x q) (mul a q) same)
    where
      q : carrier
      q = eval F (suffixes F a cs) x

      same : mul x q ≡ mul a q
      same = cc (division a c cs x, zero_add F L (mul x q), zero_add F L (mul a q))

  -- A polynomial with the root a whose other coefficients are zero is zero.
  pub first_zero : (a c : carrier) (cs : List carrier) → cs ≡ replicate (length cs) zero → eval F (c ∷ cs) a ≡ zero →
      c ∷ cs ≡ replicate (suc (length cs)) zero
  unfolding eval
  first_zero a c cs z r = let h : c ≡ zero = cc (add-zero c, rest) in cc
    where
      rest : mul a (eval F cs a) ≡ zero
      rest = ap (λ l. mul a (eval F l a)) z ∙ rw (eval_zeros F L) (mul_zero F L a)

  -- If p and what is left of it after each coefficient have the root a, p is zero.
  pub zero_suffixes : (a : carrier) (p : List carrier) → suffixes F a p ≡ replicate (length p) zero → p ≡ replicate (length p) zero
  unfolding suffixes
  zero_suffixes a [] e = refl
  zero_suffixes a (c ∷ cs) e = first_zero a c cs (zero_suffixes a cs (cc)) (cc)

  -- A polynomial with the root a whose quotient is zero is zero.
  pub zero_quotient : (a c : carrier) (cs : List carrier) → suffixes F a cs ≡ replicate (length (suffixes F a cs)) zero → eval F (c ∷ cs) a ≡ zero →
      c ∷ cs ≡ replicate (suc (length cs)) zero
  zero_quotient a c cs z r = first_zero a c cs (zero_suffixes a cs (rw (length_suffixes F a cs) at z)) r

  -- Polynomials with the same number of coefficients whose difference is zero are equal.
  pub zero_minus : (p q : List carrier) → length p ≡ length q → minus F p q ≡ replicate (length (minus F p q)) zero → p ≡ q
  unfolding minus plus scale sub
  zero_minus [] [] l e = refl
  zero_minus [] (b ∷ q) l e = absurd (omega arith)
  zero_minus (a ∷ p) [] l e = absurd (omega arith)
  zero_minus (a ∷ p) (b ∷ q) l e = let t : p ≡ q = zero_minus p q (omega arith) (cc) in let h : a ≡ b = sub_eq F L a b (cc (neg_one_mul F L b)) in cc

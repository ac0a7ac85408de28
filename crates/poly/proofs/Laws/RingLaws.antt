-- What follows from the laws of a field for sums, products, differences and quotients.
-- Assumes nothing.
use mathlib.Core.Path.{◌≡◌, sym, ap, ◌∙◌}
use Rattle.poly.specs.Field.{Field, IsField}
use Rattle.poly.specs.Polynomial.{sub}

module _ (F : Field) (L : IsField F) where
  open F use {carrier, zero, one, add, mul, neg, inv}
  open L use {add_assoc, add_comm, add-zero, add-neg, mul_assoc, mul_comm, mul-one, distrib, mul-inv}

  -- With the laws of Field, this and the next let `simp` sort sums and products: a + (b + c) = b + (a + c).
  pub add_left_comm : (a b c : carrier) → add a (add b c) ≡ add b (add a c)
  add_left_comm a b c = sym (add_assoc a b c) ∙ rw (add_comm a b) (add_assoc b a c)

  -- a · (b · c) = b · (a · c).
  pub mul_left_comm : (a b c : carrier) → mul a (mul b c) ≡ mul b (mul a c)
  mul_left_comm a b c = sym (mul_assoc a b c) ∙ rw (mul_comm a b) (mul_assoc b a c)

  -- 0 + a = a.
  pub zero_add : (a : carrier) → add zero a ≡ a
  zero_add a = add_comm zero a ∙ add-zero a

  -- 1 · a = a.
  pub one_mul : (a : carrier) → mul one a ≡ a
  one_mul a = mul_comm one a ∙ mul-one a

  -- (a + b) · c = a·c + b·c.
  pub distrib_right : (a b c : carrier) → mul (add a b) c ≡ add (mul a c) (mul b c)
  distrib_right a b c = simp (mul_comm, distrib)

  -- a · (b + c·d) = a·b + c·(a·d).
  pub mul_linear : (a b c d : carrier) → mul a (add b (mul c d)) ≡ add (mul a b) (mul c (mul a d))
  mul_linear a b c d = distrib a b (mul c d) ∙ ap (add (mul a b)) (mul_left_comm a c d)

  -- −a + a = 0.
  pub neg_add : (a : carrier) → add (neg a) a ≡ zero
  neg_add a = add_comm (neg a) a ∙ add-neg a

  -- −a + (a + b) = b.
  pub neg_add_add : (a b : carrier) → add (neg a) (add a b) ≡ b
  neg_add_add a b = sym (add_assoc (neg a) a b) ∙ rw (neg_add a) (zero_add b)

  -- What is added to both sides can go.
  pub add_cancel : (a b c : carrier) → add a b ≡ add a c → b ≡ c
  add_cancel a b c e = sym (neg_add_add a b) ∙ rw e (neg_add_add a c)

  -- a · 0 = 0.
  pub mul_zero : (a : carrier) → mul a zero ≡ zero
  mul_zero a = add_cancel (mul a zero) (mul a zero) zero (sym (distrib a zero zero) ∙ simp add-zero)

  -- 0 · a = 0.
  pub zero_mul : (a : carrier) → mul zero a ≡ zero
  zero_mul a = mul_comm zero a ∙ mul_zero a

  -- Only −a makes zero with a.
  pub neg_unique : (a b : carrier) → add a b ≡ zero → b ≡ neg a
  neg_unique a b e = add_cancel a b (neg a) (e ∙ sym (add-neg a))

  -- −(−a) = a.
  pub neg_neg : (a : carrier) → neg (neg a) ≡ a
  neg_neg a = sym (neg_unique (neg a) a (neg_add a))

  -- a · −b = −(a · b).
  pub mul_neg : (a b : carrier) → mul a (neg b) ≡ neg (mul a b)
  mul_neg a b = neg_unique (mul a b) (mul a (neg b)) (sym (distrib a b (neg b)) ∙ rw (add-neg b) (mul_zero a))

  -- −a · b = −(a · b).
  pub neg_mul : (a b : carrier) → mul (neg a) b ≡ neg (mul a b)
  neg_mul a b = simp (mul_comm, mul_neg)

  -- −1 · a = −a.
  pub neg_one_mul : (a : carrier) → mul (neg one) a ≡ neg a
  neg_one_mul a = simp (neg_mul, one_mul)

  -- a − a = 0.
  pub sub_self : (a : carrier) → sub F a a ≡ zero
  unfolding sub
  sub_self a = add-neg a

  -- Numbers whose difference is zero are equal.
  pub sub_eq : (a b : carrier) → sub F a b ≡ zero → a ≡ b
  unfolding sub
  sub_eq a b e = sym (neg_neg a) ∙ ap neg (sym (neg_unique a (neg b) e)) ∙ neg_neg b

  -- The difference of equal numbers is zero.
  pub sub_of_eq : (a b : carrier) → a ≡ b → sub F a b ≡ zero
  sub_of_eq a b e = rw e (sub_self b)

  -- (a − b) · c = a·c − b·c.
  pub sub_mul : (a b c : carrier) → mul (sub F a b) c ≡ sub F (mul a c) (mul b c)
  unfolding sub
  sub_mul a b c = distrib_right a (neg b) c ∙ rw neg_mul

  -- 1/a · (a · b) = b, if a is not zero.
  pub inv_mul_mul : (a b : carrier) → (a ≡ zero → ⊥) → mul (inv a) (mul a b) ≡ b
  inv_mul_mul a b n = sym (mul_assoc (inv a) a b) ∙ rw (mul_comm (inv a) a, mul-inv a n) (one_mul b)

  -- A factor that is not zero can go from both sides.
  pub mul_cancel : (a b c : carrier) → (a ≡ zero → ⊥) → mul a b ≡ mul a c → b ≡ c
  mul_cancel a b c n e = sym (inv_mul_mul a b n) ∙ rw e (inv_mul_mul a c n)

  -- If a product is zero and one factor is not, the other is.
  pub other_is_zero : (a b : carrier) → (a ≡ zero → ⊥) → mul a b ≡ zero → b ≡ zero
  other_is_zero a b n e = mul_cancel a b zero n (e ∙ sym (mul_zero a))

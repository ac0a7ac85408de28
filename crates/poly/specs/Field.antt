-- A field: numbers that add, subtract, multiply and divide by the usual laws.
-- Assumes nothing.
use Rattle.std.specs.Prelude.{◌≡◌}

-- The numbers and what is done with them. Polynomials are defined over these alone.
pub record Field : Type 1 where
  -- The numbers.
  pub carrier : Type 0
  pub zero : carrier
  pub one : carrier
  -- a + b, a · b, −a and 1/a.
  pub add : carrier → carrier → carrier
  pub mul : carrier → carrier → carrier
  pub neg : carrier → carrier
  pub inv : carrier → carrier

-- The laws. The inverse of zero may be anything. That zero and one differ is not asked: no law here needs it.
pub record IsField (F : Field) : Type 0 where
  -- The laws of the sum.
  pub add_assoc : (a b c : F.carrier) → F.add (F.add a b) c ≡ F.add a (F.add b c)
  pub add_comm : (a b : F.carrier) → F.add a b ≡ F.add b a
  pub add-zero : (a : F.carrier) → F.add a F.zero ≡ a
  pub add-neg : (a : F.carrier) → F.add a (F.neg a) ≡ F.zero
  -- The laws of the product.
  pub mul_assoc : (a b c : F.carrier) → F.mul (F.mul a b) c ≡ F.mul a (F.mul b c)
  pub mul_comm : (a b : F.carrier) → F.mul a b ≡ F.mul b a
  pub mul-one : (a : F.carrier) → F.mul a F.one ≡ a
  pub mul-inv : (a : F.carrier) → (a ≡ F.zero → ⊥) → F.mul a (F.inv a) ≡ F.one
  -- The law of both.
  pub distrib : (a b c : F.carrier) → F.mul a (F.add b c) ≡ F.add (F.mul a b) (F.mul a c)

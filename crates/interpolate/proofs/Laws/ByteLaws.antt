-- Bytes are a field.
use mathlib.Core.Path.{◌≡◌, sym, ap, ap₂, ◌∙◌}
use mathlib.Core.HLevel.{Σ_prop_path}
use Prim.Native.Nat.{ℕ, ◌<◌}
use native.Mathlib.Nat.{mod-eq_of_lt}
use native.Mathlib.Omega.{arith}
use lib.Dec.{T_prop, ltb, ltb→lt}
use Rattle.gf256.specs.Product.{plus, product, inverse}
use Rattle.gf256.proofs.Laws.XorLaws.{plus_assoc, plus_comm, plus_zero, plus_self, plus_byte}
use Rattle.gf256.proofs.Laws.ProductLaws.{product_byte, product_one, product_plus_right}
use Rattle.gf256.proofs.Laws.FieldLaws.{product_assoc, product_comm, inverse_byte, product_inverse}
use Rattle.interpolate.specs.Bytes.{Byte, byte, byte_field}
use Rattle.interpolate.specs.Polynomials.{BytesAreAField}

-- bytes of one number are the same
pub same_byte : {a b : Byte} → a.0 ≡ b.0 → a ≡ b
same_byte e = Σ_prop_path (λ n. T_prop (ltb n 256)) e

pub byte_below : (a : Byte) → a.0 < 256
byte_below a = ltb→lt a.0 256 a.1

pub byte_small : (n : ℕ) → n < 256 → (byte n).0 ≡ n
byte_small n h = mod-eq_of_lt h

-- a byte is the byte of its number
byte_of : (a : Byte) → byte a.0 ≡ a
byte_of a = same_byte (byte_small a.0 (byte_below a))

byte_positive : (a : Byte) → (a ≡ byte 0 → ⊥) → 0 < a.0
byte_positive a h = let n : (a.0 ≡ 0 → ⊥) = (λ e. h (same_byte e)) in omega arith

-- sum, product and inverse by their numbers: nothing is cut off
pub add_is : (a b : Byte) → (byte_field.add a b).0 ≡ plus a.0 b.0
add_is a b = byte_small _ (plus_byte a.0 b.0 (byte_below a) (byte_below b))

pub mul_is : (a b : Byte) → (byte_field.mul a b).0 ≡ product a.0 b.0
mul_is a b = byte_small _ (product_byte a.0 b.0 (byte_below a))

pub inv_is : (a : Byte) → (byte_field.inv a).0 ≡ inverse a.0
inv_is a = byte_small _ (inverse_byte a.0)

pub bytes_are_a_field : BytesAreAField
bytes_are_a_field = record {
  add_assoc = λ a b c.
      ap byte (ap (λ (x : ℕ). plus x c.0) (add_is a b) ∙ plus_assoc a.0 b.0 c.0 ∙ ap (plus a.0) (sym (add_is b c)));
  add_comm = λ a b. ap byte (plus_comm a.0 b.0);
  add-zero = λ a. ap byte (plus_zero a.0) ∙ byte_of a;
  add-neg = λ a. ap byte (plus_self a.0);
  mul_assoc = λ a b c.
      ap byte
      (ap (λ (x : ℕ). product x c.0) (mul_is a b)
      ∙ product_assoc a.0 b.0 c.0 (byte_below a) (byte_below b) (byte_below c)
      ∙ ap (product a.0) (sym (mul_is b c)));
  mul_comm = λ a b. ap byte (product_comm a.0 b.0 (byte_below a) (byte_below b));
  mul-one = λ a. ap byte (product_one a.0) ∙ byte_of a;
  mul-inv = λ a h. ap byte (ap (product a.0) (inv_is a) ∙ product_inverse a.0 (byte_positive a h) (byte_below a));
  distrib = λ a b c.
      ap byte
      (ap (product a.0) (add_is b c) ∙ product_plus_right a.0 b.0 c.0 ∙ ap₂ plus (sym (mul_is a b)) (sym (mul_is a c)));
}

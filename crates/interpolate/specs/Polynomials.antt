-- Document 01: "Bytes are elements of the 256-element field", and "For each byte position, the m data bytes are the values, at points
-- 0 to m−1, of exactly one polynomial of degree below m": what `value_at` is, without a formula. Proved in `proofs/Laws/PolynomialLaws`.
use Rattle.std.specs.Prelude.{◌≡◌, List, ℕ, ◌<◌, length, get_or}
use Rattle.interpolate.specs.Bytes.{Byte, byte, byte_field}
use Rattle.interpolate.specs.Values.{byte_at, value_at, PointSet}
use Rattle.poly.specs.Field.{IsField}
use Rattle.poly.specs.Polynomial.{eval}

-- Bytes, with the sum and product of `gf256`, are a field.
abbrev pub BytesAreAField : Type 0
BytesAreAField = IsField byte_field

-- The polynomial with coefficients c, as many as there are points, has at each given point that point's byte of position p.
pub record Through (points : List ℕ) (size : ℕ) (blocks : List ℕ) (p : ℕ) (c : List Byte) : Type 0 where
  pub degree : length c ≡ length points
  pub at : (i : ℕ) → i < length points → eval byte_field c (byte (get_or points i 0)) ≡ byte (byte_at size blocks i p)

-- The bytes at different points lie on exactly one polynomial with as many coefficients, and `value_at` is its value at any x.
abbrev pub ExactlyOnePolynomial : Type 0
ExactlyOnePolynomial =
    (points : List ℕ) (size : ℕ) (blocks : List ℕ) (p : ℕ) → ((k : ℕ) → get_or points k 0 < 256) → PointSet points
    → (c : List Byte) × Through points size blocks p c
    × ((d : List Byte) → Through points size blocks p d → d ≡ c)
    × ((x : ℕ) → value_at points size blocks x p ≡ (eval byte_field c (byte x)).0)

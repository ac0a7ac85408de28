-- Bytes as a field (document 01: "Bytes are elements of the 256-element field"): numbers below 256 with the sum and product of `gf256`.
use Rattle.std.specs.Prelude.{ℕ, ◌%◌, T, ltb}
use Rattle.std.proofs.Common.{arith, mod-lt, lt→ltb}
use Rattle.gf256.specs.Product.{plus, product, inverse}
use Rattle.poly.specs.Field.{Field}

-- a number below 256
abbrev pub Byte : Type 0
Byte = (n : ℕ) × T (ltb n 256)

-- the byte of a number
abbrev pub byte : ℕ → Byte
byte n = (n % 256, lt→ltb (n % 256) 256 (mod-lt n (omega arith)))

-- The field of document 01: each byte is its own negative.
abbrev pub byte_field : Field
byte_field = record {
  carrier = Byte;
  zero = byte 0;
  one = byte 1;
  add = λ (a b : Byte). byte (plus a.0 b.0);
  mul = λ (a b : Byte). byte (product a.0 b.0);
  neg = λ (a : Byte). a;
  inv = λ (a : Byte). byte (inverse a.0);
}

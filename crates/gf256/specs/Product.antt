-- Document 01: "Bytes are elements of the 256-element field with polynomial hexadecimal 11D: addition is exclusive or,
-- multiplication is shift and add, reduced."
use Rattle.std.specs.Prelude.{cond, ℕ, zero, suc, ◌*◌, ◌/◌, ◌%◌, eqb}
use Rattle.std.specs.Int.Bits.{bit_xor}

-- addition of two bytes
unfoldable pub plus : ℕ → ℕ → ℕ
plus a b = bit_xor a b

-- the field's polynomial, hexadecimal 11D: its bits are the coefficients
abbrev pub polynomial : ℕ
polynomial = 0x11D

-- shift by one place; where the top bit goes out, reduce
unfoldable pub twice : ℕ → ℕ
twice a = plus (a * 2) (a / 128 * polynomial)

-- shift and add over k bits of b, lowest first
unfoldable pub shift_add : ℕ → ℕ → ℕ → ℕ
shift_add zero a b = 0
shift_add (suc k) a b = plus (b % 2 * a) (shift_add k (twice a) (b / 2))

-- multiplication of two bytes
unfoldable pub product : ℕ → ℕ → ℕ
product a b = shift_add 8 a b

-- 2 to the k: k times doubled
unfoldable pub doubled : ℕ → ℕ → ℕ
doubled zero a = a
doubled (suc k) a = twice (doubled k a)

unfoldable pub power : ℕ → ℕ
power k = doubled k 1

-- the bytes, and the powers of 2 among them: all but 0
abbrev pub byte_count : ℕ
byte_count = 256

abbrev pub power_count : ℕ
power_count = 255

-- the byte below k whose product with a is 1, 0 where there is none
unfoldable pub inverse_below : ℕ → ℕ → ℕ
inverse_below zero a = 0
inverse_below (suc k) a = cond (eqb (product a k) 1) k (inverse_below k a)

-- the inverse of a: the byte whose product with a is 1; 0 for 0
unfoldable pub inverse : ℕ → ℕ
inverse a = inverse_below byte_count a

-- division: by 0 it gives 0
unfoldable pub quotient : ℕ → ℕ → ℕ
quotient a b = product a (inverse b)

-- Document 01, "The saved brick": "numbers little-endian".
use Rattle.std.specs.Prelude.{Bool, true, ◌&&◌, List, [], ◌∷◌, ℕ, zero, suc, ◌+◌, ◌*◌, ◌/◌, ◌%◌, ◌<◌, ltb}

-- the lowest byte of a number
unfoldable pub byte_of : ℕ → ℕ
byte_of n = n % 256

-- the k bytes of a number, lowest first
unfoldable pub little : ℕ → ℕ → List ℕ
little zero n = []
little (suc k) n = byte_of n ∷ little k (n / 256)

-- the number that bytes stand for, lowest first
unfoldable pub number : List ℕ → ℕ
number [] = 0
number (b ∷ bs) = b + 256 * number bs

-- every element of a list is a byte
unfoldable pub Bytes : List ℕ → Type 0
Bytes [] = Unit {0}
Bytes (b ∷ bs) = (b < 256) × Bytes bs

-- the same, as a test
unfoldable pub are_bytes : List ℕ → Bool
are_bytes [] = true
are_bytes (b ∷ bs) = ltb b 256 && are_bytes bs

-- the powers of 256, as the numbers' bounds
unfoldable pub limit : ℕ → ℕ
limit zero = 1
limit (suc k) = 256 * limit k

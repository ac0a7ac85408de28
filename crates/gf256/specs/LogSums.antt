-- Document 02, E4: "In the product of two field elements the logarithms' sum is at most 508. However it is held now, hold it in 16 bits ..
-- Products are as before, for every pair."
use Rattle.std.specs.Prelude.{cond, List, ℕ, ◌+◌, ◌-◌, ◌%◌, ◌^◌, ltb, eqb, get_or}
use Rattle.gf256.specs.Product.{power_count}

-- the sum of two bytes' logarithms
unfoldable pub log_sum : List ℕ → ℕ → ℕ → ℕ
log_sum logs a b = get_or logs a 0 + get_or logs b 0

-- at most 508: twice 254
abbrev pub max_log_sum : ℕ
max_log_sum = 508

-- such a sum as an index of the powers: from 255 on it is folded, 255 less
unfoldable pub folded : ℕ → ℕ
folded sum = cond (ltb sum power_count) sum (sum - power_count)

-- what a register of so many bits holds of a number
unfoldable pub held : ℕ → ℕ → ℕ
held bits sum = sum % 2 ^ bits

-- the product of two bytes by the two tables, with the sum held in so many bits
unfoldable pub product_in : ℕ → List ℕ → List ℕ → ℕ → ℕ → ℕ
product_in bits powers logs a b = cond (eqb a 0) 0 (cond (eqb b 0) 0 (get_or powers (folded (held bits (log_sum logs a b))) 0))

-- "hold it in 16 bits": the product in so many is what `mul_by` says that it gives
abbrev pub sum_bits : ℕ
sum_bits = 16

-- as it was held before: in a machine word
abbrev pub word_bits : ℕ
word_bits = 64

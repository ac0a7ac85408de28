-- Document 01: "multiplication is shift and add, reduced. .. Products go by a table of 255 powers of 2 and a table of logarithms, whose
-- rules are proved over the whole tables." Proved in `proofs/Laws/TableTheoremLaws`.
use Rattle.std.specs.Prelude.{◌≡◌, true, List, ℕ, ◌+◌, ◌%◌, ◌≤◌, ◌<◌, get_or}
use Rattle.gf256.specs.Product.{product, byte_count, power_count}
use Rattle.gf256.specs.Tables.{IsPowers, IsLogs, powers_right, logs_right}
use Rattle.gf256.specs.LogSums.{log_sum, max_log_sum, product_in, sum_bits, word_bits}

-- One computed test over a whole table says what each entry is,
abbrev pub PowersByTest : Type 0
PowersByTest = (table : List ℕ) → powers_right table ≡ true → IsPowers table

abbrev pub LogsByTest : Type 0
LogsByTest = (table : List ℕ) → logs_right table ≡ true → IsLogs table

-- and this leaves no choice: there is one table of powers, and one of logarithms.
abbrev pub OnePowersTable : Type 0
OnePowersTable = (s t : List ℕ) → IsPowers s → IsPowers t → s ≡ t

abbrev pub OneLogsTable : Type 0
OneLogsTable = (s t : List ℕ) → IsLogs s → IsLogs t → s ≡ t

-- What the two tables give for two bytes is their product by shift and add (`product`). Where one is 0, so is the product.
abbrev pub ProductsByTables : Type 0
ProductsByTables =
    (powers logs : List ℕ) → IsPowers powers → IsLogs logs → (a b : ℕ) → 0 < a → a < byte_count → 0 < b → b < byte_count
    → get_or powers ((get_or logs a 0 + get_or logs b 0) % power_count) 0 ≡ product a b

-- Document 02, E4: "the logarithms' sum is at most 508".
abbrev pub SumsAtMost508 : Type 0
SumsAtMost508 = (logs : List ℕ) → IsLogs logs → (a b : ℕ) → a < byte_count → b < byte_count → log_sum logs a b ≤ max_log_sum

-- "Products are as before, for every pair": held in 16 bits the sum gives what it gave held in a word, and that is the product.
abbrev pub ProductsAsBefore : Type 0
ProductsAsBefore =
    (powers logs : List ℕ) → IsPowers powers → IsLogs logs → (a b : ℕ) → a < byte_count → b < byte_count
    → (product_in sum_bits powers logs a b ≡ product_in word_bits powers logs a b) × (product_in sum_bits powers logs a b ≡ product a b)

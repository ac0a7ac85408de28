-- Document 01: "Products go by a table of 255 powers of 2 and a table of logarithms".
use Rattle.std.specs.Prelude.{◌≡◌, Bool, true, cond, ◌&&◌, List, [], ◌∷◌, ℕ, ◌<◌, zero, suc, ltb, eqb, get_or, length}
use Rattle.byte_lists.specs.Each.{each}
use Rattle.gf256.specs.Product.{twice, power, byte_count, power_count}

-- entry k is 2 to the k
pub record IsPowers (table : List ℕ) : Type 0 where
  pub size : length table ≡ power_count
  pub entry : (k : ℕ) → k < power_count → get_or table k 0 ≡ power k

-- entry a is the number below 255 whose power a is; 0 has no logarithm: its entry is 0 and is not read
pub record IsLogs (table : List ℕ) : Type 0 where
  pub size : length table ≡ byte_count
  pub none : get_or table 0 0 ≡ 0
  pub below : (a : ℕ) → 0 < a → a < byte_count → get_or table a 0 < power_count
  pub entry : (a : ℕ) → 0 < a → a < byte_count → power (get_or table a 0) ≡ a

-- a, and its doublings, n in all
unfoldable pub doublings : ℕ → ℕ → List ℕ
doublings zero a = []
doublings (suc n) a = a ∷ doublings n (twice a)

-- The rule of the table of powers, as a test over the whole table: 255 entries, 1 first, each next one the doubling of the one before.
unfoldable pub chained : ℕ → List ℕ → Bool
chained a [] = true
chained a (x ∷ xs) = eqb x a && chained (twice a) xs

unfoldable pub powers_right : List ℕ → Bool
powers_right table = eqb (length table) power_count && chained 1 table

-- The rule of the table of logarithms, as a test over the whole table: 256 entries, 0 first, each other the index of its place among the powers.
unfoldable pub index_right : List ℕ → ℕ → ℕ → Bool
index_right powers a x = cond (eqb a 0) (eqb x 0) (ltb x power_count && eqb (get_or powers x 0) a)

unfoldable pub logs_right : List ℕ → Bool
logs_right table =
    eqb (length table) byte_count && each (λ (a : ℕ). index_right (doublings power_count 1) a (get_or table a 0)) byte_count

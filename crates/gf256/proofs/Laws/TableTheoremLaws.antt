-- The theorems of `specs/TableTheorems` (the tests: `TableLaws`).
use mathlib.Core.Path.{◌≡◌, refl, sym, ap, ◌∙◌}
use mathlib.Core.List.{List}
use Prim.Native.Nat.{ℕ, zero, suc, ◌+◌, ◌%◌, ◌^◌, ◌<◌}
use native.Mathlib.Nat.{mod-lt}
use native.Mathlib.Decide.{ℕ_discrete}
use native.Mathlib.Omega.{arith}
use lib.ListN.{get_or}
use lib.Seq.{ext_get_or}
use Rattle.gf256.specs.Product.{product, power, byte_count, power_count}
use Rattle.gf256.specs.Tables.{IsPowers, IsLogs}
use Rattle.gf256.specs.LogSums.{log_sum, max_log_sum, product_in, sum_bits, word_bits}
use Rattle.gf256.specs.TableTheorems.{OnePowersTable, OneLogsTable, ProductsByTables, SumsAtMost508, ProductsAsBefore}
use Rattle.gf256.proofs.Laws.LookupLaws.{left_zero, right_zero, by_logs, sum_at_most, product_at, held_left, held_right, held_both}
use Rattle.gf256.proofs.Laws.TableLaws.{all_powers, place_of, power_mod, power_place}

pub one_powers_table : OnePowersTable
one_powers_table s t hs ht =
    ext_get_or 0 s t (hs.size ∙ sym ht.size) (λ i h. hs.entry i (let e = hs.size in omega arith) ∙ sym (ht.entry i (let e = hs.size in omega arith)))

-- powers below 255 that are the same are the same power
power_injective : (j k : ℕ) → j < power_count → k < power_count → power j ≡ power k → j ≡ k
power_injective j k hj hk e = sym (power_place j hj) ∙ ap (λ (x : ℕ). place_of x all_powers) e ∙ power_place k hk

pub one_logs_table : OneLogsTable
one_logs_table s t hs ht = ext_get_or 0 s t (hs.size ∙ sym ht.size) (λ i h. at i (ℕ_discrete i 0) (let e = hs.size in omega arith))
  where
    at : (i : ℕ) → Dec (i ≡ 0) → i < 256 → get_or s i 0 ≡ get_or t i 0
    at i (yes z) h = ap (λ (k : ℕ). get_or s k 0) z ∙ hs.none ∙ sym ht.none ∙ ap (λ (k : ℕ). get_or t k 0) (sym z)
    at i (no z) h =
        power_injective (get_or s i 0) (get_or t i 0) (hs.below i (omega arith) h) (ht.below i (omega arith) h)
        (hs.entry i (omega arith) h ∙ sym (ht.entry i (omega arith) h))

pub products_by_tables : ProductsByTables
unfolding log_sum
products_by_tables powers logs hp hl a b pa la pb lb =
    hp.entry ((get_or logs a 0 + get_or logs b 0) % power_count) (mod-lt _ (omega arith))
    ∙ power_mod (get_or logs a 0 + get_or logs b 0)
    ∙ sym (by_logs logs hl a (λ z. omega arith) la b (λ z. omega arith) lb)

pub sums_at_most_508 : SumsAtMost508
sums_at_most_508 = sum_at_most

-- a register that holds 508 holds every sum
product_in_lem : (bits : ℕ) → max_log_sum < 2 ^ bits → (powers logs : List ℕ) → IsPowers powers → IsLogs logs → (a b : ℕ) → a < byte_count → b < byte_count
    → product_in bits powers logs a b ≡ product a b
product_in_lem bits h powers logs hp hl zero b la lb = sym (held_left bits powers logs zero b refl) ∙ left_zero zero b refl
product_in_lem bits h powers logs hp hl (suc a) zero la lb =
    sym (held_right bits powers logs (suc a) zero (λ z. omega arith) refl) ∙ right_zero (suc a) zero refl
product_in_lem bits h powers logs hp hl (suc a) (suc b) la lb =
    let low = sum_at_most logs hl (suc a) (suc b) la lb in
    sym (held_both bits powers logs (suc a) (suc b) _ _ (λ z. omega arith) (λ z. omega arith) refl (omega (arith, low, h)) refl)
    ∙ product_at powers logs hp hl (suc a) (λ z. omega arith) la (suc b) _ _ (λ z. omega arith) lb refl refl

pub products_as_before : ProductsAsBefore
products_as_before powers logs hp hl a b la lb =
    let narrow = product_in_lem sum_bits (omega arith) powers logs hp hl a b la lb in
    (narrow ∙ sym (product_in_lem word_bits (omega arith) powers logs hp hl a b la lb), narrow)

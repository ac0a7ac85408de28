-- Powers of 2, and tables that pass their tests.
use mathlib.Core.Path.{◌≡◌, refl, sym, ap, ◌∙◌}
use mathlib.Core.Bool.{Bool, true, cond, ◌&&◌}
use mathlib.Core.List.{List, [], ◌∷◌}
use Prim.Native.Nat.{ℕ, zero, suc, ◌+◌, ◌*◌, ◌/◌, ◌%◌, ◌<◌}
use native.Mathlib.Nat.{le_of_suc-le-suc, not-suc-le-zero, add_comm}
use native.Mathlib.Omega.{arith}
use lib.Dec.{ltb, eqb}
use borrow.Author.Tests.{eqb-true, ltb-true, ne_eqb}
use lib.ListN.{length, get_or}
use Rattle.byte_lists.specs.Each.{each}
use Rattle.byte_lists.proofs.Laws.BoolLaws.{and_left, and_right}
use Rattle.byte_lists.proofs.Laws.EachLaws.{each_at}
use Rattle.gf256.specs.Product.{plus, twice, product, doubled, power, byte_count, power_count}
use Rattle.gf256.proofs.Laws.ProductLaws.{doubled_byte, product_doubled, doubled_add}
use Rattle.gf256.specs.TableTheorems.{PowersByTest, LogsByTest}
use Rattle.gf256.specs.Tables.{doublings, chained, powers_right, index_right, logs_right}

pub power_byte : (k : ℕ) → power k < 256
unfolding power
power_byte k = doubled_byte k 1 (omega arith)

-- the product of two powers is the power of the sum
pub power_add : (j k : ℕ) → product (power j) (power k) ≡ power (j + k)
unfolding power
power_add j k =
    product_doubled k (doubled j 1) (doubled_byte j 1 (omega arith)) ∙ sym (doubled_add k j 1) ∙ ap (λ (n : ℕ). doubled n 1) (add_comm k j)

-- 2 to the 255 is 1
pub power_cycle : (k : ℕ) → power (k + power_count) ≡ power k
unfolding power doubled twice plus
power_cycle k = doubled_add k power_count 1

-- a remainder by 255 is as good
pub power_mod : (s : ℕ) → power (s % power_count) ≡ power s
power_mod s = sym (turns (s / power_count) (s % power_count)) ∙ ap power (let e : s % power_count + s / power_count * power_count ≡ s = omega arith in e)
  where
    turns : (k r : ℕ) → power (r + k * power_count) ≡ power r
    turns zero r = ap power (let e : r + 0 * power_count ≡ r = omega arith in e)
    turns (suc k) r = ap power (let e : r + suc k * power_count ≡ (r + k * power_count) + power_count = omega arith in e) ∙ power_cycle (r + k * power_count) ∙ turns k r

doubled_inner : (k a : ℕ) → doubled k (twice a) ≡ twice (doubled k a)
unfolding doubled
doubled_inner zero a = refl
doubled_inner (suc k) a = ap twice (doubled_inner k a)

doublings_at : (n a k : ℕ) → k < n → get_or (doublings n a) k 0 ≡ doubled k a
unfolding doublings doubled
doublings_at zero a k h = absurd (not-suc-le-zero h)
doublings_at (suc n) a zero h = refl
doublings_at (suc n) a (suc k) h = doublings_at n (twice a) k (le_of_suc-le-suc h) ∙ doubled_inner k a

chained_at : (a : ℕ) (xs : List ℕ) → chained a xs ≡ true → (k : ℕ) → k < length xs → get_or xs k 0 ≡ doubled k a
unfolding chained doubled
chained_at a [] t k h = absurd (not-suc-le-zero h)
chained_at a (x ∷ xs) t zero h = eqb-true x a (and_left (eqb x a) (chained (twice a) xs) t)
chained_at a (x ∷ xs) t (suc k) h =
    chained_at (twice a) xs (and_right (eqb x a) (chained (twice a) xs) t) k (le_of_suc-le-suc h) ∙ doubled_inner k a

-- a table that passes its test is right at each entry
pub powers_by_test : PowersByTest
unfolding powers_right power
powers_by_test table t =
    let size = eqb-true (length table) power_count (and_left (eqb (length table) power_count) (chained 1 table) t) in
    record {
      size = size;
      entry = λ k h. chained_at 1 table (and_right (eqb (length table) power_count) (chained 1 table) t) k (omega arith);
    }

-- the powers as a list: entry x is 2 to the x
unfoldable pub all_powers : List ℕ
all_powers = doublings power_count 1

pub powers_at : (x : ℕ) → x < power_count → get_or all_powers x 0 ≡ power x
unfolding all_powers power
powers_at x l = doublings_at power_count 1 x l

index_right_lem : (a x : ℕ) → index_right all_powers a x ≡ true → (a ≡ 0 → ⊥) → (x < power_count) × (power x ≡ a)
unfolding index_right
index_right_lem a x t h =
    let u : ltb x power_count && eqb (get_or all_powers x 0) a ≡ true = rw (ne_eqb a 0 h) at t in
    let l = ltb-true x power_count (and_left (ltb x power_count) (eqb (get_or all_powers x 0) a) u) in
    (l, sym (powers_at x l) ∙ eqb-true (get_or all_powers x 0) a (and_right (ltb x power_count) (eqb (get_or all_powers x 0) a) u))

first : (x : ℕ) → index_right all_powers 0 x ≡ true → x ≡ 0
unfolding index_right
first x t = eqb-true x 0 t

pub logs_by_test : LogsByTest
unfolding logs_right all_powers
logs_by_test table t =
    let rule : (ℕ → Bool) = (λ a. index_right all_powers a (get_or table a 0)) in
    let passes = each_at rule byte_count in
    let all = and_right (eqb (length table) byte_count) (each rule byte_count) t in
    record {
      size = eqb-true (length table) byte_count (and_left (eqb (length table) byte_count) (each rule byte_count) t);
      none = first (get_or table 0 0) (passes 0 all (omega arith));
      below = λ a h l. (index_right_lem a (get_or table a 0) (passes a all l) (λ z. omega arith)).0;
      entry = λ a h l. (index_right_lem a (get_or table a 0) (passes a all l) (λ z. omega arith)).1;
    }

-- the place of a in a list
unfoldable pub place_of : ℕ → List ℕ → ℕ
place_of a [] = 0
place_of a (x ∷ xs) = let r = suc (place_of a xs) in cond (eqb x a) 0 r

unfoldable pub has_log : ℕ → Bool
has_log zero = true
has_log (suc a) = index_right all_powers (suc a) (place_of (suc a) all_powers)

all_have_logs : (a : ℕ) → a < byte_count → has_log a ≡ true
unfolding has_log each index_right place_of all_powers doublings twice plus
all_have_logs a h = each_at has_log byte_count a refl h

-- every byte but 0 is a power of 2
pub log_exists : (a : ℕ) → 0 < a → a < byte_count → (k : ℕ) × (k < power_count) × (power k ≡ a)
unfolding has_log
log_exists zero h l = absurd (not-suc-le-zero h)
log_exists (suc a) h l =
    let e = index_right_lem (suc a) (place_of (suc a) all_powers) (all_have_logs (suc a) l) (λ z. omega arith) in
    (place_of (suc a) all_powers, e.0, e.1)

-- the powers differ: each has its own place
unfoldable pub has_place : ℕ → Bool
has_place k = eqb (place_of (get_or all_powers k 0) all_powers) k

all_have_places : (k : ℕ) → k < power_count → has_place k ≡ true
unfolding has_place each place_of all_powers doublings twice plus
all_have_places k h = each_at has_place power_count k refl h

pub power_place : (k : ℕ) → k < power_count → place_of (power k) all_powers ≡ k
unfolding has_place
power_place k h =
    ap (λ (x : ℕ). place_of x all_powers) (sym (powers_at k h)) ∙ eqb-true (place_of (get_or all_powers k 0) all_powers) k (all_have_places k h)

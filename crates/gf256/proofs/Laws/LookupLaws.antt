-- What a product and an inverse are by the two tables: one law for each way through a look-up.
use mathlib.Core.Path.{◌≡◌, refl, sym, ap, ap₂, ◌∙◌}
use mathlib.Core.Bool.{Bool, true, false, cond}
use mathlib.Core.List.{List}
use Prim.Native.Nat.{ℕ, zero, suc, ◌+◌, ◌-◌, ◌%◌, ◌^◌, ◌≤◌, ◌<◌}
use native.Mathlib.Nat.{mod-eq_of_lt}
use native.Mathlib.Omega.{arith}
use lib.Dec.{ltb}
use borrow.Author.Tests.{ltb-true, ltb-false, lt-ltb, eq-eqb, ne_eqb}
use lib.ListN.{get_or}
use Rattle.gf256.specs.Product.{product, power, power_count, inverse}
use Rattle.gf256.specs.LogSums.{log_sum, max_log_sum, folded, held, product_in, sum_bits}
use Rattle.gf256.proofs.Laws.ProductLaws.{product_zero, zero_product}
use Rattle.gf256.proofs.Laws.TableLaws.{power_byte, power_add, power_cycle}
use Rattle.gf256.specs.Tables.{IsPowers, IsLogs}
use Rattle.gf256.proofs.Laws.FieldLaws.{power_inverse, product_inverse, inverse_byte, inverse_unique, inverse_zero}

pub left_zero : (a b : ℕ) → a ≡ 0 → 0 ≡ product a b
left_zero a b e = sym (zero_product b) ∙ ap (λ (x : ℕ). product x b) (sym e)

pub right_zero : (a b : ℕ) → b ≡ 0 → 0 ≡ product a b
right_zero a b e = sym (product_zero a) ∙ ap (λ (x : ℕ). product a x) (sym e)

pub of_zero : (a : ℕ) → a ≡ 0 → 0 ≡ inverse a
of_zero a e = sym inverse_zero ∙ ap inverse (sym e)

-- folding keeps the power,
pub folded_power : (sum : ℕ) → power (folded sum) ≡ power sum
unfolding folded
folded_power sum = go (ltb sum power_count) refl
  where
    go : (b : Bool) → ltb sum power_count ≡ b → power (cond b sum (sum - power_count)) ≡ power sum
    go true t = refl
    go false t =
        let l = ltb-false sum power_count t in
        let e : sum - power_count + power_count ≡ sum = omega arith in
        sym (power_cycle (sum - power_count)) ∙ ap power e

-- and one folding is enough for a sum of two
folded_below : (sum : ℕ) → sum ≤ max_log_sum → folded sum < power_count
unfolding folded
folded_below sum h = go (ltb sum power_count) refl
  where
    go : (b : Bool) → ltb sum power_count ≡ b → cond b sum (sum - power_count) < power_count
    go true t = ltb-true sum power_count t
    go false t = omega (arith, h)

-- a sum that is not folded
pub folded_low : (sum : ℕ) → sum < power_count → sum ≡ folded sum
unfolding folded
folded_low sum h = rw (lt-ltb sum power_count h)

-- logarithms alone
module _ (l : List ℕ) (hl : IsLogs l) where
  pub log_below : (a : ℕ) → a < 256 → get_or l a 0 < power_count
  log_below zero h = let e = hl.none in omega arith
  log_below (suc a) h = hl.below (suc a) (omega arith) h

  pub sum_at_most : (a b : ℕ) → a < 256 → b < 256 → log_sum l a b ≤ max_log_sum
  unfolding log_sum
  sum_at_most a b ha hb = omega (arith, log_below a ha, log_below b hb)

module _ (l : List ℕ) (hl : IsLogs l) (a : ℕ) (na : a ≡ 0 → ⊥) (la : a < 256) where
  log_power : a ≡ power (get_or l a 0)
  log_power = sym (hl.entry a (omega arith) la)

  pub by_logs : (b : ℕ) → (b ≡ 0 → ⊥) → b < 256 → product a b ≡ power (log_sum l a b)
  unfolding log_sum
  by_logs b nb lb = ap₂ product log_power (sym (hl.entry b (omega arith) lb)) ∙ power_add (get_or l a 0) (get_or l b 0)

  inverse_is : inverse a ≡ power (power_count - get_or l a 0)
  inverse_is =
      inverse_unique a (inverse a) (power (power_count - get_or l a 0)) la (inverse_byte a) (power_byte (power_count - get_or l a 0)) (product_inverse a (omega arith) la)
      (ap (λ (x : ℕ). product x (power (power_count - get_or l a 0))) log_power ∙ power_inverse (get_or l a 0) (let h = log_below l hl a la in omega arith))

-- the ways of a product whose sum is held in so many bits
module _ (bits : ℕ) (p l : List ℕ) (a b : ℕ) where
  pub held_left : a ≡ 0 → 0 ≡ product_in bits p l a b
  unfolding product_in
  held_left e = rw (eq-eqb a 0 e)

  pub held_right : (a ≡ 0 → ⊥) → b ≡ 0 → 0 ≡ product_in bits p l a b
  unfolding product_in
  held_right na e = rw (ne_eqb a 0 na, eq-eqb b 0 e)

  pub held_both : (sum r : ℕ) → (a ≡ 0 → ⊥) → (b ≡ 0 → ⊥) → sum ≡ log_sum l a b → sum < 2 ^ bits → r ≡ get_or p (folded sum) 0 → r ≡ product_in bits p l a b
  unfolding product_in held
  held_both sum r na nb s h e =
      let whole : log_sum l a b % 2 ^ bits ≡ sum = ap (λ (k : ℕ). k % 2 ^ bits) (sym s) ∙ mod-eq_of_lt h in
      e ∙ rw (ne_eqb a 0 na, ne_eqb b 0 nb, whole) refl

-- 16 bits hold every sum
pub held_sum : (p l : List ℕ) (a b sum r : ℕ) → (a ≡ 0 → ⊥) → (b ≡ 0 → ⊥) → sum ≡ log_sum l a b → sum ≤ max_log_sum → r ≡ get_or p (folded sum) 0
    → r ≡ product_in sum_bits p l a b
held_sum p l a b sum r na nb s h e = held_both sum_bits p l a b sum r na nb s (omega (arith, h)) e

-- both tables: the power at a folded sum
module _ (p l : List ℕ) (hp : IsPowers p) (hl : IsLogs l) (a : ℕ) (na : a ≡ 0 → ⊥) (la : a < 256) where
  power_at : (sum : ℕ) → sum ≤ max_log_sum → get_or p (folded sum) 0 ≡ power sum
  power_at sum h = hp.entry (folded sum) (folded_below sum h) ∙ folded_power sum

  pub product_at : (b sum r : ℕ) → (b ≡ 0 → ⊥) → b < 256 → sum ≡ log_sum l a b → r ≡ get_or p (folded sum) 0 → r ≡ product a b
  product_at b sum r nb lb s e =
      e ∙ ap (λ (k : ℕ). get_or p (folded k) 0) s ∙ power_at (log_sum l a b) (sum_at_most l hl a b la lb) ∙ sym (by_logs l hl a na la b nb lb)

  -- the inverse's logarithm is 255 less that of a
  pub inverse_at : (r : ℕ) → r ≡ get_or p (folded (power_count - get_or l a 0)) 0 → r ≡ inverse a
  inverse_at r e = e ∙ power_at (power_count - get_or l a 0) (omega arith) ∙ sym (inverse_is l hl a na la)

-- the ways of a product
pub ruleset looked_up = (left_zero, right_zero, product_at, held_left, held_right, held_sum)

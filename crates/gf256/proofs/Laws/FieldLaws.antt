-- All laws of a field, for bytes.
use mathlib.Core.Path.{◌≡◌, refl, sym, ap, ap₂, subst, ◌∙◌}
use mathlib.Core.Bool.{Bool, true, false, cond}
use Prim.Native.Nat.{ℕ, zero, suc, ◌+◌, ◌-◌, ◌≤◌, ◌<◌}
use native.Mathlib.Nat.{not-suc-le-zero, add_comm, add_assoc}
use native.Mathlib.Omega.{arith}
use lib.Dec.{eqb}
use borrow.Author.Tests.{eqb-true, eq-eqb}
use Rattle.gf256.specs.Product.{plus, twice, shift_add, product, doubled, power, power_count, inverse_below, inverse}
use Rattle.gf256.proofs.Laws.ProductLaws.{product_zero, zero_product, product_one}
use Rattle.gf256.proofs.Laws.TableLaws.{power_byte, power_add, power_cycle, log_exists}

pub product_comm : (a b : ℕ) → a < 256 → b < 256 → product a b ≡ product b a
product_comm zero b ha hb = zero_product b ∙ sym (product_zero b)
product_comm (suc a) zero ha hb = product_zero (suc a) ∙ sym (zero_product (suc a))
product_comm (suc a) (suc b) ha hb =
    let i = log_exists (suc a) (omega arith) ha in
    let j = log_exists (suc b) (omega arith) hb in
    ap₂ product (sym i.2) (sym j.2) ∙ power_add i.0 j.0 ∙ ap power (add_comm i.0 j.0) ∙ sym (power_add j.0 i.0)
    ∙ ap₂ product j.2 i.2

pub one_product : (a : ℕ) → a < 256 → product 1 a ≡ a
one_product a h = product_comm 1 a (omega arith) h ∙ product_one a

pub product_assoc : (a b c : ℕ) → a < 256 → b < 256 → c < 256 → product (product a b) c ≡ product a (product b c)
product_assoc zero b c ha hb hc =
    ap (λ (x : ℕ). product x c) (zero_product b) ∙ zero_product c ∙ sym (zero_product (product b c))
product_assoc (suc a) zero c ha hb hc =
    ap (λ (x : ℕ). product x c) (product_zero (suc a)) ∙ zero_product c ∙ sym (ap (λ (x : ℕ). product (suc a) x) (zero_product c) ∙ product_zero (suc a))
product_assoc (suc a) (suc b) zero ha hb hc =
    product_zero (product (suc a) (suc b)) ∙ sym (ap (λ (x : ℕ). product (suc a) x) (product_zero (suc b)) ∙ product_zero (suc a))
product_assoc (suc a) (suc b) (suc c) ha hb hc =
    let i = log_exists (suc a) (omega arith) ha in
    let j = log_exists (suc b) (omega arith) hb in
    let k = log_exists (suc c) (omega arith) hc in
    ap₂ product (ap₂ product (sym i.2) (sym j.2) ∙ power_add i.0 j.0) (sym k.2)
    ∙ power_add (i.0 + j.0) k.0 ∙ ap power (add_assoc i.0 j.0 k.0) ∙ sym (power_add i.0 (j.0 + k.0))
    ∙ ap₂ product i.2 (sym (power_add j.0 k.0) ∙ ap₂ product j.2 k.2)

-- an inverse by logarithms: 2 to the 255 − k
pub power_inverse : (k : ℕ) → k ≤ power_count → product (power k) (power (power_count - k)) ≡ 1
unfolding power doubled
power_inverse k h =
    power_add k (power_count - k) ∙ ap power (let e : k + (power_count - k) ≡ 0 + power_count = omega arith in e) ∙ power_cycle 0

-- the search finds an inverse where there is one
found : (k a x : ℕ) → x < k → product a x ≡ 1 → product a (inverse_below k a) ≡ 1
unfolding inverse_below
found zero a x h e = absurd (not-suc-le-zero h)
found (suc k) a x h e = go (eqb (product a k) 1) refl (found k a x)
  where
    go : (b : Bool) → eqb (product a k) 1 ≡ b → (x < k → product a x ≡ 1 → product a (inverse_below k a) ≡ 1)
        → product a (cond b k (inverse_below k a)) ≡ 1
    go true t ih = eqb-true (product a k) 1 t
    go false t ih = ih (apart (λ same. false-is (sym t ∙ eq-eqb (product a k) 1 (subst (λ (y : ℕ). product a y ≡ 1) same e)))) e
      where
        false-is : false ≡ true → ⊥
        false-is z = let w : ◌≡◌ {A = ℕ} 0 1 = cc in omega arith

        apart : (x ≡ k → ⊥) → x < k
        apart n = omega arith

inverse_below_byte : (k a : ℕ) → k ≤ 256 → inverse_below k a < 256
unfolding inverse_below
inverse_below_byte zero a h = omega arith
inverse_below_byte (suc k) a h = go (eqb (product a k) 1) (inverse_below_byte k a (omega arith))
  where
    go : (b : Bool) → inverse_below k a < 256 → cond b k (inverse_below k a) < 256
    go true l = omega arith
    go false l = l

pub inverse_byte : (a : ℕ) → inverse a < 256
unfolding inverse
inverse_byte a = inverse_below_byte 256 a (omega arith)

pub product_inverse : (a : ℕ) → 0 < a → a < 256 → product a (inverse a) ≡ 1
unfolding inverse
product_inverse a h l =
    let k = log_exists a h l in
    found 256 a (power (power_count - k.0)) (power_byte (power_count - k.0))
    (ap (λ (x : ℕ). product x (power (power_count - k.0))) (sym k.2) ∙ power_inverse k.0 (let z = k.1 in omega arith))

-- there is one inverse only
pub inverse_unique : (a x y : ℕ) → a < 256 → x < 256 → y < 256 → product a x ≡ 1 → product a y ≡ 1 → x ≡ y
inverse_unique a x y ha hx hy ex ey =
    sym (product_one x) ∙ ap (λ (z : ℕ). product x z) (sym ey) ∙ sym (product_assoc x a y hx ha hy)
    ∙ ap (λ (z : ℕ). product z y) (product_comm x a hx ha ∙ ex) ∙ one_product y hy

-- 0 has none
pub inverse_zero : inverse 0 ≡ 0
unfolding inverse inverse_below product shift_add twice plus
inverse_zero = refl

-- Laws of the product: it stays among bytes, keeps sums on both sides, and doubling goes in and out.
use mathlib.Core.Path.{◌≡◌, refl, sym, ap, ap₂, subst, ◌∙◌}
use mathlib.Core.Bool.{Bool}
use Prim.Native.Nat.{ℕ, zero, suc, ◌+◌, ◌*◌, ◌/◌, ◌%◌, ◌^◌, ◌<◌}
use native.Mathlib.Nat.{zero-mul, one-mul, mul-zero, zero-add, suc-add, pow-suc}
use native.Mathlib.Omega.{arith}
use lib.Bits.{xor_shifted}
use lib.Dec.{ltb, eqb}
use borrow.Author.Tests.{eqb-true, ltb-true}
use Rattle.byte_lists.specs.Each.{each}
use Rattle.byte_lists.proofs.Laws.EachLaws.{each_at}
use Rattle.gf256.specs.Product.{plus, twice, shift_add, product, doubled, byte_count}
use Rattle.gf256.proofs.Laws.XorLaws.{plus_zero, zero_plus, plus_byte, plus_swap, plus_half, plus_odd, bit_plus, bit_times, twice_plus, twice_zero, twice_small}

twice_fits : ℕ → Bool
twice_fits a = ltb (twice a) 256

pub twice_byte : (a : ℕ) → a < 256 → twice a < 256
unfolding twice_fits twice plus each
twice_byte a h = ltb-true (twice a) 256 (each_at twice_fits byte_count a refl h)

bit_byte : (x a : ℕ) → x < 2 → a < 256 → x * a < 256
bit_byte zero a h ha = rw (zero-mul a) (omega arith)
bit_byte (suc zero) a h ha = rw (one-mul a) ha
bit_byte (suc (suc x)) a h ha = absurd (omega arith)

pub shift_byte : (k a b : ℕ) → a < 256 → shift_add k a b < 256
unfolding shift_add
shift_byte zero a b h = omega arith
shift_byte (suc k) a b h =
    plus_byte (b % 2 * a) (shift_add k (twice a) (b / 2)) (bit_byte (b % 2) a (omega arith) h) (shift_byte k (twice a) (b / 2) (twice_byte a h))

pub product_byte : (a b : ℕ) → a < 256 → product a b < 256
unfolding product
product_byte a b h = shift_byte 8 a b h

-- sums on the left
shift_plus_left : (k a c b : ℕ) → a < 256 → c < 256 → shift_add k (plus a c) b ≡ plus (shift_add k a b) (shift_add k c b)
unfolding shift_add
shift_plus_left zero a c b ha hc = sym (plus_zero 0)
shift_plus_left (suc k) a c b ha hc =
    ap₂ plus (bit_times (b % 2) a c (omega arith))
    (ap (λ (x : ℕ). shift_add k x (b / 2)) (twice_plus a c ha hc) ∙ shift_plus_left k (twice a) (twice c) (b / 2) (twice_byte a ha) (twice_byte c hc))
    ∙ plus_swap (b % 2 * a) (b % 2 * c) (shift_add k (twice a) (b / 2)) (shift_add k (twice c) (b / 2))

pub product_plus_left : (a c b : ℕ) → a < 256 → c < 256 → product (plus a c) b ≡ plus (product a b) (product c b)
unfolding product
product_plus_left a c b ha hc = shift_plus_left 8 a c b ha hc

-- sums on the right
shift_plus_right : (k a b d : ℕ) → shift_add k a (plus b d) ≡ plus (shift_add k a b) (shift_add k a d)
unfolding shift_add
shift_plus_right zero a b d = sym (plus_zero 0)
shift_plus_right (suc k) a b d =
    ap₂ (λ (x y : ℕ). plus (x * a) (shift_add k (twice a) y)) (plus_odd b d) (plus_half b d)
    ∙ ap₂ plus (bit_plus (b % 2) (d % 2) a (omega arith) (omega arith)) (shift_plus_right k (twice a) (b / 2) (d / 2))
    ∙ plus_swap (b % 2 * a) (d % 2 * a) (shift_add k (twice a) (b / 2)) (shift_add k (twice a) (d / 2))

pub product_plus_right : (a b d : ℕ) → product a (plus b d) ≡ plus (product a b) (product a d)
unfolding product
product_plus_right a b d = shift_plus_right 8 a b d

-- doubling the left factor doubles the product
shift_twice : (k a b : ℕ) → a < 256 → shift_add k (twice a) b ≡ twice (shift_add k a b)
unfolding shift_add
shift_twice zero a b h = sym twice_zero
shift_twice (suc k) a b h =
    ap₂ plus (bit-twice (b % 2) (omega arith)) (shift_twice k (twice a) (b / 2) (twice_byte a h))
    ∙ sym (twice_plus (b % 2 * a) (shift_add k (twice a) (b / 2)) (bit_byte (b % 2) a (omega arith) h) (shift_byte k (twice a) (b / 2) (twice_byte a h)))
  where
    bit-twice : (x : ℕ) → x < 2 → x * twice a ≡ twice (x * a)
    bit-twice zero l = rw (zero-mul (twice a), zero-mul a, twice_zero)
    bit-twice (suc zero) l = rw (one-mul (twice a), one-mul a)
    bit-twice (suc (suc x)) l = absurd (omega arith)

-- a bit that is 0 need not be looked at
shift_short : (k a b : ℕ) → b < 2 ^ k → shift_add (suc k) a b ≡ shift_add k a b
unfolding shift_add
shift_short zero a b h =
    let z : b % 2 ≡ 0 = omega arith in
    rw (z, zero-mul a) (plus_zero 0)
shift_short (suc k) a b h =
    ap (λ (x : ℕ). plus (b % 2 * a) x) (shift_short k (twice a) (b / 2) (let p = pow-suc 2 k in omega arith))

shift_even : (k a b : ℕ) → shift_add (suc k) a (b * 2) ≡ shift_add k (twice a) b
unfolding shift_add
shift_even k a b =
    let z : b * 2 % 2 ≡ 0 = omega arith in
    let w : b * 2 / 2 ≡ b = omega arith in
    rw (z, w, zero-mul a) (zero_plus (shift_add k (twice a) b))

-- a factor below 128, doubled
low : (a b : ℕ) → a < 256 → b < 128 → product a (twice b) ≡ twice (product a b)
unfolding product
low a b ha hb =
    ap (λ (x : ℕ). shift_add 8 a x) (twice_small b hb) ∙ shift_even 7 a b ∙ shift_twice 7 a b ha ∙ ap twice (sym (shift_short 7 a b hb))

-- the factor 128, doubled: one test over all bytes
top_doubles : ℕ → Bool
top_doubles a = eqb (product a (twice 128)) (twice (product a 128))

top : (a : ℕ) → a < 256 → product a (twice 128) ≡ twice (product a 128)
unfolding top_doubles product shift_add twice plus each
top a h = eqb-true (product a (twice 128)) (twice (product a 128)) (each_at top_doubles byte_count a refl h)

-- a byte is its top bit and the rest
parted : (b : ℕ) → plus (b / 128 * 128) (b % 128) ≡ b
unfolding plus
parted b = xor_shifted (b / 128) 7 (b % 128) (omega arith) ∙ (omega arith)

-- nothing times anything
shift_zero : (k a : ℕ) → shift_add k a 0 ≡ 0
unfolding shift_add
shift_zero zero a = refl
shift_zero (suc k) a = rw (shift_zero k (twice a), zero-mul a) (plus_zero 0)

pub product_zero : (a : ℕ) → product a 0 ≡ 0
unfolding product
product_zero a = shift_zero 8 a

zero_shift : (k b : ℕ) → shift_add k 0 b ≡ 0
unfolding shift_add
zero_shift zero b = refl
zero_shift (suc k) b = rw (twice_zero, zero_shift k (b / 2), mul-zero (b % 2)) (plus_zero 0)

pub zero_product : (b : ℕ) → product 0 b ≡ 0
unfolding product
zero_product b = zero_shift 8 b

pub product_one : (a : ℕ) → product a 1 ≡ a
unfolding product shift_add
product_one a = rw (shift_zero 7 (twice a), one-mul a) (plus_zero a)

high : (a x : ℕ) → a < 256 → x < 2 → product a (twice (x * 128)) ≡ twice (product a (x * 128))
high a zero ha l = ap (λ (x : ℕ). product a x) twice_zero ∙ product_zero a ∙ sym twice_zero ∙ ap twice (sym (product_zero a))
high a (suc zero) ha l = top a ha
high a (suc (suc x)) ha l = absurd (omega arith)

-- doubling the right factor doubles the product
pub product_twice : (a b : ℕ) → a < 256 → b < 256 → product a (twice b) ≡ twice (product a b)
product_twice a b ha hb =
    subst (λ (x : ℕ). product a (twice x) ≡ twice (product a x)) (parted b)
    (ap (λ (x : ℕ). product a x) (twice_plus (b / 128 * 128) (b % 128) (omega arith) (omega arith))
    ∙ product_plus_right a (twice (b / 128 * 128)) (twice (b % 128))
    ∙ ap₂ plus (high a (b / 128) ha (omega arith)) (low a (b % 128) ha (omega arith))
    ∙ sym (twice_plus (product a (b / 128 * 128)) (product a (b % 128)) (product_byte a (b / 128 * 128) ha) (product_byte a (b % 128) ha))
    ∙ ap twice (sym (product_plus_right a (b / 128 * 128) (b % 128))))

pub doubled_byte : (k a : ℕ) → a < 256 → doubled k a < 256
unfolding doubled
doubled_byte zero a h = h
doubled_byte (suc k) a h = twice_byte (doubled k a) (doubled_byte k a h)

-- a product with 2 to the k is k doublings
pub product_doubled : (k a : ℕ) → a < 256 → product a (doubled k 1) ≡ doubled k a
unfolding doubled
product_doubled zero a h = product_one a
product_doubled (suc k) a h =
    product_twice a (doubled k 1) h (doubled_byte k 1 (omega arith)) ∙ ap twice (product_doubled k a h)

pub doubled_add : (j k a : ℕ) → doubled (j + k) a ≡ doubled j (doubled k a)
unfolding doubled
doubled_add zero k a = rw (zero-add k)
doubled_add (suc j) k a = rw (suc-add j k) (ap twice (doubled_add j k a))

-- Laws of exclusive or and of doubling.
use mathlib.Core.Path.{◌≡◌, refl, sym, ap, ap₂, ◌∙◌}
use Prim.Native.Nat.{ℕ, zero, suc, ◌+◌, ◌*◌, ◌/◌, ◌%◌, ◌^◌, ◌<◌}
use native.Mathlib.Nat.{mod-lt, zero-mul, one-mul}
use native.Mathlib.Omega.{arith}
use lib.Arith.{bin_ind}
use lib.Bits.{bit_xor, differ, xor_step, xor_comm, xor_self, xor_zero_l, xor_zero_r, xor_lt, xor_block, xor_shr, xor_mod}
use Rattle.gf256.specs.Product.{plus, polynomial, twice}

differ_assoc : (x y z : ℕ) → x < 2 → y < 2 → z < 2 → differ (differ x y) z ≡ differ x (differ y z)
differ_assoc zero y z hx hy hz = refl
differ_assoc (suc zero) zero z hx hy hz = refl
differ_assoc (suc zero) (suc zero) zero hx hy hz = refl
differ_assoc (suc zero) (suc zero) (suc zero) hx hy hz = refl
differ_assoc (suc zero) (suc zero) (suc (suc z)) hx hy hz = absurd (omega arith)
differ_assoc (suc zero) (suc (suc y)) z hx hy hz = absurd (omega arith)
differ_assoc (suc (suc x)) y z hx hy hz = absurd (omega arith)

differ_lt : (x y : ℕ) → x < 2 → y < 2 → differ x y < 2
differ_lt zero y hx hy = hy
differ_lt (suc zero) zero hx hy = hx
differ_lt (suc zero) (suc zero) hx hy = omega arith
differ_lt (suc zero) (suc (suc y)) hx hy = absurd (omega arith)
differ_lt (suc (suc x)) y hx hy = absurd (omega arith)

xor_half : (a b : ℕ) → bit_xor a b / 2 ≡ bit_xor (a / 2) (b / 2)
xor_half a b = xor_shr a b 1

xor_odd : (a b : ℕ) → bit_xor a b % 2 ≡ differ (a % 2) (b % 2)
xor_odd a b =
    let l : differ (a % 2) (b % 2) < 2 = differ_lt (a % 2) (b % 2) (mod-lt a (omega arith)) (mod-lt b (omega arith)) in
    omega (arith, xor_step a b)

xor_assoc : (a b c : ℕ) → bit_xor (bit_xor a b) c ≡ bit_xor a (bit_xor b c)
xor_assoc a =
    bin_ind (λ (n : ℕ). (b c : ℕ) → bit_xor (bit_xor n b) c ≡ bit_xor n (bit_xor b c))
    (λ b c. ap (λ (x : ℕ). bit_xor x c) (xor_zero_l b) ∙ sym (xor_zero_l (bit_xor b c)))
    (λ n ih b c.
    xor_step (bit_xor n b) c
    ∙ ap₂ (λ (x y : ℕ). bit_xor x (c / 2) * 2 + differ y (c % 2)) (xor_half n b) (xor_odd n b)
    ∙ ap₂ (λ (x y : ℕ). x * 2 + y) (ih (b / 2) (c / 2))
    (differ_assoc (n % 2) (b % 2) (c % 2) (mod-lt n (omega arith)) (mod-lt b (omega arith)) (mod-lt c (omega arith)))
    ∙ sym (ap₂ (λ (x y : ℕ). bit_xor (n / 2) x * 2 + differ (n % 2) y) (xor_half b c) (xor_odd b c))
    ∙ sym (xor_step n (bit_xor b c)))
    a

pub plus_assoc : (a b c : ℕ) → plus (plus a b) c ≡ plus a (plus b c)
unfolding plus
plus_assoc a b c = xor_assoc a b c

pub plus_comm : (a b : ℕ) → plus a b ≡ plus b a
unfolding plus
plus_comm a b = xor_comm a b

pub plus_self : (a : ℕ) → plus a a ≡ 0
unfolding plus
plus_self a = xor_self a

pub plus_zero : (a : ℕ) → plus a 0 ≡ a
unfolding plus
plus_zero a = xor_zero_r a

pub zero_plus : (a : ℕ) → plus 0 a ≡ a
zero_plus a = plus_comm 0 a ∙ plus_zero a

pub plus_byte : (a b : ℕ) → a < 256 → b < 256 → plus a b < 256
unfolding plus
plus_byte a b ha hb = xor_lt 8 a b ha hb

-- the middle two of four change places
pub plus_swap : (a b c d : ℕ) → plus (plus a b) (plus c d) ≡ plus (plus a c) (plus b d)
plus_swap a b c d =
    plus_assoc a b (plus c d)
    ∙ ap (λ (x : ℕ). plus a x) (sym (plus_assoc b c d) ∙ ap (λ (x : ℕ). plus x d) (plus_comm b c) ∙ plus_assoc c b d)
    ∙ sym (plus_assoc a c (plus b d))

pub plus_half : (a b : ℕ) → plus a b / 2 ≡ plus (a / 2) (b / 2)
unfolding plus
plus_half a b = xor_half a b

pub plus_odd : (a b : ℕ) → plus a b % 2 ≡ plus (a % 2) (b % 2)
unfolding plus
plus_odd a b = xor_mod a b 1

plus_shift : (a b : ℕ) → plus a b * 2 ≡ plus (a * 2) (b * 2)
unfolding plus
plus_shift a b =
    let p : a * 2 ^ 1 + 0 ≡ a * 2 = omega arith in
    let q : b * 2 ^ 1 + 0 ≡ b * 2 = omega arith in
    let s : bit_xor a b * 2 ≡ bit_xor a b * 2 ^ 1 + 0 = omega arith in
    s ∙ ap (λ (x : ℕ). bit_xor a b * 2 ^ 1 + x) (sym (xor_zero_l 0)) ∙ sym (xor_block 1 a b 0 0 (omega arith) (omega arith)) ∙ ap₂ bit_xor p q

plus_top : (a b : ℕ) → plus a b / 128 ≡ plus (a / 128) (b / 128)
unfolding plus
plus_top a b = xor_shr a b 7

-- two bits, each times a number, added
pub bit_plus : (x y c : ℕ) → x < 2 → y < 2 → plus x y * c ≡ plus (x * c) (y * c)
bit_plus zero y c hx hy = rw (zero_plus y, zero-mul c, zero_plus (y * c))
bit_plus (suc zero) zero c hx hy = rw (plus_zero 1, zero-mul c, plus_zero (1 * c))
bit_plus (suc zero) (suc zero) c hx hy = rw (plus_self 1, plus_self (1 * c), zero-mul c)
bit_plus (suc zero) (suc (suc y)) c hx hy = absurd (omega arith)
bit_plus (suc (suc x)) y c hx hy = absurd (omega arith)

-- a bit times a sum
pub bit_times : (x a b : ℕ) → x < 2 → x * plus a b ≡ plus (x * a) (x * b)
bit_times zero a b h = rw (zero-mul (plus a b), zero-mul a, zero-mul b, plus_zero 0)
bit_times (suc zero) a b h = rw (one-mul (plus a b), one-mul a, one-mul b)
bit_times (suc (suc x)) a b h = absurd (omega arith)

-- doubling keeps sums
pub twice_plus : (a b : ℕ) → a < 256 → b < 256 → twice (plus a b) ≡ plus (twice a) (twice b)
unfolding twice
twice_plus a b ha hb =
    ap₂ (λ (x y : ℕ). plus x (y * polynomial)) (plus_shift a b) (plus_top a b)
    ∙ ap (λ (x : ℕ). plus (plus (a * 2) (b * 2)) x) (bit_plus (a / 128) (b / 128) polynomial (omega arith) (omega arith))
    ∙ plus_swap (a * 2) (b * 2) (a / 128 * polynomial) (b / 128 * polynomial)

pub twice_zero : twice 0 ≡ 0
unfolding twice plus
twice_zero = refl

pub twice_small : (a : ℕ) → a < 128 → twice a ≡ a * 2
unfolding twice
twice_small a h = let z : a / 128 * polynomial ≡ 0 = omega arith in rw z (plus_zero (a * 2))

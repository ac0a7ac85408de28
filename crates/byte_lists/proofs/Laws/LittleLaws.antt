-- Laws of `specs/Little`.
use mathlib.Core.Path.{◌≡◌, refl, ap, ap₂, ◌∙◌}
use mathlib.Core.Bool.{true}
use mathlib.Core.List.{List, [], ◌∷◌}
use Prim.Native.Nat.{ℕ, zero, suc, ◌+◌, ◌*◌, ◌/◌, ◌%◌, ◌^◌, ◌≤◌, ◌<◌}
use native.Mathlib.Omega.{arith}
use native.Mathlib.Numerals.{add-one}
use lib.ListN.{length, take, drop, get_or, replicate}
use lib.Dec.{ltb}
use Rattle.std.specs.Int.{from_le_bytes, w64}
use borrow.Author.Tests.{ltb-true, lt-ltb}
use lib.Seq.{drop-cons}
use Rattle.byte_lists.specs.Little.{byte_of, little, number, Bytes, are_bytes, limit}
use Rattle.byte_lists.proofs.Laws.BoolLaws.{and_left, and_right}

pub little_length : (k n : ℕ) → length (little k n) ≡ k
unfolding little
little_length zero n = refl
little_length (suc k) n = ap suc (little_length k (n / 256))

-- a number below the limit is what its bytes stand for
pub number_little : (k n : ℕ) → n < limit k → number (little k n) ≡ n
unfolding little number limit byte_of
number_little zero n h = omega arith
number_little (suc k) n h =
    let ih = number_little k (n / 256) (omega arith) in
    omega arith

-- bytes are those of the number that they stand for
pub little_number : (bs : List ℕ) → Bytes bs → little (length bs) (number bs) ≡ bs
unfolding little number Bytes byte_of
little_number [] h = refl
little_number (b ∷ bs) h =
    let h0 : b < 256 = h.0 in
    let e0 : (b + 256 * number bs) % 256 ≡ b = omega arith in
    let e1 : (b + 256 * number bs) / 256 ≡ number bs = omega arith in
    ap₂ (λ (x : ℕ) (xs : List ℕ). x ∷ xs) e0 (ap (λ (x : ℕ). little (length bs) x) e1 ∙ little_number bs h.1)

-- the limits of the widths that are used
pub limit_2 : limit 2 ≡ 65536
unfolding limit
limit_2 = refl

pub limit_8 : limit 8 ≡ 2 ^ 64
unfolding limit
limit_8 = refl

-- the ways of the readers
pub number_2 : (l : List ℕ) (at low high : ℕ) → at + 2 ≤ length l → low ≡ get_or l at 0 → high ≡ get_or l (at + 1) 0
    → low + 256 * high ≡ number (take 2 (drop at l))
unfolding number
number_2 l at low high h e f =
    rw (drop-cons l at 0 (omega arith), drop-cons l (suc at) 0 (omega arith), e, f, add-one)
    (omega arith)

-- as the library reads eight bytes
pub number_8 : (at : ℕ) (l : List ℕ) → at + 8 ≤ length l → number (take 8 (drop at l)) ≡ from_le_bytes w64 (take 8 (drop at l))
unfolding number
number_8 at l h =
    rw (
      drop-cons l at 0 (omega arith),
      drop-cons l (suc at) 0 (omega arith),
      drop-cons l (suc (suc at)) 0 (omega arith),
      drop-cons l (suc (suc (suc at))) 0 (omega arith),
      drop-cons l (suc (suc (suc (suc at)))) 0 (omega arith),
      drop-cons l (suc (suc (suc (suc (suc at))))) 0 (omega arith),
      drop-cons l (suc (suc (suc (suc (suc (suc at)))))) 0 (omega arith),
      drop-cons l (suc (suc (suc (suc (suc (suc (suc at))))))) 0 (omega arith),
    )
    (omega arith)

-- the bytes of a number as a writer stores them
pub little_2 : (n b0 b1 : ℕ) → b0 ≡ byte_of n → b1 ≡ byte_of (n / 256) → b0 ∷ b1 ∷ [] ≡ little 2 n
unfolding little
little_2 n b0 b1 e0 e1 = cc

pub little_8 : (n b0 b1 b2 b3 b4 b5 b6 b7 : ℕ) → b0 ≡ byte_of n → b1 ≡ byte_of (n / 256) → b2 ≡ byte_of (n / 65536)
    → b3 ≡ byte_of (n / 16777216) → b4 ≡ byte_of (n / 4294967296) → b5 ≡ byte_of (n / 1099511627776)
    → b6 ≡ byte_of (n / 281474976710656) → b7 ≡ byte_of (n / 72057594037927936)
    → b0 ∷ b1 ∷ b2 ∷ b3 ∷ b4 ∷ b5 ∷ b6 ∷ b7 ∷ [] ≡ little 8 n
unfolding little
little_8 n b0 b1 b2 b3 b4 b5 b6 b7 e0 e1 e2 e3 e4 e5 e6 e7 =
    let d2 : n / 65536 ≡ n / 256 / 256 = omega arith in
    let d3 : n / 16777216 ≡ n / 256 / 256 / 256 = omega arith in
    let d4 : n / 4294967296 ≡ n / 256 / 256 / 256 / 256 = omega arith in
    let d5 : n / 1099511627776 ≡ n / 256 / 256 / 256 / 256 / 256 = omega arith in
    let d6 : n / 281474976710656 ≡ n / 256 / 256 / 256 / 256 / 256 / 256 = omega arith in
    let d7 : n / 72057594037927936 ≡ n / 256 / 256 / 256 / 256 / 256 / 256 / 256 = omega arith in
    cc

-- the test for bytes says what it should
pub are_bytes_lem : (l : List ℕ) → are_bytes l ≡ true → Bytes l
unfolding Bytes are_bytes
are_bytes_lem [] e = tt
are_bytes_lem (b ∷ l) e = (ltb-true b 256 (and_left (ltb b 256) (are_bytes l) e), are_bytes_lem l (and_right (ltb b 256) (are_bytes l) e))

pub bytes_pass : (l : List ℕ) → Bytes l → are_bytes l ≡ true
unfolding Bytes are_bytes
bytes_pass [] h = refl
bytes_pass (b ∷ l) h = rw (lt-ltb b 256 h.0, bytes_pass l h.1) refl

-- a byte at each place
pub byte_below : (l : List ℕ) → Bytes l → (i : ℕ) → get_or l i 0 < 256
unfolding Bytes
byte_below [] b i = omega arith
byte_below (x ∷ l) b zero = b.0
byte_below (x ∷ l) b (suc i) = byte_below l b.1 i

pub zeros_bytes : (n : ℕ) → Bytes (replicate n 0)
unfolding Bytes
zeros_bytes zero = tt
zeros_bytes (suc n) = (omega arith, zeros_bytes n)

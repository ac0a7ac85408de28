-- Texts and their lengths, one law per way of a routine.
use mathlib.Core.Path.{◌≡◌, refl, sym, ap, ap₂, ◌∙◌}
use mathlib.Core.Bool.{Bool, true, false, cond}
use mathlib.Core.List.{List, [], ◌∷◌, ◌++◌}
use Prim.Native.Nat.{ℕ, zero, suc, ◌+◌, ◌*◌, ◌/◌, ◌%◌, ◌≤◌, ◌<◌}
use native.Mathlib.Omega.{arith}
use native.Mathlib.Numerals.{add-one}
use borrow.Author.Tests.{lt-ltb, le-ltb, ltb-true, ltb-false}
use lib.Dec.{ltb}
use lib.ListN.{length, take, get_or, length-append, length-take}
use lib.Seq.{take-suc, take_all}
use Rattle.bench_print.specs.Printing.{digit, digits_from, most_decimals, decimal, hex_digit, hex_text}
use Rattle.bench_print.specs.Workers.{PrintedAt}
use Rattle.bench_print.proofs.Laws.WrittenLaws.{placed_both, placed_as, placed_nothing}

-- ten to a power
unfoldable pub tens : ℕ → ℕ
tens zero = 1
tens (suc k) = 10 * tens k

pub digits_one : (fuel k : ℕ) → k < 10 → digits_from (suc fuel) k ≡ digit k ∷ []
unfolding digits_from
digits_one fuel k h = rw (lt-ltb k 10 h)

pub digits_more : (fuel k : ℕ) → 10 ≤ k → digits_from (suc fuel) k ≡ digits_from fuel (k / 10) ++ digit (k % 10) ∷ []
unfolding digits_from
digits_more fuel k h = rw (le-ltb k 10 h)

-- more fuel than digits changes nothing
digits_enough : (fuel k : ℕ) → k < tens (suc fuel) → digits_from (suc (suc fuel)) k ≡ digits_from (suc fuel) k
unfolding tens
digits_enough zero k h = let l : k < 10 = omega arith in digits_one 1 k l ∙ sym (digits_one 0 k l)
digits_enough (suc fuel) k h = go (ltb k 10) refl (digits_enough fuel (k / 10))
  where
    go : (b : Bool) → ltb k 10 ≡ b → (k / 10 < tens (suc fuel) → digits_from (suc (suc fuel)) (k / 10) ≡ digits_from (suc fuel) (k / 10))
        → digits_from (suc (suc (suc fuel))) k ≡ digits_from (suc (suc fuel)) k
    go true e ih = let l = ltb-true k 10 e in digits_one (suc (suc fuel)) k l ∙ sym (digits_one (suc fuel) k l)
    go false e ih =
        let l = ltb-false k 10 e in
        digits_more (suc (suc fuel)) k l
        ∙ ap (λ (ds : List ℕ). ds ++ digit (k % 10) ∷ []) (ih (omega arith))
        ∙ sym (digits_more (suc fuel) k l)

pub decimal_one : (k : ℕ) → k < 10 → decimal k ≡ digit k ∷ []
unfolding decimal
decimal_one k h = digits_one 19 k h

pub decimal_more : (k : ℕ) → 10 ≤ k → k < tens most_decimals → decimal k ≡ decimal (k / 10) ++ digit (k % 10) ∷ []
unfolding decimal tens
decimal_more k h l =
    digits_more 19 k h ∙ ap (λ (ds : List ℕ). ds ++ digit (k % 10) ∷ []) (sym (digits_enough 18 (k / 10) (omega arith)))

digits_short : (fuel k : ℕ) → length (digits_from fuel k) ≤ fuel
unfolding digits_from
digits_short zero k = omega arith
digits_short (suc fuel) k = go (ltb k 10) (digits_short fuel (k / 10))
  where
    go : (b : Bool) → length (digits_from fuel (k / 10)) ≤ fuel → length (cond b (digit k ∷ []) (digits_from fuel (k / 10) ++ digit (k % 10) ∷ [])) ≤ suc fuel
    go true ih = omega arith
    go false ih = simp length-append (omega arith)

pub decimal_short : (k : ℕ) → length (decimal k) ≤ 20
unfolding decimal
decimal_short k = digits_short 20 k

-- two digits a byte
pub hex_length : (bytes : List ℕ) → length (hex_text bytes) ≡ 2 * length bytes
unfolding hex_text
hex_length [] = refl
hex_length (b ∷ bytes) = let ih = hex_length bytes in omega arith

pub hex_append : (a b : List ℕ) → hex_text (a ++ b) ≡ hex_text a ++ hex_text b
unfolding hex_text
hex_append [] b = refl
hex_append (x ∷ a) b = ap (λ (l : List ℕ). hex_digit (x / 16) ∷ hex_digit (x % 16) ∷ l) (hex_append a b)

-- The first i bytes were written.
pub record Hexing (at : ℕ) (bytes old : List ℕ) (i to : ℕ) (out : List ℕ) : Type 0 where
  pub within : at + length (hex_text bytes) ≤ length old
  pub so_far : i ≤ length bytes
  pub to_is : to ≡ at + 2 * i
  pub same-long : length out ≡ length old
  pub placed : PrintedAt at (hex_text (take i bytes)) old out to

pub hexing_none : (at : ℕ) (bytes old : List ℕ) → at + length (hex_text bytes) ≤ length old → Hexing at bytes old 0 at old
unfolding hex_text
hexing_none at bytes old h =
    record { within = h; so_far = omega arith; to_is = omega arith; same-long = refl; placed = placed_nothing at old }

pub hexing_room : (at : ℕ) (bytes old : List ℕ) (i to : ℕ) (out : List ℕ) → i < length bytes → Hexing at bytes old i to out → to + 1 < length out
hexing_room at bytes old i to out h p = omega (arith, p.within, p.to_is, p.same-long, hex_length bytes)

pub hexing_more : (at : ℕ) (bytes old : List ℕ) (i to : ℕ) (out : List ℕ) (b d e : ℕ) (o1 o2 : List ℕ) (r s : ℕ)
    → i < length bytes → Hexing at bytes old i to out → b ≡ get_or bytes i 0 → d ≡ hex_digit (b / 16) → e ≡ hex_digit (b % 16)
    → PrintedAt to (d ∷ []) out o1 r → PrintedAt r (e ∷ []) o1 o2 s → length o2 ≡ length out → Hexing at bytes old (i + 1) s o2
unfolding hex_text
hexing_more at bytes old i to out b d e o1 o2 r s h p eb ed ee p1 p2 n =
    let w = p.within in
    let t = p.to_is in
    let hl = hex_length bytes in
    let m : length (hex_text (take i bytes)) ≡ 2 * i = hex_length (take i bytes) ∙ simp length-take (omega arith) in
    let two = placed_both to (d ∷ []) (e ∷ []) out o1 o2 r s (omega (arith, p.same-long)) p1 p2 in
    let all = placed_both at (hex_text (take i bytes)) (d ∷ e ∷ []) old out o2 to s (omega arith) p.placed two in
    let text : hex_text (take i bytes) ++ d ∷ e ∷ [] ≡ hex_text (take (i + 1) bytes) =
    ap₂ (λ (x y : ℕ). hex_text (take i bytes) ++ x ∷ y ∷ []) (ed ∙ ap (λ (x : ℕ). hex_digit (x / 16)) eb) (ee ∙ ap (λ (x : ℕ). hex_digit (x % 16)) eb)
    ∙ sym (hex_append (take i bytes) (get_or bytes i 0 ∷ []))
    ∙ rw add-one (ap hex_text (sym (take-suc bytes i 0 h))) in
    record {
      within = w;
      so_far = omega arith;
      to_is = omega (arith, p1.next-is, p2.next-is);
      same-long = n ∙ p.same-long;
      placed = placed_as at (hex_text (take i bytes) ++ d ∷ e ∷ []) (hex_text (take (i + 1) bytes)) old o2 s text all;
    }

pub hexing_all : (at : ℕ) (bytes old : List ℕ) (i to : ℕ) (out : List ℕ) → length bytes ≤ i → Hexing at bytes old i to out → PrintedAt at (hex_text bytes) old out to
hexing_all at bytes old i to out h p =
    placed_as at (hex_text (take i bytes)) (hex_text bytes) old out to (ap hex_text (take_all i bytes h)) p.placed

-- the ways of a number
pub number_one : (k at d : ℕ) (old out : List ℕ) (r : ℕ) → k < 10 → d ≡ digit k → PrintedAt at (d ∷ []) old out r → PrintedAt at (decimal k) old out r
number_one k at d old out r h e p =
    placed_as at (d ∷ []) (decimal k) old out r (ap (λ (x : ℕ). x ∷ []) e ∙ sym (decimal_one k h)) p

pub number_more : (k at d : ℕ) (old mid out : List ℕ) (r s : ℕ) → 10 ≤ k → k < 18446744073709551616 → at ≤ length old → d ≡ digit (k % 10)
    → PrintedAt at (decimal (k / 10)) old mid r → PrintedAt r (d ∷ []) mid out s → PrintedAt at (decimal k) old out s
unfolding tens
number_more k at d old mid out r s h l a e p q =
    placed_as at (decimal (k / 10) ++ d ∷ []) (decimal k) old out s
    (ap (λ (x : ℕ). decimal (k / 10) ++ x ∷ []) e ∙ sym (decimal_more k h (omega arith)))
    (placed_both at (decimal (k / 10)) (d ∷ []) old mid out r s a p q)

pub number_one_long : (k : ℕ) → k < 10 → length (decimal k) ≡ 1
number_one_long k h = ap length (decimal_one k h)

pub number_more_long : (k : ℕ) → 10 ≤ k → k < 18446744073709551616 → length (decimal k) ≡ length (decimal (k / 10)) + 1
unfolding tens
number_more_long k h l = ap length (decimal_more k h (omega arith)) ∙ simp length-append

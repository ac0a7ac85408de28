-- A word as a number, a digit at a time; and the numbers of a line, one at a time.
use mathlib.Core.Path.{◌≡◌, refl, sym, ap, ap₂, ◌∙◌}
use mathlib.Core.Bool.{Bool, true, false, cond, ◌&&◌, and-false}
use mathlib.Core.List.{List, [], ◌∷◌}
use Prim.Native.Nat.{ℕ, suc, ◌+◌, ◌-◌, ◌*◌, ◌^◌, ◌≤◌, ◌<◌}
use native.Mathlib.Nat.{not-suc-le-zero, pow-le-pow_right}
use native.Mathlib.Numerals.{add-one}
use native.Mathlib.Omega.{arith}
use lib.Dec.{eqb, leb, eqb-zero-suc, eqb-suc-zero, eqb-suc-suc}
use lib.ListN.{length, get_or, take, drop, length-take, drop_of_length-le}
use lib.Seq.{drop-cons}
use borrow.Author.Tests.{lt-leb, le-leb, leb-true}
use Rattle.bench_parse.specs.Lines.{most_digits, every, is_digit, number_word, value_after, value_of, numbers_of, are_numbers, number_in}
use Rattle.bench_parse.specs.Workers.{words_from, CarryFrom, NumberAt}
use Rattle.bench_parse.specs.Workers.{word_length, starts_number, others, number_read, NumberTaken, lone_number}
use Rattle.std.proofs.Common.{Some, None}
use Rattle.bench_parse.proofs.Laws.WordLaws.{from_here, from_none, words_split, end_within, split_at_end}
use Rattle.bench_parse.specs.declared.Number.{Number}

pub clash : false ≡ true → ⊥
clash e = let z : ◌≡◌ {A = ℕ} 0 1 = cc in omega arith

pub and_true : (a b : Bool) → a && b ≡ true → (a ≡ true) × (b ≡ true)
and_true true b e = (refl, e)
and_true false b e = absurd (clash e)

-- a word that is no number
not_numeral : (w : List ℕ) → number_word w ≡ false → None ≡ number_read w
unfolding number_read
not_numeral w e = rw e

pub numeral_empty : (w : List ℕ) → length w < 1 → None ≡ number_read w
unfolding number_word
numeral_empty w h = not_numeral w (rw (lt-leb 1 (length w) h))

pub numeral_long : (w : List ℕ) → most_digits < length w → None ≡ number_read w
unfolding number_word
numeral_long w h = not_numeral w (rw (le-leb 1 (length w) (omega arith), lt-leb (length w) most_digits h))

-- what holds before digit i is read
pub record NumeralSo (w : List ℕ) (value i : ℕ) : Type 0 where
  pub some : 1 ≤ length w
  pub few : length w ≤ most_digits
  pub low : i ≤ length w
  pub digits : every is_digit (drop i w) ≡ every is_digit w
  pub sum : value_after value (drop i w) ≡ value_of w
  pub small : value < 10 ^ i

pub numeral_start : (w : List ℕ) → 1 ≤ length w → length w ≤ most_digits → NumeralSo w 0 0
unfolding value_of
numeral_start w a b = record { some = a; few = b; low = omega arith; digits = refl; sum = refl; small = omega arith }

module _ (w : List ℕ) (value i : ℕ) (s : NumeralSo w value i) where
  -- the next value fits 64 bits
  pub numeral_fits : i < length w → value < 1000000000000000000
  numeral_fits h =
      let n : i ≤ 18 = omega (arith, s.few) in
      let p : 10 ^ i ≤ 10 ^ 18 = pow-le-pow_right (omega arith) n in
      omega (arith, s.small)

  pub numeral_not : i < length w → is_digit (get_or w i 0) ≡ false → None ≡ number_read w
  unfolding number_word every
  numeral_not h e =
      let f : every is_digit w ≡ false = sym s.digits ∙ rw (drop-cons w i 0 h, e) in
      not_numeral w (rw (le-leb 1 (length w) s.some, le-leb (length w) most_digits s.few) f)

  pub numeral_more : i < length w → is_digit (get_or w i 0) ≡ true → NumeralSo w (value * 10 + (get_or w i 0 - 48)) (i + 1)
  unfolding is_digit every value_after
  numeral_more h e =
      let p = and_true (leb 48 (get_or w i 0)) (leb (get_or w i 0) 57) e in
      let x : 48 ≤ get_or w i 0 = leb-true 48 (get_or w i 0) p.0 in
      let y : get_or w i 0 ≤ 57 = leb-true (get_or w i 0) 57 p.1 in
      record {
        some = s.some;
        few = s.few;
        low = omega arith;
        digits = sym (rw (drop-cons w i 0 h, le-leb 48 (get_or w i 0) x, le-leb (get_or w i 0) 57 y, add-one i)) ∙ s.digits;
        sum = sym (rw (drop-cons w i 0 h, add-one i)) ∙ s.sum;
        small = rw (add-one i) (omega (arith, s.small));
      }

  pub numeral_stop : length w ≤ i → Some value ≡ number_read w
  unfolding number_read number_word every value_after
  numeral_stop h =
      let n = drop_of_length-le w h in
      let f : every is_digit w ≡ true = sym s.digits ∙ ap (every is_digit) n in
      let v : value ≡ value_of w = sym (ap (value_after value) n) ∙ s.sum in
      rw (le-leb 1 (length w) s.some, le-leb (length w) most_digits s.few, f) (ap Some v)

number_some : (w : List ℕ) → number_word w ≡ true → 1 ≤ length w
unfolding number_word
number_some w e =
    leb-true 1 (length w) (and_true (leb 1 (length w)) (leb (length w) most_digits) (and_true (leb 1 (length w) && leb (length w) most_digits) (every is_digit w) e).0).0

read_none : (w : List ℕ) → number_read w ≡ None → number_word w ≡ false
unfolding number_read
read_none w = go (number_word w)
  where
    go : (b : Bool) → cond b (Some (value_of w)) None ≡ None → b ≡ false
    go true e = cc
    go false e = refl

read_some : (w : List ℕ) (v : ℕ) → number_read w ≡ Some v → (number_word w ≡ true) × (v ≡ value_of w)
unfolding number_read
read_some w v = go (number_word w)
  where
    go : (b : Bool) → cond b (Some (value_of w)) None ≡ Some v → (b ≡ true) × (v ≡ value_of w)
    go true e = (refl, cc)
    go false e = cc

-- A number looked for at a place: there is no word left, or there is one.
pub none_left : (l : List ℕ) (at : ℕ) → length l < at → starts_number (words_from l at) ≡ false
unfolding starts_number
none_left l at n = ap starts_number (from_none l at n)

module _ (l : List ℕ) (at e : ℕ) (h : at ≤ length l) (f : e ≡ at + word_length (drop at l)) where
  splits : words_from l at ≡ take (e - at) (drop at l) ∷ words_from l (e + 1)
  splits = from_here l at h ∙ split_at_end l at e h f

  pub none_read : number_read (take (e - at) (drop at l)) ≡ None → starts_number (words_from l at) ≡ false
  unfolding starts_number
  none_read n = ap starts_number splits ∙ read_none (take (e - at) (drop at l)) n

  pub number_taken : (v : ℕ) → number_read (take (e - at) (drop at l)) ≡ Some v → NumberTaken l at (record { value = v; end = e })
  unfolding starts_number others number_in
  number_taken v n =
      let r = read_some (take (e - at) (drop at l)) v n in
      record {
        starts = ap starts_number splits ∙ r.0;
        rest-is = sym (ap others splits);
        value-is = r.1 ∙ sym (ap (λ (ws : List (List ℕ)). number_in ws 0) splits);
        low =
            let n = number_some (take (e - at) (drop at l)) r.0 in
            let t = length-take (e - at) (drop at l) in
            omega arith;
        high = end_within l at e h f;
      }

-- Words taken off the front, one number at a time.
are_more : (k : ℕ) (ws : List (List ℕ)) → starts_number ws ≡ true → are_numbers (suc k) ws ≡ are_numbers k (others ws)
unfolding are_numbers starts_number others every
are_more k [] e = absurd (clash e)
are_more k (w ∷ ws) e = rw (eqb-suc-suc (length ws) k, e)

are_not : (k : ℕ) (ws : List (List ℕ)) → starts_number ws ≡ false → are_numbers (suc k) ws ≡ false
unfolding are_numbers starts_number every
are_not k [] e = rw (eqb-zero-suc k)
are_not k (w ∷ ws) e = rw e (and-false (eqb (suc (length ws)) (suc k)))

number_later : (ws : List (List ℕ)) (i : ℕ) → number_in (others ws) i ≡ number_in ws (suc i)
unfolding number_in others
number_later [] i = refl
number_later (w ∷ ws) i = refl

pub passes : (l : List ℕ) (at : ℕ) (p : Number) → NumberTaken l at p → (k : ℕ) → are_numbers (suc k) (words_from l at) ≡ are_numbers k (words_from l (p.end + 1))
passes l at p r k = are_more k (words_from l at) r.starts ∙ ap (are_numbers k) (sym r.rest-is)

pub fails : (l : List ℕ) (at : ℕ) → starts_number (words_from l at) ≡ false → (k : ℕ) → are_numbers (suc k) (words_from l at) ≡ false
fails l at r k = are_not k (words_from l at) r

pub shifted : (l : List ℕ) (at : ℕ) (p : Number) → NumberTaken l at p → (i : ℕ) → number_in (words_from l (p.end + 1)) i ≡ number_in (words_from l at) (suc i)
shifted l at p r i = ap (λ (ws : List (List ℕ)). number_in ws i) r.rest-is ∙ number_later (words_from l at) i

-- The last number of a line.
are_none : (l : List ℕ) (at : ℕ) → length l < at → are_numbers 0 (words_from l at) ≡ true
unfolding are_numbers every
are_none l at h = ap (are_numbers 0) (from_none l at h)

are_some : (l : List ℕ) (at : ℕ) → at ≤ length l → are_numbers 0 (words_from l at) ≡ false
unfolding are_numbers
are_some l at h =
    ap (are_numbers 0) (from_here l at h ∙ words_split (drop at l))
    ∙ rw (eqb-suc-zero (length (words_from (drop at l) (word_length (drop at l) + 1))))

lone_none : (ws : List (List ℕ)) → are_numbers 1 ws ≡ false → None ≡ lone_number ws
unfolding lone_number
lone_none ws e = rw e

pub alone_not : (l : List ℕ) (at : ℕ) → starts_number (words_from l at) ≡ false → None ≡ lone_number (words_from l at)
alone_not l at r = lone_none (words_from l at) (fails l at r 0)

pub alone_more : (l : List ℕ) (at : ℕ) (p : Number) → NumberTaken l at p → p.end < length l → None ≡ lone_number (words_from l at)
alone_more l at p r h = lone_none (words_from l at) (passes l at p r 0 ∙ are_some l (p.end + 1) (omega arith))

pub alone_is : (l : List ℕ) (at : ℕ) (p : Number) → NumberTaken l at p → length l ≤ p.end → Some p.value ≡ lone_number (words_from l at)
unfolding lone_number
alone_is l at p r h = rw (passes l at p r 0 ∙ are_none l (p.end + 1) (omega arith)) (ap Some r.value-is)

-- Numbers to the end of a line.
pub record NumbersSo (l : List ℕ) (at k : ℕ) : Type 0 where
  pub high : k ≤ length l + 1
  pub so_far : every number_word (words_from l k) ≡ every number_word (words_from l at)

every_not : (ws : List (List ℕ)) → 1 ≤ length ws → starts_number ws ≡ false → every number_word ws ≡ false
unfolding every starts_number
every_not [] h e = absurd (not-suc-le-zero h)
every_not (w ∷ ws) h e = rw e

every_more : (ws : List (List ℕ)) → starts_number ws ≡ true → every number_word ws ≡ every number_word (others ws)
unfolding every starts_number others
every_more [] e = absurd (clash e)
every_more (w ∷ ws) e = rw e

pub from_some : (l : List ℕ) (at : ℕ) → at ≤ length l → 1 ≤ length (words_from l at)
from_some l at h = let e = ap length (from_here l at h ∙ words_split (drop at l)) in omega arith

pub numbers_start : (l : List ℕ) (at : ℕ) → at ≤ length l + 1 → NumbersSo l at at
numbers_start l at h = record { high = h; so_far = refl }

module _ (l : List ℕ) (at k : ℕ) (s : NumbersSo l at k) where
  pub numbers_not : starts_number (words_from l k) ≡ false → k ≤ length l → false ≡ every number_word (words_from l at)
  numbers_not r h = sym (every_not (words_from l k) (from_some l k h) r) ∙ s.so_far

  pub numbers_more : (p : Number) → NumberTaken l k p → NumbersSo l at (p.end + 1)
  numbers_more p r =
      record {
        high = omega (arith, r.high);
        so_far = sym (every_more (words_from l k) r.starts ∙ ap (every number_word) (sym r.rest-is)) ∙ s.so_far;
      }

  pub numbers_stop : length l < k → true ≡ every number_word (words_from l at)
  unfolding every
  numbers_stop h = sym (ap (every number_word) (from_none l k h)) ∙ s.so_far

-- One number of a carry line.
starts_every : (ws : List (List ℕ)) → 1 ≤ length ws → every number_word ws ≡ true → starts_number ws ≡ true
unfolding every starts_number
starts_every [] h e = absurd (not-suc-le-zero h)
starts_every (w ∷ ws) h e = (and_true (number_word w) (every number_word ws) e).0

numbers_cons : (ws : List (List ℕ)) → starts_number ws ≡ true → numbers_of ws ≡ number_in ws 0 ∷ numbers_of (others ws)
unfolding numbers_of number_in others starts_number
numbers_cons [] e = absurd (clash e)
numbers_cons (w ∷ ws) e = refl

module _ (l : List ℕ) (at : ℕ) (c : CarryFrom l at) where
  all_numbers : every number_word (words_from l at) ≡ true
  all_numbers = ap (every number_word) (from_here l at c.within) ∙ c.numbers

  pub carry_some : starts_number (words_from l at) ≡ false → ⊥
  carry_some r = clash (sym r ∙ starts_every (words_from l at) (from_some l at c.within) all_numbers)

  pub carry_number : (p : Number) → NumberTaken l at p → NumberAt l at p
  carry_number p r =
      record {
        starts = r.low;
        ends = r.high;
        splits = sym (ap numbers_of (from_here l at c.within)) ∙ numbers_cons (words_from l at) r.starts
            ∙ ap₂ (λ (v : ℕ) (ws : List (List ℕ)). v ∷ numbers_of ws) (sym r.value-is) (sym r.rest-is);
        later = λ h.
            let n : p.end + 1 ≤ length l = omega arith in
            record {
              within = n;
              after = omega (arith, c.after, r.low);
              short = c.short;
              numbers = ap (every number_word) (sym (from_here l (p.end + 1) n) ∙ r.rest-is) ∙ sym (every_more (words_from l at) r.starts) ∙ all_numbers;
            };
      }

-- what the checks of `word_number`, `number_from`, `alone` and `all_numbers` apply
pub ruleset word_steps = (numeral_empty, numeral_long, numeral_start, numeral_fits, numeral_not, numeral_stop)

pub ruleset number_steps = (none_left, none_read, number_taken)

pub ruleset alone_steps = (alone_not, alone_more, alone_is)

pub ruleset numbers_steps = (numbers_start, numbers_not, numbers_more, numbers_stop)

-- Hex digits, hex words, and the bytes that they stand for.
use mathlib.Core.Path.{◌≡◌, refl, sym, ap, ap₂, ◌∙◌}
use mathlib.Core.Bool.{Bool, true, false, cond, ◌&&◌}
use mathlib.Core.List.{List, [], ◌∷◌}
use Prim.Native.Nat.{ℕ, zero, suc, ◌+◌, ◌-◌, ◌*◌, ◌/◌, ◌≤◌, ◌<◌}
use native.Mathlib.Nat.{not-suc-le-zero}
use native.Mathlib.Decide.{ℕ_discrete}
use native.Mathlib.Omega.{arith}
use lib.Dec.{eqb, leb}
use lib.Arith.{lt_of_le-ne}
use lib.ListN.{length, get_or, take, drop, set, length-set, length-drop, drop_of_length-le}
use lib.Seq.{ext_get_or, get_or-drop, get_or-set_same, get_or-set_other}
use borrow.Author.Tests.{ne_eqb, eqb-true, le-leb, leb-true}
use Rattle.bench_parse.specs.Lines.{space, every, longer, words, is_digit, is_lower, is_upper, is_hex, hex_value, hex_word, bytes_of}
use Rattle.bench_parse.specs.Workers.{words_from}
use Rattle.bench_parse.specs.Workers.{word_length, HexesFrom, hex_alone}
use Rattle.bench_parse.proofs.Laws.NumeralLaws.{clash, and_true}
use Rattle.bench_parse.proofs.Laws.WordLaws.{from_here, words_split}
use Rattle.byte_lists.specs.Little.{Bytes}
use Rattle.std.specs.List.{list_all}

bounds : (low high x : ℕ) (b : Bool) → b ≡ (leb low x && leb x high) → b ≡ true → (low ≤ x) × (x ≤ high)
bounds low high x b e t =
    let p = and_true (leb low x) (leb x high) (sym e ∙ t) in
    (leb-true low x p.0, leb-true x high p.1)

pub hex_small : (x : ℕ) → hex_value x < 16
unfolding hex_value is_digit is_lower is_upper
hex_small x = go (leb 48 x && leb x 57) (leb 97 x && leb x 102) (leb 65 x && leb x 70) refl refl refl
  where
    go : (b c d : Bool) → (leb 48 x && leb x 57) ≡ b → (leb 97 x && leb x 102) ≡ c → (leb 65 x && leb x 70) ≡ d
        → cond b (x - 48) (cond c (x - 87) (cond d (x - 55) 0)) < 16
    go true c d e f g = let k = bounds 48 57 x true (sym e) refl in omega arith
    go false true d e f g = let k = bounds 97 102 x true (sym f) refl in omega arith
    go false false true e f g = let k = bounds 65 70 x true (sym g) refl in omega arith
    go false false false e f g = omega arith

-- A hex word has no space.
no_space : (x : ℕ) → is_hex x ≡ true → eqb x space ≡ false
unfolding is_hex is_digit is_lower is_upper
no_space x e = ne_eqb x space (λ q. clash (sym (ap is_hex q) ∙ e))

words_hex : (t : List ℕ) → every is_hex t ≡ true → words t ≡ t ∷ []
unfolding words every longer
words_hex [] e = refl
words_hex (x ∷ t) e =
    let p = and_true (is_hex x) (every is_hex t) e in
    rw (no_space x p.0) (ap (longer x) (words_hex t p.1))

-- a line of one word is that word
words_one : (t : List ℕ) → length (words t) ≡ 1 → words t ≡ t ∷ []
unfolding words longer
words_one [] e = refl
words_one (x ∷ t) e = go (eqb x space) (words t) (words_split t) (words_one t) e
  where
    go : (b : Bool) (ws : List (List ℕ)) → ws ≡ take (word_length t) t ∷ words_from t (word_length t + 1) → (length ws ≡ 1 → ws ≡ t ∷ [])
        → length (cond b ([] ∷ ws) (longer x ws)) ≡ 1 → cond b ([] ∷ ws) (longer x ws) ≡ (x ∷ t) ∷ []
    go true ws s ih n = let k = ap length s in absurd (omega arith)
    go false [] s ih n = let k = ap length s in absurd (omega arith)
    go false (w ∷ ws) s ih n = ap (longer x) (ih n)

hex_every : (t : List ℕ) → hex_word t ≡ true → every is_hex t ≡ true
unfolding hex_word
hex_every t e = (and_true (leb 1 (length t)) (every is_hex t) e).1

pub alone_words : (t : List ℕ) → hex_alone (words t) ≡ hex_word t
unfolding hex_alone
alone_words t = go (eqb (length (words t)) 1) refl (hex_word t) refl
  where
    one : words t ≡ t ∷ [] → hex_alone (words t) ≡ hex_word t
    one e = ap hex_alone e

    go : (b : Bool) → eqb (length (words t)) 1 ≡ b → (h : Bool) → hex_word t ≡ h → hex_alone (words t) ≡ hex_word t
    go true e h f = one (words_one t (eqb-true (length (words t)) 1 e))
    go false e true f = one (words_hex t (hex_every t f))
    go false e false f = rw e (sym f)

-- The bytes to a line's end, one at a time.
no_hex : (l : List ℕ) (at : ℕ) → hex_alone (words_from l at) ≡ false → HexesFrom l at false
no_hex l at e = record { tests = sym e; within = λ z. absurd (clash z); digits = λ z. absurd (clash z); only = λ z. absurd (clash z) }

pub hexes_none : (l : List ℕ) (at : ℕ) → length l ≤ at → HexesFrom l at false
unfolding words_from hex_alone hex_word
hexes_none l at h =
    no_hex l at (go (leb at (length l)) (alone_words (drop at l) ∙ ap hex_word (drop_of_length-le l h)))
  where
    go : (b : Bool) → hex_alone (words (drop at l)) ≡ false → hex_alone (cond b (words (drop at l)) []) ≡ false
    go true e = e
    go false e = refl

every_all : (t : List ℕ) → list_all is_hex t ≡ every is_hex t
unfolding every
every_all [] = refl
every_all (x ∷ t) = ap (λ (b : Bool). is_hex x && b) (every_all t)

word_is : (l : List ℕ) (at : ℕ) → at < length l → hex_alone (words_from l at) ≡ every is_hex (drop at l)
unfolding hex_word
word_is l at h =
    let n : 1 ≤ length (drop at l) = omega (arith, length-drop at l) in
    ap hex_alone (from_here l at (omega arith)) ∙ alone_words (drop at l) ∙ rw (le-leb 1 (length (drop at l)) n)

pub hexes_are : (l : List ℕ) (at : ℕ) (r : Bool) → at < length l → r ≡ list_all is_hex (drop at l) → HexesFrom l at r
unfolding every
hexes_are l at r h e = go r (e ∙ every_all (drop at l))
  where
    go : (b : Bool) → b ≡ every is_hex (drop at l) → HexesFrom l at b
    go false e = no_hex l at (word_is l at h ∙ sym e)
    go true e =
        let u : at ≤ length l = omega arith in
        record {
          tests = e ∙ sym (word_is l at h);
          within = λ z. u;
          digits = λ z. sym (ap hex_alone (from_here l at u) ∙ alone_words (drop at l)) ∙ word_is l at h ∙ sym e;
          only = λ z. from_here l at u ∙ words_hex (drop at l) (sym e);
        }

-- The bytes of a hex word.
pub bytes_at : (w : List ℕ) (j : ℕ) → 2 * j + 1 < length w → get_or (bytes_of w) j 0 ≡ hex_value (get_or w (2 * j) 0) * 16 + hex_value (get_or w (2 * j + 1) 0)
unfolding bytes_of
bytes_at [] j h = absurd (not-suc-le-zero h)
bytes_at (a ∷ []) j h = absurd (omega arith)
bytes_at (a ∷ b ∷ w) zero h = refl
bytes_at (a ∷ b ∷ w) (suc j) h =
    let e : suc (suc (2 * j)) ≡ 2 * suc j = omega arith in
    let f : suc (suc (2 * j + 1)) ≡ 2 * suc j + 1 = omega arith in
    bytes_at w j (omega arith)
    ∙ ap₂ (λ (x y : ℕ). hex_value (get_or (a ∷ b ∷ w) x 0) * 16 + hex_value (get_or (a ∷ b ∷ w) y 0)) e f

pub bytes_length_lem : (w : List ℕ) → length (bytes_of w) ≡ length w / 2
unfolding bytes_of
bytes_length_lem [] = omega arith
bytes_length_lem (a ∷ []) = omega arith
bytes_length_lem (a ∷ b ∷ w) = let ih = bytes_length_lem w in omega arith

pub bytes_half : (w : List ℕ) (n : ℕ) → length w ≡ 2 * n → length (bytes_of w) ≡ n
bytes_half w n e = let l = bytes_length_lem w in omega arith

-- they are bytes
pub bytes_are : (w : List ℕ) → Bytes (bytes_of w)
unfolding bytes_of Bytes
bytes_are [] = tt
bytes_are (a ∷ []) = tt
bytes_are (a ∷ b ∷ w) = let x = hex_small a in let y = hex_small b in (omega arith, bytes_are w)

-- A buffer filled with them from the front: i bytes.
pub record HexDone (l : List ℕ) (at : ℕ) (old out : List ℕ) (i : ℕ) : Type 0 where
  pub long : at + 2 * length old ≡ length l
  pub size : length out ≡ length old
  pub low : i ≤ length old
  pub done : (j : ℕ) → j < i → get_or out j 0 ≡ get_or (bytes_of (drop at l)) j 0

pub hex_none : (l : List ℕ) (at : ℕ) (old : List ℕ) → at + 2 * length old ≡ length l → HexDone l at old old 0
hex_none l at old e = record { long = e; size = refl; low = omega arith; done = λ j h. absurd (not-suc-le-zero h) }

module _ (l : List ℕ) (at : ℕ) (old out : List ℕ) (i : ℕ) (d : HexDone l at old out i) where
  digits_at : i < length old → hex_value (get_or l (at + 2 * i) 0) * 16 + hex_value (get_or l (at + 2 * i + 1) 0) ≡ get_or (bytes_of (drop at l)) i 0
  digits_at h =
      let g : at + (2 * i + 1) ≡ at + 2 * i + 1 = omega arith in
      sym
      (bytes_at (drop at l) i (omega (arith, d.long, length-drop at l))
      ∙ ap₂ (λ (x y : ℕ). hex_value x * 16 + hex_value y)
      (get_or-drop at l (2 * i) 0)
      (get_or-drop at l (2 * i + 1) 0 ∙ ap (λ (j : ℕ). get_or l j 0) g))

  pub hex_more : (x y : ℕ) → i < length out → x ≡ hex_value (get_or l (at + 2 * i) 0) → y ≡ hex_value (get_or l (at + 2 * i + 1) 0)
      → HexDone l at old (set out i (x * 16 + y)) (i + 1)
  hex_more x y h ex ey =
      let z = d.size in
      record {
        long = d.long;
        size = length-set out i (x * 16 + y) ∙ d.size;
        low = omega arith;
        done = λ j u. byte j (ℕ_discrete j i) u;
      }
    where
      byte : (j : ℕ) → Dec (j ≡ i) → j < i + 1 → get_or (set out i (x * 16 + y)) j 0 ≡ get_or (bytes_of (drop at l)) j 0
      byte j (yes q) u =
          ap (λ (a : ℕ). get_or (set out i (x * 16 + y)) a 0) q ∙ get_or-set_same out i (x * 16 + y) 0 (let z = d.size in omega arith)
          ∙ ap₂ (λ (a b : ℕ). a * 16 + b) ex ey
          ∙ digits_at (let z = d.size in omega arith)
          ∙ ap (λ (a : ℕ). get_or (bytes_of (drop at l)) a 0) (sym q)
      byte j (no n) u = get_or-set_other out i j (x * 16 + y) 0 n ∙ d.done j (lt_of_le-ne (omega arith) n)

  pub hex_all : length out ≤ i → out ≡ bytes_of (drop at l)
  hex_all h =
      let z = d.size in
      let n : length (drop at l) ≡ 2 * length out = omega (arith, d.long, length-drop at l) in
      ext_get_or 0 out (bytes_of (drop at l)) (sym (bytes_half (drop at l) (length out) n)) (λ j u. d.done j (omega arith))

-- what the check of `hex_bytes` applies
pub ruleset hex_steps = (hex_none, hex_more)

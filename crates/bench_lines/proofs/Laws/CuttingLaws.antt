-- Cutting chunk after chunk gives the lines of the input.
use mathlib.Core.Path.{◌≡◌, refl, sym, ap, ap₂, ◌∙◌}
use mathlib.Core.Bool.{Bool, true, false, cond, ◌||◌, true≢false}
use mathlib.Core.List.{List, [], ◌∷◌, ◌++◌, map, flatten, append_assoc, append-nil}
use Prim.Native.Nat.{ℕ, zero, suc, ◌+◌, ◌-◌, ◌≤◌}
use native.Mathlib.Omega.{arith}
use lib.Dec.{eqb}
use lib.ListN.{length, take, drop, length-append, length-take, drop_of_length-le}
use lib.Seq.{drop-drop}
use borrow.Author.Tests.{lt-ltb, le-ltb}
use Rattle.byte_lists.specs.Lists.{put}
use Rattle.bench_parse.specs.Lines.{longer, held_length}
use Rattle.bench_print.specs.Printing.{newline}
use Rattle.bench_print.proofs.Laws.WrittenLaws.{written_front}
use Rattle.bench_lines.specs.Cutting.{lines, before_newline, has_newline, done_with, fitting, CutOff, Cuts, none, part, whole, last_line, HandedOn, ended, chunk}
use Rattle.bench_lines.proofs.Laws.CutLaws.{cut_size}
use Rattle.bench_lines.specs.CuttingTheorem.{CuttingGivesTheLines}
use Rattle.bench_lines.specs.declared.Cut.{Cut}

-- Lines by the first newline.
-- a byte that is no newline stands in the first line
no_newline : (x : ℕ) (l : List ℕ) → has_newline (x ∷ l) ≡ false → (eqb x newline ≡ false) × (has_newline l ≡ false)
unfolding has_newline
no_newline x l e = by (eqb x newline) e
  where
    by : (b : Bool) → b || has_newline l ≡ false → (b ≡ false) × (has_newline l ≡ false)
    by true h = absurd (true≢false h)
    by false h = (refl, h)

-- with a newline: the bytes before it, and the lines behind it
lines_behind : (rest more : List ℕ) → has_newline rest ≡ true → lines (rest ++ more) ≡ before_newline rest ∷ lines (drop (done_with rest) rest ++ more)
unfolding lines before_newline has_newline done_with longer
lines_behind [] more h = absurd (true≢false (sym h))
lines_behind (x ∷ rest) more h = by (eqb x newline) refl (λ e. lines_behind rest more e)
  where
    by : (b : Bool) → eqb x newline ≡ b
        → (has_newline rest ≡ true → lines (rest ++ more) ≡ before_newline rest ∷ lines (drop (done_with rest) rest ++ more))
        → lines ((x ∷ rest) ++ more) ≡ before_newline (x ∷ rest) ∷ lines (drop (done_with (x ∷ rest)) (x ∷ rest) ++ more)
    by true e again = rw e refl
    by false e again =
        let t : has_newline rest ≡ true = sym (rw e refl) ∙ h in
        rw e
        (ap (longer x) (again t)
        ∙ ap (λ (k : ℕ). (x ∷ before_newline rest) ∷ lines (drop k (x ∷ rest) ++ more))
        (let q : suc (length (before_newline rest) + cond (has_newline rest) 1 0) ≡ suc (length (before_newline rest)) + cond (has_newline rest) 1 0 = omega arith in q))

lines_with : (t rest more : List ℕ) → has_newline t ≡ false → has_newline rest ≡ true
    → lines (t ++ (rest ++ more)) ≡ (t ++ before_newline rest) ∷ lines (drop (done_with rest) rest ++ more)
unfolding lines longer
lines_with [] rest more f h = lines_behind rest more h
lines_with (x ∷ t) rest more f h = let n = no_newline x t f in rw n.0 (ap (longer x) (lines_with t rest more n.1 h))

-- without one: all of it
all_before : (rest : List ℕ) → has_newline rest ≡ false → before_newline rest ≡ rest
unfolding before_newline
all_before [] f = refl
all_before (x ∷ rest) f = let n = no_newline x rest f in rw n.0 (ap (λ (l : List ℕ). x ∷ l) (all_before rest n.1))

all_done : (rest : List ℕ) → has_newline rest ≡ false → drop (done_with rest) rest ≡ []
unfolding done_with
all_done rest f = drop_of_length-le rest {i = done_with rest} (let b = ap length (all_before rest f) in rw f (omega (arith, b)))

last_line_lem : (x : ℕ) (t : List ℕ) → has_newline (x ∷ t) ≡ false → lines (x ∷ t) ≡ (x ∷ t) ∷ []
unfolding lines longer
last_line_lem x [] f = rw (no_newline x [] f).0 refl
last_line_lem x (y ∷ t) f = let n = no_newline x (y ∷ t) f in rw n.0 (ap (longer x) (last_line_lem y t n.1))

no_newline_both : (s t : List ℕ) → has_newline s ≡ false → has_newline t ≡ false → has_newline (s ++ t) ≡ false
unfolding has_newline
no_newline_both [] t f g = g
no_newline_both (x ∷ s) t f g = let n = no_newline x s f in rw n.0 (no_newline_both s t n.1 g)

-- The line's buffer holds as much as it has room for of the bytes of a line so far, and none of these is a newline.
record Holds (text line : List ℕ) (held : ℕ) : Type 0 where
  size : length line ≡ held_length
  held-is : held ≡ length (take held_length text)
  bytes-are : take held line ≡ take held_length text
  none-ended : has_newline text ≡ false

take_both : (n : ℕ) (s t : List ℕ) → take n (s ++ t) ≡ take n s ++ take (n - length s) t
take_both zero s t = ap (λ (k : ℕ). take k t) (let e : 0 ≡ 0 - length s = omega arith in e)
take_both (suc n) [] t = ap (λ (k : ℕ). take k t) (let e : suc n ≡ suc n - 0 = omega arith in e)
take_both (suc n) (x ∷ s) t =
    ap (λ (l : List ℕ). x ∷ l) (take_both n s t)
    ∙ ap (λ (k : ℕ). x ∷ (take n s ++ take k t)) (let e : n - length s ≡ suc n - suc (length s) = omega arith in e)

-- one call: the bytes before the newline come behind those that are held
module _ (text line rest : List ℕ) (held at : ℕ) (r : Cut) (line' : List ℕ) (h : Holds text line held) (c : CutOff rest at line held r line') where
  abbrev moved : List ℕ
  moved = fitting (length line) held (before_newline rest)

  few : held ≤ length line
  few = let n = length-take held_length text in omega (arith, n, h.held-is, h.size)

  call_size : length line' ≡ held_length
  call_size = cut_size rest line held at r line' few c ∙ h.size

  -- with all that came before
  call_text : take held_length (text ++ before_newline rest) ≡ take held line ++ moved
  call_text =
      take_both held_length text (before_newline rest)
      ∙ ap₂ (λ (s : List ℕ) (k : ℕ). s ++ take k (before_newline rest)) (sym h.bytes-are)
      (let n = length-take held_length text in let e : held_length - length text ≡ length line - held = omega (arith, n, h.held-is, h.size) in e)

  call_bytes : take r.held line' ≡ take held_length (text ++ before_newline rest)
  unfolding put
  call_bytes = ap₂ (λ (k : ℕ) (l : List ℕ). take k l) c.held-is c.line-is ∙ written_front held moved line few ∙ sym call_text

  call_held : r.held ≡ length (take held_length (text ++ before_newline rest))
  call_held =
      let a = length-append (take held line) moved in
      let t = length-take held line in
      let f = few in
      c.held-is ∙ (let e : held + length moved ≡ length (take held line ++ moved) = omega (arith, a, t, f) in e) ∙ ap length (sym call_text)

  call_part : has_newline rest ≡ false → Holds (text ++ rest) line' r.held
  call_part f =
      let b = all_before rest f in
      record {
        size = call_size;
        held-is = call_held ∙ ap (λ (l : List ℕ). length (take held_length (text ++ l))) b;
        bytes-are = call_bytes ∙ ap (λ (l : List ℕ). take held_length (text ++ l)) b;
        none-ended = no_newline_both text rest h.none-ended f;
      }

empty_holds : (line : List ℕ) → length line ≡ held_length → Holds [] line 0
unfolding has_newline
empty_holds line n = record { size = n; held-is = refl; bytes-are = refl; none-ended = refl }

-- What calls for a chunk leave: some bytes of a line, and of what is still to come the lines that are not handed on yet.
record Left (bytes text : List ℕ) (at : ℕ) (handed : List (List ℕ)) (line : List ℕ) (held at' : ℕ) : Type 0 where
  so_far : List ℕ
  holds : Holds so_far line held
  rest-is : (more : List ℕ) → map (take held_length) (lines (text ++ (drop at bytes ++ more)))
      ≡ handed ++ map (take held_length) (lines (so_far ++ (drop at' bytes ++ more)))

cuts_left : {bytes line line' : List ℕ} {held held' at at' : ℕ} {handed : List (List ℕ)} (text : List ℕ) → Holds text line held
    → Cuts bytes line held at handed line' held' at' → Left bytes text at handed line' held' at'
cuts_left text h (none line held at) = record { so_far = text; holds = h; rest-is = λ more. refl }
cuts_left {bytes} {line} {held = held} {at = at} text h (part r line' c w cs) =
    let rest = drop at bytes in
    let f : has_newline rest ≡ false = sym c.whole_is ∙ w in
    let left = cuts_left (text ++ rest) (call_part text line rest held at r line' h c f) cs in
    let gone : drop r.next bytes ≡ [] = ap (λ (k : ℕ). drop k bytes) c.next-is ∙ sym (drop-drop (done_with rest) at bytes) ∙ all_done rest f in
    record {
      so_far = left.so_far;
      holds = left.holds;
      rest-is = λ more.
          ap (λ (l : List ℕ). map (take held_length) (lines l))
          (sym (append_assoc text rest more) ∙ ap (λ (l : List ℕ). text ++ rest ++ (l ++ more)) (sym gone))
          ∙ left.rest-is more;
    }
cuts_left {bytes} {line} {held = held} {at = at} text h (whole r line' c w cs) =
    let rest = drop at bytes in
    let e : has_newline rest ≡ true = sym c.whole_is ∙ w in
    let left = cuts_left [] (empty_holds line' (call_size text line rest held at r line' h c)) cs in
    let behind : drop (done_with rest) rest ≡ drop r.next bytes = drop-drop (done_with rest) at bytes ∙ ap (λ (k : ℕ). drop k bytes) (sym c.next-is) in
    record {
      so_far = left.so_far;
      holds = left.holds;
      rest-is = λ more.
          ap (map (take held_length)) (lines_with text rest more h.none-ended e)
          ∙ ap₂ (λ (first : List ℕ) (l : List ℕ). first ∷ map (take held_length) (lines (l ++ more))) (sym (call_bytes text line rest held at r line' h c)) behind
          ∙ ap (λ (ls : List (List ℕ)). take r.held line' ∷ ls) (left.rest-is more);
    }

-- the end of the input
last_handed : (text line : List ℕ) (held : ℕ) → Holds text line held → last_line line held ≡ map (take held_length) (lines text)
unfolding last_line lines
last_handed [] line held h = rw (le-ltb 0 held (omega (arith, h.held-is))) refl
last_handed (x ∷ text) line held h =
    rw (lt-ltb 0 held (let n = length-take held_length (x ∷ text) in omega (arith, n, h.held-is)))
    (ap (λ (l : List ℕ). l ∷ []) h.bytes-are ∙ ap (map (take held_length)) (sym (last_line_lem x text h.none-ended)))

handed_lines : {line : List ℕ} {held : ℕ} {chunks handed : List (List ℕ)} (text : List ℕ) → Holds text line held → HandedOn line held chunks handed
    → handed ≡ map (take held_length) (lines (text ++ flatten chunks))
unfolding flatten
handed_lines text h (ended line held) = last_handed text line held h ∙ ap (λ (l : List ℕ). map (take held_length) (lines l)) (sym (append-nil text))
handed_lines text h (chunk {at = at} {bytes = bytes} {chunks = chunks} {first = first} cs e more) =
    let left = cuts_left text h cs in
    ap (λ (ls : List (List ℕ)). first ++ ls)
    (handed_lines left.so_far left.holds more
    ∙ ap (λ (l : List ℕ). map (take held_length) (lines (left.so_far ++ (l ++ flatten chunks)))) (sym (drop_of_length-le bytes e)))
    ∙ sym (left.rest-is (flatten chunks))

pub cutting_gives_the_lines : CuttingGivesTheLines
cutting_gives_the_lines line chunks handed n h = handed_lines [] (empty_holds line n) h

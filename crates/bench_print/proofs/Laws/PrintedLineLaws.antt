-- The lines that are printed, one law per way of a routine, and how long they are.
use mathlib.Core.Path.{◌≡◌, sym}
use mathlib.Core.List.{List, [], ◌∷◌, ◌++◌, append_assoc}
use Prim.Native.Nat.{ℕ, ◌+◌, ◌≤◌, ◌<◌}
use native.Mathlib.Omega.{arith}
use borrow.Author.Tests.{eq-eqb, ne_eqb, lt-ltb, le-ltb, le-leb, lt-leb}
use lib.ListN.{length, length-append}
use Rattle.coord_record.specs.Records.{reading_kind}
use Rattle.coord_apply.specs.Answers.{ok_seen, read_seen, aborted_seen, cut_seen}
use Rattle.coord_apply.specs.declared.Notice.{Notice}
use Rattle.bench_print.specs.Printing.{most_decimals, space, newline, decimal, hex_text, refused_word, refused_text, read_word, write_word}
use Rattle.bench_print.specs.Printing.{kind_word, ok_word, abort_word, cut_word, end_word, line_text}
use Rattle.bench_print.specs.Printing.{is_end, ended_text, printed_into}
use Rattle.bench_print.proofs.Laws.TextLaws.{decimal_short}
use Rattle.bench_print.specs.Workers.{ended_room, PrintedAt}
use Rattle.bench_print.proofs.Laws.WrittenLaws.{placed_both, placed_as, placed_nothing}
use Rattle.bench_limits.specs.Limits.{line_room}

-- the line of a refusal
refused_placed : (k at : ℕ) (old o1 o2 out : List ℕ) (r1 r2 r : ℕ) → at ≤ length old
    → PrintedAt at (refused_word ++ space ∷ []) old o1 r1 → PrintedAt r1 (decimal k) o1 o2 r2 → PrintedAt r2 (newline ∷ []) o2 out r
    → PrintedAt at (refused_text k) old out r
unfolding refused_text refused_word
refused_placed k at old o1 o2 out r1 r2 r h p q s =
    placed_both at (refused_word ++ space ∷ decimal k) (newline ∷ []) old o2 out r2 r h
    (placed_both at (refused_word ++ space ∷ []) (decimal k) old o1 o2 r1 r2 h p q) s

pub refused_short : (k : ℕ) → length (refused_text k) ≤ 9 + most_decimals
unfolding refused_text refused_word
refused_short k = let d = decimal_short k in simp length-append (omega arith)

-- the kind, and a space
pub kind_reading : (kind at : ℕ) (old out : List ℕ) (r : ℕ) → kind ≡ reading_kind
    → PrintedAt at (read_word ++ space ∷ []) old out r → PrintedAt at (kind_word kind ++ space ∷ []) old out r
unfolding kind_word
kind_reading kind at old out r e p = rw (eq-eqb kind reading_kind e) p

pub kind_writing : (kind at : ℕ) (old out : List ℕ) (r : ℕ) → (kind ≡ reading_kind → ⊥)
    → PrintedAt at (write_word ++ space ∷ []) old out r → PrintedAt at (kind_word kind ++ space ∷ []) old out r
unfolding kind_word
kind_writing kind at old out r e p = rw (ne_eqb kind reading_kind e) p

-- the end, and the end of the line
pub end_ok : (what at : ℕ) (stripe old out : List ℕ) (r : ℕ) → what ≡ ok_seen
    → PrintedAt at (ok_word ++ newline ∷ []) old out r → PrintedAt at (end_word what stripe ++ newline ∷ []) old out r
unfolding end_word
end_ok what at stripe old out r e p = rw (eq-eqb what ok_seen e) p

pub end_read : (what at : ℕ) (stripe old mid out : List ℕ) (s r : ℕ) → (what ≡ ok_seen → ⊥) → what ≡ read_seen → at ≤ length old
    → PrintedAt at (hex_text stripe) old mid s → PrintedAt s (newline ∷ []) mid out r
    → PrintedAt at (end_word what stripe ++ newline ∷ []) old out r
unfolding end_word
end_read what at stripe old mid out s r n1 e h p q =
    rw (ne_eqb what ok_seen n1, eq-eqb what read_seen e) (placed_both at (hex_text stripe) (newline ∷ []) old mid out s r h p q)

pub end_aborted : (what at : ℕ) (stripe old out : List ℕ) (r : ℕ) → (what ≡ ok_seen → ⊥) → (what ≡ read_seen → ⊥) → what ≡ aborted_seen
    → PrintedAt at (abort_word ++ newline ∷ []) old out r → PrintedAt at (end_word what stripe ++ newline ∷ []) old out r
unfolding end_word
end_aborted what at stripe old out r n1 n2 e p = rw (ne_eqb what ok_seen n1, ne_eqb what read_seen n2, eq-eqb what aborted_seen e) p

pub end_cut : (what at : ℕ) (stripe old out : List ℕ) (r : ℕ) → (what ≡ ok_seen → ⊥) → (what ≡ read_seen → ⊥) → (what ≡ aborted_seen → ⊥)
    → PrintedAt at (cut_word ++ newline ∷ []) old out r → PrintedAt at (end_word what stripe ++ newline ∷ []) old out r
unfolding end_word
end_cut what at stripe old out r n1 n2 n3 p = rw (ne_eqb what ok_seen n1, ne_eqb what read_seen n2, ne_eqb what aborted_seen n3) p

-- the five parts of a line
line_parts : (c kind time letter what : ℕ) (stripe : List ℕ)
    → (decimal c ++ space ∷ []) ++ (kind_word kind ++ space ∷ []) ++ (decimal time ++ space ∷ []) ++ (letter ∷ space ∷ []) ++ (end_word what stripe ++ newline ∷ [])
    ≡ line_text c kind time letter what stripe
unfolding line_text
line_parts c kind time letter what stripe = simp append_assoc

pub line_placed : (c kind time letter what at : ℕ) (stripe old o1 o2 o3 o4 out : List ℕ) (r1 r2 r3 r4 r : ℕ) → at ≤ length old
    → PrintedAt at (decimal c ++ space ∷ []) old o1 r1 → PrintedAt r1 (kind_word kind ++ space ∷ []) o1 o2 r2
    → PrintedAt r2 (decimal time ++ space ∷ []) o2 o3 r3 → PrintedAt r3 (letter ∷ space ∷ []) o3 o4 r4
    → PrintedAt r4 (end_word what stripe ++ newline ∷ []) o4 out r
    → PrintedAt at (line_text c kind time letter what stripe) old out r
line_placed c kind time letter what at stripe old o1 o2 o3 o4 out r1 r2 r3 r4 r h p1 p2 p3 p4 p5 =
    placed_as at _ (line_text c kind time letter what stripe) old out r (line_parts c kind time letter what stripe)
    (placed_both at _ _ old o4 out r4 r h
    (placed_both at _ _ old o3 o4 r3 r4 h (placed_both at _ _ old o2 o3 r2 r3 h (placed_both at _ _ old o1 o2 r1 r2 h p1 p2) p3) p4) p5)

-- what is printed: nothing, or the line
pub ended_before : (c : ℕ) (seen : Notice) (stripe : List ℕ) → seen.what < ok_seen → ended_text c seen stripe ≡ []
unfolding ended_text is_end
ended_before c seen stripe h = rw (lt-ltb seen.what ok_seen h)

pub ended_past : (c : ℕ) (seen : Notice) (stripe : List ℕ) → cut_seen < seen.what → ended_text c seen stripe ≡ []
unfolding ended_text is_end
ended_past c seen stripe h = rw (le-ltb seen.what ok_seen (omega arith), lt-leb seen.what cut_seen h)

pub ended_line : (c : ℕ) (seen : Notice) (stripe : List ℕ) → ok_seen ≤ seen.what → seen.what ≤ cut_seen
    → ended_text c seen stripe ≡ line_text c seen.kind seen.time seen.letter seen.what stripe
unfolding ended_text is_end
ended_line c seen stripe h l = rw (le-ltb seen.what ok_seen h, le-leb seen.what cut_seen l)

-- what the public routines ensure
abbrev pub Printed : ℕ → List ℕ → List ℕ → List ℕ → ℕ → Type 0
Printed at text old out r = (r ≡ at + length text) × ((out ≡ printed_into at text old) × (r ≤ at + line_room))

silent : (at : ℕ) (text old : List ℕ) → text ≡ [] → Printed at text old old at
silent at text old e =
    let p = placed_as at [] text old old at (sym e) (placed_nothing at old) in
    (p.next-is, (p.holds, omega arith))

pub printed_before : (c at : ℕ) (seen : Notice) (stripe old : List ℕ) → seen.what < ok_seen → Printed at (ended_text c seen stripe) old old at
printed_before c at seen stripe old h = silent at (ended_text c seen stripe) old (ended_before c seen stripe h)

pub printed_past : (c at : ℕ) (seen : Notice) (stripe old : List ℕ) → cut_seen < seen.what → Printed at (ended_text c seen stripe) old old at
printed_past c at seen stripe old h = silent at (ended_text c seen stripe) old (ended_past c seen stripe h)

pub printed_line : (c at : ℕ) (seen : Notice) (stripe old out : List ℕ) (r : ℕ) → ok_seen ≤ seen.what → seen.what ≤ cut_seen
    → PrintedAt at (line_text c seen.kind seen.time seen.letter seen.what stripe) old out r → r ≤ at + ended_room
    → Printed at (ended_text c seen stripe) old out r
printed_line c at seen stripe old out r h l p b =
    let q = placed_as at (line_text c seen.kind seen.time seen.letter seen.what stripe) (ended_text c seen stripe) old out r (sym (ended_line c seen stripe h l)) p in
    (q.next-is, (q.holds, omega arith))

pub printed_refused : (k at : ℕ) (old o1 o2 out : List ℕ) (r1 r2 r : ℕ) → at ≤ length old
    → PrintedAt at (refused_word ++ space ∷ []) old o1 r1 → PrintedAt r1 (decimal k) o1 o2 r2 → PrintedAt r2 (newline ∷ []) o2 out r
    → Printed at (refused_text k) old out r
printed_refused k at old o1 o2 out r1 r2 r h p q s =
    let a = refused_placed k at old o1 o2 out r1 r2 r h p q s in
    (a.next-is, (a.holds, omega (arith, a.next-is, refused_short k)))

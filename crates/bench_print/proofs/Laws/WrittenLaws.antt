-- A text written into a list: nothing, one after another, and its front.
use mathlib.Core.Path.{◌≡◌, refl, sym, ap, ap₂, ◌∙◌}
use mathlib.Core.List.{List, [], ◌∷◌, ◌++◌, append_assoc}
use Prim.Native.Nat.{ℕ, ◌+◌, ◌-◌, ◌≤◌, ◌<◌}
use native.Mathlib.Omega.{arith}
use native.Mathlib.Numerals.{add-one, unary_clauses}
use lib.ListN.{length, take, drop, set, length-append, length-take, take-append-drop}
use lib.Seq.{take_at, drop-append-add, drop-drop, set_split}
use borrow.Rule.Slice.PartMut.{put_mid}
use Rattle.byte_lists.specs.Lists.{put}
use Rattle.byte_lists.proofs.Laws.PutLaws.{put_mid_lem}
use Rattle.bench_print.specs.Printing.{printed_into}
use Rattle.bench_print.specs.Workers.{PrintedAt}

pub written_nothing : (at : ℕ) (old : List ℕ) → printed_into at [] old ≡ old
unfolding put
written_nothing at old = simp (append_assoc, unary_clauses) (take-append-drop at old)

head_length : (at : ℕ) (a old : List ℕ) → at ≤ length old → length (take at old ++ a) ≡ at + length a
head_length at a old h = simp (length-append, length-take) (omega arith)

-- what stands up to the next place: what stood before, and the text
pub written_front : (at : ℕ) (text old : List ℕ) → at ≤ length old → take (at + length text) (printed_into at text old) ≡ take at old ++ text
unfolding put
written_front at text old h =
    take_at (take at old ++ text) (drop (at + length text) old) (at + length text) (head_length at text old h)

pub written_both : (at : ℕ) (a b old : List ℕ) → at ≤ length old → printed_into (at + length a) b (printed_into at a old) ≡ printed_into at (a ++ b) old
unfolding put
written_both at a b old h =
    let n = head_length at a old h in
    let end : at + length a + length b ≡ at + length (a ++ b) = omega (arith, length-append a b) in
    let rest : drop (at + length a + length b) (take at old ++ a ++ drop (at + length a) old) ≡ drop (at + length (a ++ b)) old
    = ap (λ (k : ℕ). drop (k + length b) (take at old ++ a ++ drop (at + length a) old)) (sym n)
    ∙ drop-append-add (take at old ++ a) (drop (at + length a) old) (length b)
    ∙ drop-drop (length b) (at + length a) old
    ∙ ap (λ (k : ℕ). drop k old) end in
    ap₂ (λ (x y : List ℕ). x ++ b ++ y) (written_front at a old h) rest
    ∙ ap (λ (x : List ℕ). x ++ drop (at + length (a ++ b)) old) (append_assoc (take at old) a b)

pub written_byte : (at b : ℕ) (old : List ℕ) → at < length old → set old at b ≡ printed_into at (b ∷ []) old
unfolding put
written_byte at b old h = rw (add-one, append_assoc) (set_split old at b h)

pub placed_both : (at : ℕ) (a b old mid out : List ℕ) (r s : ℕ) → at ≤ length old → PrintedAt at a old mid r → PrintedAt r b mid out s → PrintedAt at (a ++ b) old out s
placed_both at a b old mid out r s h p q =
    record {
      next-is = omega (arith, p.next-is, q.next-is, length-append a b);
      holds = q.holds ∙ ap₂ (λ (k : ℕ) (l : List ℕ). printed_into k b l) p.next-is p.holds ∙ written_both at a b old h;
    }

pub placed_as : (at : ℕ) (a b old out : List ℕ) (r : ℕ) → a ≡ b → PrintedAt at a old out r → PrintedAt at b old out r
placed_as at a b old out r e p =
    record { next-is = p.next-is ∙ ap (λ (l : List ℕ). at + length l) e; holds = p.holds ∙ ap (λ (l : List ℕ). printed_into at l old) e }

pub placed_byte : (at b : ℕ) (old : List ℕ) → at < length old → PrintedAt at (b ∷ []) old (set old at b) (at + 1)
placed_byte at b old h = record { next-is = refl; holds = written_byte at b old h }

pub placed_nothing : (at : ℕ) (old : List ℕ) → PrintedAt at [] old old at
placed_nothing at old = record { next-is = omega arith; holds = sym (written_nothing at old) }

-- as the code stores a word
pub placed_word : (at : ℕ) (word old x : List ℕ) → x ≡ word → PrintedAt at word old (put_mid at (at + length word - at) old x) (at + length word)
placed_word at word old x e =
    record {
      next-is = refl;
      holds = ap (put_mid at (at + length word - at) old) e ∙ put_mid_lem at (at + length word) old word (omega arith) (omega arith);
    }

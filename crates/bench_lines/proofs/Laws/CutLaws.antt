-- One call: the search for a newline, the bytes kept, and what callers use of it.
use mathlib.Core.Path.{◌≡◌, refl, sym, ap, subst, ◌∙◌}
use mathlib.Core.Bool.{Bool, true, false, cond, not, ◌||◌}
use mathlib.Core.List.{List, [], ◌∷◌}
use Prim.Native.Nat.{ℕ, suc, min, ◌+◌, ◌-◌, ◌≤◌, ◌<◌}
use native.Mathlib.Omega.{arith}
use lib.Dec.{eqb, ltb, leb-suc-suc}
use lib.ListN.{length, get_or, take, drop, length-take, length-drop, drop_of_length-le}
use lib.Seq.{drop-cons, take-nil, take_all, length-take-le, paste-zero}
use borrow.Author.Tests.{lt-ltb, ltb-true, ltb-false}
use borrow.Rule.Slice.PartMut.{put_mid}
use Rattle.std.proofs.Common.{Option, Some, None}
use Rattle.std.proofs.lemmas.List.{take_min, take_rest}
use Rattle.std.specs.List.{position_or_len}
use Rattle.byte_lists.specs.Lists.{put}
use Rattle.byte_lists.proofs.Laws.PutLaws.{put_mid_lem, put_length}
use Rattle.bench_print.specs.Printing.{newline}
use Rattle.bench_lines.specs.Cutting.{before_newline, has_newline, done_with, fitting, CutOff}
use Rattle.bench_lines.specs.Workers.{Kept, NewlineIn}
use Rattle.bench_lines.specs.declared.Cut.{Cut}

put_none : (at : ℕ) (l : List ℕ) → l ≡ put at [] l
unfolding put
put_none at l = paste-zero l at []

-- where nothing stands before the newline, or nothing is left, nothing is moved
nothing_moved : (rest : List ℕ) (at : ℕ) (line : List ℕ) (held : ℕ) (r : Cut) → before_newline rest ≡ [] → r.next ≡ at + done_with rest → r.held ≡ held
    → r.whole ≡ has_newline rest → CutOff rest at line held r line
nothing_moved rest at line held r b n k w =
    let none : fitting (length line) held (before_newline rest) ≡ [] = ap (fitting (length line) held) b ∙ take-nil (length line - held) in
    record {
      next-is = n;
      held-is = k ∙ (let m = ap length none in omega (arith, m));
      whole_is = w;
      line-is = put_none held line ∙ ap (λ (x : List ℕ). put held x line) (sym none);
    }

-- the chunk's end
pub cut_end : (chunk line : List ℕ) (at held : ℕ) → length chunk ≤ at
    → CutOff (drop at chunk) at line held (record { next = at; held = held; whole = false }) line
unfolding done_with before_newline has_newline
cut_end chunk line at held h =
    let e : drop at chunk ≡ [] = drop_of_length-le chunk h in
    subst (λ (rest : List ℕ). CutOff rest at line held (record { next = at; held = held; whole = false }) line) (sym e)
    (nothing_moved [] at line held (record { next = at; held = held; whole = false }) refl (omega arith) refl refl)

-- What the search for a newline gives.
before_position : (t : List ℕ) → before_newline t ≡ take (position_or_len (λ x. eqb x newline) t) t
unfolding before_newline
before_position [] = refl
before_position (x ∷ t) = go (eqb x newline) (before_position t)
  where
    go : (b : Bool) → before_newline t ≡ take (position_or_len (λ x. eqb x newline) t) t
        → cond b [] (x ∷ before_newline t) ≡ take (cond (not b) (1 + position_or_len (λ x. eqb x newline) t) 0) (x ∷ t)
    go true e = refl
    go false e =
        let q : suc (position_or_len (λ x. eqb x newline) t) ≡ 1 + position_or_len (λ x. eqb x newline) t = omega arith in
        ap (λ (l : List ℕ). x ∷ l) e ∙ ap (λ (n : ℕ). take n (x ∷ t)) q

has_position : (t : List ℕ) → has_newline t ≡ ltb (position_or_len (λ x. eqb x newline) t) (length t)
unfolding has_newline
has_position [] = refl
has_position (x ∷ t) = go (eqb x newline) (has_position t)
  where
    go : (b : Bool) → has_newline t ≡ ltb (position_or_len (λ x. eqb x newline) t) (length t)
        → (b || has_newline t) ≡ ltb (cond (not b) (1 + position_or_len (λ x. eqb x newline) t) 0) (suc (length t))
    go true e = sym (lt-ltb 0 (suc (length t)) (omega arith))
    go false e =
        let q : suc (position_or_len (λ x. eqb x newline) t) ≡ 1 + position_or_len (λ x. eqb x newline) t = omega arith in
        e ∙ sym (leb-suc-suc (suc (position_or_len (λ x. eqb x newline) t)) (length t)) ∙ ap (λ (n : ℕ). ltb n (suc (length t))) q

pub newline_found : (t : List ℕ) (r : Option ℕ)
    → r ≡ cond (ltb (position_or_len (λ x. eqb x newline) t) (length t)) (Some (position_or_len (λ x. eqb x newline) t)) None
    → NewlineIn t r
newline_found t r e = go (ltb (position_or_len (λ x. eqb x newline) t) (length t)) refl e
  where
    go : (b : Bool) → ltb (position_or_len (λ x. eqb x newline) t) (length t) ≡ b
        → r ≡ cond b (Some (position_or_len (λ x. eqb x newline) t)) None → NewlineIn t r
    go true f e =
        subst (NewlineIn t) (sym e)
        (before_position t, has_position t ∙ f, ltb-true (position_or_len (λ x. eqb x newline) t) (length t) f)
    go false f e =
        subst (NewlineIn t) (sym e)
        (before_position t ∙ take_all (position_or_len (λ x. eqb x newline) t) t (ltb-false (position_or_len (λ x. eqb x newline) t) (length t) f), has_position t ∙ f)

-- Bytes kept: none, or those that there is room for.
pub kept_none : (line : List ℕ) (held : ℕ) (bytes : List ℕ) → min (length line - held) (length bytes) ≡ 0 → Kept line held bytes held line
kept_none line held bytes e =
    let none : fitting (length line) held bytes ≡ [] = sym (take_min (length line - held) bytes) ∙ ap (λ (n : ℕ). take n bytes) e in
    record {
      held-is = let m = ap length none in omega (arith, m);
      line-is = put_none held line ∙ ap (λ (x : List ℕ). put held x line) (sym none);
    }

pub kept_some : (line : List ℕ) (held : ℕ) (bytes x : List ℕ) (count : ℕ) → count ≡ min (length line - held) (length bytes) → x ≡ take count bytes
    → Kept line held bytes (held + count) (put_mid held (held + count - held) line x)
kept_some line held bytes x count e q =
    let all : x ≡ fitting (length line) held bytes = q ∙ ap (λ (n : ℕ). take n bytes) e ∙ take_min (length line - held) bytes in
    let long : length x ≡ count = ap length q ∙ length-take-le count bytes (omega arith) in
    record {
      held-is = let m = ap length all in omega (arith, m, long);
      line-is = put_mid_lem held (held + count) line x (omega arith) (omega (arith, long)) ∙ ap (λ (y : List ℕ). put held y line) all;
    }

-- up to a newline, and up to the chunk's end
cut_at : (rest : List ℕ) (from : ℕ) (line : List ℕ) (held k r : ℕ) (line' : List ℕ) → NewlineIn rest (Some k) → Kept line held (take k rest) r line'
    → CutOff rest from line held (record { next = from + k + 1; held = r; whole = true }) line'
unfolding done_with
cut_at rest from line held k r line' n kept =
    record {
      next-is = rw (n.0, n.1) (omega (arith, length-take-le k rest (let h = n.2 in omega arith)));
      held-is = kept.held-is ∙ ap (λ (b : List ℕ). held + length (fitting (length line) held b)) (sym n.0);
      whole_is = sym n.1;
      line-is = kept.line-is ∙ ap (λ (b : List ℕ). put held (fitting (length line) held b) line) (sym n.0);
    }

cut_all : (rest : List ℕ) (from : ℕ) (line : List ℕ) (held r : ℕ) (line' : List ℕ) → NewlineIn rest None → Kept line held rest r line'
    → CutOff rest from line held (record { next = from + length rest; held = r; whole = false }) line'
unfolding done_with
cut_all rest from line held r line' n kept =
    record {
      next-is = rw (n.0, n.1) (omega arith);
      held-is = kept.held-is ∙ ap (λ (b : List ℕ). held + length (fitting (length line) held b)) (sym n.0);
      whole_is = sym n.1;
      line-is = kept.line-is ∙ ap (λ (b : List ℕ). put held (fitting (length line) held b) line) (sym n.0);
    }

module _ (chunk : List ℕ) (from : ℕ) (line : List ℕ) (held : ℕ) where
  pub cut_newline : (k r : ℕ) (line' : List ℕ) → NewlineIn (take (length chunk - from) (drop from chunk)) (Some k)
      → Kept line held (take k (take (length chunk - from) (drop from chunk))) r line'
      → CutOff (drop from chunk) from line held (record { next = from + k + 1; held = r; whole = true }) line'
  cut_newline k r line' n kept =
      subst (λ (rest : List ℕ). CutOff rest from line held (record { next = from + k + 1; held = r; whole = true }) line') (take_rest chunk from)
      (cut_at (take (length chunk - from) (drop from chunk)) from line held k r line' n kept)

  pub cut_rest : (r : ℕ) (line' : List ℕ) → from ≤ length chunk → NewlineIn (take (length chunk - from) (drop from chunk)) None
      → Kept line held (take (length chunk - from) (drop from chunk)) r line'
      → CutOff (drop from chunk) from line held (record { next = length chunk; held = r; whole = false }) line'
  cut_rest r line' h n kept =
      let e : from + length (drop from chunk) ≡ length chunk = omega (arith, length-drop from chunk) in
      subst (λ (next : ℕ). CutOff (drop from chunk) from line held (record { next = next; held = r; whole = false }) line') e
      (subst (λ (rest : List ℕ). CutOff rest from line held (record { next = from + length rest; held = r; whole = false }) line') (take_rest chunk from)
      (cut_all (take (length chunk - from) (drop from chunk)) from line held r line' n kept))

-- What is still to be cut off gives the whole.
pub record Still (chunk : List ℕ) (from : ℕ) (old : List ℕ) (held : ℕ) (line : List ℕ) (at k : ℕ) : Type 0 where
  pub size : length line ≡ length old
  pub gives : (r : Cut) (l : List ℕ) → CutOff (drop at chunk) at line k r l → CutOff (drop from chunk) from old held r l

-- What callers use of a call: the buffer keeps its length, and the held bytes fit into it; a call before the chunk's end goes on.
module _ (rest line : List ℕ) (held at : ℕ) (r : Cut) (line' : List ℕ) (h : held ≤ length line) (c : CutOff rest at line held r line') where
  pub moved_fits : held + length (fitting (length line) held (before_newline rest)) ≤ length line
  moved_fits = let n = length-take (length line - held) (before_newline rest) in omega (arith, n)

  pub cut_size : length line' ≡ length line
  cut_size = ap length c.line-is ∙ put_length held (fitting (length line) held (before_newline rest)) line moved_fits

  pub cut_within : r.held ≤ length line'
  cut_within = let s = cut_size in let f = moved_fits in omega (arith, s, f, c.held-is)

done_some : (x : ℕ) (rest : List ℕ) → 1 ≤ done_with (x ∷ rest)
unfolding done_with before_newline has_newline
done_some x rest = by (eqb x newline)
  where
    by : (b : Bool) → 1 ≤ length (cond b [] (x ∷ before_newline rest)) + cond (b || has_newline rest) 1 0
    by true = omega arith
    by false = omega arith

pub cut_moves : (chunk line line' : List ℕ) (held at : ℕ) (r : Cut) → at < length chunk → CutOff (drop at chunk) at line held r line' → at < r.next
cut_moves chunk line line' held at r h c =
    let d = done_some (get_or chunk at 0) (drop (suc at) chunk) in
    let e = ap done_with (drop-cons chunk at 0 h) in
    omega (arith, c.next-is, d, e)

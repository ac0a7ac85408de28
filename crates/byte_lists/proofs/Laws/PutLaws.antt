-- Bytes put into a list: it keeps its length, they stand there, and what stands beside them is as it was.
use mathlib.Core.Path.{◌≡◌, refl, sym, ap, ◌∙◌}
use mathlib.Core.List.{List, [], ◌∷◌, ◌++◌, append_assoc, append-nil}
use Prim.Native.Nat.{ℕ, zero, suc, ◌+◌, ◌-◌, ◌≤◌}
use native.Mathlib.Omega.{arith}
use lib.ListN.{length, take, drop, length-append, length-take, length-drop}
use lib.Seq.{take_at, drop_at, drop-drop, take-nil, take-take, take-append-le, length-take-le, sets, sets-eq, drop-length}
use borrow.Rule.Slice.PartMut.{put_mid, Post-is}
use Rattle.byte_lists.specs.Lists.{put}

pub put_is : (at : ℕ) (x l : List ℕ) → put at x l ≡ take at l ++ (x ++ drop (at + length x) l)
unfolding put
put_is at x l = append_assoc (take at l) x (drop (at + length x) l)

-- as the code stores a part
pub put_mid_lem : (at end : ℕ) (l x : List ℕ) → at ≤ end → length x ≡ end - at → put_mid at (end - at) l x ≡ put at x l
put_mid_lem at end l x h e =
    ap (λ (t : List ℕ). take at l ++ (x ++ t)) (Post-is at end l h)
    ∙ ap (λ (k : ℕ). take at l ++ (x ++ drop k l)) (let q : end ≡ at + length x = omega arith in q)
    ∙ sym (put_is at x l)

pub put_length : (at : ℕ) (x l : List ℕ) → at + length x ≤ length l → length (put at x l) ≡ length l
unfolding put
put_length at x l h = simp (length-append, length-take, length-drop) (omega arith)

-- the part itself
pub put_in : (at k : ℕ) (x l : List ℕ) → length x ≡ k → at ≤ length l → take k (drop at (put at x l)) ≡ x
put_in at k x l e h =
    ap (λ (y : List ℕ). take k (drop at y)) (put_is at x l)
    ∙ ap (take k) (drop_at (take at l) (x ++ drop (at + length x) l) at (length-take-le at l h))
    ∙ take_at x (drop (at + length x) l) k e

-- what stands before it
pub put_first : (at n : ℕ) (x l : List ℕ) → n ≤ at → at ≤ length l → take n (put at x l) ≡ take n l
put_first at n x l hn h =
    ap (take n) (put_is at x l)
    ∙ take-append-le n (take at l) (x ++ drop (at + length x) l) (omega (arith, length-take-le at l h))
    ∙ take-take n at l hn

-- a part depends only on what stands before its end
pub drop_take : (p n : ℕ) (l : List ℕ) → drop p (take (p + n) l) ≡ take n (drop p l)
drop_take zero n l = let e : 0 + n ≡ n = omega arith in ap (λ (m : ℕ). take m l) e
drop_take (suc p) n [] = ap (drop (suc p)) (take-nil (suc p + n)) ∙ sym (take-nil n)
drop_take (suc p) n (x ∷ l) =
    let e : suc p + n ≡ suc (p + n) = omega arith in
    ap (λ (m : ℕ). drop (suc p) (take m (x ∷ l))) e ∙ drop_take p n l

pub cut_same : (p n e : ℕ) (l l' : List ℕ) → p + n ≤ e → take e l' ≡ take e l → take n (drop p l') ≡ take n (drop p l)
cut_same p n e l l' h s =
    let shorter : take (p + n) l' ≡ take (p + n) l = sym (take-take (p + n) e l' h) ∙ ap (take (p + n)) s ∙ take-take (p + n) e l h in
    sym (drop_take p n l') ∙ ap (drop p) shorter ∙ drop_take p n l

pub put_before : (at b k : ℕ) (x l : List ℕ) → b + k ≤ at → at ≤ length l → take k (drop b (put at x l)) ≡ take k (drop b l)
put_before at b k x l h f = cut_same b k at l (put at x l) h (put_first at at x l (omega arith) f)

-- what stands behind it
pub put_behind : (at b k : ℕ) (x l : List ℕ) → at + length x ≤ b → at ≤ length l → take k (drop b (put at x l)) ≡ take k (drop b l)
put_behind at b k x l h f =
    let e : b ≡ at + length x + (b - (at + length x)) = omega arith in
    ap (λ (j : ℕ). take k (drop j (put at x l))) e
    ∙ ap (take k) (sym (drop-drop (b - (at + length x)) (at + length x) (put at x l)))
    ∙ ap (λ (r : List ℕ). take k (drop (b - (at + length x)) r)) rest
    ∙ ap (take k) (drop-drop (b - (at + length x)) (at + length x) l)
    ∙ ap (λ (j : ℕ). take k (drop j l)) (sym e)
  where
    rest : drop (at + length x) (put at x l) ≡ drop (at + length x) l
    rest =
        ap (drop (at + length x)) (put_is at x l)
        ∙ sym (drop-drop (length x) at (take at l ++ (x ++ drop (at + length x) l)))
        ∙ ap (drop (length x)) (drop_at (take at l) (x ++ drop (at + length x) l) at (length-take-le at l f))
        ∙ drop_at x (drop (at + length x) l) (length x) refl

-- stores one after the other, from the first place on, fill a buffer of their number
pub stores : (values l : List ℕ) → length l ≡ length values → sets l 0 values ≡ values
stores values l e =
    sets-eq values l 0 (omega (arith, e))
    ∙ ap (λ (k : ℕ). values ++ drop k l) (let z : 0 + length values ≡ length l = omega (arith, e) in z)
    ∙ ap (λ (r : List ℕ). values ++ r) (drop-length l)
    ∙ append-nil values

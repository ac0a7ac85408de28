-- The tests on brick lists, as the library's words have them, and one brick at a time.
use mathlib.Core.Path.{◌≡◌, refl, sym, ap, ◌∙◌}
use mathlib.Core.Bool.{Bool, true, false, cond, not, ◌&&◌, ◌||◌}
use mathlib.Core.List.{List, [], ◌∷◌}
use Prim.Native.Nat.{ℕ, ◌+◌, ◌-◌, ◌≤◌, ◌<◌}
use native.Mathlib.Omega.{arith}
use lib.Dec.{eqb, ltb}
use lib.ListN.{length, get_or, take, drop, length-drop}
use lib.Seq.{drop-cons, take_all}
use Rattle.std.proofs.lemmas.List.{drop_all}
use native.Mathlib.Numerals.{add-one}
use Rattle.std.specs.List.{list_all, list_any}
use Rattle.erasure.specs.Refusals.{all_below, stands, all_different}

pub below_all : (n : ℕ) (l : List ℕ) → all_below l n ≡ list_all (λ (b : ℕ). ltb b n) l
unfolding all_below
below_all n [] = refl
below_all n (b ∷ bs) = ap (λ (t : Bool). ltb b n && t) (below_all n bs)

pub stands_any : (x : ℕ) (l : List ℕ) → stands x l ≡ list_any (λ (b : ℕ). eqb b x) l
unfolding stands
stands_any x [] = refl
stands_any x (b ∷ bs) = go (eqb b x) (stands_any x bs)
  where
    go : (t : Bool) → stands x bs ≡ list_any (λ (b : ℕ). eqb b x) bs → cond t true (stands x bs) ≡ (t || list_any (λ (b : ℕ). eqb b x) bs)
    go true e = refl
    go false e = e

-- A list from a place on, by its first entry: r is whether that stands in the rest, as the code asks.
module _ (l : List ℕ) (i : ℕ) (h : i < length l) where
  one_more : all_different (drop i l) ≡ (not (stands (get_or l i 0) (drop (i + 1) l)) && all_different (drop (i + 1) l))
  unfolding all_different
  one_more = rw (drop-cons l i 0 h) (rw (add-one i) refl)

  asked : (r : Bool) → r ≡ list_any (λ (b : ℕ). eqb b (get_or l i 0)) (take (length l - (i + 1)) (drop (i + 1) l))
      → r ≡ stands (get_or l i 0) (drop (i + 1) l)
  asked r e =
      e ∙ ap (list_any (λ (b : ℕ). eqb b (get_or l i 0))) (take_all (length l - (i + 1)) (drop (i + 1) l) (omega (arith, length-drop (i + 1) l)))
      ∙ sym (stands_any (get_or l i 0) (drop (i + 1) l))

  pub different_not : (r : Bool) → all_different (drop i l) ≡ all_different l
      → r ≡ list_any (λ (b : ℕ). eqb b (get_or l i 0)) (take (length l - (i + 1)) (drop (i + 1) l)) → r ≡ true → false ≡ all_different l
  different_not r d e t =
      ap (λ (x : Bool). not x && all_different (drop (i + 1) l)) (sym t ∙ asked r e) ∙ sym one_more ∙ d

  pub different_more : (r : Bool) → all_different (drop i l) ≡ all_different l
      → r ≡ list_any (λ (b : ℕ). eqb b (get_or l i 0)) (take (length l - (i + 1)) (drop (i + 1) l)) → r ≡ false
      → all_different (drop (i + 1) l) ≡ all_different l
  different_more r d e t =
      ap (λ (x : Bool). not x && all_different (drop (i + 1) l)) (sym t ∙ asked r e) ∙ sym one_more ∙ d

pub different_end : (l : List ℕ) (i : ℕ) → length l ≤ i → all_different (drop i l) ≡ all_different l → true ≡ all_different l
unfolding all_different
different_end l i h d = ap all_different (sym (drop_all i l h)) ∙ d

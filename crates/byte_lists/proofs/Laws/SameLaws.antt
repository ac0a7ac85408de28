-- The comparison of two lists of bytes.
use mathlib.Core.Path.{◌≡◌, refl, ap, ap₂, subst}
use mathlib.Core.Bool.{Bool, true, false, ◌&&◌}
use mathlib.Core.List.{List, [], ◌∷◌}
use Prim.Native.Nat.{ℕ}
use native.Mathlib.Omega.{arith}
use lib.Dec.{eqb}
use Rattle.std.specs.Cmp.Lexicographic.{pointwise}
use Rattle.std.specs.Bool.{nat_eq}
use borrow.Author.Tests.{eq-eqb, eqb-true}
use Rattle.byte_lists.proofs.Laws.BoolLaws.{and_left, and_right}
use Rattle.byte_lists.specs.Lists.{same}

-- as the library compares two slices
pub same_is_pointwise : (a b : List ℕ) → pointwise nat_eq a b ≡ same a b
unfolding same
same_is_pointwise [] [] = refl
same_is_pointwise [] (y ∷ ys) = refl
same_is_pointwise (x ∷ xs) [] = refl
same_is_pointwise (x ∷ xs) (y ∷ ys) = ap (λ (t : Bool). eqb x y && t) (same_is_pointwise xs ys)

pub same_true : (a b : List ℕ) → same a b ≡ true → a ≡ b
unfolding same
same_true [] [] e = refl
same_true [] (y ∷ ys) e = let z : ◌≡◌ {A = ℕ} 0 1 = cc in absurd (omega arith)
same_true (x ∷ xs) [] e = let z : ◌≡◌ {A = ℕ} 0 1 = cc in absurd (omega arith)
same_true (x ∷ xs) (y ∷ ys) e =
    ap₂ (λ (v : ℕ) (vs : List ℕ). v ∷ vs) (eqb-true x y (and_left _ _ e)) (same_true xs ys (and_right (eqb x y) _ e))

pub same_refl : (a : List ℕ) → same a a ≡ true
unfolding same
same_refl [] = refl
same_refl (x ∷ xs) = rw (eq-eqb x x refl, same_refl xs)

pub same_of : (a b : List ℕ) → a ≡ b → same a b ≡ true
same_of a b e = subst (λ (x : List ℕ). same a x ≡ true) e (same_refl a)

pub unsame : (a b : List ℕ) → (a ≡ b → ⊥) → same a b ≡ false
unsame a b ne = go (same a b) refl
  where
    go : (t : Bool) → same a b ≡ t → same a b ≡ false
    go true e = absurd (ne (same_true a b e))
    go false e = e

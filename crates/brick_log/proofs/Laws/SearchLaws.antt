-- A search from the back of a list, as `rposition` makes it, finds the last place that a test takes.
use mathlib.Core.Path.{◌≡◌, refl, sym, ap, subst, ◌∙◌}
use mathlib.Core.Bool.{Bool, true, false, cond, not}
use mathlib.Core.List.{List, [], ◌∷◌, reverse}
use Prim.Native.Nat.{ℕ, zero, suc, ◌+◌, ◌≤◌}
use native.Mathlib.Omega.{arith}
use denote.Param.Members.{Mut}
use denote.Ref.{Bor}
use lib.Dec.{ltb}
use lib.ListN.{length, take, get_or, length-take}
use lib.Seq.{take-suc}
use borrow.Author.Tests.{ltb-false}
use Rattle.std.specs.Prelude.{Option, Some, None}
use Rattle.std.specs.Iterator.{FindsPositionBack, YieldsThen}
use Rattle.std.specs.Fn.{Called}
use Rattle.std.specs.List.{position_or_len}
use Rattle.std.specs.Option.{IsSomeAnd, MatchOption}
use Rattle.std.specs.Slice.Iter.{iter_rest, iter_steps_back}
use Rattle.std.specs.declared.slice.Iter.{Iter}
use Rattle.std.proofs.lemmas.Iterator.{YieldsList}
use Rattle.std.proofs.lemmas.Iterator.Consumers.{YieldsList-from_shown}
use Rattle.std.proofs.lemmas.Iterator.Search.{position_from_yields_List}
use Rattle.std.proofs.lemmas.List.{reverse-append, length-reverse}
use Rattle.brick_log.specs.Workers.{last_in, looked_in}

-- the places behind the last that the test takes, counted from the back
pub behind : {A : Type 0} (test : A → Bool) (d : A) (l : List A) (n : ℕ) → n ≤ length l
    → position_or_len test (reverse (take n l)) + last_in (λ (i : ℕ). test (get_or l i d)) n ≡ n
unfolding last_in
behind test d l zero h = refl
behind test d l (suc n) h =
    rw (take-suc l n d (omega (arith, h)), reverse-append (take n l) (get_or l n d ∷ []))
    (go (test (get_or l n d)) (behind test d l n (omega (arith, h))))
  where
    go : (b : Bool) → position_or_len test (reverse (take n l)) + last_in (λ (i : ℕ). test (get_or l i d)) n ≡ n
        → cond (not b) (1 + position_or_len test (reverse (take n l))) 0 + cond b (suc n) (last_in (λ (i : ℕ). test (get_or l i d)) n) ≡ suc n
    go true e = omega arith
    go false e = omega arith

from_back : {A : Type 0} (s : Iter A) → YieldsList iter_steps_back (λ y. y.now) s (reverse (iter_rest s))
from_back s =
    YieldsList-from_shown iter_steps_back (λ y. y.now) (λ u. reverse (iter_rest u)) (λ u t p. length-reverse _ ∙ p.0)
    (λ u x t p. ap reverse p ∙ reverse-append (iter_rest t) (x.now ∷ [])) s

-- what `rposition` gives
pub searched_back : {A F : Type 0} {g : Mut F (Bor A × Unit {0}) Bool} {s : Iter A} (test : A → Bool) (d : A) (l : List A) (n : ℕ) (f : F) (r : Option ℕ) (u : Iter A)
    → n ≤ length l → iter_rest s ≡ take n l → FindsPositionBack iter_steps_back g s f (length (iter_rest s)) r u
    → ((x : Bor A) (b : Bool) (q : F) → Called g f (x, tt) b q → (q ≡ f) × (b ≡ test x.now))
    → r ≡ looked_in (last_in (λ (i : ℕ). test (get_or l i d)) n)
unfolding looked_in
searched_back {A} {F} {g} {s} test d l n f r u h e (xs, o, j, y, k, m) tests = go o y m
  where
    road : YieldsList iter_steps_back (λ z. z.now) s (reverse (take n l))
    road = subst (λ (t : List A). YieldsList iter_steps_back (λ z. z.now) s (reverse t)) e (from_back s)

    long : length (reverse (take n l)) ≡ n
    long = length-reverse (take n l) ∙ length-take n l ∙ omega (arith, h)

    count : length (iter_rest s) ≡ n
    count = ap length e ∙ length-take n l ∙ omega (arith, h)

    all : position_or_len test (reverse (take n l)) + last_in (λ (i : ℕ). test (get_or l i d)) n ≡ n
    all = behind test d l n h

    none : None ≡ cond (ltb (position_or_len test (reverse (take n l))) (length (reverse (take n l)))) (Some (position_or_len test (reverse (take n l)))) None
        → None ≡ looked_in (last_in (λ (i : ℕ). test (get_or l i d)) n)
    none q = by (ltb (position_or_len test (reverse (take n l))) (length (reverse (take n l)))) refl q
      where
        by : (b : Bool) → ltb (position_or_len test (reverse (take n l))) (length (reverse (take n l))) ≡ b
            → None ≡ cond b (Some (position_or_len test (reverse (take n l)))) None → None ≡ looked_in (last_in (λ (i : ℕ). test (get_or l i d)) n)
        by true b w = cc
        by false b w = at (last_in (λ (i : ℕ). test (get_or l i d)) n) (omega (arith, ltb-false _ _ b, long, all))
          where
            at : (v : ℕ) → v ≡ 0 → None ≡ looked_in v
            at v z = sym (ap looked_in z)

    some : (i : ℕ) → i + 1 + length xs ≡ n
        → Some (length xs) ≡ cond (ltb (position_or_len test (reverse (take n l))) (length (reverse (take n l)))) (Some (position_or_len test (reverse (take n l)))) None
        → Some i ≡ looked_in (last_in (λ (i : ℕ). test (get_or l i d)) n)
    some i w q = by (ltb (position_or_len test (reverse (take n l))) (length (reverse (take n l)))) q
      where
        by : (b : Bool) → Some (length xs) ≡ cond b (Some (position_or_len test (reverse (take n l)))) None → Some i ≡ looked_in (last_in (λ (i : ℕ). test (get_or l i d)) n)
        by false v = cc
        by true v =
            let p : length xs ≡ position_or_len test (reverse (take n l)) = cc in
            at (last_in (λ (i : ℕ). test (get_or l i d)) n) (omega (arith, all, p, w))
          where
            at : (v : ℕ) → v ≡ suc i → Some i ≡ looked_in v
            at v z = sym (ap looked_in z)

    found : (v : Option ℕ) → IsSomeAnd v (λ i. i + 1 + length xs ≡ length (iter_rest s))
        → Some (length xs) ≡ cond (ltb (position_or_len test (reverse (take n l))) (length (reverse (take n l)))) (Some (position_or_len test (reverse (take n l)))) None
        → v ≡ looked_in (last_in (λ (i : ℕ). test (get_or l i d)) n)
    found (Some i) w q = some i (w ∙ count) q
    found None w q = absurd w

    go : (o : Option (Bor A)) → YieldsThen iter_steps_back s xs o u
        → MatchOption o (r ≡ None) (λ x. IsSomeAnd r (λ i. i + 1 + length xs ≡ length (iter_rest s)) × ((v : F) × Called g j (x, tt) true v))
        → r ≡ looked_in (last_in (λ (i : ℕ). test (get_or l i d)) n)
    go None y m = m ∙ none (position_from_yields_List test u f None (xs, None, j, y, k, refl) road tests)
    go (Some x) y m = found r m.0 (position_from_yields_List test u f (Some (length xs)) (xs, Some x, j, y, k, (refl, m.1)) road tests)

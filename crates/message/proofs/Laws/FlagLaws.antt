-- Flags, as the library says `all`, `filter` and `count` of them.
use mathlib.Core.Path.{◌≡◌, refl, ap, ◌∙◌}
use mathlib.Core.Bool.{Bool, true, false, ◌&&◌, and-true, cond}
use mathlib.Core.List.{List}
use Prim.Native.Nat.{ℕ, zero, suc, ◌+◌, ◌≤◌}
use native.Mathlib.Nat.{add-zero, add-suc}
use native.Mathlib.Numerals.{add-one}
use native.Mathlib.Omega.{arith}
use lib.Dec.{eqb, ltb, leb}
use Rattle.std.specs.List.{list_all, filter, range_with_len}
use lib.ListN.{get_or, length, take}
use Rattle.std.proofs.Math.Bool.{and_assoc}
use Rattle.std.proofs.lemmas.List.Filters.{length-filter_more}
use Rattle.message.specs.Flags.{member, members, flags_within}
use Rattle.settings.specs.Count.{count, one_if}

-- each flag up to a place
within_from : (flags : List ℕ) (n a k : ℕ)
    → flags_within flags n a && list_all (λ (i : ℕ). leb (get_or flags i 0) (one_if (ltb i n))) (range_with_len a k) ≡ flags_within flags n (a + k)
unfolding flags_within
within_from flags n a zero = rw (add-zero a) (and-true (flags_within flags n a))
within_from flags n a (suc k) =
    rw (add-suc a k, ← and_assoc, add-one a)
    (within_from flags n (suc a) k ∙ ap (flags_within flags n) (let e : suc a + k ≡ suc (a + k) = omega arith in e))

pub within_is : (flags : List ℕ) (n k : ℕ) → list_all (λ (i : ℕ). leb (get_or flags i 0) (one_if (ltb i n))) (range_with_len 0 k) ≡ flags_within flags n k
unfolding flags_within
within_is flags n k = within_from flags n 0 k ∙ ap (flags_within flags n) (let e : 0 + k ≡ k = omega arith in e)

-- the flags of a set, filtered and counted
pub members_is : (flags : List ℕ) (n : ℕ) → n ≤ length flags → length (filter (λ (f : ℕ). eqb f 1) (take n flags)) ≡ members flags n
unfolding members count member
members_is flags zero h = refl
members_is flags (suc n) h =
    rw (← add-one n, length-filter_more (λ (f : ℕ). eqb f 1) flags n 0 (omega arith), members_is flags n (omega arith)) (one (eqb (get_or flags n 0) 1))
  where
    one : (b : Bool) → members flags n + cond b 1 0 ≡ members flags n + one_if b
    one true = refl
    one false = refl

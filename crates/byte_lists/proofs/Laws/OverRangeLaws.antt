-- A range as the library goes over it: `any` over the numbers below another is `some`, and an array made by a rule is a table.
use denote.Param.Members.{Mut}
use mathlib.Core.Path.{◌≡◌, refl, sym, ap, subst, ◌∙◌}
use mathlib.Core.Logic.{◌⊎◌, inl, inr}
use mathlib.Core.Bool.{Bool, ◌||◌}
use mathlib.Core.List.{List}
use Prim.Native.Nat.{ℕ, zero, suc, ◌+◌, ◌≤◌, ◌<◌}
use native.Mathlib.Nat.{add-zero, add-suc, eq-or-lt_of_le}
use native.Mathlib.Numerals.{add-one}
use native.Mathlib.Omega.{arith}
use lib.ListN.{get_or}
use Rattle.std.proofs.Math.Bool.{or_assoc, or-false}
use Rattle.std.proofs.iter.Yields.{nat_range_steps}
use Rattle.std.proofs.lemmas.Iterator.{YieldsList-from_range}
use Rattle.std.proofs.lemmas.Iterator.Search.{any_from_yields_List}
use Rattle.std.specs.Array.{IsFromFnResult, IsFromFnResultFrom}
use Rattle.std.specs.Fn.{Called}
use Rattle.std.specs.Iterator.{ChecksAny}
use Rattle.std.specs.List.{list_any, range_with_len}
use Rattle.std.specs.declared.ops.Range.{Range}
use Rattle.byte_lists.specs.Each.{some}
use Rattle.byte_lists.specs.Lists.{tabulate}
use Rattle.byte_lists.proofs.Laws.TabulateLaws.{tabulate_by}

some_from : (p : ℕ → Bool) (a k : ℕ) → some p a || list_any p (range_with_len a k) ≡ some p (a + k)
unfolding some
some_from p a zero = rw add-zero (or-false (some p a))
some_from p a (suc k) =
    rw (add-suc a k, ← or_assoc, add-one a) (some_from p (suc a) k ∙ ap (some p) (let e : suc a + k ≡ suc (a + k) = omega arith in e))

-- `any` over the numbers below n, by a closure that computes the test
pub some_from_any : {F : Type 0} {g : Mut F (ℕ × Unit {0}) Bool} {s : Range ℕ} (test : ℕ → Bool) (n : ℕ) (u : Range ℕ) (f : F) (r : Bool)
    → ChecksAny nat_range_steps g s f r u → s ≡ record { start = 0; end = n }
    → ((x : ℕ) (b : Bool) (q : F) → Called g f (x, tt) b q → (q ≡ f) × (b ≡ test x)) → r ≡ some test n
unfolding some
some_from_any test n u f r ran e h =
    any_from_yields_List test _ _ _ ran (YieldsList-from_range 0 n n e (omega arith)) h
    ∙ some_from test 0 n
    ∙ ap (some test) (let z : 0 + n ≡ n = omega arith in z)

-- the entries from i on of an array that `array::from_fn` made by a closure that computes the rule
made_from : {F : Type 0} {g : Mut F (ℕ × Unit {0}) ℕ} {f : F} (rule : ℕ → ℕ) (ys : List ℕ) (i n : ℕ) (q : F)
    → q ≡ f → IsFromFnResultFrom g q ys i n → ((x y : ℕ) (q : F) → Called g f (x, tt) y q → (q ≡ f) × (y ≡ rule x))
    → (k : ℕ) → i ≤ k → k < i + n → get_or ys k 0 ≡ rule k
made_from rule ys i zero q e m h k a b = absurd (omega arith)
made_from {F} {g} {f} rule ys i (suc n) q e m h k a b = go (eq-or-lt_of_le a) (λ l. made_from rule ys (i + 1) n m.0 now.0 m.4 h k l (omega arith))
  where
    now : (m.0 ≡ f) × (m.1 ≡ rule i)
    now = h i m.1 m.0 (subst (λ (p : F). Called g p (i, tt) m.1 m.0) e m.3)

    go : (i ≡ k) ⊎ (i < k) → (i + 1 ≤ k → get_or ys k 0 ≡ rule k) → get_or ys k 0 ≡ rule k
    go (inl z) ih = ap (λ (j : ℕ). get_or ys j 0) (sym z) ∙ m.2.1 0 ∙ now.1 ∙ ap rule z
    go (inr l) ih = ih (omega arith)

-- an array that `array::from_fn` made by a closure that computes the rule
pub tabulate_from_fn : {F : Type 0} {g : Mut F (ℕ × Unit {0}) ℕ} {f : F} (rule : ℕ → ℕ) (n : ℕ) (ys : List ℕ)
    → IsFromFnResult g f ys n → ((x y : ℕ) (q : F) → Called g f (x, tt) y q → (q ≡ f) × (y ≡ rule x)) → ys ≡ tabulate n rule
tabulate_from_fn {f = f} rule n ys m h = tabulate_by n rule ys m.long (λ k l. made_from rule ys 0 n f refl m.each h k (omega arith) (omega arith))

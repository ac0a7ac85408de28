-- A rule for each place below a number, as the library says `all` of a range.
use mathlib.Core.Path.{◌≡◌, ap, ◌∙◌}
use mathlib.Core.Bool.{Bool, ◌&&◌, and-true}
use Prim.Native.Nat.{ℕ, zero, suc, ◌+◌}
use native.Mathlib.Nat.{add-zero, add-suc}
use native.Mathlib.Numerals.{add-one}
use native.Mathlib.Omega.{arith}
use Rattle.byte_lists.specs.Each.{each}
use Rattle.std.proofs.Math.Bool.{and_assoc}
use Rattle.std.specs.List.{list_all, range_with_len}

each_from : (p : ℕ → Bool) (a k : ℕ) → each p a && list_all p (range_with_len a k) ≡ each p (a + k)
unfolding each
each_from p a zero = rw (add-zero a) (and-true (each p a))
each_from p a (suc k) =
    rw (add-suc a k, ← and_assoc, add-one a) (each_from p (suc a) k ∙ ap (each p) (let e : suc a + k ≡ suc (a + k) = omega arith in e))

pub each_is : (p : ℕ → Bool) (k : ℕ) → list_all p (range_with_len 0 k) ≡ each p k
unfolding each
each_is p k = each_from p 0 k ∙ ap (each p) (let e : 0 + k ≡ k = omega arith in e)

-- Counting, as the library says it: a range filtered and counted.
use mathlib.Core.Path.{◌≡◌, ap}
use mathlib.Core.Bool.{Bool, true, false, cond}
use mathlib.Core.List.{List, ◌∷◌}
use Prim.Native.Nat.{ℕ, zero, suc, ◌+◌}
use native.Mathlib.Nat.{add-zero}
use native.Mathlib.Numerals.{add-one}
use native.Mathlib.Omega.{arith}
use Rattle.std.specs.List.{filter, range_with_len}
use lib.ListN.{length}
use Rattle.settings.specs.Count.{count, one_if}

counted : (b : Bool) (a : ℕ) (l : List ℕ) → length (cond b (a ∷ l) l) ≡ one_if b + length l
counted true a l = omega arith
counted false a l = omega arith

count_from : (p : ℕ → Bool) (a k : ℕ) → count p a + length (filter p (range_with_len a k)) ≡ count p (a + k)
unfolding count
count_from p a zero = rw (add-zero a) (omega arith)
count_from p a (suc k) =
    rw (add-one a, counted (p a) a (filter p (range_with_len (suc a) k)))
    (let h = count_from p (suc a) k in let e = ap (count p) (let z : suc a + k ≡ a + suc k = omega arith in z) in omega arith)

-- the numbers below n that pass, filtered and counted
pub count_is : (p : ℕ → Bool) (n : ℕ) → length (filter p (range_with_len 0 n)) ≡ count p n
unfolding count
count_is p n = let h = count_from p 0 n in let e = ap (count p) (let z : 0 + n ≡ n = omega arith in z) in omega arith

-- The front of a buffer: zeros, and what a callee that it was lent to left there.
use mathlib.Core.Path.{◌≡◌, sym, ap, subst, ◌∙◌}
use mathlib.Core.List.{List, ◌++◌}
use Prim.Native.Nat.{ℕ, ◌≤◌}
use native.Mathlib.Omega.{arith}
use lib.ListN.{length, take, replicate, length-replicate, get_or-replicate}
use lib.Seq.{ext_get_or, length-take-le, get_or-take, take-append_seam}
use Rattle.bench_limits.specs.Limits.{stripe_room}

-- the front of a buffer of 32 zeros
pub front_zeros : (k : ℕ) → k ≤ stripe_room → take {A = ℕ} k (replicate stripe_room 0) ≡ replicate k 0
front_zeros k h =
    let t = length-take-le k (replicate {A = ℕ} stripe_room 0) h in
    ext_get_or 0 (take k (replicate stripe_room 0)) (replicate k 0) (t ∙ sym (length-replicate k 0))
    (λ i u. get_or-take k (replicate stripe_room 0) i 0 (omega arith) ∙ get_or-replicate stripe_room i 0 0 (omega arith) ∙ sym (get_or-replicate k i 0 0 (omega arith)))

-- what was lent at the front of a buffer, read again; and a copy that was made there
pub front_same : (k : ℕ) (x rest : List ℕ) → length x ≡ k → take k (x ++ rest) ≡ x
front_same k x rest e = subst (λ (j : ℕ). take j (x ++ rest) ≡ x) e (take-append_seam x rest)

pub front_is : (k : ℕ) (x rest room : List ℕ) → k ≤ length room → length x ≡ length (take k room) → take k (x ++ rest) ≡ x
front_is k x rest room h l = front_same k x rest (l ∙ length-take-le k room h)

pub front_part : (k : ℕ) (x rest room part : List ℕ) → k ≤ length room → length x ≡ length (take k room) → x ≡ take (length (take k room)) part
    → take k (x ++ rest) ≡ take k part
front_part k x rest room part h l e = front_is k x rest room h l ∙ e ∙ ap (λ (j : ℕ). take j part) (length-take-le k room h)

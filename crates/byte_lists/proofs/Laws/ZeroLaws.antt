-- Zeros cut and joined.
use mathlib.Core.Path.{◌≡◌, refl, sym, ap, ◌∙◌}
use mathlib.Core.List.{List, ◌++◌}
use Prim.Native.Nat.{ℕ, ◌+◌, ◌-◌, ◌≤◌, ◌<◌}
use native.Mathlib.Decide.{dec_lt}
use native.Mathlib.Omega.{arith}
use lib.ListN.{length, get_or, take, drop, replicate, length-replicate, replicate-append-replicate, get_or-replicate, get_or-eq_default}
use lib.Seq.{take_at, drop_at}
use Rattle.byte_lists.specs.Lists.{zeros}

-- zeros in two parts
pub zeros_append : (a b : ℕ) → zeros (a + b) ≡ zeros a ++ zeros b
unfolding zeros
zeros_append a b = sym (replicate-append-replicate a b 0)

pub zeros_length : (n : ℕ) → length (zeros n) ≡ n
unfolding zeros
zeros_length n = length-replicate n 0

-- every entry is 0, and so is what stands past the end
pub zeros_at : (n i : ℕ) → get_or (zeros n) i 0 ≡ 0
unfolding zeros
zeros_at n i = by (dec_lt i n)
  where
    by : Dec (i < n) → get_or (zeros n) i 0 ≡ 0
    by (yes h) = get_or-replicate n i 0 0 h
    by (no h) = get_or-eq_default (zeros n) 0 {n = i} (let l = zeros_length n in omega arith)

pub zeros_take : (n k : ℕ) → k ≤ n → take k (zeros n) ≡ zeros k
zeros_take n k h =
    let e : k + (n - k) ≡ n = omega arith in
    ap (λ (m : ℕ). take k (zeros m)) (sym e) ∙ ap (λ (l : List ℕ). take k l) (zeros_append k (n - k))
    ∙ take_at (zeros k) (zeros (n - k)) k (zeros_length k)

pub zeros_drop : (n k : ℕ) → k ≤ n → drop k (zeros n) ≡ zeros (n - k)
zeros_drop n k h =
    let e : k + (n - k) ≡ n = omega arith in
    ap (λ (m : ℕ). drop k (zeros m)) (sym e) ∙ ap (λ (l : List ℕ). drop k l) (zeros_append k (n - k))
    ∙ drop_at (zeros k) (zeros (n - k)) k (zeros_length k)

-- as the library repeats a number
pub zero_list : (k : ℕ) → zeros k ≡ replicate k 0
unfolding zeros
zero_list k = refl

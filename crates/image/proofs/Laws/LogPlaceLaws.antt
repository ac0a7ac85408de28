-- A log by place: the times rise, and a brick keeps to the rules if each of its places does.
use mathlib.Core.Path.{◌≡◌, refl, sym, ap, subst}
use mathlib.Core.Bool.{Bool, true, false, ◌||◌}
use Prim.Native.Nat.{ℕ, zero, suc, ◌+◌, ◌-◌, ◌≤◌, ◌<◌}
use native.Mathlib.Omega.{arith}
use native.Mathlib.Nat.{le_refl}
use lib.Dec.{eqb}
use lib.ListN.{length}
use borrow.Author.Tests.{lt-ltb, ltb-true, ne_eqb}
use Rattle.settings.specs.Times.{valid_time}
use Rattle.settings.specs.declared.Settings.{Settings}
use Rattle.byte_lists.specs.Lists.{zeros}
use Rattle.image.specs.Brick.{Brick, fresh_brick, entry_count, time_at, means_at, mark_at, newest, saved_time, rises_at, Sound}

pub saved_valid : (t : ℕ) → valid_time t ≡ true → saved_time t ≡ true
unfolding saved_time
saved_valid t e = go (eqb t 0)
  where
    go : (b : Bool) → b || valid_time t ≡ true
    go true = refl
    go false = e

-- the newest is the time at the last place
pub newest_at : (x : Brick) (n : ℕ) → entry_count x - 1 ≡ n → newest x ≡ time_at x n
unfolding newest
newest_at x n e = ap (λ (k : ℕ). time_at x k) e

-- times rise
pub rises_next : (s : Settings) (x : Brick) → Sound s x → (i : ℕ) → suc i < entry_count x → time_at x i < time_at x (suc i)
unfolding rises_at
rises_next s x r i h =
    let e = (r.entries (suc i) h).rises in
    let m : suc i - 1 ≡ i = omega arith in
    subst (λ (k : ℕ). time_at x k < time_at x (suc i)) m
    (ltb-true (time_at x (suc i - 1)) (time_at x (suc i)) (rw (ne_eqb (suc i) 0 (λ q. omega (arith, q))) at e))

pub rises_add : (s : Settings) (x : Brick) → Sound s x → (i j : ℕ) → i + j < entry_count x → time_at x i ≤ time_at x (i + j)
rises_add s x r i zero h = let m : i + 0 ≡ i = omega arith in subst (λ (k : ℕ). time_at x i ≤ time_at x k) (sym m) (le_refl _)
rises_add s x r i (suc j) h =
    let m : i + suc j ≡ suc (i + j) = omega arith in
    let ih = rises_add s x r i j (omega arith) in
    let up = rises_next s x r (i + j) (omega arith) in
    subst (λ (k : ℕ). time_at x i ≤ time_at x k) (sym m) (omega arith)

pub rises_to : (s : Settings) (x : Brick) → Sound s x → (i j : ℕ) → i ≤ j → j < entry_count x → time_at x i ≤ time_at x j
rises_to s x r i j h k =
    let m : i + (j - i) ≡ j = omega arith in
    subst (λ (n : ℕ). time_at x i ≤ time_at x n) m (rises_add s x r i (j - i) (omega arith))

pub rises_above : (s : Settings) (x : Brick) → Sound s x → (i j : ℕ) → i < j → j < entry_count x → time_at x i < time_at x j
rises_above s x r i j h c =
    let a = rises_next s x r i (omega arith) in
    let b = rises_to s x r (suc i) j (omega arith) c in
    omega arith

-- no entry is above the newest
pub at_most_newest : (s : Settings) (x : Brick) → Sound s x → (i : ℕ) → i < entry_count x → time_at x i ≤ newest x
at_most_newest s x r i h =
    let e = newest_at x (entry_count x - 1) refl in
    let up = rises_to s x r i (entry_count x - 1) (omega arith) (omega arith) in
    omega arith

-- the lowest entry is no mark
pub lowest_held_lem : (s : Settings) (x : Brick) → Sound s x → mark_at x 0 ≡ false
lowest_held_lem s x r = go (mark_at x 0) refl
  where
    go : (b : Bool) → mark_at x 0 ≡ b → mark_at x 0 ≡ false
    go false e = e
    go true e = absurd (omega (arith, ((r.entries 0 (omega (arith, r.count_low))).marked e).0))

-- the rules, place by place
rises_of : (x : Brick) (i : ℕ) → time_at x i < time_at x (suc i) → rises_at x (suc i) ≡ true
unfolding rises_at
rises_of x i h =
    let m : suc i - 1 ≡ i = omega arith in
    rw (ne_eqb (suc i) 0 (λ q. omega (arith, q)))
    (lt-ltb (time_at x (suc i - 1)) (time_at x (suc i)) (subst (λ (k : ℕ). time_at x k < time_at x (suc i)) (sym m) h))

rises_first : (x : Brick) → rises_at x 0 ≡ true
unfolding rises_at
rises_first x = refl

pub sound_of : (s : Settings) (x : Brick) → 1 ≤ entry_count x → entry_count x ≤ s.capacity → saved_time x.promise ≡ true
    → ((i : ℕ) → i < entry_count x → saved_time (time_at x i) ≡ true)
    → ((i : ℕ) → suc i < entry_count x → time_at x i < time_at x (suc i))
    → ((i : ℕ) → i < entry_count x → length (means_at x i) ≡ s.size)
    → ((i : ℕ) → i < entry_count x → mark_at x i ≡ true → (0 < i) × (means_at x i ≡ means_at x (i - 1))) → Sound s x
sound_of s x low high promise saved rises sized marked =
    record {
      count_low = low;
      count-high = high;
      promise-saved = promise;
      entries = λ i h. record { saved = saved i h; rises = up i h; sized = sized i h; marked = marked i h };
    }
  where
    up : (i : ℕ) → i < entry_count x → rises_at x i ≡ true
    up zero h = rises_first x
    up (suc i) h = rises_of x i (rises i h)

-- a fresh brick: one place, of time 0 and a zero block
pub fresh_count : (s : Settings) → entry_count (fresh_brick s) ≡ 1
unfolding entry_count fresh_brick
fresh_count s = refl

pub fresh_time : (s : Settings) → time_at (fresh_brick s) 0 ≡ 0
unfolding time_at fresh_brick
fresh_time s = refl

pub fresh_means : (s : Settings) → means_at (fresh_brick s) 0 ≡ zeros s.size
unfolding means_at fresh_brick
fresh_means s = refl

-- The bricks of a row are different, below n, and what they should be: the targets, or those that gave the chosen time.
use mathlib.Core.Path.{◌≡◌, refl, sym, ap, ◌∙◌, subst}
use mathlib.Core.Bool.{Bool, true, false, cond}
use mathlib.Core.List.{List, [], ◌∷◌, ◌++◌, append-nil}
use mathlib.Core.Logic.{◌⊎◌, inl, inr}
use Prim.Native.Nat.{ℕ, zero, suc, ◌+◌, ◌-◌, ◌≤◌, ◌<◌}
use native.Mathlib.Decide.{dec_lt}
use native.Mathlib.Nat.{not-suc-le-zero}
use native.Mathlib.Omega.{arith}
use lib.Dec.{ltb}
use lib.ListN.{length, get_or, take, length-append, get_or-append}
use lib.Seq.{ext_get_or, get_or_at, get_or-take, length-take-le}
use borrow.Author.Tests.{lt-ltb, ltb-true, ltb-false}
use Rattle.coord_tally.specs.Counting.{passing, in_row, givers, picked, at_times, upward, target_row}
use Rattle.interpolate.specs.Values.{PointSet}
use Rattle.byte_lists.proofs.Laws.TabulateLaws.{length_tabulate, get_d_tabulate}
use Rattle.settings.specs.Count.{count, one_if}
use Rattle.settings.proofs.Laws.CountLaws.{count_at_most}
use Rattle.settings.specs.Ranges.{max_bricks}

-- one more brick: as it was below, the brick itself at the end
pub more_below : (l : List ℕ) (k i : ℕ) → i < length l → get_or (l ++ (k ∷ [])) i 0 ≡ get_or l i 0
more_below l k i h = get_or-append l (k ∷ []) 0 i h

more_at : (l : List ℕ) (k i : ℕ) → (i < length l → ⊥) → i < length (l ++ (k ∷ [])) → get_or (l ++ (k ∷ [])) i 0 ≡ k
more_at l k i h u = get_or_at l k [] 0 i (let e = length-append l (k ∷ []) in let past : length l ≤ i = omega arith in omega arith)

pub passing_long : (p : ℕ → Bool) (k : ℕ) → length (passing p k) ≡ count p k
unfolding passing count
passing_long p zero = refl
passing_long p (suc k) = go (p k) (passing_long p k)
  where
    go : (b : Bool) → length (passing p k) ≡ count p k → length (passing p k ++ cond b (k ∷ []) []) ≡ count p k + one_if b
    go true e = length-append (passing p k) (k ∷ []) ∙ (let q = e in omega arith)
    go false e = ap length (append-nil (passing p k)) ∙ (let q = e in omega arith)

pub passing_below : (p : ℕ → Bool) (k i : ℕ) → i < length (passing p k) → get_or (passing p k) i 0 < k
unfolding passing
passing_below p zero i h = absurd (not-suc-le-zero h)
passing_below p (suc k) i h = go (p k) h (dec_lt i (length (passing p k))) (passing_below p k i)
  where
    go : (b : Bool) → i < length (passing p k ++ cond b (k ∷ []) []) → Dec (i < length (passing p k))
        → (i < length (passing p k) → get_or (passing p k) i 0 < k) → get_or (passing p k ++ cond b (k ∷ []) []) i 0 < suc k
    go true u (yes w) ih = let e = more_below (passing p k) k i w in let q = ih w in omega arith
    go true u (no w) ih = let e = more_at (passing p k) k i w u in omega arith
    go false u d ih =
        let e = append-nil (passing p k) in
        subst (λ (l : List ℕ). get_or l i 0 < suc k) (sym e) (let q = ih (subst (λ (l : List ℕ). i < length l) e u) in omega arith)

pub passing_rises : (p : ℕ → Bool) (k i j : ℕ) → i < j → j < length (passing p k) → get_or (passing p k) i 0 < get_or (passing p k) j 0
unfolding passing
passing_rises p zero i j l h = absurd (not-suc-le-zero h)
passing_rises p (suc k) i j l h = go (p k) h (dec_lt j (length (passing p k))) (passing_rises p k i j l) (passing_below p k i)
  where
    go : (b : Bool) → j < length (passing p k ++ cond b (k ∷ []) []) → Dec (j < length (passing p k))
        → (j < length (passing p k) → get_or (passing p k) i 0 < get_or (passing p k) j 0)
        → (i < length (passing p k) → get_or (passing p k) i 0 < k)
        → get_or (passing p k ++ cond b (k ∷ []) []) i 0 < get_or (passing p k ++ cond b (k ∷ []) []) j 0
    go true u (yes w) ih bl =
        let e = more_below (passing p k) k i (omega arith) in let f = more_below (passing p k) k j w in let q = ih w in omega arith
    go true u (no w) ih bl =
        let z = length-append (passing p k) (k ∷ []) in
        let s : i < length (passing p k) = omega arith in
        let e = more_below (passing p k) k i s in let f = more_at (passing p k) k j w u in let q = bl s in omega arith
    go false u d ih bl =
        let e = append-nil (passing p k) in
        subst (λ (l : List ℕ). get_or l i 0 < get_or l j 0) (sym e) (ih (subst (λ (l : List ℕ). j < length l) e u))

-- entries that rise are different
pub rising_differ : (l : List ℕ) (m : ℕ) → ((i j : ℕ) → i < j → j < m → get_or l i 0 < get_or l j 0)
    → (i j : ℕ) → i < m → j < m → get_or l i 0 ≡ get_or l j 0 → i ≡ j
rising_differ l m rises i j u w q = go (dec_lt i j) (dec_lt j i)
  where
    go : Dec (i < j) → Dec (j < i) → i ≡ j
    go (yes a) d = absurd (let r = rises i j a w in omega (arith, r, q))
    go (no a) (yes b) = absurd (let r = rises j i b u in omega (arith, r, q))
    go (no a) (no b) = omega (arith, a, b)

pub passing_differ : (p : ℕ → Bool) (k i j : ℕ) → i < length (passing p k) → j < length (passing p k) → get_or (passing p k) i 0 ≡ get_or (passing p k) j 0 → i ≡ j
passing_differ p k = rising_differ (passing p k) (length (passing p k)) (passing_rises p k)

-- each of them passes
pub passing_holds : (p : ℕ → Bool) (k i : ℕ) → i < length (passing p k) → p (get_or (passing p k) i 0) ≡ true
unfolding passing
passing_holds p zero i h = absurd (not-suc-le-zero h)
passing_holds p (suc k) i h = go (p k) refl h (dec_lt i (length (passing p k))) (passing_holds p k i)
  where
    go : (b : Bool) → p k ≡ b → i < length (passing p k ++ cond b (k ∷ []) []) → Dec (i < length (passing p k))
        → (i < length (passing p k) → p (get_or (passing p k) i 0) ≡ true) → p (get_or (passing p k ++ cond b (k ∷ []) []) i 0) ≡ true
    go true e u (yes w) ih = ap p (more_below (passing p k) k i w) ∙ ih w
    go true e u (no w) ih = ap p (more_at (passing p k) k i w u) ∙ e
    go false e u d ih =
        let z = append-nil (passing p k) in
        ap (λ (l : List ℕ). p (get_or l i 0)) z ∙ ih (subst (λ (l : List ℕ). i < length l) z u)

-- A row whose first m bricks are different is a set of points.
pub row_set : (m : ℕ) (row : List ℕ) → length row ≡ max_bricks → m ≤ max_bricks → ((i j : ℕ) → i < m → j < m → get_or row i 0 ≡ get_or row j 0 → i ≡ j) → PointSet (take m row)
row_set m row e h d =
    let long = length-take-le m row (omega arith) in
    record {
      few = omega arith;
      differ = λ i j u w q. d i j (omega arith) (omega arith) (sym (get_or-take m row i 0 (omega arith)) ∙ q ∙ get_or-take m row j 0 (omega arith));
    }

-- the first m bricks that pass, where there are as many
module _ (flags found : List ℕ) (time n m : ℕ) (enough : m ≤ count (at_times flags found time) n) (few : m ≤ max_bricks) where
  pub picked_at_lem : (i : ℕ) → i < m → get_or (picked flags found time n m) i 0 ≡ get_or (passing (at_times flags found time) n) i 0
  unfolding picked in_row
  picked_at_lem i h =
      get_d_tabulate max_bricks (λ (k : ℕ). get_or (take m (passing (at_times flags found time) n)) k 0) i (omega arith)
      ∙ get_or-take m (passing (at_times flags found time) n) i 0 h

  pub picked_below : (i : ℕ) → i < m → get_or (picked flags found time n m) i 0 < n
  picked_below i h =
      let e = picked_at_lem i h in
      let l = passing_long (at_times flags found time) n in
      let b = passing_below (at_times flags found time) n i (omega arith) in omega arith

  pub picked_rises : (i j : ℕ) → i < j → j < m → get_or (picked flags found time n m) i 0 < get_or (picked flags found time n m) j 0
  picked_rises i j l h =
      let e = picked_at_lem i (omega arith) in
      let f = picked_at_lem j h in
      let z = passing_long (at_times flags found time) n in
      let b = passing_rises (at_times flags found time) n i j l (omega arith) in omega arith

-- all that pass, in a row
module _ (flags found : List ℕ) (time n : ℕ) (few : n ≤ max_bricks) where
  pub giver_at : (i : ℕ) → i < count (at_times flags found time) n → get_or (picked flags found time n n) i 0 ≡ get_or (givers flags found time n) i 0
  unfolding picked in_row
  giver_at i h =
      let m = count_at_most (at_times flags found time) n in
      get_d_tabulate max_bricks (λ (k : ℕ). get_or (take n (passing (at_times flags found time) n)) k 0) i (omega arith)
      ∙ get_or-take n (passing (at_times flags found time) n) i 0 (omega arith)

  pub givers_cut : take (count (at_times flags found time) n) (picked flags found time n n) ≡ givers flags found time n
  unfolding picked in_row
  givers_cut =
      let k = count (at_times flags found time) n in
      let row = picked flags found time n n in
      let m = count_at_most (at_times flags found time) n in
      let z = passing_long (at_times flags found time) n in
      let e = length_tabulate max_bricks (λ (k : ℕ). get_or (take n (passing (at_times flags found time) n)) k 0) in
      let w = length-take-le k row (omega arith) in
      ext_get_or 0 (take k row) (givers flags found time n) (w ∙ sym z) (λ i u. get_or-take k row i 0 (omega arith) ∙ giver_at i (omega arith))

  pub giver_below : (i : ℕ) → i < count (at_times flags found time) n → get_or (picked flags found time n n) i 0 < n
  giver_below i h =
      let e = giver_at i h in
      let z = passing_long (at_times flags found time) n in
      let b = passing_below (at_times flags found time) n i (omega arith) in omega arith

  pub givers_differ : (i j : ℕ) → i < count (at_times flags found time) n → j < count (at_times flags found time) n
      → get_or (picked flags found time n n) i 0 ≡ get_or (picked flags found time n n) j 0 → i ≡ j
  givers_differ i j u w q =
      passing_differ (at_times flags found time) n i j (let z = passing_long (at_times flags found time) n in omega arith)
      (let z = passing_long (at_times flags found time) n in omega arith) (sym (giver_at i u) ∙ q ∙ giver_at j w)

-- the targets
module _ (n m first : ℕ) (few : n ≤ max_bricks) (within : m ≤ n) (start : first < n) where
  pub target_at : (i : ℕ) → i < m → get_or (target_row n m first) i 0 ≡ upward n first i
  unfolding target_row
  target_at i h =
      get_d_tabulate max_bricks (λ (k : ℕ). cond (ltb k m) (upward n first k) 0) i (omega arith) ∙ rw (lt-ltb i m h)

  pub target_long : length (target_row n m first) ≡ max_bricks
  unfolding target_row
  target_long = length_tabulate max_bricks (λ (k : ℕ). cond (ltb k m) (upward n first k) 0)

  up_cases : (i : ℕ) → ((first + i < n) × (upward n first i ≡ first + i)) ⊎ ((n ≤ first + i) × (upward n first i ≡ first + i - n))
  unfolding upward
  up_cases i = go (ltb (first + i) n) refl
    where
      go : (b : Bool) → ltb (first + i) n ≡ b
          → ((first + i < n) × (cond b (first + i) (first + i - n) ≡ first + i)) ⊎ ((n ≤ first + i) × (cond b (first + i) (first + i - n) ≡ first + i - n))
      go true e = inl (ltb-true (first + i) n e, refl)
      go false e = inr (ltb-false (first + i) n e, refl)

  pub target_below : (i : ℕ) → i < m → get_or (target_row n m first) i 0 < n
  target_below i h = go (up_cases i)
    where
      go : ((first + i < n) × (upward n first i ≡ first + i)) ⊎ ((n ≤ first + i) × (upward n first i ≡ first + i - n)) → get_or (target_row n m first) i 0 < n
      go (inl w) = let e = target_at i h in omega (arith, w.0, w.1)
      go (inr w) = let e = target_at i h in omega (arith, w.0, w.1)

  pub target_set : PointSet (take m (target_row n m first))
  target_set = row_set m (target_row n m first) target_long (omega arith) (λ i j u w q. go i j u w q (up_cases i) (up_cases j))
    where
      go : (i j : ℕ) → i < m → j < m → get_or (target_row n m first) i 0 ≡ get_or (target_row n m first) j 0
          → ((first + i < n) × (upward n first i ≡ first + i)) ⊎ ((n ≤ first + i) × (upward n first i ≡ first + i - n))
          → ((first + j < n) × (upward n first j ≡ first + j)) ⊎ ((n ≤ first + j) × (upward n first j ≡ first + j - n)) → i ≡ j
      go i j u w q (inl a) (inl b) = let e = target_at i u in let f = target_at j w in omega (arith, a.1, b.1)
      go i j u w q (inl a) (inr b) = let e = target_at i u in let f = target_at j w in omega (arith, a.0, a.1, b.0, b.1)
      go i j u w q (inr a) (inl b) = let e = target_at i u in let f = target_at j w in omega (arith, a.0, a.1, b.0, b.1)
      go i j u w q (inr a) (inr b) = let e = target_at i u in let f = target_at j w in omega (arith, a.0, a.1, b.0, b.1)

-- What a Drop leaves, place by place. Only this module walks along `dropped`. All of it holds of any brick.
use mathlib.Core.Path.{◌≡◌, refl, sym, ap, subst, ◌∙◌}
use mathlib.Core.Bool.{Bool, true, false, cond, not, true≢false}
use mathlib.Core.List.{List, [], ◌∷◌, ◌++◌}
use Prim.Native.Nat.{ℕ, zero, suc, ◌+◌, ◌-◌, ◌≤◌, ◌<◌}
use native.Mathlib.Omega.{arith}
use native.Mathlib.Decide.{ℕ_discrete, dec_lt}
use lib.ListN.{length, take, drop, get_or}
use borrow.Author.Count.{below_more}
use borrow.Author.Tests.{eq-eqb, ne_eqb}
use Rattle.settings.specs.declared.Settings.{Settings}
use Rattle.image.specs.Brick.{Brick, LogEntry, no_entry, entry_count, time_at, means_at, mark_at, Sound}
use Rattle.image_write.specs.Saving.{lowest_held}
use Rattle.image_write.specs.Workers.{held_if, removed}
use Rattle.image_write.proofs.Laws.RemovedLaws.{removed_count, removed_lowest, removed_mark, removed_sound}
use Rattle.image_write.proofs.Laws.RemovedLaws.{moved, moved_below, moved_above, moved_low, time_moved, means_moved}
use Rattle.brick_log.specs.BrickRules.{dropped, dropped_from}

-- "and the promise remains"
pub drop_promise : (x : Brick) (t : ℕ) → (dropped_from x t).promise ≡ x.promise
unfolding dropped_from
drop_promise x t = refl

-- the first of n places whose time is t
pub record First (times : ℕ → ℕ) (n t i : ℕ) : Type 0 where
  pub low : i < n
  pub is : times i ≡ t
  pub before : (j : ℕ) → j < i → times j ≡ t → ⊥

first_or_none : (times : ℕ → ℕ) (n t : ℕ) (P : Type 0) → (((j : ℕ) → j < n → times j ≡ t → ⊥) → P) → ((i : ℕ) → First times n t i → P) → P
first_or_none times zero t P none one = none (λ j h e. omega (arith, h))
first_or_none times (suc n) t P none one = first_or_none times n t P (λ b. go b (ℕ_discrete (times n) t)) (λ i f. one i (record { low = omega (arith, f.low); is = f.is; before = f.before }))
  where
    go : ((j : ℕ) → j < n → times j ≡ t → ⊥) → Dec (times n ≡ t) → P
    go b (yes e) = one n (record { low = omega arith; is = e; before = b })
    go b (no e) = none (λ j h. below_more (λ (k : ℕ). times k ≡ t → ⊥) n b e j (omega (arith, h)))

-- along the log: the entry of time t goes,
dropped_at : (t : ℕ) (log : List LogEntry) (i : ℕ) → First (λ (j : ℕ). (get_or log j no_entry).time) (length log) t i
    → dropped t log ≡ take i log ++ held_if (not (get_or log i no_entry).mark) (drop (i + 1) log)
unfolding dropped held_if
dropped_at t [] i f = absurd (omega (arith, f.low))
dropped_at t (e ∷ log) zero f = rw (eq-eqb e.time t f.is) (go e.mark)
  where
    go : (b : Bool) → cond b log (lowest_held log) ≡ cond (not b) (lowest_held log) log
    go true = refl
    go false = refl
dropped_at t (e ∷ log) (suc i) f =
    let m : suc (i + 1) ≡ suc i + 1 = omega arith in
    rw (ne_eqb e.time t (f.before 0 (omega arith)))
    (ap (λ (l : List LogEntry). e ∷ l)
    (dropped_at t log i (record { low = omega (arith, f.low); is = f.is; before = λ j h q. f.before (suc j) (omega (arith, h)) q }))
    ∙ ap (λ (k : ℕ). e ∷ take i log ++ held_if (not (get_or log i no_entry).mark) (drop k (e ∷ log))) m)

-- and a log without that time stays as it is
dropped_none : (t : ℕ) (log : List LogEntry) → ((j : ℕ) → j < length log → (get_or log j no_entry).time ≡ t → ⊥) → dropped t log ≡ log
unfolding dropped
dropped_none t [] b = refl
dropped_none t (e ∷ log) b =
    rw (ne_eqb e.time t (b 0 (omega arith))) (ap (λ (l : List LogEntry). e ∷ l) (dropped_none t log (λ j h q. b (suc j) (omega (arith, h)) q)))

-- "unless it is the only one it has",
pub drop_only : (x : Brick) (t : ℕ) → entry_count x ≡ 1 → dropped_from x t ≡ x
unfolding dropped_from
drop_only x t e = rw (eq-eqb (entry_count x) 1 e) refl

-- a time that is not in the log changes nothing,
pub drop_absent : (x : Brick) (t : ℕ) → ((j : ℕ) → j < entry_count x → time_at x j ≡ t → ⊥) → dropped_from x t ≡ x
unfolding dropped_from time_at entry_count
drop_absent x t b = go (ℕ_discrete (entry_count x) 1)
  where
    go : Dec (entry_count x ≡ 1) → dropped_from x t ≡ x
    go (yes e) = drop_only x t e
    go (no e) = rw (ne_eqb (entry_count x) 1 e) (ap (λ (l : List LogEntry). record { promise = x.promise; log = l }) (dropped_none t x.log b))

-- and otherwise "a brick drops that entry"; the entry above has its block then, unless what goes is a mark.
pub drop_at_lem : (x : Brick) (t i : ℕ) → (entry_count x ≡ 1 → ⊥) → First (time_at x) (entry_count x) t i → dropped_from x t ≡ removed x i 1 (not (mark_at x i))
unfolding dropped_from removed time_at mark_at entry_count
drop_at_lem x t i n f = rw (ne_eqb (length x.log) 1 n) (ap (λ (l : List LogEntry). record { promise = x.promise; log = l }) (dropped_at t x.log i f))

-- the two ways
drop_either : (x : Brick) (t : ℕ) (P : Brick → Type 0) → P x
    → ((i : ℕ) → (entry_count x ≡ 1 → ⊥) → First (time_at x) (entry_count x) t i → P (removed x i 1 (not (mark_at x i)))) → P (dropped_from x t)
drop_either x t P stays goes = go (ℕ_discrete (entry_count x) 1)
  where
    go : Dec (entry_count x ≡ 1) → P (dropped_from x t)
    go (yes e) = subst P (sym (drop_only x t e)) stays
    go (no e) =
        first_or_none (time_at x) (entry_count x) t (P (dropped_from x t)) (λ b. subst P (sym (drop_absent x t b)) stays)
        (λ i f. subst P (sym (drop_at_lem x t i e f)) (goes i e f))

one_within : (x : Brick) (t i : ℕ) → First (time_at x) (entry_count x) t i → i + 1 ≤ entry_count x
one_within x t i f = omega (arith, f.low)

-- every entry of another time stays,
pub drop_keeps : (x : Brick) (t i : ℕ) → i < entry_count x → (time_at x i ≡ t → ⊥)
    → (j : ℕ) × (j < entry_count (dropped_from x t)) × (time_at (dropped_from x t) j ≡ time_at x i) × (means_at (dropped_from x t) j ≡ means_at x i)
drop_keeps x t i h n =
    drop_either x t (λ (y : Brick). (j : ℕ) × (j < entry_count y) × (time_at y j ≡ time_at x i) × (means_at y j ≡ means_at x i)) (i, h, refl, refl) goes
  where
    goes : (k : ℕ) → (entry_count x ≡ 1 → ⊥) → First (time_at x) (entry_count x) t k
        → (j : ℕ) × (j < entry_count (removed x k 1 (not (mark_at x k)))) × (time_at (removed x k 1 (not (mark_at x k))) j ≡ time_at x i)
        × (means_at (removed x k 1 (not (mark_at x k))) j ≡ means_at x i)
    goes k m f = by (dec_lt i k)
      where
        within : k + 1 ≤ entry_count x
        within = one_within x t k f

        stays : (j : ℕ) → j < entry_count x - 1 → moved k 1 j ≡ i
            → (j : ℕ) × (j < entry_count (removed x k 1 (not (mark_at x k)))) × (time_at (removed x k 1 (not (mark_at x k))) j ≡ time_at x i)
            × (means_at (removed x k 1 (not (mark_at x k))) j ≡ means_at x i)
        stays j l e = (
          j,
          omega (arith, l, removed_count x k 1 (not (mark_at x k)) within),
          time_moved x k 1 (not (mark_at x k)) within j ∙ ap (time_at x) e,
          means_moved x k 1 (not (mark_at x k)) within j ∙ ap (means_at x) e,
        )

        by : Dec (i < k) → (j : ℕ) × (j < entry_count (removed x k 1 (not (mark_at x k)))) × (time_at (removed x k 1 (not (mark_at x k))) j ≡ time_at x i)
            × (means_at (removed x k 1 (not (mark_at x k))) j ≡ means_at x i)
        by (yes w) = stays i (omega (arith, w, within)) (moved_below k 1 i w)
        by (no w) =
            let other : i ≡ k → ⊥ = λ q. n (ap (time_at x) q ∙ f.is) in
            let up : k < i = above w other in
            stays (i - 1) (omega (arith, h, up)) (moved_above k 1 (i - 1) (omega (arith, up)) ∙ back up)
          where
            above : (i < k → ⊥) → (i ≡ k → ⊥) → k < i
            above a b = omega (arith, a, b)

            back : k < i → i - 1 + 1 ≡ i
            back up = omega (arith, up)

-- and nothing is added
pub drop_from : (x : Brick) (t j : ℕ) → j < entry_count (dropped_from x t)
    → (i : ℕ) × (i < entry_count x) × (time_at (dropped_from x t) j ≡ time_at x i) × (means_at (dropped_from x t) j ≡ means_at x i)
drop_from x t j =
    drop_either x t
    (λ (y : Brick). j < entry_count y → (i : ℕ) × (i < entry_count x) × (time_at y j ≡ time_at x i) × (means_at y j ≡ means_at x i))
    (λ h. (j, h, refl, refl))
    (λ k m f h.
    let within = one_within x t k f in (
      moved k 1 j,
      moved_low x k 1 (not (mark_at x k)) within j h,
      time_moved x k 1 (not (mark_at x k)) within j,
      means_moved x k 1 (not (mark_at x k)) within j,
    ))

-- A log never becomes empty,
pub drop_not_empty : (x : Brick) (t : ℕ) → 1 ≤ entry_count x → 1 ≤ entry_count (dropped_from x t)
drop_not_empty x t h =
    drop_either x t (λ (y : Brick). 1 ≤ entry_count y) h
    (λ k m f. some k (removed_count x k 1 (not (mark_at x k)) (one_within x t k f)) m)
  where
    some : (k : ℕ) → entry_count (removed x k 1 (not (mark_at x k))) ≡ entry_count x - 1 → (entry_count x ≡ 1 → ⊥)
        → 1 ≤ entry_count (removed x k 1 (not (mark_at x k)))
    some k e m = omega (arith, h, e, m)

-- and a brick that keeps to the rules keeps to them: the mark above a block that goes becomes that block, one above a mark has it below.
pub dropped_sound : (s : Settings) (x : Brick) (t : ℕ) → Sound s x → Sound s (dropped_from x t)
dropped_sound s x t r = drop_either x t (λ (y : Brick). Sound s y) r goes
  where
    goes : (k : ℕ) → (entry_count x ≡ 1 → ⊥) → First (time_at x) (entry_count x) t k → Sound s (removed x k 1 (not (mark_at x k)))
    goes k m f =
        removed_sound x k 1 (not (mark_at x k)) within s r (two m) (λ h w. lowest (mark_at x k) refl h w)
      where
        within : k + 1 ≤ entry_count x
        within = one_within x t k f

        two : (entry_count x ≡ 1 → ⊥) → 1 < entry_count x
        two n = omega (arith, n, r.count_low)

        lowest : (b : Bool) → mark_at x k ≡ b → k + 1 < entry_count x → mark_at (removed x k 1 (not (mark_at x k))) k ≡ true
            → (0 < k) × (means_at x (k + 1) ≡ means_at x (k - 1))
        lowest false e h w =
            let z : k + 0 ≡ k = omega arith in
            absurd (true≢false (sym w ∙ ap (mark_at (removed x k 1 (not (mark_at x k)))) (sym z) ∙ removed_lowest x k 1 (not (mark_at x k)) within (ap not e)))
        lowest true e h w =
            let z : k ≡ k + 0 = omega arith in
            let a : k + 1 + 0 ≡ k + 1 = omega arith in
            let b : k + 1 - 1 ≡ k = omega arith in
            let marked : mark_at x (k + 1) ≡ true =
            sym (ap (mark_at (removed x k 1 (not (mark_at x k)))) z ∙ removed_mark x k 1 (not (mark_at x k)) within (ap not e) 0 ∙ ap (mark_at x) a) ∙ w in
            let own = (r.entries k f.low).marked e in
            (own.0, ((r.entries (k + 1) h).marked marked).1 ∙ ap (means_at x) b ∙ own.1)

-- What a Trim leaves, place by place. Only this module walks along `trimmed`.
use mathlib.Core.Path.{◌≡◌, refl, sym, ap, subst, ◌∙◌}
use mathlib.Core.Bool.{Bool, true, false, cond, true≢false}
use mathlib.Core.List.{List, [], ◌∷◌}
use Prim.Native.Nat.{ℕ, zero, suc, ◌+◌, ◌-◌, ◌≤◌, ◌<◌}
use native.Mathlib.Omega.{arith}
use native.Mathlib.Nat.{zero-add, add_comm}
use native.Mathlib.Decide.{dec_lt}
use lib.Dec.{ltb}
use lib.ListN.{length, drop, get_or, length-drop}
use lib.Seq.{get_or-drop}
use borrow.Author.Tests.{lt-ltb, le-ltb}
use Rattle.settings.specs.declared.Settings.{Settings}
use Rattle.image.specs.Brick.{Brick, LogEntry, no_entry, entry_count, time_at, means_at, newest, Sound}
use Rattle.image.proofs.Laws.HubLaws.{log_at}
use Rattle.image.proofs.Laws.LogPlaceLaws.{rises_to}
use Rattle.image.specs.Opening.{working_log, blank}
use Rattle.image.specs.declared.Entry.{Entry}
use Rattle.image_write.specs.Workers.{held_if, removed}
use Rattle.image_write.proofs.Laws.LowestLaws.{lowest_length, lowest_time}
use Rattle.image_write.proofs.Laws.RemovedLaws.{removed_count, removed_lowest, removed_sound}
use Rattle.image_write.proofs.Laws.RemovedLaws.{moved as moved_to, moved_above, time_moved, means_moved}
use Rattle.image_write.specs.Saving.{lowest_held}
use Rattle.brick_log.specs.BrickRules.{trimmed, trimmed_to}
use Rattle.brick_log.specs.Workers.{log_time, cut_from, cut_for}
use Rattle.brick_log.proofs.Laws.LookLaws.{Cut, cut_is, cut_for_lem}
use Rattle.settings.specs.Ranges.{max_capacity}

-- the last entry stays, so a log never becomes empty,
trimmed_some : (t : ℕ) (e : LogEntry) (log : List LogEntry) → 1 ≤ length (trimmed t (e ∷ log))
unfolding trimmed
trimmed_some t e [] = omega arith
trimmed_some t e (f ∷ log) = go (ltb e.time t) (trimmed_some t f log)
  where
    go : (b : Bool) → 1 ≤ length (trimmed t (f ∷ log)) → 1 ≤ length (cond b (trimmed t (f ∷ log)) (e ∷ trimmed t (f ∷ log)))
    go true h = h
    go false h = omega arith

pub trim_not_empty : (x : Brick) (t : ℕ) → 1 ≤ entry_count x → 1 ≤ entry_count (trimmed_to x t)
unfolding entry_count trimmed_to
trim_not_empty x t h = subst (λ (k : ℕ). 1 ≤ k) (sym (lowest_length (trimmed t x.log))) (go x.log h)
  where
    go : (log : List LogEntry) → 1 ≤ length log → 1 ≤ length (trimmed t log)
    go [] h = absurd (omega arith)
    go (e ∷ log) h = trimmed_some t e log

-- and it is the same last entry
last_of : List LogEntry → LogEntry
last_of log = get_or log (length log - 1) no_entry

last_cons : (e f : LogEntry) (log : List LogEntry) → last_of (e ∷ f ∷ log) ≡ last_of (f ∷ log)
unfolding last_of
last_cons e f log =
    let a : length (e ∷ f ∷ log) - 1 ≡ suc (length log) = omega arith in
    let b : length (f ∷ log) - 1 ≡ length log = omega arith in
    ap (λ (k : ℕ). get_or (e ∷ f ∷ log) k no_entry) a ∙ ap (λ (k : ℕ). get_or (f ∷ log) k no_entry) (sym b)

last_some : (e : LogEntry) (log : List LogEntry) → 1 ≤ length log → last_of (e ∷ log) ≡ last_of log
last_some e [] h = absurd (omega arith)
last_some e (f ∷ log) h = last_cons e f log

trimmed_last : (t : ℕ) (e : LogEntry) (log : List LogEntry) → last_of (trimmed t (e ∷ log)) ≡ last_of (e ∷ log)
unfolding trimmed
trimmed_last t e [] = refl
trimmed_last t e (f ∷ log) = go (ltb e.time t) (trimmed_last t f log) ∙ sym (last_cons e f log)
  where
    go : (b : Bool) → last_of (trimmed t (f ∷ log)) ≡ last_of (f ∷ log)
        → last_of (cond b (trimmed t (f ∷ log)) (e ∷ trimmed t (f ∷ log))) ≡ last_of (f ∷ log)
    go true h = h
    go false h = last_some e (trimmed t (f ∷ log)) (trimmed_some t f log) ∙ h

pub trim_keeps_newest : (x : Brick) (t : ℕ) → 1 ≤ entry_count x → newest (trimmed_to x t) ≡ newest x
unfolding newest time_at entry_count trimmed_to last_of
trim_keeps_newest x t h =
    lowest_time (trimmed t x.log) (length (lowest_held (trimmed t x.log)) - 1)
    ∙ ap (λ (k : ℕ). (get_or (trimmed t x.log) (k - 1) no_entry).time) (lowest_length (trimmed t x.log)) ∙ go x.log h
  where
    go : (log : List LogEntry) → 1 ≤ length log → (last_of (trimmed t log)).time ≡ (last_of log).time
    go [] h = absurd (omega arith)
    go (e ∷ log) h = ap (λ (v : LogEntry). v.time) (trimmed_last t e log)

-- dropping entries under t from the front
trimmed_front : (t : ℕ) (log : List LogEntry) (d : ℕ) → d < length log → ((i : ℕ) → i < d → (get_or log i no_entry).time < t) → trimmed t log ≡ trimmed t (drop d log)
unfolding trimmed
trimmed_front t [] d h b = absurd (omega arith)
trimmed_front t (e ∷ []) zero h b = refl
trimmed_front t (e ∷ []) (suc d) h b = absurd (omega arith)
trimmed_front t (e ∷ f ∷ log) zero h b = refl
trimmed_front t (e ∷ f ∷ log) (suc d) h b =
    rw (lt-ltb e.time t (b 0 (omega arith))) (trimmed_front t (f ∷ log) d (omega arith) (λ i w. b (suc i) (omega (arith, w))))

-- a log with nothing under t but perhaps its last
trimmed_rest : (t : ℕ) (log : List LogEntry) → ((i : ℕ) → i + 1 < length log → t ≤ (get_or log i no_entry).time) → trimmed t log ≡ log
unfolding trimmed
trimmed_rest t [] b = refl
trimmed_rest t (e ∷ []) b = refl
trimmed_rest t (e ∷ f ∷ log) b =
    rw (le-ltb e.time t (b 0 (omega arith))) (ap (λ (l : List LogEntry). e ∷ l) (trimmed_rest t (f ∷ log) (λ i w. b (suc i) (omega (arith, w)))))

-- a Trim drops the entries before the cut: in a rising log those under t come first
trimmed_removed : (s : Settings) (x : Brick) (t d : ℕ) → Sound s x → Cut (time_at x) (entry_count x) t d → trimmed_to x t ≡ removed x 0 d true
unfolding trimmed_to removed held_if time_at entry_count
trimmed_removed s x t d r q =
    ap (λ (l : List LogEntry). record { promise = x.promise; log = lowest_held l })
    (trimmed_front t x.log d q.low q.before ∙ trimmed_rest t (drop d x.log) rest)
    ∙ ap (λ (k : ℕ). record { promise = x.promise; log = lowest_held (drop k x.log) }) (sym (zero-add d))
  where
    rest : (i : ℕ) → i + 1 < length (drop d x.log) → t ≤ (get_or (drop d x.log) i no_entry).time
    rest i h =
        let n = length-drop d x.log in
        let here = q.here (omega arith) in
        let up = rises_to s x r d (d + i) (omega arith) (omega arith) in
        subst (λ (k : ℕ). t ≤ k) (sym (ap (λ (e : LogEntry). e.time) (get_or-drop d x.log i no_entry))) (omega arith)

-- the cut that the code finds in the working log
pub cut_trims : (s : Settings) (x : Brick) (t : ℕ) → Sound s x → entry_count x ≤ max_capacity
    → trimmed_to x t ≡ removed x 0 (cut_for (working_log x) (entry_count x) t) true
cut_trims s x t r c =
    trimmed_removed s x t (cut_for (working_log x) (entry_count x) t) r
    (record {
      low = q.low;
      before = λ i h. subst (λ (k : ℕ). k < t) (time i (omega (arith, h, q.low))) (q.before i h);
      here = λ h. subst (λ (k : ℕ). t ≤ k) (time (cut_for (working_log x) (entry_count x) t) q.low) (q.here h);
    })
  where
    q : Cut (log_time (working_log x)) (entry_count x) t (cut_for (working_log x) (entry_count x) t)
    q = cut_for_lem (working_log x) (entry_count x) t r.count_low

    time : (i : ℕ) → i < entry_count x → log_time (working_log x) i ≡ time_at x i
    time i h = ap (λ (v : Entry). v.time) (log_at x i blank h c)

trimmed_promise : (x : Brick) (t : ℕ) → (trimmed_to x t).promise ≡ x.promise
unfolding trimmed_to
trimmed_promise x t = refl

-- "drops every entry under t other than the newest": d entries, so that place i is what place d + i was
pub record Trims (x : Brick) (t d : ℕ) : Type 0 where
  pub cut : Cut (time_at x) (entry_count x) t d
  pub promise-is : (trimmed_to x t).promise ≡ x.promise
  pub count : entry_count (trimmed_to x t) ≡ entry_count x - d
  pub times : (i : ℕ) → time_at (trimmed_to x t) i ≡ time_at x (d + i)
  pub means : (i : ℕ) → means_at (trimmed_to x t) i ≡ means_at x (d + i)

pub trim_places : (s : Settings) (x : Brick) (t : ℕ) → Sound s x → (d : ℕ) × Trims x t d
trim_places s x t r = (cut_from (time_at x) t 0 (entry_count x - 1), trims (cut_from (time_at x) t 0 (entry_count x - 1)) (cut_is (time_at x) (entry_count x) t r.count_low))
  where
    trims : (d : ℕ) → Cut (time_at x) (entry_count x) t d → Trims x t d
    trims d q =
        record {
          cut = q;
          promise-is = trimmed_promise x t;
          count = ap entry_count w ∙ removed_count x 0 d true within;
          times = λ i. ap (λ (y : Brick). time_at y i) w ∙ time_moved x 0 d true within i ∙ ap (time_at x) (moved i);
          means = λ i. ap (λ (y : Brick). means_at y i) w ∙ means_moved x 0 d true within i ∙ ap (means_at x) (moved i);
        }
      where
        w : trimmed_to x t ≡ removed x 0 d true
        w = trimmed_removed s x t d r q

        within : 0 + d ≤ entry_count x
        within = omega (arith, q.low)

        moved : (i : ℕ) → moved_to 0 d i ≡ d + i
        moved i = moved_above 0 d i (omega arith) ∙ add_comm i d

-- and a brick that keeps to the rules keeps to them
pub trimmed_sound : (s : Settings) (x : Brick) (t : ℕ) → Sound s x → Sound s (trimmed_to x t)
trimmed_sound s x t r = go (trim_places s x t r)
  where
    go : (d : ℕ) × Trims x t d → Sound s (trimmed_to x t)
    go (d, q) =
        subst (Sound s) (sym (trimmed_removed s x t d r q.cut))
        (removed_sound x 0 d true (omega (arith, q.cut.low)) s r q.cut.low (λ h m. absurd (true≢false (sym m ∙ removed_lowest x 0 d true (omega (arith, q.cut.low)) refl))))

-- everything at or above its time stays,
pub trim_keeps : (s : Settings) (x : Brick) (t i : ℕ) → Sound s x → i < entry_count x → t ≤ time_at x i
    → (j : ℕ) × (j < entry_count (trimmed_to x t)) × (time_at (trimmed_to x t) j ≡ time_at x i) × (means_at (trimmed_to x t) j ≡ means_at x i)
trim_keeps s x t i r h l = go (trim_places s x t r)
  where
    go : (d : ℕ) × Trims x t d → (j : ℕ) × (j < entry_count (trimmed_to x t)) × (time_at (trimmed_to x t) j ≡ time_at x i) × (means_at (trimmed_to x t) j ≡ means_at x i)
    go (d, q) = by (dec_lt i d)
      where
        by : Dec (i < d) → (j : ℕ) × (j < entry_count (trimmed_to x t)) × (time_at (trimmed_to x t) j ≡ time_at x i) × (means_at (trimmed_to x t) j ≡ means_at x i)
        by (yes w) = absurd (omega (arith, q.cut.before i w))
        by (no w) =
            let m : d + (i - d) ≡ i = omega arith in
            (i - d, omega (arith, q.count), q.times (i - d) ∙ ap (time_at x) m, q.means (i - d) ∙ ap (means_at x) m)

-- and nothing is added
pub trim_from : (s : Settings) (x : Brick) (t j : ℕ) → Sound s x → j < entry_count (trimmed_to x t)
    → (i : ℕ) × (i < entry_count x) × (time_at (trimmed_to x t) j ≡ time_at x i) × (means_at (trimmed_to x t) j ≡ means_at x i)
trim_from s x t j r h =
    let q = trim_places s x t r in
    (q.0 + j, omega (arith, q.1.count), q.1.times j, q.1.means j)

-- What a Trim and a Drop take out of the log is what their plans say.
use mathlib.Core.Path.{◌≡◌, refl, sym, ap, subst, ◌∙◌}
use mathlib.Core.Bool.{Bool, true, false, cond, not}
use mathlib.Core.List.{List}
use Prim.Native.Nat.{ℕ, zero, suc, ◌+◌, ◌≤◌, ◌<◌}
use native.Mathlib.Omega.{arith}
use native.Mathlib.Decide.{ℕ_discrete}
use native.Mathlib.Nat.{zero-add}
use native.Mathlib.Numerals.{add-one}
use lib.Dec.{eqb}
use lib.ListN.{get_or-eq_default}
use borrow.Author.Tests.{eq-eqb, ne_eqb, eqb-true, eqb-false}
use Rattle.settings.specs.Ranges.{max_capacity}
use Rattle.settings.specs.declared.Settings.{Settings}
use Rattle.image.specs.Brick.{Brick, LogEntry, no_entry, entry_count, time_at, mark_at}
use Rattle.image.specs.Opening.{working_log, holder_of, blank}
use Rattle.image.specs.Parse.{brick_in}
use Rattle.image.specs.declared.Entry.{Entry}
use Rattle.image.proofs.Laws.HubLaws.{log_at}
use Rattle.image.proofs.Laws.HolderLaws.{meant, holder_of_held, holder_of_mark}
use Rattle.image.proofs.Laws.LogPlaceLaws.{rises_above, lowest_held_lem}
use Rattle.image_write.specs.Workers.{removed}
use Rattle.image_write.proofs.Laws.RemovedLaws.{removed_none, removed_no_mark, removed_by_holder}
use Rattle.brick_log.specs.BrickRules.{trimmed_to, dropped_from}
use Rattle.brick_log.specs.Workers.{LogReady, Removes, Takes, removed_by, log_time, time_in, looked_in, cut_for}
use Rattle.brick_log.specs.Workers.{removal, trim_plan, drop_at, drop_in, drop_plan}
use Rattle.brick_log.specs.declared.Known.{Known}
use Rattle.brick_log.specs.declared.Plan.{Plan}
use Rattle.brick_log.specs.declared.Plan.TheVariants.{Remove, Nothing}
use Rattle.brick_log.proofs.Laws.DropLaws.{First, drop_only, drop_absent, drop_at_lem}
use Rattle.brick_log.proofs.Laws.LookLaws.{cut_for_lem, last_takes, last_takes_none}
use Rattle.brick_log.proofs.Laws.TrimLaws.{cut_trims}

-- behind the last entry no mark stands
no_mark_behind : (x : Brick) (i : ℕ) → entry_count x ≤ i → mark_at x i ≡ false
unfolding entry_count mark_at no_entry
no_mark_behind x i h = ap (λ (e : LogEntry). e.mark) (get_or-eq_default x.log no_entry {n = i} h)

module _ (s : Settings) (brick : ℕ) (l : List ℕ) (k : Known) (r : LogReady s brick l k) where
  few : entry_count (brick_in s l) ≤ max_capacity
  few = omega (arith, r.counts, r.high, r.most)

  time : (i : ℕ) → i < entry_count (brick_in s l) → log_time (working_log (brick_in s l)) i ≡ time_at (brick_in s l) i
  time i h = ap (λ (v : Entry). v.time) (log_at (brick_in s l) i blank h few)

  -- the first d entries
  front_removes : (d : ℕ) → d < entry_count (brick_in s l) → Removes (brick_in s l) k (trim_plan (working_log (brick_in s l)) d) (removed (brick_in s l) 0 d true)
  unfolding trim_plan removed_by
  front_removes d low =
      record {
        ready = record {
          within = omega (arith, low, r.counts);
          above = λ z n.
              record {
                low = omega (arith, low, r.counts);
                holder-is = ap (holder_of (working_log (brick_in s l))) (sym (zero-add d));
                lowest-is = time d low ∙ ap (time_at (brick_in s l)) (sym (zero-add d));
              };
        };
        leaves = go (ℕ_discrete d 0);
      }
    where
      holder : ℕ
      holder = holder_of (working_log (brick_in s l)) d

      own : holder ≡ 0 + d + 1 → mark_at (brick_in s l) (0 + d) ≡ false
      own e = ap (mark_at (brick_in s l)) (zero-add d) ∙ (meant s brick l (brick_in s l) r.saved d low).own (e ∙ ap (λ (i : ℕ). i + 1) (zero-add d))

      none : removed (brick_in s l) 0 0 true ≡ brick_in s l
      none = removed_no_mark (brick_in s l) 0 0 true (lowest_held_lem s (brick_in s l) r.saved.keeps) ∙ removed_none (brick_in s l) 0

      go : Dec (d ≡ 0) → removed (brick_in s l) 0 d true ≡ cond (eqb d 0) (brick_in s l) (removed (brick_in s l) 0 d (not (eqb holder (0 + d + 1))))
      go (yes e) = rw (eq-eqb d 0 e) (ap (λ (i : ℕ). removed (brick_in s l) 0 i true) e ∙ none)
      go (no e) = rw (ne_eqb d 0 e) (removed_by_holder (brick_in s l) 0 d holder own)

  -- a Trim
  pub trim_removes : (t : ℕ) (p : Plan) → p ≡ Remove (trim_plan (working_log (brick_in s l)) (cut_for (working_log (brick_in s l)) (entry_count (brick_in s l)) t))
      → Takes (brick_in s l) k p (trimmed_to (brick_in s l) t)
  unfolding Takes
  trim_removes t p e =
      let d : ℕ = cut_for (working_log (brick_in s l)) (entry_count (brick_in s l)) t in
      let low = (cut_for_lem (working_log (brick_in s l)) (entry_count (brick_in s l)) t r.saved.keeps.count_low).low in
      subst (λ (q : Plan). Takes (brick_in s l) k q (trimmed_to (brick_in s l) t)) (sym e)
      (subst (Removes (brick_in s l) k (trim_plan (working_log (brick_in s l)) d)) (sym (cut_trims s (brick_in s l) t r.saved.keeps few)) (front_removes d low))

  -- one entry, of which none above means the block
  free_removes : (i : ℕ) → i < entry_count (brick_in s l) → Removes (brick_in s l) k (removal i 1 (i + 1 + 1) 0) (removed (brick_in s l) i 1 false)
  unfolding removed_by
  free_removes i low =
      record {
        ready = record { within = omega (arith, low, r.counts); above = λ z n. absurd (n refl) };
        leaves = rw (eq-eqb (i + 1 + 1) (i + 1 + 1) refl) refl;
      }

  -- one entry, whose block the entry right above means
  held_removes : (i : ℕ) → i + 1 < entry_count (brick_in s l) → holder_of (working_log (brick_in s l)) (i + 1) ≡ i + 1
      → Removes (brick_in s l) k (removal i 1 (i + 1) (log_time (working_log (brick_in s l)) (i + 1))) (removed (brick_in s l) i 1 true)
  unfolding removed_by
  held_removes i low e =
      record {
        ready = record {
          within = omega (arith, low, r.counts);
          above = λ z n. record { low = omega (arith, low, r.counts); holder-is = sym e; lowest-is = time (i + 1) low };
        };
        leaves = rw (ne_eqb (i + 1) (i + 1 + 1) (λ q. omega (arith, q))) refl;
      }

  -- what holds the entry right above tells whether it is a mark that means the block of entry i
  above_held : (i : ℕ) → i + 1 < entry_count (brick_in s l) → holder_of (working_log (brick_in s l)) (i + 1) ≡ i + 1 → mark_at (brick_in s l) i ≡ false
  above_held i low e = go (mark_at (brick_in s l) (suc i)) refl
    where
      next : holder_of (working_log (brick_in s l)) (suc i) ≡ i + 1
      next = ap (holder_of (working_log (brick_in s l))) (sym (add-one i)) ∙ e

      go : (b : Bool) → mark_at (brick_in s l) (suc i) ≡ b → mark_at (brick_in s l) i ≡ false
      go true q =
          (meant s brick l (brick_in s l) r.saved i (omega (arith, low))).own
          (sym (holder_of_mark s brick l (brick_in s l) r.saved i (omega (arith, low)) q) ∙ next)
      go false q = absurd (omega (arith, next, holder_of_held s brick l (brick_in s l) r.saved (suc i) (omega (arith, low)) q))

  above_free : (i : ℕ) → i + 1 < entry_count (brick_in s l) → (holder_of (working_log (brick_in s l)) (i + 1) ≡ i + 1 → ⊥) → mark_at (brick_in s l) i ≡ false
      → mark_at (brick_in s l) (i + 1) ≡ false
  above_free i low n e = ap (mark_at (brick_in s l)) (add-one i) ∙ go (mark_at (brick_in s l) (suc i)) refl
    where
      go : (b : Bool) → mark_at (brick_in s l) (suc i) ≡ b → mark_at (brick_in s l) (suc i) ≡ false
      go false q = q
      go true q =
          absurd
          (n
          (ap (holder_of (working_log (brick_in s l))) (add-one i) ∙ holder_of_mark s brick l (brick_in s l) r.saved i (omega (arith, low)) q
          ∙ holder_of_held s brick l (brick_in s l) r.saved i (omega (arith, low)) e))

  one_removes : (i : ℕ) → i < entry_count (brick_in s l)
      → Removes (brick_in s l) k (drop_at (working_log (brick_in s l)) (entry_count (brick_in s l)) i) (removed (brick_in s l) i 1 (not (mark_at (brick_in s l) i)))
  unfolding drop_at
  one_removes i low = go (ℕ_discrete (i + 1) (entry_count (brick_in s l))) (ℕ_discrete (holder_of (working_log (brick_in s l)) (i + 1)) (i + 1))
    where
      free : removed (brick_in s l) i 1 (not (mark_at (brick_in s l) i)) ≡ removed (brick_in s l) i 1 false
          → Removes (brick_in s l) k (removal i 1 (i + 1 + 1) 0) (removed (brick_in s l) i 1 (not (mark_at (brick_in s l) i)))
      free e = subst (Removes (brick_in s l) k (removal i 1 (i + 1 + 1) 0)) (sym e) (free_removes i low)

      below : (i + 1 ≡ entry_count (brick_in s l) → ⊥) → i + 1 < entry_count (brick_in s l)
      below n = omega (arith, low, n)

      unheld : (b : Bool) → (b ≡ false → mark_at (brick_in s l) (i + 1) ≡ false) → removed (brick_in s l) i 1 (not b) ≡ removed (brick_in s l) i 1 false
      unheld true f = refl
      unheld false f = removed_no_mark (brick_in s l) i 1 true (f refl)

      go : Dec (i + 1 ≡ entry_count (brick_in s l)) → Dec (holder_of (working_log (brick_in s l)) (i + 1) ≡ i + 1)
          → Removes (brick_in s l) k
          (cond (eqb (i + 1) (entry_count (brick_in s l))) (removal i 1 (i + 1 + 1) 0)
          (cond (eqb (holder_of (working_log (brick_in s l)) (i + 1)) (i + 1)) (removal i 1 (i + 1) (log_time (working_log (brick_in s l)) (i + 1)))
          (removal i 1 (i + 1 + 1) 0)))
          (removed (brick_in s l) i 1 (not (mark_at (brick_in s l) i)))
      go (yes a) b =
          rw (eq-eqb (i + 1) (entry_count (brick_in s l)) a)
          (free (removed_no_mark (brick_in s l) i 1 (not (mark_at (brick_in s l) i)) (no_mark_behind (brick_in s l) (i + 1) (omega (arith, a)))))
      go (no a) (yes b) =
          let up = below a in
          rw (ne_eqb (i + 1) (entry_count (brick_in s l)) a, eq-eqb (holder_of (working_log (brick_in s l)) (i + 1)) (i + 1) b)
          (subst (λ (h : Bool). Removes (brick_in s l) k (removal i 1 (i + 1) (log_time (working_log (brick_in s l)) (i + 1))) (removed (brick_in s l) i 1 (not h)))
          (sym (above_held i up b)) (held_removes i up b))
      go (no a) (no b) =
          rw (ne_eqb (i + 1) (entry_count (brick_in s l)) a, ne_eqb (holder_of (working_log (brick_in s l)) (i + 1)) (i + 1) b)
          (free (unheld (mark_at (brick_in s l) i) (above_free i (below a) b)))

  -- the place that is found is the only one of its time
  first_of : (t i : ℕ) → i < entry_count (brick_in s l) → time_at (brick_in s l) i ≡ t → First (time_at (brick_in s l)) (entry_count (brick_in s l)) t i
  first_of t i low e =
      record { low = low; is = e; before = λ j h q. omega (arith, q, e, rises_above s (brick_in s l) r.saved.keeps j i h low) }

  -- a Drop
  pub drop_removes : (t : ℕ) (p : Plan) → p ≡ drop_plan (working_log (brick_in s l)) (entry_count (brick_in s l)) t
      → Takes (brick_in s l) k p (dropped_from (brick_in s l) t)
  unfolding drop_plan drop_in looked_in Takes
  drop_removes t p e = subst (λ (q : Plan). Takes (brick_in s l) k q (dropped_from (brick_in s l) t)) (sym e) (go (ℕ_discrete (entry_count (brick_in s l)) 1))
    where
      found : (entry_count (brick_in s l) ≡ 1 → ⊥) → (n : ℕ) → time_in (working_log (brick_in s l)) t (entry_count (brick_in s l)) ≡ n
          → Takes (brick_in s l) k (drop_in (working_log (brick_in s l)) (entry_count (brick_in s l)) (looked_in n)) (dropped_from (brick_in s l) t)
      found m zero q =
          drop_absent (brick_in s l) t (λ j h z. eqb-false (log_time (working_log (brick_in s l)) j) t (last_takes_none _ _ q j h) (time j h ∙ z))
      found m (suc i) q =
          let w = last_takes (λ (j : ℕ). eqb (log_time (working_log (brick_in s l)) j) t) (entry_count (brick_in s l)) i q in
          let at : time_at (brick_in s l) i ≡ t = sym (time i w.0) ∙ eqb-true (log_time (working_log (brick_in s l)) i) t w.1 in
          subst (Removes (brick_in s l) k (drop_at (working_log (brick_in s l)) (entry_count (brick_in s l)) i))
          (sym (drop_at_lem (brick_in s l) t i m (first_of t i w.0 at))) (one_removes i w.0)

      go : Dec (entry_count (brick_in s l) ≡ 1)
          → Takes (brick_in s l) k
          (cond (eqb (entry_count (brick_in s l)) 1) Nothing
          (drop_in (working_log (brick_in s l)) (entry_count (brick_in s l)) (looked_in (time_in (working_log (brick_in s l)) t (entry_count (brick_in s l))))))
          (dropped_from (brick_in s l) t)
      go (yes a) =
          rw (eq-eqb (entry_count (brick_in s l)) 1 a) (drop_only (brick_in s l) t a)
      go (no a) = rw (ne_eqb (entry_count (brick_in s l)) 1 a) (found a (time_in (working_log (brick_in s l)) t (entry_count (brick_in s l))) refl)

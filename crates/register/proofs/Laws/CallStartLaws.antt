-- Power fails at a coordinator; and the start, where each coordinator's buffers hold any bytes: by such a crash of each.
use mathlib.Core.Path.{◌≡◌, refl, sym, ap, ap₂, subst, ◌∙◌}
use mathlib.Core.Bool.{Bool, true, false, cond}
use mathlib.Core.List.{List, [], ◌∷◌, ◌++◌, append-nil}
use Prim.Native.Nat.{ℕ, zero, suc, ◌≤◌, ◌<◌}
use native.Mathlib.Omega.{arith}
use lib.Dec.{eqb}
use borrow.Author.Tests.{eqb-true, eqb-false, eq-eqb}
use Rattle.settings.specs.Ranges.{in_range}
use Rattle.settings.specs.Times.{coordinator_count, last_coordinator}
use Rattle.settings.specs.declared.Settings.{Settings}
use Rattle.volume.specs.Rows.{fresh_row, fresh_row_after}
use Rattle.coord_record.specs.Records.{idle_kind, no_op, geometry_of, idle_with, no_bricks}
use Rattle.coord_record.specs.declared.Coordinator.{Coordinator}
use Rattle.coord_apply.specs.Acts.{ending}
use Rattle.coord_apply.specs.Answers.{Buffered, Broadcast, Step, went, nothing_seen, cut_seen}
use Rattle.coord_apply.specs.declared.Notice.{Notice}
use Rattle.coordinator.specs.Routines.{crashed}
use Rattle.order.specs.Claim.{cut, Seen}
use Rattle.register.specs.Runs.{plain, Item, World, fresh_set, idle, Event, crashes, lost}
use Rattle.register.specs.Runs.{Moved, unmoved, joined, put_at, on_stripe, seen_of, broadcasts, coordinated}
use Rattle.register.specs.Runs.{left_by, step, run_from, run}
use Rattle.register.specs.Driver.{cut_of, back_with, failed}
use Rattle.register.specs.CallLoop.{BufferLengths, Started, Alike, begun_nothing}
use Rattle.register.proofs.Laws.AgreeLaws.{run_more, Made}
use Rattle.register.proofs.Laws.DriverLaws.{seen_nowhere, left_lost}
use Rattle.register.proofs.Laws.LendingLaws.{crash_goes_on, crash_leaves}

module _ (s : Settings) where
  -- a crash sends nothing, and what is seen of it is the cut of an operation that ran
  crashed_sent : (k : Buffered) → (crashed s.n k).sent ≡ []
  unfolding crashed ending
  crashed_sent k = go (eqb k.state.op.kind idle_kind)
    where
      go : (t : Bool) → (cond t (record { next = k; sent = []; seen = nothing_seen }) (ending s.n k k.stripe [] cut_seen no_bricks)).sent ≡ []
      go true = refl
      go false = refl

  crashed_seen : (k x : Buffered) → on_stripe (crashed s.n k).seen.stripe (seen_of s (crashed s.n k).seen x) ≡ on_stripe k.state.op.stripe (cut_of s k.state.op)
  unfolding crashed ending cut_of seen_of nothing_seen
  crashed_seen k x = go (eqb k.state.op.kind idle_kind)
    where
      by : Bool → Notice
      by t = (cond t (record { next = k; sent = []; seen = nothing_seen }) (ending s.n k k.stripe [] cut_seen no_bricks)).seen

      go : (t : Bool) → on_stripe (by t).stripe (seen_of s (by t) x) ≡ on_stripe k.state.op.stripe (cond t [] (Seen.ended k.state.op.time cut ∷ []))
      go true = seen_nowhere 0 ∙ sym (seen_nowhere k.state.op.stripe)
      go false = refl

  -- power fails where the run has a crash that leaves these bytes in the buffers
  pub crash_fails : in_range s ≡ true → (events : List Event) (c : ℕ) → c ≤ last_coordinator → (blocks stripe : List ℕ) → BufferLengths s blocks stripe
      → step s (run s events).world (crashes c (lost blocks stripe)) ≡ failed s (run s events).world c blocks stripe
  unfolding step left_by coordinated failed back_with broadcasts
  crash_fails e events c l blocks stripe f =
      ap (λ (p : Step). coordinated s v c (left_by s (lost blocks stripe) p)) (crash_goes_on s e events c l)
      ∙ ap (λ (k : Buffered). coordinated s v c (went (record { next = k; sent = (crashed s.n (v.coordinators c)).sent; seen = (crashed s.n (v.coordinators c)).seen })))
      (left_lost s blocks stripe (crashed s.n (v.coordinators c)).next f.blocks-long f.stripe-long ∙ came-back)
      ∙ ap₂ makes (ap (λ (l : List Broadcast). v.sent ++ broadcasts s l) (crashed_sent (v.coordinators c)) ∙ append-nil v.sent)
      (crashed_seen (v.coordinators c) back)
    where
      v : World
      v = (run s events).world

      back : Buffered
      back = back_with s c (v.coordinators c).state blocks stripe

      came-back : record { state = (crashed s.n (v.coordinators c)).next.state; blocks = blocks; stripe = stripe } ≡ back
      came-back = ap (λ (x : Coordinator). record { state = x; blocks = blocks; stripe = stripe }) (crash_leaves s e events c l)

      makes : List Item → (ℕ → List (Seen (plain s))) → Moved s
      makes sent seen = record { world = record { images = v.images; up = v.up; coordinators = put_at v.coordinators c back; sent = sent }; seen = seen }

  -- The start: the buffers of the first k coordinators hold what is lent, by a crash of each, at which nothing is seen.
  lends : World → ℕ → List Event
  lends w zero = []
  lends w (suc k) = lends w k ++ crashes k (lost (w.coordinators k).blocks (w.coordinators k).stripe) ∷ []

  module _ (range : in_range s ≡ true) (w : World) (h : Started s w) where
    record LentUpTo (k : ℕ) (m : Moved s) : Type 0 where
      nothing_seen : (j : ℕ) → m.seen j ≡ []
      fresh-images : (b : ℕ) → m.world.images b ≡ fresh_row s b
      is_up : (b : ℕ) → m.world.up b ≡ true
      nothing-sent : m.world.sent ≡ []
      is-idle : (c : ℕ) → (m.world.coordinators c).state ≡ idle_with (geometry_of s) (record { coordinator = c; last = 0 })
      lent_is : (c : ℕ) → c < k → Alike s c (w.coordinators c) (m.world.coordinators c)

    lent_more : (k : ℕ) (m : Moved s) → k ≤ last_coordinator → LentUpTo k m
        → LentUpTo (suc k) (joined s m (failed s m.world k (w.coordinators k).blocks (w.coordinators k).stripe))
    unfolding failed back_with cut_of put_at idle_with no_op
    lent_more k m l i =
        record {
          nothing_seen =
              λ j. ap₂ (λ (a b : List (Seen (plain s))). a ++ b) (i.nothing_seen j)
              (ap (λ (x : Coordinator). on_stripe x.op.stripe (cut_of s x.op) j) (i.is-idle k) ∙ ap (λ (f : ℕ → List (Seen (plain s))). f j) (seen_nowhere 0));
          fresh-images = i.fresh-images;
          is_up = i.is_up;
          nothing-sent = i.nothing-sent;
          is-idle = λ c. idle-at c (eqb c k) refl;
          lent_is = λ c low. lent_at c low (eqb c k) refl;
        }
      where
        lent_with : Coordinator → Buffered
        lent_with y = record { state = y; blocks = (w.coordinators k).blocks; stripe = (w.coordinators k).stripe }

        x : Buffered
        x = back_with s k (m.world.coordinators k).state (w.coordinators k).blocks (w.coordinators k).stripe

        counts : x.state ≡ idle_with (geometry_of s) (record { coordinator = k; last = 0 })
        counts = ap (λ (y : Coordinator). (back_with s k y (w.coordinators k).blocks (w.coordinators k).stripe).state) (i.is-idle k)

        with-state : {y z : Coordinator} → y ≡ z → lent_with y ≡ lent_with z
        with-state e = ap lent_with e

        idle-at : (c : ℕ) (t : Bool) → eqb c k ≡ t → (cond t x (m.world.coordinators c)).state ≡ idle_with (geometry_of s) (record { coordinator = c; last = 0 })
        idle-at c true e = counts ∙ ap (λ (j : ℕ). idle_with (geometry_of s) (record { coordinator = j; last = 0 })) (sym (eqb-true c k e))
        idle-at c false e = i.is-idle c

        lent_at : (c : ℕ) → c < suc k → (t : Bool) → eqb c k ≡ t → Alike s c (w.coordinators c) (cond t x (m.world.coordinators c))
        lent_at c low true e =
            subst (λ (j : ℕ). Alike s j (w.coordinators j) x) (sym (eqb-true c k e))
            (begun_nothing (h.last k) (w.coordinators k).blocks (w.coordinators k).stripe (with-state (h.all-idle k l)) (with-state counts))
        lent_at c low false e = let n = eqb-false c k e in i.lent_is c (omega (arith, low, n))

    lent_all : (k : ℕ) → k ≤ coordinator_count → LentUpTo k (run s (lends w k))
    unfolding lends run run_from unmoved fresh_set idle
    lent_all zero l =
        record {
          nothing_seen = λ j. refl;
          fresh-images = λ b. refl;
          is_up = λ b. refl;
          nothing-sent = refl;
          is-idle = λ c. refl;
          lent_is = λ c low. absurd (omega (arith, low));
        }
    lent_all (suc k) l =
        subst (LentUpTo (suc k))
        (sym
        (run_more s (lends w k) (crashes k (lost (w.coordinators k).blocks (w.coordinators k).stripe))
        ∙ ap (joined s (run s (lends w k)))
        (crash_fails range (lends w k) k (omega arith) (w.coordinators k).blocks (w.coordinators k).stripe (h.all_fit k (omega arith)))))
        (lent_more k (run s (lends w k)) (omega arith) (lent_all k (omega arith)))

    pub start_made : Made s (unmoved s w)
    unfolding unmoved fresh_row_after
    start_made =
        let i = lent_all coordinator_count (omega arith) in (
          lends w coordinator_count,
          λ j. sym (i.nothing_seen j),
          record {
            same-image = λ b l. h.images-are b l ∙ rw (eq-eqb _ _ (h.not-refused b l)) (sym (i.fresh-images b));
            same_up = λ b l. h.all_up b l ∙ sym (i.is_up b);
            same-coordinator = λ c l. i.lent_is c (omega arith);
            same_sent = h.none-sent ∙ sym i.nothing-sent;
          },
        )

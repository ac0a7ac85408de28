-- A reply reaches its coordinator: what holds of its stripe goes on to hold.
use mathlib.Core.Path.{◌≡◌, refl, sym, subst}
use mathlib.Core.Logic.{inl, inr}
use mathlib.Core.Bool.{Bool, true, false, cond, ◌||◌}
use mathlib.Core.List.{List, []}
use Prim.Native.Nat.{ℕ, ◌*◌, ◌≤◌, ◌<◌}
use native.Mathlib.Omega.{arith}
use lib.Dec.{leb, ltb, eqb}
use lib.ListN.{length}
use borrow.Author.Tests.{leb-true, leb-false, ltb-false, eqb-false, ne_eqb}
use Rattle.coord_record.specs.Records.{idle_kind, reading_kind, reading_block_kind, is_reading, on_block, target_count}
use Rattle.message.specs.Kinds.{read_kind, last_round}
use Rattle.settings.specs.Count.{count}
use Rattle.settings.specs.Ranges.{quorum}
use Rattle.settings.specs.Ranges.{SettingsRange}
use Rattle.settings.specs.Times.{no_upper_end}
use Rattle.settings.specs.declared.Settings.{Settings}
use Rattle.message.specs.Flags.{members}
use Rattle.message.specs.declared.Reply.{Reply}
use Rattle.byte_lists.specs.Each.{some}
use Rattle.coord_tally.specs.Counting.{said_no, highest, other_time, missing, at_times}
use Rattle.coord_decide.specs.Deciding.{decided}
use Rattle.coord_decide.specs.declared.Decision.{Decision}
use Rattle.coord_decide.specs.declared.Decision.TheVariants.{Abort, Give, Look, Store, Modify, Recover, Finish}
use Rattle.coord_apply.specs.Acts.{acted, with_tally, counting, waiting_or}
use Rattle.coord_apply.specs.Answers.{Buffered, Went, went, nothing_seen}
use Rattle.coordinator.specs.Routines.{take_step}
use Rattle.coord_laws.proofs.Laws.StepRunLaws.{ReplyTaken, took}
use Rattle.coord_laws.proofs.Laws.OpCaseLaws.{Fit, reading, looking, restoring, ordering, storing, block_ordering, modifying, reading_runs, recovering_runs}
use Rattle.order.specs.Claim.{◌∈◌}
use Rattle.order.specs.Valid.{Valid}
use Rattle.register.specs.Runs.{Item, reply}
use Rattle.register.proofs.Laws.Invariant.{quorums, Hist, ItemInv, top_of, CoordinatorInv}
use Rattle.register.proofs.Laws.TurnLaws.{TurnedRound}
use Rattle.register.proofs.Laws.RoundLaws.{stays}
use Rattle.register.proofs.Laws.CountedLaws.{counting_keeps}
use Rattle.register.proofs.Laws.GiveLaws.{does_give}
use Rattle.register.proofs.Laws.ModifyLaws.{does_modify}
use Rattle.register.proofs.Laws.DecisionLaws.{decided_reading, decided_ordering, decided_block_ordering, decided_looking, decided_storing}
use Rattle.register.proofs.Laws.DecideLaws.{sound_op, does_abort, does_store, does_finish}
use Rattle.register.proofs.Laws.RecoverLaws.{does_look, gone_from, gone_top, does_recover}

module _ (s : Settings) (g : SettingsRange s) (h : Hist s) (sent : List Item) (c : ℕ) (k : Buffered) (v : Valid (quorums s g) h)
    (i : CoordinatorInv s g h sent c k) (items : (z : Item) → z ∈ sent → ItemInv s g h sent z) (n : k.state.op.kind ≡ idle_kind → ⊥)
    (low : k.state.op.first < s.n) (block-low : on_block k.state.op.kind ≡ true → k.state.op.first < s.m)
    (long : length k.stripe ≡ s.m * s.size) (enough : quorum s.n s.m ≤ members k.state.tally.counted s.n) where
  turned : Decision → Type 0
  turned d = TurnedRound s g h sent c (acted s.n s.m s.size k d)

  -- what the q-th reply decides
  does_decide : Fit k.state.op → k.state.op.time < no_upper_end
      → TurnedRound s g h sent c (acted s.n s.m s.size k (decided s.n s.m k.state.op k.state.tally))
  unfolding acted turned
  does_decide (reading kind phase _) high =
      subst turned (sym (decided_reading s.n s.m k.state.op k.state.tally phase))
      (go (some (said_no k.state.tally.counted k.state.tally.granted) s.n)
      (some (other_time k.state.tally.counted k.state.tally.found (highest k.state.tally.counted k.state.tally.found s.n)) s.n)
      (some (missing s.n (target_count s.m k.state.op.kind) k.state.op.first k.state.tally.counted) s.n) refl refl refl)
    where
      look : TurnedRound s g h sent c (acted s.n s.m s.size k (Look no_upper_end))
      look = does_look s g h sent c k v i items n no_upper_end (λ e. omega (arith, e)) (λ e. omega (arith, e)) (λ u l m. absurd (omega arith)) (λ e. absurd (omega (arith, e, phase)))

      go : (x y z : Bool)
          → some (said_no k.state.tally.counted k.state.tally.granted) s.n ≡ x
          → some (other_time k.state.tally.counted k.state.tally.found (highest k.state.tally.counted k.state.tally.found s.n)) s.n ≡ y
          → some (missing s.n (target_count s.m k.state.op.kind) k.state.op.first k.state.tally.counted) s.n ≡ z
          → TurnedRound s g h sent c (acted s.n s.m s.size k (cond (x || (y || z)) (Look no_upper_end) Give))
      go true y z ex ey ez = look
      go false true z ex ey ez = look
      go false false true ex ey ez = look
      go false false false ex ey ez = does_give s g h sent c k v i items n ex ey ez phase low enough kind block-low long
  does_decide (looking kind phase _ _) high =
      subst turned (sym (decided_looking s.n s.m k.state.op k.state.tally phase))
      (go (some (said_no k.state.tally.counted k.state.tally.granted) s.n) (eqb (members k.state.tally.held s.n) 0)
      (leb s.m (count (at_times k.state.tally.held k.state.tally.found (top_of s k)) s.n)) (eqb (top_of s k) 0) (ltb k.state.op.round last_round) refl refl refl)
    where
      abort : TurnedRound s g h sent c (acted s.n s.m s.size k Abort)
      abort = does_abort s g h sent c k v i items n

      go : (x w y z f : Bool)
          → some (said_no k.state.tally.counted k.state.tally.granted) s.n ≡ x
          → leb s.m (count (at_times k.state.tally.held k.state.tally.found (top_of s k)) s.n) ≡ y
          → eqb (top_of s k) 0 ≡ z
          → TurnedRound s g h sent c
          (acted s.n s.m s.size k
          (cond x Abort
          (cond w Abort (cond y (cond f (Recover (top_of s k)) Abort) (cond z Abort (cond f (Look (top_of s k)) Abort))))))
      go true w y z f ex ey ez = abort
      go false true y z f ex ey ez = abort
      go false false true z false ex ey ez = abort
      go false false true z true ex ey ez =
          does_recover s g h sent c k v i items n phase ex enough
          (leb-true s.m (count (at_times k.state.tally.held k.state.tally.found (top_of s k)) s.n) ey) kind
      go false false false true f ex ey ez = abort
      go false false false false false ex ey ez = abort
      go false false false false true ex ey ez =
          does_look s g h sent c k v i items n (top_of s k) (λ e. omega (arith, e)) (λ e. omega (arith, e))
          (gone_from s g h sent c k v i items n phase ex enough
          few)
          (λ _. (let z = eqb-false (top_of s k) 0 ez in omega (arith, z), gone_top s g h sent c k v i items n phase ex enough few))
        where
          few : count (at_times k.state.tally.held k.state.tally.found (top_of s k)) s.n < s.m
          few = leb-false s.m (count (at_times k.state.tally.held k.state.tally.found (top_of s k)) s.n) ey
  does_decide (restoring kind phase _) high =
      subst turned (sym (decided_storing s.n s.m k.state.op k.state.tally (omega arith)))
      (go (some (said_no k.state.tally.counted k.state.tally.granted) s.n) refl)
    where
      go : (x : Bool) → some (said_no k.state.tally.counted k.state.tally.granted) s.n ≡ x
          → TurnedRound s g h sent c (acted s.n s.m s.size k (cond x Abort Finish))
      go true e = does_abort s g h sent c k v i items n
      go false e = does_finish s g h sent c k v i items n (inl phase) e enough
  does_decide (ordering kind phase round _) high =
      subst turned (sym (decided_ordering s.n s.m k.state.op k.state.tally phase))
      (go (some (said_no k.state.tally.counted k.state.tally.granted) s.n) refl)
    where
      go : (x : Bool) → some (said_no k.state.tally.counted k.state.tally.granted) s.n ≡ x
          → TurnedRound s g h sent c (acted s.n s.m s.size k (cond x Abort Store))
      go true e = does_abort s g h sent c k v i items n
      go false e = does_store s g h sent c k v i items n kind phase round e enough
  does_decide (storing kind phase _) high =
      subst turned (sym (decided_storing s.n s.m k.state.op k.state.tally (omega arith)))
      (go (some (said_no k.state.tally.counted k.state.tally.granted) s.n) refl)
    where
      go : (x : Bool) → some (said_no k.state.tally.counted k.state.tally.granted) s.n ≡ x
          → TurnedRound s g h sent c (acted s.n s.m s.size k (cond x Abort Finish))
      go true e = does_abort s g h sent c k v i items n
      go false e = does_finish s g h sent c k v i items n (inl phase) e enough
  does_decide (block_ordering kind phase _) high =
      subst turned (sym (decided_block_ordering s.n s.m k.state.op k.state.tally phase))
      (go (some (said_no k.state.tally.counted k.state.tally.granted) s.n)
      (some (other_time k.state.tally.counted k.state.tally.found (highest k.state.tally.counted k.state.tally.found s.n)) s.n)
      (some (missing s.n (target_count s.m k.state.op.kind) k.state.op.first k.state.tally.counted) s.n) refl refl refl)
    where
      look : TurnedRound s g h sent c (acted s.n s.m s.size k (Look no_upper_end))
      look = does_look s g h sent c k v i items n no_upper_end (λ e. omega (arith, e)) (λ e. omega (arith, e)) (λ u l m. absurd (omega arith)) (λ e. absurd (omega (arith, e, phase)))

      go : (x y z : Bool)
          → some (said_no k.state.tally.counted k.state.tally.granted) s.n ≡ x
          → some (other_time k.state.tally.counted k.state.tally.found (highest k.state.tally.counted k.state.tally.found s.n)) s.n ≡ y
          → some (missing s.n (target_count s.m k.state.op.kind) k.state.op.first k.state.tally.counted) s.n ≡ z
          → TurnedRound s g h sent c
          (acted s.n s.m s.size k
          (cond x Abort (cond (y || z) (Look no_upper_end) (Modify (highest k.state.tally.counted k.state.tally.found s.n)))))
      go true y z ex ey ez = does_abort s g h sent c k v i items n
      go false true z ex ey ez = look
      go false false true ex ey ez = look
      go false false false ex ey ez = does_modify s g h sent c k v i items n ex ey ez kind phase enough
  does_decide (modifying kind phase _) high =
      subst turned (sym (decided_storing s.n s.m k.state.op k.state.tally (omega arith)))
      (go (some (said_no k.state.tally.counted k.state.tally.granted) s.n) refl)
    where
      writes : is_reading k.state.op.kind ≡ false
      writes = unfold is_reading in
          rw (ne_eqb k.state.op.kind reading_kind (λ q. omega (arith, q, kind)), ne_eqb k.state.op.kind reading_block_kind (λ q. omega (arith, q, kind))) refl

      go : (x : Bool) → some (said_no k.state.tally.counted k.state.tally.granted) s.n ≡ x
          → TurnedRound s g h sent c (acted s.n s.m s.size k (cond x Abort Finish))
      go true e = does_abort s g h sent c k v i items n
      go false e = does_finish s g h sent c k v i items n (inr (phase, writes)) e enough

-- a reply that its coordinator takes
pub reply_turned : (s : Settings) (g : SettingsRange s) (h : Hist s) (sent : List Item) (c : ℕ) (k : Buffered) → Valid (quorums s g) h
    → CoordinatorInv s g h sent c k → ((z : Item) → z ∈ sent → ItemInv s g h sent z) → (a : Reply) (block : List ℕ) → reply a block ∈ sent → (w : Went)
    → take_step s.n s.m s.size s.stripes k a block (s.n * s.size) ≡ went w → TurnedRound s g h sent c w
reply_turned s g h sent c k v i items a block was w e =
    let t = took s.n s.m s.size s.stripes k a block (s.n * s.size) w e in
    subst (TurnedRound s g h sent c) t.is (unfold waiting_or in decides t _ refl)
  where
    after : Buffered
    after = counting s.size k a block

    decides : ReplyTaken s.n s.m s.size s.stripes k a block (s.n * s.size) w → (b : Bool) → ltb (members after.state.tally.counted s.n) (quorum s.n s.m) ≡ b
        → TurnedRound s g h sent c
        (cond b (record { next = after; sent = []; seen = nothing_seen })
        (acted s.n s.m s.size after (decided s.n s.m after.state.op after.state.tally)))
    decides t true e = stays s g h sent c after (counting_keeps s g h sent c k a block (s.n * s.size) w i t was) v
    decides t false e =
        let o = sound_op s k t.takes.parts in
        let p : read_kind ≤ k.state.op.phase = omega (arith, t.reply.kind-low, t.answer.of-phase) in
        let f = o.fits p in
        unfold counting with_tally in
        (does_decide s g h sent c after v (counting_keeps s g h sent c k a block (s.n * s.size) w i t was) items
        (busy f) o.first-low o.block-low t.takes.stripe-length (ltb-false (members after.state.tally.counted s.n) (quorum s.n s.m) e) f
        (o.time-high (kind-low f)))
      where
        runs : Fit k.state.op → k.state.op.kind ≡ idle_kind → ⊥
        runs (reading q p _) e = reading_runs k.state.op.kind q e
        runs (looking q p _ _) e = recovering_runs k.state.op.kind q e
        runs (restoring q p _) e = recovering_runs k.state.op.kind q e
        runs (ordering q p _ _) e = omega (arith, q, e)
        runs (storing q p _) e = omega (arith, q, e)
        runs (block_ordering q p _) e = omega (arith, q, e)
        runs (modifying q p _) e = omega (arith, q, e)

        kind-low : Fit k.state.op → reading_kind ≤ k.state.op.kind
        kind-low f = let z = runs f in omega (arith, z)

        busy : Fit k.state.op → k.state.op.kind ≡ idle_kind → ⊥
        busy f q = runs f q

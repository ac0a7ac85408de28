-- A coordinator's operation stays on its stripe (E1): what a reply, a crash and a start leave, send and show.
use mathlib.Core.Path.{◌≡◌, refl, sym, subst}
use mathlib.Core.Bool.{Bool, true, false, cond}
use mathlib.Core.List.Memᴰ
use mathlib.Core.List.{List, [], ◌∷◌, Memᴰ}
use mathlib.Core.Logic.{◌⊎◌, inl, inr, ⊎_elim}
use Prim.Native.Nat.{ℕ, ◌<◌}
use native.Mathlib.Omega.{arith}
use lib.Dec.{eqb, ltb}
use lib.ListN.{length}
use borrow.Author.Tests.{eqb-true}
use Rattle.coord_apply.proofs.Laws.ActLaws.{recover_either}
use Rattle.coord_apply.proofs.Laws.FirstLaws.{drops_either, trims_either}
use Rattle.coord_apply.specs.Acts.{finished_seen, round_message, clear_message, clearing, drops_first, trims_first, sending_first, next_op, opened}
use Rattle.coord_apply.specs.Acts.{next_round, modifying, ending, acted, with_tally, counting, waiting_or, first_op, starting}
use Rattle.coord_apply.specs.Answers.{Buffered, Broadcast, Went, went, nothing_seen, began_seen, ok_seen, read_seen, cut_seen}
use Rattle.coord_decide.specs.Deciding.{decided}
use Rattle.coord_decide.specs.declared.Decision.{Decision}
use Rattle.coord_decide.specs.declared.Decision.TheVariants.{Abort, Give, Look, Store, Modify, Recover, Finish}
use Rattle.coord_laws.proofs.Laws.OpCaseLaws.{phase_runs}
use Rattle.coord_laws.proofs.Laws.SoundnessLaws.{passes, same_went, drawn_went}
use Rattle.coord_laws.proofs.Laws.StepRunLaws.{took}
use Rattle.coord_record.specs.Records.{no_op, no_bricks, idle_with, idle_kind, reading_kind, writing_kind, reading_block_kind, writing_block_kind, is_reading}
use Rattle.coord_record.specs.declared.Coordinator.{Coordinator}
use Rattle.coord_record.specs.declared.Op.{Op}
use Rattle.coord_record.specs.declared.Tally.{Tally}
use Rattle.coord_refusals.proofs.Laws.RefusedLaws.{record_passes, stripe_passes}
use Rattle.coord_refusals.specs.Checks.{stripe_checks, write_checks, read_checks, start_checks, write_refusal, read_refusal, write_block_refusal, read_block_refusal, crash_refusal}
use Rattle.coord_tally.specs.Counting.{target_flags}
use Rattle.coordinator.specs.Routines.{drawn_then, write_step, read_step, write_block_step, read_block_step, take_step, crashed, crash_step}
use Rattle.coordinator.proofs.Laws.RoutineLaws.{write_block_passed, read_block_passed}
use Rattle.erasure.specs.Code.{block_of, with_block}
use Rattle.message.specs.Flags.{members}
use Rattle.message.specs.Kinds.{read_kind, order_kind, order_block_kind, modify_kind, trim_kind, drop_kind, block_targets}
use Rattle.message.specs.declared.Reply.{Reply}
use Rattle.settings.proofs.Laws.RefusalLaws.{passed_first, passed_rest, tested}
use Rattle.settings.proofs.Laws.TimeLaws.{gave}
use Rattle.settings.specs.Ranges.{code_refusal, stripe_count_refusal, quorum}
use Rattle.settings.specs.Refusal.{first_refusal, refuse_unless, busy}
use Rattle.settings.specs.Times.{next_count, draw_refusal, draw_of}
use Rattle.settings.specs.declared.Clock.{Clock}
use Rattle.settings.specs.Times.{Drawn}

-- Clock and settings stay; what still runs is on the stripe that it was on, and all that is sent and shown is of that stripe.
pub record KeepsStripe (h : Buffered) (w : Went) : Type 0 where
  pub same-clock : w.next.state.clock ≡ h.state.clock
  pub same-geometry : w.next.state.geometry ≡ h.state.geometry
  pub still : (w.next.state.op.kind ≡ idle_kind → ⊥) → w.next.state.op.stripe ≡ h.state.op.stripe
  pub sends : (z : Broadcast) → Memᴰ z w.sent → z.message.stripe ≡ h.state.op.stripe
  pub shows : (w.seen.stripe ≡ h.state.op.stripe) ⊎ (w.seen ≡ nothing_seen)
  -- none begins
  pub no_start : w.seen.what ≡ began_seen → ⊥

-- nothing but the record changes
waits : (h : Buffered) → KeepsStripe h (record { next = h; sent = []; seen = nothing_seen })
unfolding nothing_seen
waits h =
    record {
      same-clock = refl;
      same-geometry = refl;
      still = λ k. refl;
      sends = λ z m. absurd (Memᴰ.not-nil m);
      shows = inr refl;
      no_start = λ e. omega (arith, e);
    }

-- an end sends nothing, or messages of the stripe
ends : (n : ℕ) (h : Buffered) (stripe bricks : List ℕ) (sent : List Broadcast) (what : ℕ) → ((z : Broadcast) → Memᴰ z sent → z.message.stripe ≡ h.state.op.stripe)
    → (what ≡ began_seen → ⊥) → KeepsStripe h (ending n h stripe sent what bricks)
unfolding ending idle_with no_op
ends n h stripe bricks sent what s not-begun =
    record { same-clock = refl; same-geometry = refl; still = λ k. absurd (k refl); sends = s; shows = inl refl; no_start = not-begun }

none_sent : (s : ℕ) (z : Broadcast) → Memᴰ z [] → z.message.stripe ≡ s
none_sent s z m = absurd (Memᴰ.not-nil m)

one_sent : (s : ℕ) (x : Broadcast) → x.message.stripe ≡ s → (z : Broadcast) → Memᴰ z (x ∷ []) → z.message.stripe ≡ s
one_sent s x e z m = subst (λ (y : Broadcast). y.message.stripe ≡ s) (sym (Memᴰ.eq_of_singleton m)) e

-- the next round
opens : (h : Buffered) (phase max : ℕ) (bricks stripe coded : List ℕ) → KeepsStripe h (next_round h phase max bricks stripe coded)
unfolding next_round opened next_op round_message nothing_seen
opens h phase max bricks stripe coded =
    record {
      same-clock = refl;
      same-geometry = refl;
      still = λ k. refl;
      sends = one_sent h.state.op.stripe (record { message = round_message (next_op h.state.op phase max) 0 no_bricks; blocks = coded; old = [] }) refl;
      shows = inr refl;
      no_start = λ e. omega (arith, e);
    }

modifies : (size : ℕ) (h : Buffered) (time : ℕ) → KeepsStripe h (modifying size h time)
unfolding modifying opened next_op round_message nothing_seen
modifies size h time =
    record {
      same-clock = refl;
      same-geometry = refl;
      still = λ k. refl;
      sends =
          one_sent h.state.op.stripe
          (record {
            message = round_message (next_op h.state.op modify_kind 0) time no_bricks;
            blocks = block_of size h.stripe h.state.op.first;
            old = block_of size h.blocks h.state.op.first;
          })
          refl;
      shows = inr refl;
      no_start = λ e. omega (arith, e);
    }

-- E6: what goes out ahead of a round is of the stripe
of_stripe : (s : ℕ) → List Broadcast → Type 0
of_stripe s l = (z : Broadcast) → Memᴰ z l → z.message.stripe ≡ s

clears : (op : Op) (kind time : ℕ) → of_stripe op.stripe (clearing kind op time ∷ [])
unfolding of_stripe clearing clear_message
clears op kind time = one_sent op.stripe (clearing kind op time) refl

drops : (op : Op) (max : ℕ) → of_stripe op.stripe (drops_first op max)
unfolding of_stripe
drops op max = drops_either op max (of_stripe op.stripe) (λ _. none_sent op.stripe) (λ _. clears op drop_kind max)

trims : (n m : ℕ) (op : Op) (t : Tally) (time : ℕ) → of_stripe op.stripe (trims_first n m op t time)
unfolding of_stripe
trims n m op t time = trims_either n m op t time (of_stripe op.stripe) (λ _. none_sent op.stripe) (λ _. clears op trim_kind time)

sends_first : (h : Buffered) (first : List Broadcast) (w : Went) → of_stripe h.state.op.stripe first → KeepsStripe h w → KeepsStripe h (sending_first first w)
unfolding of_stripe sending_first
sends_first h first w f k =
    record {
      same-clock = k.same-clock;
      same-geometry = k.same-geometry;
      still = k.still;
      sends = λ z u. ⊎_elim (f z) (k.sends z) (Memᴰ.append_cases first u);
      shows = k.shows;
      no_start = k.no_start;
    }

-- a finished operation is told as such
finished_told : (op : Op) → finished_seen op ≡ began_seen → ⊥
unfolding finished_seen
finished_told op = go (is_reading op.kind)
  where
    go : (b : Bool) → cond b read_seen ok_seen ≡ began_seen → ⊥
    go true e = omega (arith, e)
    go false e = omega (arith, e)

acted_keeps : (n m size : ℕ) (h : Buffered) (d : Decision) → KeepsStripe h (acted n m size h d)
unfolding acted of_stripe
acted_keeps n m size h Abort = ends n h _ _ [] _ (none_sent h.state.op.stripe) (λ e. omega (arith, e))
acted_keeps n m size h Give = ends n h _ _ [] _ (none_sent h.state.op.stripe) (λ e. omega (arith, e))
acted_keeps n m size h (Look max) = sends_first h _ _ (drops h.state.op max) (opens h _ _ _ _ _)
acted_keeps n m size h Store = opens h _ _ _ _ _
acted_keeps n m size h (Modify time) = modifies size h time
acted_keeps n m size h (Recover time) =
    recover_either n m size h time (KeepsStripe h) (sends_first h _ _ (trims n m h.state.op h.state.tally time) (opens h _ _ _ _ _))
    (ends n h _ _ [] _ (none_sent h.state.op.stripe) (λ e. omega (arith, e)))
acted_keeps n m size h Finish =
    ends n h _ _ _ _ (clears h.state.op trim_kind h.state.op.time) (finished_told h.state.op)

waiting_keeps : (n m size : ℕ) (h : Buffered) → KeepsStripe h (waiting_or n m size h)
unfolding waiting_or
waiting_keeps n m size h = go (ltb (members h.state.tally.counted n) (quorum n m))
  where
    go : (b : Bool) → KeepsStripe h (cond b (record { next = h; sent = []; seen = nothing_seen }) (acted n m size h (decided n m h.state.op h.state.tally)))
    go true = waits h
    go false = acted_keeps n m size h (decided n m h.state.op h.state.tally)

-- a reply counted leaves clock, settings and operation
counted_keeps : (size : ℕ) (h : Buffered) (r : Reply) (block : List ℕ) (w : Went) → KeepsStripe (counting size h r block) w → KeepsStripe h w
unfolding counting with_tally
counted_keeps size h r block w k =
    record { same-clock = k.same-clock; same-geometry = k.same-geometry; still = k.still; sends = k.sends; shows = k.shows; no_start = k.no_start }

-- A REPLY LEAVES THE OPERATION ON ITS STRIPE,
pub take_keeps_stripe : (n m size stripes : ℕ) (h : Buffered) (r : Reply) (block : List ℕ) (coded : ℕ) (w : Went) → take_step n m size stripes h r block coded ≡ went w
    → KeepsStripe h w
take_keeps_stripe n m size stripes h r block coded w e =
    counted_keeps size h r block w (subst (KeepsStripe (counting size h r block)) (took n m size stripes h r block coded w e).is (waiting_keeps n m size (counting size h r block)))

-- and is of that stripe itself,
pub taken_stripe : (n m size stripes : ℕ) (h : Buffered) (r : Reply) (block : List ℕ) (coded : ℕ) (w : Went) → take_step n m size stripes h r block coded ≡ went w
    → r.stripe ≡ h.state.op.stripe
taken_stripe n m size stripes h r block coded w e = (took n m size stripes h r block coded w e).answer.of-stripe

-- where an operation runs.
pub taken_runs : (n m size stripes : ℕ) (h : Buffered) (r : Reply) (block : List ℕ) (coded : ℕ) (w : Went) → take_step n m size stripes h r block coded ≡ went w
    → h.state.op.kind ≡ idle_kind → ⊥
taken_runs n m size stripes h r block coded w e =
    let t = took n m size stripes h r block coded w e in
    phase_runs h.state.op t.takes.parts.op-right (omega (arith, t.answer.of-phase, t.reply.kind-low))

-- A CRASH LEAVES NONE, and shows the one that it cut by its stripe.
pub crash_keeps_stripe : (n m size stripes : ℕ) (h : Buffered) (w : Went) → crash_step n m size stripes h ≡ went w → KeepsStripe h w
unfolding crash_step crashed
crash_keeps_stripe n m size stripes h w e =
    go (eqb h.state.op.kind idle_kind) (passes (crash_refusal n m size stripes h.state) (went (crashed n h)) w e).1
  where
    go : (b : Bool) → went (cond b (record { next = h; sent = []; seen = nothing_seen }) (ending n h h.stripe [] cut_seen no_bricks)) ≡ went w → KeepsStripe h w
    go true q = subst (KeepsStripe h) (same_went (record { next = h; sent = []; seen = nothing_seen }) w q) (waits h)
    go false q =
        subst (KeepsStripe h) (same_went (ending n h h.stripe [] cut_seen no_bricks) w q) (ends n h h.stripe no_bricks [] cut_seen (none_sent h.state.op.stripe) (λ e. omega (arith, e)))

-- A START AT AN IDLE COORDINATOR RUNS ON THE STRIPE GIVEN; "one clock for all stripes": the count rises whichever stripe it is.
pub record StartsOn (stripes number : ℕ) (h : Buffered) (w : Went) : Type 0 where
  pub was-idle : h.state.op.kind ≡ idle_kind
  pub stripe-low : number < stripes
  pub stripe-is : w.next.state.op.stripe ≡ number
  pub now-runs : w.next.state.op.kind ≡ idle_kind → ⊥
  pub sends : (z : Broadcast) → Memᴰ z w.sent → z.message.stripe ≡ number
  pub shows : w.seen.stripe ≡ number
  pub same_number : w.next.state.clock.coordinator ≡ h.state.clock.coordinator
  pub rises : h.state.clock.last < w.next.state.clock.last
  pub same-geometry : w.next.state.geometry ≡ h.state.geometry

-- the last checks of a start: the stripe, and no operation
start_checked : (n m size stripes : ℕ) (c : Coordinator) (number reading : ℕ) → first_refusal (stripe_checks n m size stripes c number (start_checks c reading)) ≡ 0
    → (number < stripes) × (c.op.kind ≡ idle_kind)
unfolding start_checks
start_checked n m size stripes c number reading e =
    let k = stripe_passes n m size stripes c number (start_checks c reading) e in
    let s = (record_passes n m size stripes c (start_checks c reading) k.1).1 in
    let b = passed_first (refuse_unless (eqb c.op.kind idle_kind) busy) [] (passed_rest (draw_refusal c.clock reading) _ s) in
    (k.0, eqb-true c.op.kind idle_kind (tested (eqb c.op.kind idle_kind) _ b))

starts : (stripes number : ℕ) (h : Buffered) (reading kind phase first t : ℕ) (next : Clock) (stripe targets : List ℕ) → (number < stripes) × (h.state.op.kind ≡ idle_kind)
    → (kind ≡ idle_kind → ⊥) → draw_of h.state.clock reading ≡ Drawn t next → StartsOn stripes number h (starting h next (first_op kind phase number t first) stripe targets)
unfolding starting first_op round_message next_count
starts stripes number h reading kind phase first t next stripe targets c k e =
    let g = gave h.state.clock reading t next e in
    record {
      was-idle = c.1;
      stripe-low = c.0;
      stripe-is = refl;
      now-runs = k;
      sends = one_sent number (record { message = round_message (first_op kind phase number t first) 0 targets; blocks = []; old = [] }) refl;
      shows = refl;
      same_number = g.same;
      rises = omega (arith, g.count);
      same-geometry = refl;
    }

-- A write:
pub write_starts : (n m size stripes : ℕ) (h : Buffered) (number reading : ℕ) (bytes : List ℕ) (w : Went) → write_step n m size stripes h number reading bytes ≡ went w
    → StartsOn stripes number h w
unfolding write_step write_refusal write_checks
write_starts n m size stripes h number reading bytes w e =
    let f : ℕ → Clock → Went = λ time clock. starting h clock (first_op writing_kind order_kind number time 0) bytes no_bricks in
    let p = passes (write_refusal n m size stripes h.state number reading (length bytes) (length h.stripe)) (drawn_then (draw_of h.state.clock reading) f) w e in
    let c = start_checked n m size stripes h.state number reading (passed_rest _ _ (passed_rest (stripe_count_refusal stripes) _ (passed_rest (code_refusal n m size) _ p.0))) in
    let d = drawn_went (draw_of h.state.clock reading) f w p.1 in
    subst (StartsOn stripes number h) d.3
    (starts stripes number h reading writing_kind order_kind 0 d.0 d.1 bytes no_bricks c (λ q. absurd (omega arith)) d.2)

-- A read:
pub read_starts : (n m size stripes : ℕ) (h : Buffered) (number reading first : ℕ) (w : Went) → read_step n m size stripes h number reading first ≡ went w
    → StartsOn stripes number h w
unfolding read_step read_refusal read_checks
read_starts n m size stripes h number reading first w e =
    let f : ℕ → Clock → Went = λ time clock. starting h clock (first_op reading_kind read_kind number time first) h.stripe (target_flags n m first) in
    let p = passes (read_refusal n m size stripes h.state number reading first) (drawn_then (draw_of h.state.clock reading) f) w e in
    let c = start_checked n m size stripes h.state number reading (passed_rest _ _ (passed_rest (stripe_count_refusal stripes) _ (passed_rest (code_refusal n m size) _ p.0))) in
    let d = drawn_went (draw_of h.state.clock reading) f w p.1 in
    subst (StartsOn stripes number h) d.3
    (starts stripes number h reading reading_kind read_kind first d.0 d.1 h.stripe (target_flags n m first) c (λ q. absurd (omega arith)) d.2)

-- A write of one block:
pub write_block_starts : (n m size stripes : ℕ) (h : Buffered) (number reading block : ℕ) (bytes : List ℕ) (w : Went)
    → write_block_step n m size stripes h number reading block bytes ≡ went w → StartsOn stripes number h w
unfolding write_block_step write_block_refusal
write_block_starts n m size stripes h number reading block bytes w e =
    let f : ℕ → Clock → Went = λ time clock. starting h clock (first_op writing_block_kind order_block_kind number time block) (with_block size h.stripe block bytes) no_bricks in
    let p = passes (write_block_refusal n m size stripes h.state number reading block (length bytes) (length h.stripe)) (drawn_then (draw_of h.state.clock reading) f) w e in
    let k = write_block_passed n m size stripes h.state number block (length bytes) (length h.stripe) _ (start_checks h.state reading) refl p.0 in
    let c = start_checked n m size stripes h.state number reading k.checked in
    let d = drawn_went (draw_of h.state.clock reading) f w p.1 in
    subst (StartsOn stripes number h) d.3
    (starts stripes number h reading writing_block_kind order_block_kind block d.0 d.1 (with_block size h.stripe block bytes) no_bricks c (λ q. absurd (omega arith)) d.2)

-- A read of one block:
pub read_block_starts : (n m size stripes : ℕ) (h : Buffered) (number reading block : ℕ) (w : Went) → read_block_step n m size stripes h number reading block ≡ went w
    → StartsOn stripes number h w
unfolding read_block_step read_block_refusal
read_block_starts n m size stripes h number reading block w e =
    let f : ℕ → Clock → Went = λ time clock. starting h clock (first_op reading_block_kind read_kind number time block) h.stripe (target_flags n block_targets block) in
    let p = passes (read_block_refusal n m size stripes h.state number reading block) (drawn_then (draw_of h.state.clock reading) f) w e in
    let k = read_block_passed n m size stripes h.state number block _ (start_checks h.state reading) refl p.0 in
    let c = start_checked n m size stripes h.state number reading k.checked in
    let d = drawn_went (draw_of h.state.clock reading) f w p.1 in
    subst (StartsOn stripes number h) d.3
    (starts stripes number h reading reading_block_kind read_kind block d.0 d.1 h.stripe (target_flags n block_targets block) c (λ q. absurd (omega arith)) d.2)

-- Every record that a routine leaves is sound.
use mathlib.Core.Path.{◌≡◌, refl, sym, ap, subst, ◌∙◌}
use mathlib.Core.Bool.{Bool, true, false, cond, ◌&&◌, ◌||◌}
use mathlib.Core.List.{List, [], ◌∷◌}
use mathlib.Core.Logic.{◌⊎◌, inl, inr}
use Prim.Native.Nat.{ℕ, ◌-◌, ◌≤◌, ◌<◌, max}
use native.Mathlib.Omega.{arith}
use lib.Dec.{eqb, leb, ltb}
use lib.ListN.{length, get_or, take, replicate, length-take, get_or-eq_default}
use borrow.Author.Tests.{eq-eqb, ne_eqb, le-leb, lt-ltb, le-ltb, eqb-false, leb-true, ltb-true, ltb-false}
use Rattle.coord_apply.proofs.Laws.ActLaws.{recover_either}
use Rattle.coord_apply.specs.Acts.{next_op, opened, sending_first, next_round, modifying, ending, named_bricks, acted, with_tally, counting, waiting_or, first_op, starting}
use Rattle.coord_apply.specs.Answers.{Buffered, Went, Step, refused, went, after_checks, nothing_seen, cut_seen}
use Rattle.coord_refusals.specs.Checks.{record_checks, stripe_checks, write_checks, read_checks, start_checks, write_refusal, read_refusal}
use Rattle.coord_refusals.specs.Checks.{write_block_refusal, read_block_refusal, take_refusal, crash_refusal}
use Rattle.coord_refusals.proofs.Laws.RefusedLaws.{record_passes, stripe_passes}
use Rattle.coordinator.specs.Routines.{drawn_then, write_step, read_step, write_block_step, read_block_step, take_step, crashed, crash_step}
use Rattle.coordinator.proofs.Laws.RoutineLaws.{take_passed, first_low, write_block_passed, read_block_passed}
use Rattle.erasure.specs.Code.{with_block}
use Rattle.coord_laws.proofs.Laws.OpCaseLaws.{clash, reading_recovers, block_recovers, in_read, in_order, in_block_order, in_recovery, first_recovery, next_recovery}
use Rattle.coord_laws.proofs.Laws.OpCaseLaws.{write_stores, block_modifies, recovery_stores}
use Rattle.coord_laws.specs.Soundness.{Sized}
use Rattle.coord_laws.proofs.Laws.TallyLaws.{Answering, answering, ReplyParts, reply_parts, tallied_sized, tallied_right, zeros_at, zeros_counted, highest_valid}
use Rattle.byte_lists.proofs.Laws.EachLaws.{each_all}
use Rattle.coord_record.specs.Records.{no_op, no_bricks, nothing_counted, idle_with, idle_kind, reading_kind, writing_kind, reading_block_kind, writing_block_kind, is_reading, on_block, target_count}
use Rattle.coord_record.specs.CountedRules.{entry_right, said_right, kept_right, tally_right, brick_right, bricks_right}
use Rattle.coord_record.specs.Sound.{same_geometry, op_right, unset_op, opening_right, read_right, write_right, block_write_right, time_right, named_count, sound_record}
use Rattle.coord_record.proofs.Laws.SoundPartLaws.{sound_from, sound_parts}
use Rattle.coord_record.specs.declared.Coordinator.{Coordinator}
use Rattle.coord_record.specs.declared.Geometry.{Geometry}
use Rattle.coord_record.specs.declared.Op.{Op}
use Rattle.coord_record.specs.declared.Tally.{Tally}
use Rattle.coord_tally.specs.Counting.{at_times, passing, in_row, picked, target_flags}
use Rattle.coord_decide.specs.Deciding.{tallied, decided}
use Rattle.coord_decide.specs.Decisions.{AllYes, DecisionSays, Lowers, Recovers, found_time, holders}
use Rattle.coord_decide.proofs.Laws.SaysLaws.{decided_says}
use Rattle.coord_tally.proofs.Laws.RowSets.{picked_below, picked_rises}
use Rattle.coord_decide.specs.declared.Decision.{Decision}
use Rattle.coord_decide.specs.declared.Decision.TheVariants.{Abort, Give, Look, Store, Modify, Recover, Finish}
use Rattle.byte_lists.proofs.Laws.TabulateLaws.{get_d_tabulate}
use Rattle.message.specs.Flags.{members}
use Rattle.message.specs.declared.Reply.{Reply}
use Rattle.settings.specs.Count.{count}
use Rattle.settings.proofs.Laws.QuorumLaws.{quorum_low}
use Rattle.settings.specs.Ranges.{CodeRange, max_bricks}
use Rattle.settings.proofs.Laws.RangeLaws.{code_passed}
use Rattle.settings.specs.Ranges.{quorum, code_refusal, stripe_count_refusal}
use Rattle.settings.proofs.Laws.TimeLaws.{gave}
use Rattle.settings.specs.Refusal.{first_refusal}
use Rattle.settings.specs.Times.{max_count, no_upper_end, time_of, valid_time, next_count, draw_of, last_coordinator}
use Rattle.settings.specs.declared.Clock.{Clock}
use Rattle.settings.specs.Times.{Draw}
use Rattle.settings.specs.Times.{Drawn, Refused}
use Rattle.settings.proofs.Laws.RefusalLaws.{passed_first, passed_rest}
use Rattle.coord_laws.specs.Soundness.{Good, Full}
use Rattle.message.specs.Kinds.{read_kind, order_kind, order_read_kind, order_block_kind, write_kind, modify_kind, block_targets}

pub none_sized : Sized nothing_counted
unfolding nothing_counted
none_sized = record { counted-size = refl; granted-size = refl; held-size = refl; found-size = refl; said-size = refl }

none_right : (n m phase first : ℕ) → tally_right n m phase first nothing_counted ≡ true
unfolding tally_right kept_right nothing_counted entry_right said_right
none_right n m phase first = each_all (kept_right n m phase first nothing_counted) max_bricks (λ b l. rw (zeros_at max_bricks b))

none_few : (n m size : ℕ) → CodeRange n m size → members nothing_counted.counted n < quorum n m
unfolding nothing_counted
none_few n m size r = let e = zeros_counted n in let q = quorum_low n m r.m-high in omega (arith, r.m-low)

no_bricks_right : (n : ℕ) → bricks_right n 0 no_bricks ≡ true
unfolding bricks_right no_bricks brick_right
no_bricks_right n =
    each_all (λ (i : ℕ). brick_right n 0 i (get_or (replicate max_bricks 0) (i - 1) 0) (get_or (replicate max_bricks 0) i 0)) max_bricks
    (λ i l. rw (le-ltb i 0 (omega arith), zeros_at max_bricks i))

idle_op : op_right no_op ≡ true
unfolding op_right no_op unset_op
idle_op = refl

idle_time : (clock : Clock) → time_right 0 0 clock ≡ true
unfolding time_right
idle_time clock = refl

idle_bricks : (n m : ℕ) → bricks_right n (named_count m no_op) no_bricks ≡ true
unfolding named_count no_op is_reading
idle_bricks n m = no_bricks_right n

idle_block : (m : ℕ) → on_block idle_kind ≡ true → 0 < m
unfolding on_block
idle_block m e = clash e

-- An idle coordinator is good.
pub idle_good : (n m size stripes : ℕ) (geometry : Geometry) (clock : Clock) → CodeRange n m size → 1 ≤ stripes → same_geometry n m size stripes geometry ≡ true
    → clock.coordinator ≤ last_coordinator → clock.last ≤ max_count → Good n m size stripes (idle_with geometry clock)
unfolding idle_with no_op
idle_good n m size stripes geometry clock r some same a b =
    record {
      parts =
          record {
            made-for = same;
            number-low = a;
            last-low = b;
            first-low = omega (arith, r.n-low);
            stripe-low = omega (arith, some);
            block-low = idle_block m;
            op-right = idle_op;
            time-right = idle_time clock;
            bricks-right = idle_bricks n m;
            tally-right = none_right n (target_count m idle_kind) 0 0;
            few-counted = none_few n m size r;
          };
      sizes = none_sized;
    }

-- the next round
opened_good : (n m size stripes phase max : ℕ) (c : Coordinator) (bricks : List ℕ) → CodeRange n m size → Full n m size stripes c → op_right (next_op c.op phase max) ≡ true
    → bricks_right n (named_count m (next_op c.op phase max)) bricks ≡ true → Good n m size stripes (opened c phase max bricks)
unfolding opened next_op
opened_good n m size stripes phase max c bricks r f o b =
    record {
      parts =
          record {
            made-for = f.made-for;
            number-low = f.number-low;
            last-low = f.last-low;
            first-low = f.first-low;
            stripe-low = f.stripe-low;
            block-low = f.block-low;
            op-right = o;
            time-right = f.time-right;
            bricks-right = b;
            tally-right = none_right n (target_count m c.op.kind) phase c.op.first;
            few-counted = none_few n m size r;
          };
      sizes = none_sized;
    }

-- the bricks that a recovery names
picked_past : (held found : List ℕ) (time n m i : ℕ) → m ≤ i → i < max_bricks → get_or (picked held found time n m) i 0 ≡ 0
unfolding picked in_row
picked_past held found time n m i h l =
    get_d_tabulate max_bricks (λ (k : ℕ). get_or (take m (passing (at_times held found time) n)) k 0) i l
    ∙ get_or-eq_default (take m (passing (at_times held found time) n)) 0 (let e = length-take m (passing (at_times held found time) n) in omega arith)

pub picked_right : (held found : List ℕ) (time n m : ℕ) → m ≤ max_bricks → m ≤ count (at_times held found time) n → bricks_right n m (picked held found time n m) ≡ true
unfolding bricks_right brick_right
picked_right held found time n m few enough =
    each_all (λ (i : ℕ). brick_right n m i (get_or (picked held found time n m) (i - 1) 0) (get_or (picked held found time n m) i 0)) max_bricks
    (λ i l. go i l (ltb i m) (eqb i 0) refl refl)
  where
    go : (i : ℕ) → i < max_bricks → (a z : Bool) → ltb i m ≡ a → eqb i 0 ≡ z
        → cond a (ltb (get_or (picked held found time n m) i 0) n && (z || ltb (get_or (picked held found time n m) (i - 1) 0) (get_or (picked held found time n m) i 0)))
        (eqb (get_or (picked held found time n m) i 0) 0) ≡ true
    go i l true true ea ez = rw (lt-ltb (get_or (picked held found time n m) i 0) n (picked_below held found time n m enough few i (ltb-true i m ea)))
    go i l true false ea ez =
        let h = ltb-true i m ea in
        let p : i - 1 < i = (let q = eqb-false i 0 ez in omega arith) in
        rw (
          lt-ltb (get_or (picked held found time n m) i 0) n (picked_below held found time n m enough few i h),
          lt-ltb (get_or (picked held found time n m) (i - 1) 0) (get_or (picked held found time n m) i 0) (picked_rises held found time n m enough few (i - 1) i p h),
        )
    go i l false z ea ez = rw (picked_past held found time n m i (ltb-false i m ea) l)

-- how many are named: none by a write, and none but in a Write round
named_write : (m : ℕ) (op : Op) → op.kind ≡ writing_kind → named_count m (next_op op write_kind 0) ≡ 0
unfolding named_count next_op is_reading
named_write m op k = rw k

named_none : (m phase max : ℕ) (op : Op) → eqb phase write_kind ≡ false → named_count m (next_op op phase max) ≡ 0
unfolding named_count next_op
named_none m phase max op e = rw e (go (is_reading op.kind))
  where
    go : (a : Bool) → cond (a && false) m 0 ≡ 0
    go true = refl
    go false = refl

named_right : (n m : ℕ) (op : Op) (row : List ℕ) → bricks_right n m row ≡ true → bricks_right n (named_count m (next_op op write_kind 0)) (named_bricks op row) ≡ true
unfolding named_count next_op named_bricks
named_right n m op row e = go (is_reading op.kind)
  where
    go : (a : Bool) → bricks_right n (cond (a && true) m 0) (cond a row no_bricks) ≡ true
    go true = e
    go false = no_bricks_right n

-- a max that is a time found is valid
pub lowers_valid : (n m k : ℕ) (op : Op) (t : Tally) (max : ℕ) → n ≤ max_bricks → tally_right n k op.phase op.first t ≡ true → Lowers n m op t max → valid_time max ≡ true
unfolding found_time
lowers_valid n m k op t max few e w = ap valid_time w.time-is ∙ highest_valid n k op.phase op.first t few e (λ q. w.not_first (w.time-is ∙ q))

-- and so is a time recovered, other than 0
pub recovers_valid : (n m k : ℕ) (op : Op) (t : Tally) (time : ℕ) → n ≤ max_bricks → tally_right n k op.phase op.first t ≡ true → Recovers n m op t time → (time ≡ 0 → ⊥)
    → valid_time time ≡ true
unfolding found_time
recovers_valid n m k op t time few e s h = ap valid_time s.time-is ∙ highest_valid n k op.phase op.first t few e (λ q. h (s.time-is ∙ q))

recovered_good : (n m size stripes : ℕ) (c : Coordinator) (time : ℕ) → CodeRange n m size → Full n m size stripes c → Recovers n m c.op c.tally time
    → Good n m size stripes (opened c write_kind 0 (named_bricks c.op (picked c.tally.held c.tally.found time n m)))
unfolding holders
recovered_good n m size stripes c time r f s =
    let i = in_recovery c.op f.op-right s.phase-is in
    let row = picked c.tally.held c.tally.found time n m in
    opened_good n m size stripes write_kind 0 c (named_bricks c.op row) r f (recovery_stores c.op i s.round-low)
    (named_right n m c.op row (picked_right c.tally.held c.tally.found time n m (omega (arith, r.m-high, r.n-high)) s.enough))

-- What a decision leaves is good.
pub acted_good : (n m size stripes : ℕ) (h : Buffered) → CodeRange n m size → Full n m size stripes h.state
    → Good n m size stripes (acted n m size h (decided n m h.state.op h.state.tally)).next.state
unfolding acted ending sending_first next_round modifying DecisionSays
acted_good n m size stripes h r f = go (decided n m h.state.op h.state.tally) (decided_says n m h.state.op h.state.tally)
  where
    idle : Good n m size stripes (idle_with h.state.geometry h.state.clock)
    idle = idle_good n m size stripes h.state.geometry h.state.clock r (omega (arith, f.stripe-low)) f.made-for f.number-low f.last-low

    -- a round that names no brick
    plain : (phase max : ℕ) → eqb phase write_kind ≡ false → op_right (next_op h.state.op phase max) ≡ true → Good n m size stripes (opened h.state phase max no_bricks)
    plain phase max p o =
        opened_good n m size stripes phase max h.state no_bricks r f o (ap (λ (k : ℕ). bricks_right n k no_bricks) (named_none m phase max h.state.op p) ∙ no_bricks_right n)

    looked : (max : ℕ)
        → ((h.state.op.phase ≡ read_kind) × (max ≡ no_upper_end))
        ⊎ (((h.state.op.phase ≡ order_block_kind) × AllYes n h.state.tally × (max ≡ no_upper_end)) ⊎ Lowers n m h.state.op h.state.tally max)
        → Good n m size stripes (opened h.state order_read_kind max no_bricks)
    looked max (inl w) =
        let i = in_read h.state.op f.op-right w.0 in
        plain order_read_kind max refl
        (ap (λ (x : ℕ). op_right (next_op h.state.op order_read_kind x)) w.1 ∙ first_recovery h.state.op (reading_recovers h.state.op.kind i.kind-is) i.round_is)
    looked max (inr (inl w)) =
        let i = in_block_order h.state.op f.op-right w.0 in
        plain order_read_kind max refl
        (ap (λ (x : ℕ). op_right (next_op h.state.op order_read_kind x)) w.2 ∙ first_recovery h.state.op (block_recovers h.state.op.kind i.kind-is) i.round_is)
    looked max (inr (inr w)) =
        plain order_read_kind max refl
        (next_recovery h.state.op max (in_recovery h.state.op f.op-right w.phase-is) w.round-low
        (lowers_valid n m (target_count m h.state.op.kind) h.state.op h.state.tally max r.n-high f.tally-right w))

    go : (d : Decision) → DecisionSays n m h.state.op h.state.tally d → Good n m size stripes (acted n m size h d).next.state
    go Abort s = idle
    go Give s = idle
    go (Look max) s = looked max s
    go Store s =
        let i = in_order h.state.op f.op-right s.phase-is in
        opened_good n m size stripes write_kind 0 h.state no_bricks r f (write_stores h.state.op i)
        (ap (λ (k : ℕ). bricks_right n k no_bricks) (named_write m h.state.op i.kind-is) ∙ no_bricks_right n)
    go (Modify time) s = plain modify_kind 0 refl (block_modifies h.state.op (in_block_order h.state.op f.op-right s.phase-is))
    go (Recover time) s =
        recover_either n m size h time (λ (w : Went). Good n m size stripes w.next.state) (recovered_good n m size stripes h.state time r f s) idle
    go Finish s = idle

-- a reply counted
pub counted_full : (n m size stripes : ℕ) (c : Coordinator) (r : Reply) → CodeRange n m size → Good n m size stripes c → ReplyParts n r → Answering n m c.op c.tally r
    → Full n m size stripes (with_tally c (tallied c.tally r))
unfolding with_tally
counted_full n m size stripes c r g k p a =
    record {
      made-for = k.parts.made-for;
      number-low = k.parts.number-low;
      last-low = k.parts.last-low;
      first-low = k.parts.first-low;
      stripe-low = k.parts.stripe-low;
      block-low = k.parts.block-low;
      op-right = k.parts.op-right;
      time-right = k.parts.time-right;
      bricks-right = k.parts.bricks-right;
      tally-right = tallied_right n m c.op c.tally r g.n-high k.sizes k.parts.tally-right p a;
      sizes = tallied_sized c.tally r k.sizes;
    }

pub waiting_good : (n m size stripes : ℕ) (h : Buffered) → CodeRange n m size → Full n m size stripes h.state → Good n m size stripes (waiting_or n m size h).next.state
unfolding waiting_or
waiting_good n m size stripes h r f = go (ltb (members h.state.tally.counted n) (quorum n m)) refl
  where
    kept : members h.state.tally.counted n < quorum n m → Good n m size stripes h.state
    kept l =
        record {
          parts =
              record {
                made-for = f.made-for;
                number-low = f.number-low;
                last-low = f.last-low;
                first-low = f.first-low;
                stripe-low = f.stripe-low;
                block-low = f.block-low;
                op-right = f.op-right;
                time-right = f.time-right;
                bricks-right = f.bricks-right;
                tally-right = f.tally-right;
                few-counted = l;
              };
          sizes = f.sizes;
        }

    go : (b : Bool) → ltb (members h.state.tally.counted n) (quorum n m) ≡ b
        → Good n m size stripes (cond b (record { next = h; sent = []; seen = nothing_seen }) (acted n m size h (decided n m h.state.op h.state.tally))).next.state
    go true e = kept (ltb-true (members h.state.tally.counted n) (quorum n m) e)
    go false e = acted_good n m size stripes h r f

-- a step that is not refused passed its checks
pub passes : (k : ℕ) (s : Step) (w : Went) → after_checks k s ≡ went w → (k ≡ 0) × (s ≡ went w)
unfolding after_checks
passes k s w e = go (leb k 0) refl e
  where
    go : (b : Bool) → leb k 0 ≡ b → cond b s (refused k) ≡ went w → (k ≡ 0) × (s ≡ went w)
    go true l q = ((let z = leb-true k 0 l in omega arith), q)
    go false l q = absurd (let z : ◌≡◌ {A = ℕ} 0 1 = cc in omega arith)

pub same_went : (v w : Went) → went v ≡ went w → v ≡ w
same_went v w e = cc

-- EVERY RECORD THAT A ROUTINE LEAVES IS SOUND. A reply:
pub take_good : (n m size stripes : ℕ) (h : Buffered) (r : Reply) (block : List ℕ) (coded : ℕ) (w : Went) → Good n m size stripes h.state
    → take_step n m size stripes h r block coded ≡ went w → Good n m size stripes w.next.state
unfolding take_step counting
take_good n m size stripes h r block coded w g e =
    let p = passes (take_refusal n m size stripes h.state r (length block) (length h.blocks) (length h.stripe) coded) _ w e in
    let t = take_passed n m size stripes h.state r (length block) (length h.blocks) (length h.stripe) coded _ refl p.0 in
    subst (λ (v : Went). Good n m size stripes v.next.state) (same_went (waiting_or n m size (counting size h r block)) w p.1)
    (waiting_good n m size stripes (counting size h r block) t.range
    (counted_full n m size stripes h.state r t.range g (reply_parts n r t.reply-right) (answering n m h.state.op h.state.tally r t.in-round)))

-- A crash:
pub crash_good : (n m size stripes : ℕ) (h : Buffered) (w : Went) → Good n m size stripes h.state → crash_step n m size stripes h ≡ went w → Good n m size stripes w.next.state
unfolding crash_step crashed crash_refusal ending
crash_good n m size stripes h w g e = go (eqb h.state.op.kind idle_kind) p.1
  where
    p : (crash_refusal n m size stripes h.state ≡ 0) × (went (crashed n h) ≡ went w)
    p = passes (crash_refusal n m size stripes h.state) (went (crashed n h)) w e

    range : CodeRange n m size
    range = code_passed n m size (passed_first (code_refusal n m size) (stripe_count_refusal stripes ∷ record_checks n m size stripes h.state []) p.0)

    go : (b : Bool) → went (cond b (record { next = h; sent = []; seen = nothing_seen }) (ending n h h.stripe [] cut_seen no_bricks)) ≡ went w → Good n m size stripes w.next.state
    go true q = subst (λ (v : Went). Good n m size stripes v.next.state) (same_went (record { next = h; sent = []; seen = nothing_seen }) w q) g
    go false q =
        subst (λ (v : Went). Good n m size stripes v.next.state) (same_went (ending n h h.stripe [] cut_seen no_bricks) w q)
        (idle_good n m size stripes h.state.geometry h.state.clock range (omega (arith, g.parts.stripe-low)) g.parts.made-for g.parts.number-low g.parts.last-low)

-- the time drawn is the record's own
drawn_right : (kind t reading : ℕ) (clock next : Clock) → (kind ≡ idle_kind → ⊥) → draw_of clock reading ≡ Drawn t next → time_right kind t next ≡ true
unfolding time_right next_count
drawn_right kind t reading clock next k e =
    let g = gave clock reading t next e in
    rw (ne_eqb kind idle_kind k, le-leb 1 next.last (omega (arith, g.count)), eq-eqb t (time_of next.last next.coordinator) (g.time ∙ ap (time_of next.last) (sym g.same)))

pub drawn_low : (t reading : ℕ) (clock next : Clock) → draw_of clock reading ≡ Drawn t next → (next.coordinator ≤ last_coordinator) × (next.last ≤ max_count)
unfolding next_count max_count
drawn_low t reading clock next e =
    let g = gave clock reading t next e in
    (omega (arith, g.same, g.drew.coordinator-high), omega (arith, g.count, g.drew.last-high, g.drew.reading-high))

begun_good : (n m size stripes kind phase number t first reading : ℕ) (geometry : Geometry) (clock next : Clock) → CodeRange n m size → same_geometry n m size stripes geometry ≡ true
    → (kind ≡ idle_kind → ⊥) → draw_of clock reading ≡ Drawn t next → first < n → (on_block kind ≡ true → first < m) → number < stripes
    → op_right (first_op kind phase number t first) ≡ true → named_count m (first_op kind phase number t first) ≡ 0
    → Good n m size stripes (record { geometry = geometry; clock = next; op = first_op kind phase number t first; tally = nothing_counted; bricks = no_bricks })
unfolding first_op
begun_good n m size stripes kind phase number t first reading geometry clock next r same k e f b u o z =
    let l = drawn_low t reading clock next e in
    record {
      parts =
          record {
            made-for = same;
            number-low = l.0;
            last-low = l.1;
            first-low = f;
            stripe-low = u;
            block-low = b;
            op-right = o;
            time-right = drawn_right kind t reading clock next k e;
            bricks-right = ap (λ (j : ℕ). bricks_right n j no_bricks) z ∙ no_bricks_right n;
            tally-right = none_right n (target_count m kind) phase first;
            few-counted = none_few n m size r;
          };
      sizes = none_sized;
    }

first_write : (m number t : ℕ) → (op_right (first_op writing_kind order_kind number t 0) ≡ true) × (named_count m (first_op writing_kind order_kind number t 0) ≡ 0)
unfolding op_right is_reading write_right first_op named_count
first_write m number t = (refl, refl)

first_read : (m number t first : ℕ) → (op_right (first_op reading_kind read_kind number t first) ≡ true) × (named_count m (first_op reading_kind read_kind number t first) ≡ 0)
unfolding op_right is_reading read_right opening_right first_op named_count
first_read m number t first = (refl, refl)

first_write_block : (m number t block : ℕ)
    → (op_right (first_op writing_block_kind order_block_kind number t block) ≡ true) × (named_count m (first_op writing_block_kind order_block_kind number t block) ≡ 0)
unfolding op_right is_reading block_write_right opening_right first_op named_count
first_write_block m number t block = (refl, refl)

first_read_block : (m number t block : ℕ)
    → (op_right (first_op reading_block_kind read_kind number t block) ≡ true) × (named_count m (first_op reading_block_kind read_kind number t block) ≡ 0)
unfolding op_right is_reading read_right opening_right first_op named_count
first_read_block m number t block = (refl, refl)

-- an operation on the stripe is on no block
write_whole : {A : Type 0} → on_block writing_kind ≡ true → A
unfolding on_block
write_whole e = clash e

read_whole : {A : Type 0} → on_block reading_kind ≡ true → A
unfolding on_block
read_whole e = clash e

-- what a draw led to
pub drawn_went : (d : Draw) (f : ℕ → Clock → Went) (w : Went) → drawn_then d f ≡ went w → (t : ℕ) × (next : Clock) × (d ≡ Drawn t next) × (f t next ≡ w)
unfolding drawn_then
drawn_went (Drawn t next) f w e = (t, next, refl, same_went (f t next) w e)
drawn_went (Refused k) f w e = absurd (let z : ◌≡◌ {A = ℕ} 0 1 = cc in omega arith)

-- a record whose checks pass is for the settings given, and the stripe is one of the volume
record_same : (n m size stripes : ℕ) (c : Coordinator) (number : ℕ) (more : List ℕ) → first_refusal (stripe_checks n m size stripes c number more) ≡ 0
    → (number < stripes) × (same_geometry n m size stripes c.geometry ≡ true)
record_same n m size stripes c number more e =
    let k = stripe_passes n m size stripes c number more e in
    (k.0, (sound_parts n m size stripes c (record_passes n m size stripes c more k.1).0.is-sound).made-for)

-- A write:
pub write_good : (n m size stripes : ℕ) (h : Buffered) (number reading : ℕ) (bytes : List ℕ) (w : Went) → write_step n m size stripes h number reading bytes ≡ went w
    → Good n m size stripes w.next.state
unfolding write_step write_refusal write_checks starting
write_good n m size stripes h number reading bytes w e =
    let f : ℕ → Clock → Went = λ time clock. starting h clock (first_op writing_kind order_kind number time 0) bytes no_bricks in
    let p = passes (write_refusal n m size stripes h.state number reading (length bytes) (length h.stripe)) (drawn_then (draw_of h.state.clock reading) f) w e in
    let range = code_passed n m size (passed_first (code_refusal n m size) _ p.0) in
    let same = record_same n m size stripes h.state number _ (passed_rest _ _ (passed_rest (stripe_count_refusal stripes) _ (passed_rest (code_refusal n m size) _ p.0))) in
    let d = drawn_went (draw_of h.state.clock reading) f w p.1 in
    subst (λ (v : Went). Good n m size stripes v.next.state) d.3
    (begun_good n m size stripes writing_kind order_kind number d.0 0 reading h.state.geometry h.state.clock d.1 range same.1 (λ q. absurd (omega arith)) d.2
    (omega (arith, range.n-low)) write_whole same.0 (first_write m number d.0).0 (first_write m number d.0).1)

-- A read:
pub read_good : (n m size stripes : ℕ) (h : Buffered) (number reading first : ℕ) (w : Went) → read_step n m size stripes h number reading first ≡ went w
    → Good n m size stripes w.next.state
unfolding read_step read_refusal read_checks starting
read_good n m size stripes h number reading first w e =
    let f : ℕ → Clock → Went = λ time clock. starting h clock (first_op reading_kind read_kind number time first) h.stripe (target_flags n m first) in
    let p = passes (read_refusal n m size stripes h.state number reading first) (drawn_then (draw_of h.state.clock reading) f) w e in
    let range = code_passed n m size (passed_first (code_refusal n m size) _ p.0) in
    let low = first_low n m size stripes h.state number reading first _ refl p.0 in
    let same = record_same n m size stripes h.state number _ (passed_rest _ _ (passed_rest (stripe_count_refusal stripes) _ (passed_rest (code_refusal n m size) _ p.0))) in
    let d = drawn_went (draw_of h.state.clock reading) f w p.1 in
    subst (λ (v : Went). Good n m size stripes v.next.state) d.3
    (begun_good n m size stripes reading_kind read_kind number d.0 first reading h.state.geometry h.state.clock d.1 range same.1 (λ q. absurd (omega arith)) d.2
    low read_whole same.0 (first_read m number d.0 first).0 (first_read m number d.0 first).1)

-- A write of one block:
pub write_block_good : (n m size stripes : ℕ) (h : Buffered) (number reading block : ℕ) (bytes : List ℕ) (w : Went)
    → write_block_step n m size stripes h number reading block bytes ≡ went w → Good n m size stripes w.next.state
unfolding write_block_step write_block_refusal starting
write_block_good n m size stripes h number reading block bytes w e =
    let f : ℕ → Clock → Went = λ time clock. starting h clock (first_op writing_block_kind order_block_kind number time block) (with_block size h.stripe block bytes) no_bricks in
    let p = passes (write_block_refusal n m size stripes h.state number reading block (length bytes) (length h.stripe)) (drawn_then (draw_of h.state.clock reading) f) w e in
    let k = write_block_passed n m size stripes h.state number block (length bytes) (length h.stripe) _ (start_checks h.state reading) refl p.0 in
    let same = record_same n m size stripes h.state number _ k.checked in
    let d = drawn_went (draw_of h.state.clock reading) f w p.1 in
    subst (λ (v : Went). Good n m size stripes v.next.state) d.3
    (begun_good n m size stripes writing_block_kind order_block_kind number d.0 block reading h.state.geometry h.state.clock d.1 k.range same.1 (λ q. absurd (omega arith)) d.2
    (omega (arith, k.block-low, k.range.m-high)) (λ q. k.block-low) same.0 (first_write_block m number d.0 block).0 (first_write_block m number d.0 block).1)

-- A read of one block:
pub read_block_good : (n m size stripes : ℕ) (h : Buffered) (number reading block : ℕ) (w : Went) → read_block_step n m size stripes h number reading block ≡ went w
    → Good n m size stripes w.next.state
unfolding read_block_step read_block_refusal starting
read_block_good n m size stripes h number reading block w e =
    let f : ℕ → Clock → Went = λ time clock. starting h clock (first_op reading_block_kind read_kind number time block) h.stripe (target_flags n block_targets block) in
    let p = passes (read_block_refusal n m size stripes h.state number reading block) (drawn_then (draw_of h.state.clock reading) f) w e in
    let k = read_block_passed n m size stripes h.state number block _ (start_checks h.state reading) refl p.0 in
    let same = record_same n m size stripes h.state number _ k.checked in
    let d = drawn_went (draw_of h.state.clock reading) f w p.1 in
    subst (λ (v : Went). Good n m size stripes v.next.state) d.3
    (begun_good n m size stripes reading_block_kind read_kind number d.0 block reading h.state.geometry h.state.clock d.1 k.range same.1 (λ q. absurd (omega arith)) d.2
    (omega (arith, k.block-low, k.range.m-high)) (λ q. k.block-low) same.0 (first_read_block m number d.0 block).0 (first_read_block m number d.0 block).1)

-- and a good record is sound.
pub good_sound : (n m size stripes : ℕ) (c : Coordinator) → Good n m size stripes c → sound_record n m size stripes c ≡ true
good_sound n m size stripes c g = sound_from n m size stripes c g.parts

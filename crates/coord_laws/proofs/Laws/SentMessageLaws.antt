-- What a coordinator sends, a brick does not refuse: every message of an open round of a good record passes refusals 10 and 14.
use mathlib.Core.Path.{◌≡◌, refl, ap, ◌∙◌}
use mathlib.Core.Bool.{Bool, true, false, cond, ◌&&◌, ◌||◌}
use mathlib.Core.List.{List}
use Prim.Native.Nat.{ℕ, ◌^◌, ◌≤◌, ◌<◌}
use native.Mathlib.Omega.{arith}
use lib.Dec.{eqb, leb, ltb}
use borrow.Author.Tests.{le-leb, lt-ltb, leb-true, ltb-true, eqb-true}
use Rattle.coord_apply.specs.Acts.{round_message, clear_message}
use Rattle.coord_laws.proofs.Laws.OpCaseLaws.{Fit, reading, looking, restoring, ordering, storing, block_ordering, modifying, fit, in_block_order, in_modify, phase_runs}
use Rattle.coord_laws.proofs.Laws.SoundnessLaws.{lowers_valid, recovers_valid}
use Rattle.coord_laws.proofs.Laws.TallyLaws.{highest_right}
use Rattle.coord_laws.specs.Soundness.{Good, Full}
use Rattle.coord_decide.specs.Decisions.{Modifies, Recovers, Lowers}
use Rattle.coord_record.specs.Sound.{max_right, op_right, time_right}
use Rattle.coord_record.proofs.Laws.SoundPartLaws.{round_high}
use Rattle.coord_record.specs.declared.Coordinator.{Coordinator}
use Rattle.coord_record.specs.declared.Op.{Op}
use Rattle.message.proofs.Laws.MessageLaws.{silent_trim, silent_drop}
use Rattle.message.specs.Messages.{round_right, found_right, targets_right, kind_right, message_refusal, names_block, message_block_refusal, is_silent}
use Rattle.settings.specs.Ranges.{max_bricks, data_block_refusal}
use Rattle.byte_lists.proofs.Laws.BoolLaws.{and_left, and_right}
use Rattle.settings.specs.Times.{max_count, no_upper_end, time_of, valid_time, coordinator_count, last_coordinator}
use Rattle.settings.specs.declared.Clock.{Clock}
use Rattle.message.specs.Kinds.{last_round, read_kind, order_read_kind, order_block_kind, modify_kind, trim_kind, drop_kind, first_round, second_round}
use Rattle.coord_record.specs.Records.{idle_kind, writing_block_kind, on_block, target_count}

-- what a running operation that is right has
pub record RunningOp (op : Op) : Type 0 where
  pub phase-low : read_kind ≤ op.phase
  pub phase-high : op.phase ≤ modify_kind
  pub round-low : first_round ≤ op.round
  pub max-low : op.phase ≡ order_read_kind → op.max ≤ no_upper_end

max_high : (round max : ℕ) → max_right round max ≡ true → max ≤ no_upper_end
unfolding max_right valid_time
max_high round max e = go (eqb round second_round) e
  where
    go : (b : Bool) → cond b (eqb max no_upper_end) (leb (time_of 1 0) max && ltb max no_upper_end) ≡ true → max ≤ no_upper_end
    go true q = let z = eqb-true max no_upper_end q in omega arith
    go false q = let z = ltb-true max no_upper_end (and_right (leb (time_of 1 0) max) (ltb max no_upper_end) q) in omega arith

pub running : (op : Op) → op_right op ≡ true → (op.kind ≡ idle_kind → ⊥) → RunningOp op
running op e k = go (fit op e (λ z _. k z))
  where
    go : Fit op → RunningOp op
    go (reading k p r) = record { phase-low = omega arith; phase-high = omega arith; round-low = omega arith; max-low = λ q. absurd (omega arith) }
    go (looking k p r m) = record { phase-low = omega arith; phase-high = omega arith; round-low = omega arith; max-low = λ q. max_high op.round op.max m }
    go (restoring k p r) = record { phase-low = omega arith; phase-high = omega arith; round-low = omega arith; max-low = λ q. absurd (omega arith) }
    go (ordering k p r f) = record { phase-low = omega arith; phase-high = omega arith; round-low = omega arith; max-low = λ q. absurd (omega arith) }
    go (block_ordering k p r) = record { phase-low = omega arith; phase-high = omega arith; round-low = omega arith; max-low = λ q. absurd (omega arith) }
    go (modifying k p r) = record { phase-low = omega arith; phase-high = omega arith; round-low = omega arith; max-low = λ q. absurd (omega arith) }
    go (storing k p r) = record { phase-low = omega arith; phase-high = omega arith; round-low = omega arith; max-low = λ q. absurd (omega arith) }

-- its time is valid
valid_of : (time : ℕ) (clock : Clock) → 1 ≤ clock.last → time ≡ time_of clock.last clock.coordinator → clock.coordinator ≤ last_coordinator → clock.last ≤ max_count → valid_time time ≡ true
unfolding valid_time no_upper_end time_of max_count
valid_of time clock l e a b = rw (le-leb coordinator_count time (omega arith), lt-ltb time (2 ^ 44) (omega arith))

pub time_valid : (kind time : ℕ) (clock : Clock) → time_right kind time clock ≡ true → (kind ≡ idle_kind → ⊥) → clock.coordinator ≤ last_coordinator → clock.last ≤ max_count → valid_time time ≡ true
unfolding time_right
time_valid kind time clock e k a b = go (eqb kind idle_kind) refl e
  where
    go : (x : Bool) → eqb kind idle_kind ≡ x → cond x (eqb time 0) (leb 1 clock.last && eqb time (time_of clock.last clock.coordinator)) ≡ true → valid_time time ≡ true
    go true ex q = absurd (k (eqb-true kind idle_kind ex))
    go false ex q =
        valid_of time clock (leb-true 1 clock.last (and_left (leb 1 clock.last) (eqb time (time_of clock.last clock.coordinator)) q))
        (eqb-true time (time_of clock.last clock.coordinator) (and_right (leb 1 clock.last) (eqb time (time_of clock.last clock.coordinator)) q)) a b

-- EVERY MESSAGE OF AN OPEN ROUND PASSES REFUSAL 10; a Read round's targets are m different bricks or one data brick, Modify's old time is 0 or valid.
pub message_passes : (n m size stripes : ℕ) (c : Coordinator) (old : ℕ) (targets : List ℕ) → Good n m size stripes c → (c.op.kind ≡ idle_kind → ⊥)
    → (c.op.phase ≡ read_kind → targets_right n m targets ≡ true) → (c.op.phase ≡ modify_kind → found_right old ≡ true)
    → message_refusal n m (round_message c.op old targets) ≡ 0
unfolding message_refusal round_message round_right kind_right
message_passes n m size stripes c old targets g k t o =
    let r = running c.op g.parts.op-right k in
    rw (
      time_valid c.op.kind c.op.time c.clock g.parts.time-right k g.parts.number-low g.parts.last-low,
      le-leb first_round c.op.round r.round-low,
      le-leb c.op.round last_round (round_high c.op g.parts.op-right),
    )
    (go r (eqb c.op.phase order_read_kind) (eqb c.op.phase read_kind) (eqb c.op.phase modify_kind) refl refl refl)
  where
    go : RunningOp c.op → (a b d : Bool) → eqb c.op.phase order_read_kind ≡ a → eqb c.op.phase read_kind ≡ b → eqb c.op.phase modify_kind ≡ d
        → ◌≡◌ {A = ℕ}
        (cond (cond a (leb c.op.max no_upper_end) (cond b (targets_right n m targets) (cond d (found_right old) (leb read_kind c.op.phase && leb c.op.phase drop_kind)))) 0 10) 0
    go r true b d ea eb ed = rw (le-leb c.op.max no_upper_end (r.max-low (eqb-true c.op.phase order_read_kind ea)))
    go r false true d ea eb ed = rw (t (eqb-true c.op.phase read_kind eb))
    go r false false true ea eb ed = rw (o (eqb-true c.op.phase modify_kind ed))
    go r false false false ea eb ed = rw (le-leb read_kind c.op.phase r.phase-low, le-leb c.op.phase drop_kind (let q = r.phase-high in omega arith))

-- AND REFUSAL 14: a round that names a block is one of a block write, on one of m.
block_named : (n m size stripes : ℕ) (c : Coordinator) → Good n m size stripes c → names_block c.op.phase ≡ true → c.op.first < m
unfolding names_block on_block
block_named n m size stripes c g e = g.parts.block-low (rw (kind (eqb c.op.phase order_block_kind) refl e))
  where
    kind : (a : Bool) → eqb c.op.phase order_block_kind ≡ a → a || eqb c.op.phase modify_kind ≡ true → c.op.kind ≡ writing_block_kind
    kind true ea q = (in_block_order c.op g.parts.op-right (eqb-true c.op.phase order_block_kind ea)).kind-is
    kind false ea q = (in_modify c.op g.parts.op-right (eqb-true c.op.phase modify_kind q)).kind-is

pub message_block_passes : (n m size stripes : ℕ) (c : Coordinator) (old : ℕ) (targets : List ℕ) → Good n m size stripes c
    → message_block_refusal m (round_message c.op old targets) ≡ 0
unfolding message_block_refusal round_message data_block_refusal
message_block_passes n m size stripes c old targets g = go (names_block c.op.phase) refl
  where
    go : (b : Bool) → names_block c.op.phase ≡ b → ◌≡◌ {A = ℕ} (cond b (cond (ltb (cond b c.op.first 0) m) 0 14) 0) 0
    go true e = rw (lt-ltb c.op.first m (block_named n m size stripes c g e))
    go false e = refl

-- Modify's old time is 0 or valid
pub old_right : (n m size stripes : ℕ) (c : Coordinator) (time : ℕ) → n ≤ max_bricks → Full n m size stripes c → Modifies n m c.op c.tally time → found_right time ≡ true
old_right n m size stripes c time few f s =
    ap found_right s.time-is ∙ highest_right n (target_count m c.op.kind) c.op.phase c.op.first c.tally c.tally.counted few f.tally-right

-- Trim and Drop of a valid time, with the number of a round of a right operation that runs, pass both.
clear_passes : (n m kind time : ℕ) (op : Op) → is_silent kind ≡ true → valid_time time ≡ true → op_right op ≡ true → (op.kind ≡ idle_kind → ⊥)
    → (message_refusal n m (clear_message kind op time) ≡ 0) × (message_block_refusal m (clear_message kind op time) ≡ 0)
unfolding message_refusal message_block_refusal names_block clear_message round_right kind_right is_silent
clear_passes n m kind time op s v o k = go (eqb kind trim_kind) refl s
  where
    r : RunningOp op
    r = running op o k

    go : (b : Bool) → eqb kind trim_kind ≡ b → b || eqb kind drop_kind ≡ true
        → (message_refusal n m (clear_message kind op time) ≡ 0) × (message_block_refusal m (clear_message kind op time) ≡ 0)
    go true e q = (rw (eqb-true kind trim_kind e, v, le-leb first_round op.round r.round-low, le-leb op.round last_round (round_high op o)), rw (eqb-true kind trim_kind e))
    go false e q = (rw (eqb-true kind drop_kind q, v, le-leb first_round op.round r.round-low, le-leb op.round last_round (round_high op o)), rw (eqb-true kind drop_kind q))

-- The Trim that an ended operation sends passes both.
pub trim_passes : (n m size stripes : ℕ) (c : Coordinator) → Good n m size stripes c → (c.op.kind ≡ idle_kind → ⊥)
    → (message_refusal n m (clear_message trim_kind c.op c.op.time) ≡ 0) × (message_block_refusal m (clear_message trim_kind c.op c.op.time) ≡ 0)
trim_passes n m size stripes c g k =
    clear_passes n m trim_kind c.op.time c.op (silent_trim trim_kind refl)
    (time_valid c.op.kind c.op.time c.clock g.parts.time-right k g.parts.number-low g.parts.last-low) g.parts.op-right k

-- E6: So does the Drop of a time that a recovery round found on too few,
pub drop_passes : (n m size stripes : ℕ) (c : Coordinator) (time : ℕ) → n ≤ max_bricks → Full n m size stripes c → Lowers n m c.op c.tally time
    → (message_refusal n m (clear_message drop_kind c.op time) ≡ 0) × (message_block_refusal m (clear_message drop_kind c.op time) ≡ 0)
drop_passes n m size stripes c time few f s =
    clear_passes n m drop_kind time c.op (silent_drop drop_kind refl) (lowers_valid n m (target_count m c.op.kind) c.op c.tally time few f.tally-right s) f.op-right
    (phase_runs c.op f.op-right (omega (arith, s.phase-is)))

-- and the early Trim of a time that all of a quorum hold.
pub early_trim_passes : (n m size stripes : ℕ) (c : Coordinator) (time : ℕ) → n ≤ max_bricks → Full n m size stripes c → Recovers n m c.op c.tally time → (time ≡ 0 → ⊥)
    → (message_refusal n m (clear_message trim_kind c.op time) ≡ 0) × (message_block_refusal m (clear_message trim_kind c.op time) ≡ 0)
early_trim_passes n m size stripes c time few f s h =
    clear_passes n m trim_kind time c.op (silent_trim trim_kind refl) (recovers_valid n m (target_count m c.op.kind) c.op c.tally time few f.tally-right s h) f.op-right
    (phase_runs c.op f.op-right (omega (arith, s.phase-is)))

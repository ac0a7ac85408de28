-- Refusal 6: "settings disagreeing with those given, a field outside its range, .. an open round with q or more replies counted, a time of
-- another coordinator".
use Rattle.std.specs.Prelude.{Bool, cond, not, ◌&&◌, ◌||◌, ℕ, eqb, leb, ltb}
use Rattle.coord_record.specs.Records.{idle_kind, writing_kind, writing_block_kind, is_reading, on_block, target_count}
use Rattle.coord_record.specs.CountedRules.{tally_right, bricks_right}
use Rattle.coord_record.specs.declared.Coordinator.{Coordinator}
use Rattle.coord_record.specs.declared.Geometry.{Geometry}
use Rattle.coord_record.specs.declared.Op.{Op}
use Rattle.message.specs.Flags.{members}
use Rattle.message.specs.Kinds.{read_kind, order_kind, order_read_kind, order_block_kind, write_kind, modify_kind}
use Rattle.message.specs.Kinds.{last_round, first_round, second_round, third_round}
use Rattle.settings.specs.Ranges.{quorum}
use Rattle.settings.specs.declared.Clock.{Clock}
use Rattle.settings.specs.Times.{max_count, no_upper_end, time_of, valid_time, last_coordinator}

-- "Order-and-read with max 2^44 .. With fewer, repeat with max = that time": the first recovery round is round 2
unfoldable pub max_right : ℕ → ℕ → Bool
max_right round max = cond (eqb round second_round) (eqb max no_upper_end) (valid_time max)

-- "decode and store by a Write round"
unfoldable pub stored_right : Op → Bool
stored_right op = eqb op.phase write_kind && leb third_round op.round && leb op.round last_round && eqb op.max 0

-- a recovery: Order-and-read rounds, then a Write round
unfoldable pub recovery_right : Op → Bool
recovery_right op =
    cond (eqb op.phase order_read_kind) (leb second_round op.round && leb op.round last_round && max_right op.round op.max) (stored_right op)

-- the first round has no max
unfoldable pub opening_right : Op → Bool
opening_right op = eqb op.round first_round && eqb op.max 0

-- a read, of the stripe or of one block: a Read round, then its recovery
unfoldable pub read_right : Op → Bool
read_right op = cond (eqb op.phase read_kind) (opening_right op) (recovery_right op)

-- a write: "Order round, then a Write round"
unfoldable pub write_right : Op → Bool
write_right op =
    eqb op.first 0 && eqb op.max 0
    && cond (eqb op.phase order_kind) (eqb op.round first_round) (eqb op.phase write_kind && eqb op.round second_round)

-- E2, a write of one block: "If all q times agree and brick j replied, Modify goes out .. If times differ or j is missing, the writer recovers"
unfoldable pub block_write_right : Op → Bool
block_write_right op =
    cond (eqb op.phase order_block_kind) (opening_right op)
    (cond (eqb op.phase modify_kind) (eqb op.round second_round && eqb op.max 0) (recovery_right op))

-- no operation: no phase, round, max or first, and no stripe ("a field outside its range": an idle record's stripe is 0)
unfoldable pub unset_op : Op → Bool
unset_op op = eqb op.phase 0 && eqb op.round 0 && eqb op.max 0 && eqb op.first 0 && eqb op.stripe 0

unfoldable pub op_right : Op → Bool
op_right op =
    cond (eqb op.kind idle_kind) (unset_op op)
    (cond (is_reading op.kind) (read_right op)
    (cond (eqb op.kind writing_kind) (write_right op) (eqb op.kind writing_block_kind && block_write_right op)))

-- E2: "a data block number not below m" is outside its range: of an operation on one block `first` is that number
unfoldable pub block_low : ℕ → Op → Bool
block_low m op = not (on_block op.kind) || ltb op.first m

-- the running operation has the time that was drawn last
unfoldable pub time_right : ℕ → ℕ → Clock → Bool
time_right kind time clock =
    cond (eqb kind idle_kind) (eqb time 0) (leb 1 clock.last && eqb time (time_of clock.last clock.coordinator))

-- how many bricks are named: m by a read in its Write round
unfoldable pub named_count : ℕ → Op → ℕ
named_count m op = cond (is_reading op.kind && eqb op.phase write_kind) m 0

-- the bricks named, the replies counted, and fewer of these than a quorum
unfoldable pub filled_right : ℕ → ℕ → Coordinator → Bool
filled_right n m c =
    bricks_right n (named_count m c.op) c.bricks && tally_right n (target_count m c.op.kind) c.op.phase c.op.first c.tally
    && ltb (members c.tally.counted n) (quorum n m)

-- every rule but that of the settings; E1: "a stripe not below S" is outside its range here too
unfoldable pub rules_kept : (n m stripes : ℕ) → Coordinator → Bool
rules_kept n m stripes c =
    leb c.clock.coordinator last_coordinator && leb c.clock.last max_count && ltb c.op.first n && ltb c.op.stripe stripes
    && block_low m c.op && op_right c.op && time_right c.op.kind c.op.time c.clock && filled_right n m c

-- "settings disagreeing with those given": the settings that a coordinator was made for are the ones given
unfoldable pub same_geometry : (n m size stripes : ℕ) → Geometry → Bool
same_geometry n m size stripes g = eqb g.n n && eqb g.m m && eqb g.size size && eqb g.stripes stripes

unfoldable pub sound_record : (n m size stripes : ℕ) → Coordinator → Bool
sound_record n m size stripes c = same_geometry n m size stripes c.geometry && rules_kept n m stripes c

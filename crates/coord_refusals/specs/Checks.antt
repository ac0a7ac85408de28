-- "Refused by number, lowest first": the checks of each routine, in their order. E1: "New numbers: 13, a stripe not below S ..,
-- checked after 3." E2: "14, a data block number not below m, checked after 13." The number of a stripe is `number`; `stripe` is the length of the
-- lent stripe.
use Rattle.std.specs.Prelude.{Bool, not, ◌&&◌, ◌||◌, List, [], ◌∷◌, ℕ, ◌*◌, eqb, leb, ltb}
use Rattle.coord_record.specs.Records.{idle_kind}
use Rattle.coord_record.specs.Sound.{sound_record}
use Rattle.coord_record.specs.declared.Coordinator.{Coordinator}
use Rattle.coord_decide.specs.Deciding.{answers}
use Rattle.message.specs.Messages.{reply_refusal}
use Rattle.message.specs.declared.Reply.{Reply}
use Rattle.settings.specs.Ranges.{code_refusal, stripe_count_refusal, stripe_refusal, data_block_refusal}
use Rattle.settings.specs.Refusal.{first_refusal, refuse_unless, bad_length, bad_number, bad_record, busy, stray_reply}
use Rattle.settings.specs.Times.{draw_refusal, last_coordinator}

-- a coordinator number above 15, a record that is for other settings or breaks a rule
unfoldable pub record_checks : (n m size stripes : ℕ) → Coordinator → List ℕ → List ℕ
record_checks n m size stripes c more =
    refuse_unless (leb c.clock.coordinator last_coordinator) bad_number ∷ refuse_unless (sound_record n m size stripes c) bad_record ∷ more

-- the same, and between the two a stripe that the volume does not have
unfoldable pub stripe_checks : (n m size stripes : ℕ) → Coordinator → (number : ℕ) → List ℕ → List ℕ
stripe_checks n m size stripes c number more =
    refuse_unless (leb c.clock.coordinator last_coordinator) bad_number
    ∷ stripe_refusal stripes number ∷ refuse_unless (sound_record n m size stripes c) bad_record ∷ more

-- a write, before its time is drawn: the bytes and the lent stripe have m blocks
unfoldable pub write_checks : (n m size stripes : ℕ) → Coordinator → (number bytes stripe : ℕ) → List ℕ → List ℕ
write_checks n m size stripes c number bytes stripe more =
    code_refusal n m size
    ∷ stripe_count_refusal stripes
    ∷ refuse_unless (eqb bytes (m * size) && eqb stripe (m * size)) bad_length
    ∷ stripe_checks n m size stripes c number more

-- a read, before its time is drawn: the brick that targets are counted from is below n
unfoldable pub read_checks : (n m size stripes : ℕ) → Coordinator → (number first : ℕ) → List ℕ → List ℕ
read_checks n m size stripes c number first more =
    code_refusal n m size
    ∷ stripe_count_refusal stripes
    ∷ refuse_unless (ltb first n) bad_number
    ∷ stripe_checks n m size stripes c number more

-- an operation on one block: the checks of a stripe's number, and after that a data block that the stripe does not have
unfoldable pub block_checks : (n m size stripes : ℕ) → Coordinator → (number block : ℕ) → List ℕ → List ℕ
block_checks n m size stripes c number block more =
    refuse_unless (leb c.clock.coordinator last_coordinator) bad_number
    ∷ stripe_refusal stripes number
    ∷ data_block_refusal m block ∷ refuse_unless (sound_record n m size stripes c) bad_record ∷ more

-- a read of one block, before its time is drawn
unfoldable pub read_block_checks : (n m size stripes : ℕ) → Coordinator → (number block : ℕ) → List ℕ → List ℕ
read_block_checks n m size stripes c number block more =
    code_refusal n m size ∷ stripe_count_refusal stripes ∷ block_checks n m size stripes c number block more

-- a write of one block, before its time is drawn: the bytes are one block, and the lent stripe has m
unfoldable pub write_block_checks : (n m size stripes : ℕ) → Coordinator → (number block bytes stripe : ℕ) → List ℕ → List ℕ
write_block_checks n m size stripes c number block bytes stripe more =
    code_refusal n m size
    ∷ stripe_count_refusal stripes
    ∷ refuse_unless (eqb bytes size && eqb stripe (m * size)) bad_length
    ∷ block_checks n m size stripes c number block more

-- then every start asks for a reading in range, a count left, no operation
unfoldable pub start_checks : Coordinator → ℕ → List ℕ
start_checks c reading = draw_refusal c.clock reading ∷ refuse_unless (eqb c.op.kind idle_kind) busy ∷ []

unfoldable pub write_refusal : (n m size stripes : ℕ) → Coordinator → (number reading bytes stripe : ℕ) → ℕ
write_refusal n m size stripes c number reading bytes stripe =
    first_refusal (write_checks n m size stripes c number bytes stripe (start_checks c reading))

unfoldable pub read_refusal : (n m size stripes : ℕ) → Coordinator → (number reading first : ℕ) → ℕ
read_refusal n m size stripes c number reading first = first_refusal (read_checks n m size stripes c number first (start_checks c reading))

unfoldable pub read_block_refusal : (n m size stripes : ℕ) → Coordinator → (number reading block : ℕ) → ℕ
read_block_refusal n m size stripes c number reading block =
    first_refusal (read_block_checks n m size stripes c number block (start_checks c reading))

unfoldable pub write_block_refusal : (n m size stripes : ℕ) → Coordinator → (number reading block bytes stripe : ℕ) → ℕ
write_block_refusal n m size stripes c number reading block bytes stripe =
    first_refusal (write_block_checks n m size stripes c number block bytes stripe (start_checks c reading))

-- the lent buffers of a reply: n blocks of replies, m of the stripe, n to send, and the block that it holds
unfoldable pub lengths_right : ℕ → ℕ → ℕ → Bool → ℕ → ℕ → ℕ → ℕ → Bool
lengths_right n m size held block blocks stripe coded =
    eqb blocks (n * size) && eqb stripe (m * size) && eqb coded (n * size) && (not held || eqb block size)

-- a reply: of a stripe that there is, one that a brick may give, and that answers the open round
unfoldable pub stray_checks : (n m size stripes : ℕ) → Coordinator → Reply → List ℕ
stray_checks n m size stripes c r =
    stripe_checks n m size stripes c r.stripe (reply_refusal n r ∷ refuse_unless (answers n m c.op c.tally r) stray_reply ∷ [])

unfoldable pub take_refusal : (n m size stripes : ℕ) → Coordinator → Reply → (block blocks stripe coded : ℕ) → ℕ
take_refusal n m size stripes c r block blocks stripe coded =
    first_refusal
    (code_refusal n m size
    ∷ stripe_count_refusal stripes
    ∷ refuse_unless (lengths_right n m size r.held block blocks stripe coded) bad_length
    ∷ refuse_unless (ltb r.brick n) bad_number
    ∷ stray_checks n m size stripes c r)

unfoldable pub crash_refusal : (n m size stripes : ℕ) → Coordinator → ℕ
crash_refusal n m size stripes c = first_refusal (code_refusal n m size ∷ stripe_count_refusal stripes ∷ record_checks n m size stripes c [])

-- Document 01, "What a coordinator does": one step of each routine. E1: "A coordinator uses one clock for all stripes and one operation
-- at a time." The number of a stripe is `number`; `stripe` is the lent one.
use Rattle.std.specs.Prelude.{cond, List, [], ℕ, eqb, length}
use Rattle.coord_apply.specs.Acts.{buffered, counting, waiting_or, ending, first_op, starting}
use Rattle.coord_apply.specs.Answers.{Buffered, Went, Step, refused, went, after_checks, nothing_seen, cut_seen, Returned, returned_by}
use Rattle.coord_record.specs.declared.Coordinator.{Coordinator}
use Rattle.coord_record.specs.Records.{idle_kind, reading_kind, writing_kind, reading_block_kind, writing_block_kind, no_bricks}
use Rattle.coord_tally.specs.Counting.{target_flags}
use Rattle.coord_refusals.specs.Checks.{write_refusal, read_refusal, write_block_refusal, read_block_refusal, take_refusal, crash_refusal}
use Rattle.erasure.specs.Code.{with_block}
use Rattle.message.specs.Kinds.{read_kind, order_kind, order_block_kind, block_targets}
use Rattle.message.specs.declared.Reply.{Reply}
use Rattle.settings.specs.Times.{draw_of}
use Rattle.settings.specs.declared.Clock.{Clock}
use Rattle.settings.specs.Times.{Draw}
use Rattle.settings.specs.Times.{Drawn, Refused}

-- a reply reaches the coordinator
unfoldable pub take_step : (n m size stripes : ℕ) → Buffered → Reply → List ℕ → ℕ → Step
take_step n m size stripes h r block coded =
    after_checks (take_refusal n m size stripes h.state r (length block) (length h.blocks) (length h.stripe) coded)
    (went (waiting_or n m size (counting size h r block)))

-- a crash: "makes the coordinator idle and keeps its count"; at an idle one nothing is seen
unfoldable pub crashed : (n : ℕ) → Buffered → Went
crashed n h =
    cond (eqb h.state.op.kind idle_kind) (record { next = h; sent = []; seen = nothing_seen }) (ending n h h.stripe [] cut_seen no_bricks)

unfoldable pub crash_step : (n m size stripes : ℕ) → Buffered → Step
crash_step n m size stripes h = after_checks (crash_refusal n m size stripes h.state) (went (crashed n h))

-- a draw that is refused passes its number on
unfoldable pub drawn_then : Draw → (ℕ → Clock → Went) → Step
drawn_then (Drawn time clock) f = went (f time clock)
drawn_then (Refused number) f = refused number

-- "A coordinator uses one clock for all stripes" (E1): what a start on a stripe draws from
abbrev pub stripe_clock : Coordinator → (stripe : ℕ) → Clock
stripe_clock c stripe = c.clock

-- a write starts with an Order round on its stripe, and keeps its bytes
unfoldable pub write_step : (n m size stripes : ℕ) → Buffered → (number reading : ℕ) → List ℕ → Step
write_step n m size stripes h number reading bytes =
    after_checks (write_refusal n m size stripes h.state number reading (length bytes) (length h.stripe))
    (drawn_then (draw_of (stripe_clock h.state number) reading)
    (λ (time : ℕ) (clock : Clock). starting h clock (first_op writing_kind order_kind number time 0) bytes no_bricks))

-- a read starts with "a Read round whose targets are m bricks counted upward from a given one, wrapping at n"
unfoldable pub read_step : (n m size stripes : ℕ) → Buffered → (number reading first : ℕ) → Step
read_step n m size stripes h number reading first =
    after_checks (read_refusal n m size stripes h.state number reading first)
    (drawn_then (draw_of (stripe_clock h.state number) reading)
    (λ (time : ℕ) (clock : Clock). starting h clock (first_op reading_kind read_kind number time first) h.stripe (target_flags n m first)))

-- E2, a read of one block: "Reading block j has brick j as its only target"
unfoldable pub read_block_step : (n m size stripes : ℕ) → Buffered → (number reading block : ℕ) → Step
read_block_step n m size stripes h number reading block =
    after_checks (read_block_refusal n m size stripes h.state number reading block)
    (drawn_then (draw_of (stripe_clock h.state number) reading)
    (λ (time : ℕ) (clock : Clock).
    starting h clock (first_op reading_block_kind read_kind number time block) h.stripe (target_flags n block_targets block)))

-- E2, a write of one block: "Writing starts with Order-and-read in which every brick gives its newest time and brick j its block"; it keeps its
-- bytes at that block's place in the lent stripe
unfoldable pub write_block_step : (n m size stripes : ℕ) → Buffered → (number reading block : ℕ) → List ℕ → Step
write_block_step n m size stripes h number reading block bytes =
    after_checks (write_block_refusal n m size stripes h.state number reading block (length bytes) (length h.stripe))
    (drawn_then (draw_of (stripe_clock h.state number) reading)
    (λ (time : ℕ) (clock : Clock).
    starting h clock (first_op writing_block_kind order_block_kind number time block) (with_block size h.stripe block bytes) no_bricks))

-- What a call of each routine leaves: the answer, the reply blocks, the stripe and the blocks to send. A buffer that a routine is not lent
-- may be any, and stays.
module _ (n m size stripes : ℕ) (c : Coordinator) (blocks stripe coded : List ℕ) where
  abbrev pub write_call : (number reading : ℕ) → List ℕ → Returned
  write_call number reading bytes =
      returned_by (buffered c blocks stripe) coded (write_step n m size stripes (buffered c blocks stripe) number reading bytes)

  abbrev pub read_call : (number reading first : ℕ) → Returned
  read_call number reading first =
      returned_by (buffered c blocks stripe) coded (read_step n m size stripes (buffered c blocks stripe) number reading first)

  abbrev pub write_block_call : (number reading block : ℕ) → List ℕ → Returned
  write_block_call number reading block bytes =
      returned_by (buffered c blocks stripe) coded (write_block_step n m size stripes (buffered c blocks stripe) number reading block bytes)

  abbrev pub read_block_call : (number reading block : ℕ) → Returned
  read_block_call number reading block =
      returned_by (buffered c blocks stripe) coded (read_block_step n m size stripes (buffered c blocks stripe) number reading block)

  abbrev pub take_call : Reply → List ℕ → Returned
  take_call reply block =
      returned_by (buffered c blocks stripe) coded (take_step n m size stripes (buffered c blocks stripe) reply block (length coded))

  abbrev pub crash_call : Returned
  crash_call = returned_by (buffered c blocks stripe) coded (crash_step n m size stripes (buffered c blocks stripe))

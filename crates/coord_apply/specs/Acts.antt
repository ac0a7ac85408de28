-- Document 01, "What a coordinator does": what a decision does, and how an operation begins and ends.
use Rattle.std.specs.Prelude.{Bool, cond, not, ◌&&◌, List, [], ◌∷◌, ◌++◌, ℕ, ◌+◌, eqb, leb, ltb}
use Rattle.coord_blocks.specs.Blocks.{stripe_from, agreeing, given_stripe, stored_stripe}
use Rattle.coord_apply.specs.Answers.{Buffered, Broadcast, Went, nothing_seen, began_seen, ok_seen, read_seen, aborted_seen, letter_of}
use Rattle.coord_letters.specs.Letters.{no_letter}
use Rattle.coord_record.specs.Records.{is_reading, on_block, target_count, idle_with, nothing_counted, no_bricks}
use Rattle.coord_record.specs.declared.Coordinator.{Coordinator}
use Rattle.coord_record.specs.declared.Op.{Op}
use Rattle.coord_record.specs.declared.Tally.{Tally}
use Rattle.coord_tally.specs.Counting.{at_times, givers, first_givers, picked, target_row}
use Rattle.coord_decide.specs.Deciding.{tallied, decided}
use Rattle.coord_decide.specs.declared.Decision.{Decision}
use Rattle.coord_decide.specs.declared.Decision.TheVariants.{Abort, Give, Look, Store, Modify, Recover, Finish}
use Rattle.erasure.specs.Code.{coded_of, block_of, with_block}
use Rattle.message.specs.Flags.{members}
use Rattle.message.specs.Kinds.{order_read_kind, write_kind, modify_kind, trim_kind, drop_kind, first_round}
use Rattle.message.specs.Messages.{names_block}
use Rattle.coord_apply.specs.declared.Notice.{Notice}
use Rattle.message.specs.declared.Message.{Message}
use Rattle.message.specs.declared.Reply.{Reply}
use Rattle.settings.specs.Count.{count}
use Rattle.settings.specs.Ranges.{quorum}
use Rattle.settings.specs.declared.Clock.{Clock}

-- "messages and replies carry time and round"; E1: "Messages and replies gain a stripe number", that of the operation
-- E2: the first round of a block write and Modify name the block, and Modify has the old time (`old`, 0 in any other)
unfoldable pub round_message : Op → (old : ℕ) → (targets : List ℕ) → Message
round_message op old targets =
    record {
      kind = op.phase;
      stripe = op.stripe;
      time = op.time;
      round = op.round;
      max = op.max;
      old = old;
      block = cond (names_block op.phase) op.first 0;
      targets = targets;
    }

-- Trim or Drop of a time, "with that round's number", on the operation's stripe
unfoldable pub clear_message : (kind : ℕ) → Op → (time : ℕ) → Message
clear_message kind op time =
    record { kind = kind; stripe = op.stripe; time = time; round = op.round; max = 0; old = 0; block = 0; targets = no_bricks }

-- the same to all bricks
unfoldable pub clearing : (kind : ℕ) → Op → (time : ℕ) → Broadcast
clearing kind op time = record { message = clear_message kind op time; blocks = []; old = [] }

-- E6: q replies gave a block of a time: "all q replies hold the chosen time", since the q-th reply decides
unfoldable pub all_hold : (n m : ℕ) → Tally → (time : ℕ) → Bool
all_hold n m t time = leb (quorum n m) (count (at_times t.held t.found time) n)

-- E6: "The coordinator then sends Drop of that time, with that round's number, to all bricks before its next round": where a recovery round is
-- followed by another, of the highest time that it found, which is the next max; before the first recovery round there is nothing to drop
unfoldable pub drops_first : Op → (max : ℕ) → List Broadcast
drops_first op max = cond (eqb op.phase order_read_kind) (clearing drop_kind op max ∷ []) []

-- E6: "If all q replies hold the chosen time, other than 0, Trim of that time, with the number of the round that found it, goes to all before the
-- store"
unfoldable pub trims_first : (n m : ℕ) → Op → Tally → (time : ℕ) → List Broadcast
trims_first n m op t time = cond (not (eqb time 0) && all_hold n m t time) (clearing trim_kind op time ∷ []) []

-- broadcasts ahead of those that a step sends: at one event, one list
unfoldable pub sending_first : List Broadcast → Went → Went
sending_first first w = record { next = w.next; sent = first ++ w.sent; seen = w.seen }

-- "Rounds count from 1": the next round of an operation, on its stripe, with nothing counted
unfoldable pub next_op : Op → ℕ → ℕ → Op
next_op op phase max =
    record { kind = op.kind; phase = phase; stripe = op.stripe; time = op.time; round = op.round + 1; max = max; first = op.first }

unfoldable pub opened : Coordinator → ℕ → ℕ → List ℕ → Coordinator
opened c phase max bricks =
    record { geometry = c.geometry; clock = c.clock; op = next_op c.op phase max; tally = nothing_counted; bricks = bricks }

-- the next round goes to all bricks; a Write round sends each its block of the stripe
unfoldable pub next_round : Buffered → ℕ → ℕ → List ℕ → List ℕ → List ℕ → Went
next_round h phase max bricks stripe coded =
    record {
      next = record { state = opened h.state phase max bricks; blocks = h.blocks; stripe = stripe };
      sent = record { message = round_message (next_op h.state.op phase max) 0 no_bricks; blocks = coded; old = [] } ∷ [];
      seen = nothing_seen;
    }

-- E2: "Modify goes out: old block, new block, that old time, own time": the new block from the stripe, the old one from brick j's reply
unfoldable pub modifying : ℕ → Buffered → (time : ℕ) → Went
modifying size h time =
    record {
      next = record { state = opened h.state modify_kind 0 no_bricks; blocks = h.blocks; stripe = h.stripe };
      sent =
          record {
            message = round_message (next_op h.state.op modify_kind 0) time no_bricks;
            blocks = block_of size h.stripe h.state.op.first;
            old = block_of size h.blocks h.state.op.first;
          }
          ∷ [];
      seen = nothing_seen;
    }

-- the block that an operation is seen to be on, 0 for one on the stripe
unfoldable pub seen_block : Op → ℕ
seen_block op = cond (on_block op.kind) op.first 0

-- what is seen of an operation, with its letter
abbrev pub notice_of : Op → (what letter : ℕ) → List ℕ → Notice
notice_of op what letter bricks =
    record { what = what; kind = op.kind; stripe = op.stripe; time = op.time; block = seen_block op; bricks = bricks; letter = letter }

-- the operation ends, with its letter, and its coordinator is idle
unfoldable pub ending : (n : ℕ) → Buffered → List ℕ → List Broadcast → ℕ → List ℕ → Went
ending n h stripe sent what bricks =
    record {
      next = record { state = idle_with h.state.geometry h.state.clock; blocks = h.blocks; stripe = stripe };
      sent = sent;
      seen = notice_of h.state.op what (letter_of n h.state.op h.state.tally what) bricks;
    }

-- a write is ok; a read gives the stripe that it stored, or its block, and names the bricks decoded from
unfoldable pub finished_seen : Op → ℕ
finished_seen op = cond (is_reading op.kind) read_seen ok_seen

-- the bricks that a recovery names: a read names those decoded from
unfoldable pub named_bricks : Op → List ℕ → List ℕ
named_bricks op row = cond (is_reading op.kind) row no_bricks

-- E3: "Recovery hands on every block of the chosen time": the bricks that gave it, rising
abbrev pub givers_at : (n : ℕ) → Buffered → (time : ℕ) → List ℕ
givers_at n h time = givers h.state.tally.held h.state.tally.found time n

-- E7: "name, and decode from, the first m in brick number among those that gave the chosen time": what a recovery from their blocks stores,
abbrev pub recovered_stripe : (n m size : ℕ) → Buffered → (time : ℕ) → List ℕ
recovered_stripe n m size h time =
    stored_stripe size h.state.op h.stripe (stripe_from m size (first_givers h.state.tally.held h.state.tally.found time n m) h.blocks)

-- and the same bricks in a row, which a read names
abbrev pub picked_at : (n m : ℕ) → Buffered → (time : ℕ) → List ℕ
picked_at n m h time = picked h.state.tally.held h.state.tally.found time n m

-- "decode and store by a Write round under the operation's own time"; E6: after the early Trim, if any
abbrev pub storing : (n m size : ℕ) → Buffered → (time : ℕ) → Went
storing n m size h time =
    sending_first (trims_first n m h.state.op h.state.tally time)
    (next_round h write_kind 0 (named_bricks h.state.op (picked_at n m h time)) (recovered_stripe n m size h time)
    (coded_of n m size (recovered_stripe n m size h time)))

-- "ends it aborted": nothing is sent
abbrev pub aborting : (n : ℕ) → Buffered → Went
aborting n h = ending n h h.stripe [] aborted_seen no_bricks

-- What a decision does.
unfoldable pub acted : ℕ → ℕ → ℕ → Buffered → Decision → Went
-- "ends it aborted"
acted n m size h Abort = aborting n h
-- "If all q say yes with one newest time and every target is among them, it decodes." E2: "has brick j as its only target, and names it alone"
acted n m size h Give =
    ending n h (given_stripe n m size h.state.op h.blocks h.stripe) [] read_seen
    (target_row n (target_count m h.state.op.kind) h.state.op.first)
-- "Recovery: Order-and-read with max 2^44 .. With fewer, repeat with max = that time." E6: after the Drop of that time
acted n m size h (Look max) = sending_first (drops_first h.state.op max) (next_round h order_read_kind max no_bricks h.stripe [])
-- "Order round, then a Write round sending brick j coded block j"
acted n m size h Store = next_round h write_kind 0 no_bricks h.stripe (coded_of n m size h.stripe)
-- E2: "If all q times agree and brick j replied, Modify goes out"
acted n m size h (Modify time) = modifying size h time
-- "decode and store". E3: "a disagreement ends it aborted"; E7: those beyond the first m are what the check takes
acted n m size h (Recover time) =
    cond (agreeing m size (givers_at n h time) h.blocks) (storing n m size h time) (aborting n h)
-- "After a finished Write round, Trim of the operation's time, with that round's number, is sent to all."
-- E2: "Trim follows a finished Modify round too."
acted n m size h Finish =
    ending n h h.stripe (clearing trim_kind h.state.op h.state.op.time ∷ []) (finished_seen h.state.op) h.state.bricks

-- "The first reply of a brick in a round counts"
unfoldable pub with_tally : Coordinator → Tally → Coordinator
with_tally c t = record { geometry = c.geometry; clock = c.clock; op = c.op; tally = t; bricks = c.bricks }

unfoldable pub counting : ℕ → Buffered → Reply → List ℕ → Buffered
counting size h r block =
    record {
      state = with_tally h.state (tallied h.state.tally r);
      blocks = cond r.held (with_block size h.blocks r.brick block) h.blocks;
      stripe = h.stripe;
    }

-- "and the q-th decides"
unfoldable pub waiting_or : ℕ → ℕ → ℕ → Buffered → Went
waiting_or n m size h =
    cond (ltb (members h.state.tally.counted n) (quorum n m)) (record { next = h; sent = []; seen = nothing_seen })
    (acted n m size h (decided n m h.state.op h.state.tally))

-- "its time is taken at the start", and its stripe; the first round is round 1
unfoldable pub first_op : (kind phase stripe time first : ℕ) → Op
first_op kind phase stripe time first =
    record { kind = kind; phase = phase; stripe = stripe; time = time; round = first_round; max = 0; first = first }

unfoldable pub starting : Buffered → Clock → Op → List ℕ → List ℕ → Went
starting h clock op stripe targets =
    record {
      next =
          record {
            state = record { geometry = h.state.geometry; clock = clock; op = op; tally = nothing_counted; bricks = no_bricks };
            blocks = h.blocks;
            stripe = stripe;
          };
      sent = record { message = round_message op 0 targets; blocks = []; old = [] } ∷ [];
      seen = notice_of op began_seen no_letter no_bricks;
    }

unfoldable pub buffered : Coordinator → List ℕ → List ℕ → Buffered
buffered c blocks stripe = record { state = c; blocks = blocks; stripe = stripe }

-- Document 01, "What a coordinator does": which reply counts, and what the q-th decides.
use Rattle.std.specs.Prelude.{Bool, cond, not, ◌&&◌, ◌||◌, ℕ, eqb, leb, ltb, set}
use Rattle.byte_lists.specs.Each.{some}
use Rattle.coord_record.specs.CountedRules.{is_target, block_right}
use Rattle.coord_record.specs.Records.{target_count}
use Rattle.coord_record.specs.declared.Op.{Op}
use Rattle.coord_record.specs.declared.Tally.{Tally}
use Rattle.coord_tally.specs.Counting.{said_no, other_time, missing, highest, at_times}
use Rattle.coord_decide.specs.declared.Decision.{Decision}
use Rattle.coord_decide.specs.declared.Decision.TheVariants.{Abort, Give, Look, Store, Modify, Recover, Finish}
use Rattle.message.specs.Flags.{member, members}
use Rattle.message.specs.Kinds.{read_kind, order_kind, order_read_kind, order_block_kind, last_round}
use Rattle.message.specs.declared.Reply.{Reply}
use Rattle.settings.specs.Count.{count, one_if}
use Rattle.settings.specs.Times.{no_upper_end}

-- Refusal 11: "A reply not of the running operation and round, from a brick already counted, or with a block missing or present
-- against the rules of that round." The round's kind is its phase; an idle coordinator has none. E1: "replies gain a stripe number",
-- and one of another stripe is not of the running operation.
unfoldable pub answers : ℕ → ℕ → Op → Tally → Reply → Bool
answers n m op t r =
    eqb r.kind op.phase && eqb r.stripe op.stripe && eqb r.time op.time && eqb r.round op.round
    && not (member t.counted r.brick)
    && block_right op.phase (is_target n (target_count m op.kind) op.first r.brick) r.yes r.held r.found

-- "The first reply of a brick in a round counts"
unfoldable pub tallied : Tally → Reply → Tally
tallied t r =
    record {
      counted = set t.counted r.brick 1;
      granted = set t.granted r.brick (one_if r.yes);
      held = set t.held r.brick (one_if r.held);
      found = set t.found r.brick r.found;
      said = set t.said r.brick r.comparison;
    }

-- the counted replies differ in their newest times, or a target is not among them
unfoldable pub apart : (n targets : ℕ) → Op → Tally → Bool
apart n targets op t =
    some (other_time t.counted t.found (highest t.counted t.found n)) n || some (missing n targets op.first t.counted) n

-- "If all q say yes with one newest time and every target is among them, it decodes. Otherwise it recovers."
-- "Recovery: Order-and-read with max 2^44."
unfoldable pub decided_read : ℕ → ℕ → Op → Tally → Decision
decided_read n m op t = cond (some (said_no t.counted t.granted) n || apart n (target_count m op.kind) op t) (Look no_upper_end) Give

-- E2: "If all q times agree and brick j replied, Modify goes out: old block, new block, that old time, own time."
-- "If times differ or j is missing, the writer recovers with block j replaced."
unfoldable pub decided_block_order : ℕ → ℕ → Op → Tally → Decision
decided_block_order n m op t = cond (apart n (target_count m op.kind) op t) (Look no_upper_end) (Modify (highest t.counted t.found n))

-- "It is aborted .. if a round 1,001 would be sent."
unfoldable pub unless_spent : ℕ → Decision → Decision
unless_spent round d = cond (ltb round last_round) d Abort

-- "Take the highest time among replies that hold a block. With m or more blocks of it, decode and store by a Write round ..
-- With fewer, repeat with max = that time. It is aborted if no reply holds a block, if the time found is 0 and on fewer than m
-- bricks, or if a round 1,001 would be sent."
unfoldable pub decided_at : ℕ → ℕ → ℕ → Tally → ℕ → Decision
decided_at n m round t time =
    cond (leb m (count (at_times t.held t.found time) n)) (unless_spent round (Recover time))
    (cond (eqb time 0) Abort (unless_spent round (Look time)))

unfoldable pub decided_recovery : ℕ → ℕ → Op → Tally → Decision
decided_recovery n m op t = cond (eqb (members t.held n) 0) Abort (decided_at n m op.round t (highest t.held t.found n))

-- "A no among these q in an Order, Order-and-read or Write round ends it aborted." "Write: Order round, then a Write round"
-- E2: "After Modify went out there is no second way: a no aborts."
unfoldable pub decided : ℕ → ℕ → Op → Tally → Decision
decided n m op t =
    cond (eqb op.phase read_kind) (decided_read n m op t)
    (cond (some (said_no t.counted t.granted) n) Abort
    (cond (eqb op.phase order_kind) Store
    (cond (eqb op.phase order_block_kind) (decided_block_order n m op t)
    (cond (eqb op.phase order_read_kind) (decided_recovery n m op t) Finish))))

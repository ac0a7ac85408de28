-- What the inner workers of this crate ask and give.
use Rattle.std.specs.Prelude.{List, [], ◌∷◌, ℕ, ◌*◌, ◌≤◌, ◌<◌, cond, true, ◌≡◌}
use Rattle.coord_apply.specs.Answers.{Buffered, Broadcast, nothing_seen, no_message, went, most_broadcasts, sent_blocks, answer_of}
use Rattle.coord_letters.specs.Letters.{letter_s, read_letter}
use Rattle.coord_record.specs.Records.{is_reading, on_block, idle_with, no_bricks}
use Rattle.coord_record.specs.declared.Op.{Op}
use Rattle.coord_record.specs.declared.Coordinator.{Coordinator}
use Rattle.coord_decide.specs.declared.Decision.{Decision}
use Rattle.message.specs.declared.Message.{Message}
use Rattle.coord_apply.specs.Answers.{Answer}
use Rattle.coord_apply.specs.Acts.{round_message, notice_of, next_op, opened, acted}
use Rattle.message.specs.Kinds.{last_round}

-- the answers that open a round and that end an operation
unfoldable pub open_answer : Coordinator → (phase max old : ℕ) → List ℕ → Answer
open_answer c phase max old bricks =
    record {
      refusal = 0;
      next = opened c phase max bricks;
      sent = 1;
      message = round_message (next_op c.op phase max) old no_bricks;
      second = no_message;
      seen = nothing_seen;
    }

-- an answer that has one message, with one ahead of it
unfoldable pub preceded_answer : Message → Answer → Answer
preceded_answer first a =
    record { refusal = a.refusal; next = a.next; sent = most_broadcasts; message = first; second = a.message; seen = a.seen }

-- E6: the same with what goes out ahead, if anything
unfoldable pub ahead_answer : List Broadcast → Answer → Answer
ahead_answer [] a = a
ahead_answer (b ∷ rest) a = preceded_answer b.message a

unfoldable pub end_answer : Coordinator → (what letter : ℕ) → List ℕ → ℕ → Message → Answer
end_answer c what letter bricks sent message =
    record {
      refusal = 0;
      next = idle_with c.geometry c.clock;
      sent = sent;
      message = message;
      second = no_message;
      seen = notice_of c.op what letter bricks;
    }

-- the letter of a finished Write or Modify round: a recovered read's, or that of what was written
unfoldable pub finished_letter : Op → ℕ
finished_letter op = cond (is_reading op.kind) (read_letter op) letter_s

-- what holds where a decision is carried out: the numbers are the lengths of the reply blocks and of the stripe
pub record DecisionReady (n m size : ℕ) (c : Coordinator) (blocks stripe : ℕ) : Type 0 where
  pub first-low : c.op.first < n
  pub block-low : on_block c.op.kind ≡ true → c.op.first < m
  pub round-low : c.op.round ≤ last_round
  pub blocks-length : blocks ≡ n * size
  pub stripe-length : stripe ≡ m * size

-- the answer and the buffers are those of the decision
pub record Acted (n m size : ℕ) (h : Buffered) (d : Decision) (coded : List ℕ) (r : Answer) (stripe' coded' : List ℕ) : Type 0 where
  pub answer : r ≡ answer_of h.state (went (acted n m size h d))
  pub stripe-left : stripe' ≡ (acted n m size h d).next.stripe
  pub coded-left : coded' ≡ sent_blocks (acted n m size h d).sent coded

-- What the inner workers of this crate ask and give.
use Rattle.std.specs.Prelude.{cond, true, List, [], ℕ, ◌+◌, ◌*◌, ◌≤◌, ◌≡◌}
use Rattle.coord_apply.specs.Acts.{round_message, notice_of, first_op, starting, buffered}
use Rattle.coord_apply.specs.Answers.{after_checks, answer_of, nothing_seen, no_message, began_seen}
use Rattle.coord_refusals.specs.Checks.{start_checks}
use Rattle.coordinator.specs.Routines.{drawn_then}
use Rattle.settings.specs.Refusal.{first_refusal}
use Rattle.settings.specs.Times.{draw_of}
use Rattle.coord_letters.specs.Letters.{no_letter}
use Rattle.coord_record.specs.Records.{no_bricks, nothing_counted}
use Rattle.message.specs.declared.Reply.{Reply}
use Rattle.settings.specs.declared.Clock.{Clock}
use Rattle.coord_apply.specs.Answers.{Answer}
use Rattle.coord_record.specs.declared.Coordinator.{Coordinator}
use Rattle.coord_record.specs.declared.Geometry.{Geometry}
use Rattle.coord_record.specs.declared.Op.{Op}
use Rattle.erasure.specs.Code.{with_block}

-- nothing sent and nothing seen
unfoldable pub kept_answer : Coordinator → Answer
kept_answer c = record { refusal = 0; next = c; sent = 0; message = no_message; second = no_message; seen = nothing_seen }

-- an operation begins
unfoldable pub start_answer : Geometry → Clock → Op → List ℕ → Answer
start_answer geometry clock op targets =
    record {
      refusal = 0;
      next = record { geometry = geometry; clock = clock; op = op; tally = nothing_counted; bricks = no_bricks };
      sent = 1;
      message = round_message op 0 targets;
      second = no_message;
      seen = notice_of op began_seen no_letter no_bricks;
    }

-- the answer of any start whose own checks pass: refused by the draw or while an operation runs, or begun
unfoldable pub started : Coordinator → (reading kind phase number first : ℕ) → (targets : List ℕ) → Answer
started c reading kind phase number first targets =
    answer_of c
    (after_checks (first_refusal (start_checks c reading))
    (drawn_then (draw_of c.clock reading)
    (λ (time : ℕ) (clock : Clock). starting (buffered c [] []) clock (first_op kind phase number time first) [] targets)))

-- the reply blocks with a reply's own
unfoldable pub kept_blocks : ℕ → Reply → List ℕ → List ℕ → List ℕ
kept_blocks size r block blocks = cond r.held (with_block size blocks r.brick block) blocks

-- the same, as the code that keeps it asks
pub record KeepsReply (size : ℕ) (r : Reply) (block blocks : ℕ) : Type 0 where
  pub block-length : r.held ≡ true → block ≡ size
  pub within : r.brick * size + size ≤ blocks

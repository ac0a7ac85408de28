-- The coordinator's record and answers as numbers and bytes, for a boundary of slices.
-- The lowest number comes first here too: 1, then 2 for the boundary's own buffers, then what the coordinator itself refuses.
use Rattle.std.specs.Prelude.{◌≡◌, Bool, cond, ◌&&◌, List, [], ◌∷◌, ◌++◌, ℕ, ◌+◌, eqb, length, get_or, take, drop}
use Rattle.coord_apply.specs.Answers.{Returned}
use Rattle.coord_apply.specs.Answers.{Answer}
use Rattle.coord_record.specs.declared.Coordinator.{Coordinator}
use Rattle.coordinator.specs.Routines.{write_call, read_call, write_block_call, read_block_call, take_call, crash_call}
use Rattle.message.specs.declared.Reply.{Reply}
use Rattle.settings.specs.Ranges.{max_bricks, code_refusal, stripe_count_refusal}
use Rattle.settings.specs.Refusal.{passed, refuse_unless, first_refusal, bad_length}

-- how many numbers and bytes a record has, and an answer
abbrev pub record_numbers_length : ℕ
record_numbers_length = 27

abbrev pub record_bytes_length : ℕ
record_bytes_length = 82

abbrev pub answer_numbers_length : ℕ
answer_numbers_length = 16

abbrev pub answer_bytes_length : ℕ
answer_bytes_length = 53

-- where a record's numbers stand
abbrev pub coordinator_at : ℕ
coordinator_at = 0

abbrev pub last_at : ℕ
last_at = 1

abbrev pub record_time_at : ℕ
record_time_at = 2

abbrev pub round_at : ℕ
round_at = 3

abbrev pub max_at : ℕ
max_at = 4

abbrev pub first_at : ℕ
first_at = 5

abbrev pub record_n_at : ℕ
record_n_at = 6

abbrev pub record_m_at : ℕ
record_m_at = 7

abbrev pub record_size_at : ℕ
record_size_at = 8

abbrev pub record_stripes_at : ℕ
record_stripes_at = 9

abbrev pub record_stripe_at : ℕ
record_stripe_at = 10

abbrev pub record_found_at : ℕ
record_found_at = 11

-- where its bytes stand
abbrev pub kind_at : ℕ
kind_at = 0

abbrev pub phase_at : ℕ
phase_at = 1

abbrev pub counted_at : ℕ
counted_at = 2

abbrev pub granted_at : ℕ
granted_at = 18

abbrev pub record_held_at : ℕ
record_held_at = 34

abbrev pub bricks_at : ℕ
bricks_at = 50

abbrev pub said_at : ℕ
said_at = 66

-- where an answer's rows stand among its bytes, the kind of its second message, and the letter of what is seen
abbrev pub targets_at : ℕ
targets_at = 3

abbrev pub seen_bricks_at : ℕ
seen_bricks_at = 19

abbrev pub second_targets_at : ℕ
second_targets_at = 35

abbrev pub second_kind_at : ℕ
second_kind_at = 51

abbrev pub seen_letter_at : ℕ
seen_letter_at = 52

-- a record's 27 numbers: clock, time, round, max, first, the settings that it is for, the operation's stripe, and the times found
unfoldable pub record_numbers : Coordinator → List ℕ
record_numbers c =
    c.clock.coordinator ∷ c.clock.last ∷ c.op.time ∷ c.op.round ∷ c.op.max ∷ c.op.first
    ∷ c.geometry.n ∷ c.geometry.m ∷ c.geometry.size ∷ c.geometry.stripes ∷ c.op.stripe ∷ c.tally.found

-- its 82 bytes: kind, phase, and the rows counted, granted, held, bricks and said
unfoldable pub record_bytes : Coordinator → List ℕ
record_bytes c = c.op.kind ∷ c.op.phase ∷ (c.tally.counted ++ (c.tally.granted ++ (c.tally.held ++ (c.bricks ++ c.tally.said))))

-- a row from a place on: an entry for each brick that there may be
unfoldable pub row_at : ℕ → List ℕ → List ℕ
row_at at l = take max_bricks (drop at l)

-- the record of such numbers and bytes
unfoldable pub record_for : List ℕ → List ℕ → Coordinator
record_for numbers bytes =
    record {
      geometry =
          record {
            n = get_or numbers record_n_at 0;
            m = get_or numbers record_m_at 0;
            size = get_or numbers record_size_at 0;
            stripes = get_or numbers record_stripes_at 0;
          };
      clock = record { coordinator = get_or numbers coordinator_at 0; last = get_or numbers last_at 0 };
      op =
          record {
            kind = get_or bytes kind_at 0;
            phase = get_or bytes phase_at 0;
            stripe = get_or numbers record_stripe_at 0;
            time = get_or numbers record_time_at 0;
            round = get_or numbers round_at 0;
            max = get_or numbers max_at 0;
            first = get_or numbers first_at 0;
          };
      tally =
          record {
            counted = row_at counted_at bytes;
            granted = row_at granted_at bytes;
            held = row_at record_held_at bytes;
            found = row_at record_found_at numbers;
            said = row_at said_at bytes;
          };
      bricks = row_at bricks_at bytes;
    }

-- an answer's 16 numbers: broadcasts; time, round and max of the first message; time of what is seen; the same three of the second message;
-- the stripes of these three; old time and block of the two messages, and the block of what is seen
unfoldable pub answer_numbers : Answer → List ℕ
answer_numbers a =
    a.sent ∷ a.message.time ∷ a.message.round ∷ a.message.max ∷ a.seen.time
    ∷ a.second.time ∷ a.second.round ∷ a.second.max
    ∷ a.message.stripe ∷ a.seen.stripe ∷ a.second.stripe
    ∷ a.message.old ∷ a.message.block ∷ a.second.old ∷ a.second.block ∷ a.seen.block ∷ []

-- its 53 bytes: kind of the first message; what is seen, of which kind; targets of the first message, bricks seen;
-- targets and kind of the second message, and the letter of what is seen
unfoldable pub answer_bytes : Answer → List ℕ
answer_bytes a =
    a.message.kind ∷ a.seen.what ∷ a.seen.kind
    ∷ (a.message.targets ++ (a.seen.bricks ++ (a.second.targets ++ a.second.kind ∷ a.seen.letter ∷ [])))

-- The four buffers that every routine is lent: the record's numbers and bytes, the answer's numbers and bytes.
pub record Rows : Type 0 where
  pub numbers : List ℕ
  pub bytes : List ℕ
  pub sent : List ℕ
  pub shown : List ℕ

abbrev pub rows : (numbers bytes sent shown : List ℕ) → Rows
rows numbers bytes sent shown = record { numbers = numbers; bytes = bytes; sent = sent; shown = shown }

-- they have their lengths
unfoldable pub lent_lengths : ℕ → ℕ → ℕ → ℕ → Bool
lent_lengths numbers bytes sent shown =
    eqb numbers record_numbers_length && (eqb bytes record_bytes_length && (eqb sent answer_numbers_length && eqb shown answer_bytes_length))

-- the same, as the code that fills them asks
pub record Lengths (numbers bytes sent shown : ℕ) : Type 0 where
  pub numbers-long : numbers ≡ record_numbers_length
  pub bytes-long : bytes ≡ record_bytes_length
  pub sent-long : sent ≡ answer_numbers_length
  pub shown-long : shown ≡ answer_bytes_length

-- an answer laid out in them; a refusal leaves them as they were
unfoldable pub laid_out : Rows → Answer → Rows
laid_out l a = cond (eqb a.refusal passed) (rows (record_numbers a.next) (record_bytes a.next) (answer_numbers a) (answer_bytes a)) l

-- What a routine leaves at the boundary: its number, the four buffers, and the reply blocks, the stripe and the blocks to send.
pub record AtBoundary : Type 0 where
  pub number : ℕ
  pub laid : Rows
  pub blocks : List ℕ
  pub stripe : List ℕ
  pub coded : List ℕ

abbrev pub at_boundary : ℕ → Rows → (blocks stripe coded : List ℕ) → AtBoundary
at_boundary number l blocks stripe coded = record { number = number; laid = l; blocks = blocks; stripe = stripe; coded = coded }

-- 1, a setting outside its range; then 2, where one of the four buffers has another length
unfoldable pub lent_refusal : (n m size stripes numbers bytes sent shown : ℕ) → ℕ
lent_refusal n m size stripes numbers bytes sent shown =
    first_refusal (code_refusal n m size ∷ stripe_count_refusal stripes ∷ refuse_unless (lent_lengths numbers bytes sent shown) bad_length ∷ [])

abbrev pub rows_refusal : (n m size stripes : ℕ) → Rows → ℕ
rows_refusal n m size stripes l = lent_refusal n m size stripes (length l.numbers) (length l.bytes) (length l.sent) (length l.shown)

-- a call at the boundary: its answer laid out; or refused by the boundary itself, and nothing changed
unfoldable pub crossing : ℕ → Rows → (blocks stripe coded : List ℕ) → Returned → AtBoundary
crossing refusal l blocks stripe coded r =
    cond (eqb refusal passed) (at_boundary r.answer.refusal (laid_out l r.answer) r.blocks r.stripe r.coded)
    (at_boundary refusal l blocks stripe coded)

-- a row replaced
unfoldable pub row_put : {A : Type 0} → ℕ → List A → List A → List A
row_put at row l = take at l ++ (row ++ drop (at + max_bricks) l)

abbrev pub reply_for : (kind brick stripe time round : ℕ) → Bool → ℕ → Bool → ℕ → Reply
reply_for kind brick stripe time round said found held comparison =
    record {
      kind = kind;
      brick = brick;
      stripe = stripe;
      time = time;
      round = round;
      yes = said;
      found = found;
      held = held;
      comparison = comparison;
    }

-- The six routines. A buffer that a routine is not lent is none here. The number of a stripe is `number`.
module _ (n m size stripes : ℕ) (l : Rows) where
  abbrev pub wrote : (number reading : ℕ) → (given stripe : List ℕ) → AtBoundary
  wrote number reading given stripe =
      crossing (rows_refusal n m size stripes l) l [] stripe []
      (write_call n m size stripes (record_for l.numbers l.bytes) [] stripe [] number reading given)

  abbrev pub looked : (number reading first : ℕ) → AtBoundary
  looked number reading first =
      crossing (rows_refusal n m size stripes l) l [] [] []
      (read_call n m size stripes (record_for l.numbers l.bytes) [] [] [] number reading first)

  abbrev pub wrote_block : (number reading block : ℕ) → (given stripe : List ℕ) → AtBoundary
  wrote_block number reading block given stripe =
      crossing (rows_refusal n m size stripes l) l [] stripe []
      (write_block_call n m size stripes (record_for l.numbers l.bytes) [] stripe [] number reading block given)

  abbrev pub looked_block : (number reading block : ℕ) → AtBoundary
  looked_block number reading block =
      crossing (rows_refusal n m size stripes l) l [] [] []
      (read_block_call n m size stripes (record_for l.numbers l.bytes) [] [] [] number reading block)

  abbrev pub took : Reply → (block blocks stripe coded : List ℕ) → AtBoundary
  took reply block blocks stripe coded =
      crossing (rows_refusal n m size stripes l) l blocks stripe coded
      (take_call n m size stripes (record_for l.numbers l.bytes) blocks stripe coded reply block)

  abbrev pub fell : AtBoundary
  fell = crossing (rows_refusal n m size stripes l) l [] [] [] (crash_call n m size stripes (record_for l.numbers l.bytes) [] [] [])

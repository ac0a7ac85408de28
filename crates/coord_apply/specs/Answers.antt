-- What one event at a coordinator gives: a refusal, or the later coordinator, a list of broadcasts to all n bricks, and what is seen.
use Rattle.std.specs.Prelude.{Result, Ok, Err, cond, ◌&&◌, List, [], ◌∷◌, ℕ, zero, suc, eqb, leb, length, take}
use Rattle.coord_record.specs.Records.{idle_kind, on_block, no_bricks}
use Rattle.coord_letters.specs.Letters.{no_letter, letter_f, letter_s, letter_c, read_letter, abort_letter}
use Rattle.coord_record.specs.declared.Coordinator.{Coordinator}
use Rattle.coord_record.specs.declared.Op.{Op}
use Rattle.coord_record.specs.declared.Tally.{Tally}
use Rattle.coord_apply.specs.declared.Answer as Code
use Rattle.coord_apply.specs.declared.Notice.{Notice}
use Rattle.message.specs.Kinds.{write_kind}
use Rattle.message.specs.declared.Message.{Message}
use Rattle.settings.specs.Refusal.{passed, number_of_refusal}
use Rattle.settings.specs.declared.Refusal.{Refusal}

-- A coordinator with what it keeps in lent buffers: the blocks of the replies, brick b's at b × size, and the stripe.
pub record Buffered : Type 0 where
  pub state : Coordinator
  pub blocks : List ℕ
  pub stripe : List ℕ

-- One message to each of the n bricks; a Write round has a block for each, n blocks in a row.
-- E2: Modify has "old block, new block" for all: `blocks` is then the new block and `old` the old one.
pub record Broadcast : Type 0 where
  pub message : Message
  pub blocks : List ℕ
  pub old : List ℕ

pub record Went : Type 0 where
  pub next : Buffered
  pub sent : List Broadcast
  pub seen : Notice

pub data Step : Type 0 where
  refused : ℕ → Step
  went : Went → Step

-- "A refusal returns its number alone": the checks come first
unfoldable pub after_checks : ℕ → Step → Step
after_checks number step = cond (leb number 0) step (refused number)

-- What is seen: nothing, the beginning of an operation, or its end: ok, the stripe or block read, aborted, cut.
abbrev pub none_seen : ℕ
none_seen = 0

abbrev pub began_seen : ℕ
began_seen = 1

abbrev pub ok_seen : ℕ
ok_seen = 2

abbrev pub read_seen : ℕ
read_seen = 3

abbrev pub aborted_seen : ℕ
aborted_seen = 4

abbrev pub cut_seen : ℕ
cut_seen = 5

-- E5: the letter of what is seen of an operation, by how it ended and where it stood. S with ok; F, H or L with what was read; O, G, W or X
-- with an abort; C with a cut; none with a beginning.
unfoldable pub letter_of : (n : ℕ) → Op → Tally → (what : ℕ) → ℕ
letter_of n op t what =
    cond (eqb what ok_seen) letter_s
    (cond (eqb what read_seen) (read_letter op)
    (cond (eqb what aborted_seen) (abort_letter n op t)
    (cond (eqb what cut_seen) letter_c no_letter)))

unfoldable pub nothing_seen : Notice
nothing_seen = record { what = none_seen; kind = idle_kind; stripe = 0; time = 0; block = 0; bricks = no_bricks; letter = no_letter }

-- How many bricks a notice names, by its own fields and m: none unless it tells what was read. Document 01: "A finished read names the m bricks
-- decoded from"; E2: reading block j in one round "has brick j as its only target, and names it alone". The row of 16 alone does not tell it:
-- it is 0 past them, and 0 is a brick.
unfoldable pub how_many_named : (m : ℕ) → Notice → ℕ
how_many_named m e = cond (eqb e.what read_seen) (cond (eqb e.letter letter_f && on_block e.kind) 1 m) 0

-- and which: as many from the front of its row
unfoldable pub named_in : (m : ℕ) → Notice → List ℕ
named_in m e = take (how_many_named m e) e.bricks

unfoldable pub no_message : Message
no_message = record { kind = 0; stripe = 0; time = 0; round = 0; max = 0; old = 0; block = 0; targets = no_bricks }

-- an answer has room for the messages of so many broadcasts
abbrev pub most_broadcasts : ℕ
most_broadcasts = 2

-- how many broadcasts there are, and the message of broadcast k, from 0
unfoldable pub sent_count : List Broadcast → ℕ
sent_count sent = length sent

unfoldable pub sent_message : ℕ → List Broadcast → Message
sent_message k [] = no_message
sent_message zero (b ∷ rest) = b.message
sent_message (suc k) (b ∷ rest) = sent_message k rest

-- what the output buffer holds then: the n blocks of the Write round among the broadcasts, or what it held
unfoldable pub sent_blocks : List Broadcast → List ℕ → List ℕ
sent_blocks [] old = old
sent_blocks (b ∷ rest) old = sent_blocks rest (cond (eqb b.message.kind write_kind) b.blocks old)

-- What a routine answers: 0, the record that follows and what is sent and seen; or a refusal's number alone, and the record as it was.
pub record Answer : Type 0 where
  pub refusal : ℕ
  pub next : Coordinator
  pub sent : ℕ
  pub message : Message
  pub second : Message
  pub seen : Notice

-- the answer that is not refused, as the code gives it
abbrev pub answered : Code.Answer → Answer
answered a = record { refusal = passed; next = a.next; sent = a.sent; message = a.message; second = a.second; seen = a.seen }

-- the answer of the code, at the record that a refusal leaves
abbrev pub answer_in : Coordinator → Result Code.Answer Refusal → Answer
answer_in c (Ok a) = answered a
answer_in c (Err r) =
    record { refusal = number_of_refusal r; next = c; sent = 0; message = no_message; second = no_message; seen = nothing_seen }

-- the answer of a routine at a coordinator
unfoldable pub answer_of : Coordinator → Step → Answer
answer_of c (refused number) =
    record { refusal = number; next = c; sent = 0; message = no_message; second = no_message; seen = nothing_seen }
answer_of c (went w) =
    record {
      refusal = 0;
      next = w.next.state;
      sent = sent_count w.sent;
      message = sent_message 0 w.sent;
      second = sent_message 1 w.sent;
      seen = w.seen;
    }

-- the lent buffers after it: a refusal leaves them
unfoldable pub blocks_after : Buffered → Step → List ℕ
blocks_after h (refused number) = h.blocks
blocks_after h (went w) = w.next.blocks

unfoldable pub stripe_after : Buffered → Step → List ℕ
stripe_after h (refused number) = h.stripe
stripe_after h (went w) = w.next.stripe

unfoldable pub coded_after : List ℕ → Step → List ℕ
coded_after old (refused number) = old
coded_after old (went w) = sent_blocks w.sent old

-- What a call leaves: the answer, and every byte of the lent buffers, the reply blocks, the stripe and the blocks to send.
pub record Returned : Type 0 where
  pub answer : Answer
  pub blocks : List ℕ
  pub stripe : List ℕ
  pub coded : List ℕ

abbrev pub returned : Answer → (blocks stripe coded : List ℕ) → Returned
returned a blocks stripe coded = record { answer = a; blocks = blocks; stripe = stripe; coded = coded }

-- what a call of this step leaves
unfoldable pub returned_by : Buffered → List ℕ → Step → Returned
returned_by h coded p = returned (answer_of h.state p) (blocks_after h p) (stripe_after h p) (coded_after coded p)

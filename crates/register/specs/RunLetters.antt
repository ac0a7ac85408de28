-- Document 02, E5: "On the panel I'd like a letter after the time." The letter that an event of a run shows, and what the letter of an end by a
-- reply tells of the replies counted. Proved in `proofs/Laws/RunLetterLaws` and `proofs/Laws/EndLetterLaws`.
use Rattle.std.specs.Prelude.{◌≡◌, ◌≢◌, ◌⊎◌, Bool, true, false, cond, ◌||◌, List, [], ◌∷◌, ℕ, zero, suc, ◌*◌, ◌≤◌, ◌<◌, eqb, get_or}
use Rattle.settings.specs.Ranges.{in_range, quorum}
use Rattle.settings.specs.Times.{coordinator_of}
use Rattle.settings.specs.declared.Settings.{Settings}
use Rattle.message.specs.Flags.{member, members}
use Rattle.message.specs.Kinds.{read_kind, order_read_kind, write_kind, second_round, third_round, last_round, full_log}
use Rattle.message.specs.Messages.{stores_entry}
use Rattle.message.specs.declared.Message.{Message}
use Rattle.message.specs.declared.Reply.{Reply}
use Rattle.coord_record.specs.CountedRules.{is_target}
use Rattle.coord_record.specs.Records.{is_reading, target_count}
use Rattle.coord_letters.specs.Letters.{no_letter, letter_f, letter_h, letter_l, letter_s, letter_o, letter_g, letter_w, letter_x, letter_c}
use Rattle.erasure.specs.Code.{block_of}
use Rattle.coord_apply.specs.Answers.{Buffered, Went, Step, refused, went}
use Rattle.byte_lists.specs.Little.{are_bytes}
use Rattle.coordinator.specs.Routines.{take_step, crash_step, write_step, read_step, write_block_step, read_block_step}
use Rattle.order.specs.Claim.{◌∈◌, ok, bytes, Result, Ending, finished, aborted, cut, Seen}
use Rattle.register.specs.Recoveries.{addressee, counted_at}
use Rattle.register.specs.Runs.{plain, Item, message, reply, World, Event, start_write, start_read, start_write_block, start_read_block, arrives, crashes}
use Rattle.register.specs.Runs.{goes_down, comes_up, step, run}

-- the letter that a coordinator's routine shows: that of the operation that it ends
unfoldable pub step_letter : Step → ℕ
step_letter (refused number) = no_letter
step_letter (went g) = g.seen.letter

-- an item that arrives: only a reply at its coordinator ends an operation
unfoldable pub arriving_letter : Settings → World → Item → ℕ
arriving_letter s w (message b msg block old) = no_letter
arriving_letter s w (reply r block) =
    step_letter (take_step s.n s.m s.size s.stripes (w.coordinators (coordinator_of r.time)) r block (s.n * s.size))

-- the item at a place, if so many were sent
unfoldable pub arriving_letter_at : Settings → World → List Item → ℕ → ℕ
arriving_letter_at s w [] k = no_letter
arriving_letter_at s w (i ∷ is) zero = arriving_letter s w i
arriving_letter_at s w (i ∷ is) (suc k) = arriving_letter_at s w is k

-- The letter of an event: that of its coordinator's routine; a brick that goes down or comes up ends nothing.
unfoldable pub letter_at : Settings → World → Event → ℕ
letter_at s w (start_write c stripe reading content) =
    cond (are_bytes content) (step_letter (write_step s.n s.m s.size s.stripes (w.coordinators c) stripe reading content)) no_letter
letter_at s w (start_read c stripe reading first) = step_letter (read_step s.n s.m s.size s.stripes (w.coordinators c) stripe reading first)
letter_at s w (start_write_block c stripe reading block content) =
    cond (are_bytes content) (step_letter (write_block_step s.n s.m s.size s.stripes (w.coordinators c) stripe reading block content)) no_letter
letter_at s w (start_read_block c stripe reading block) =
    step_letter (read_block_step s.n s.m s.size s.stripes (w.coordinators c) stripe reading block)
letter_at s w (arrives k) = arriving_letter_at s w w.sent k
letter_at s w (crashes c left) = step_letter (crash_step s.n s.m s.size s.stripes (w.coordinators c))
letter_at s w (goes_down b) = no_letter
letter_at s w (comes_up b) = no_letter

-- WHICH LETTERS GO WITH WHICH END: ok S, a read's answer F, H or L, aborted O, G, W or X, cut C
unfoldable pub goes_with : (s : Settings) → Ending (plain s) → ℕ → Bool
goes_with s (finished ok) letter = eqb letter letter_s
goes_with s (finished (bytes l)) letter = eqb letter letter_f || eqb letter letter_h || eqb letter letter_l
goes_with s (finished (Result.block l)) letter = eqb letter letter_f || eqb letter letter_h || eqb letter letter_l
goes_with s aborted letter = eqb letter letter_o || eqb letter letter_g || eqb letter letter_w || eqb letter letter_x
goes_with s cut letter = eqb letter letter_c

-- Each end, at any event on any set, has one letter, of those that go with it.
abbrev pub EveryEndHasItsLetter : Type 0
EveryEndHasItsLetter =
    (s : Settings) (w : World) (e : Event) (stripe time : ℕ) (how : Ending (plain s)) → (step s w e).seen stripe ≡ Seen.ended time how ∷ []
    → goes_with s how (letter_at s w e) ≡ true

-- Where no operation ends there is none.
abbrev pub NoLetterWithoutAnEnd : Type 0
NoLetterWithoutAnEnd =
    (s : Settings) (w : World) (e : Event) → letter_at s w e ≢ no_letter
    → (stripe time : ℕ) × (how : Ending (plain s)) × ((step s w e).seen stripe ≡ Seen.ended time how ∷ [])

-- WHAT A LETTER TELLS. It speaks of a coordinator k that has counted the reply which ends the operation. Brick b is counted:
abbrev pub Counted : Buffered → ℕ → Type 0
Counted k b = member k.state.tally.counted b ≡ true

-- the reply of brick b as the coordinator keeps it: one to the open round, with what the tally has of the brick
abbrev pub kept_reply : Buffered → ℕ → Reply
kept_reply k b =
    record {
      kind = k.state.op.phase;
      brick = b;
      stripe = k.state.op.stripe;
      time = k.state.op.time;
      round = k.state.op.round;
      yes = member k.state.tally.granted b;
      found = get_or k.state.tally.found b 0;
      held = member k.state.tally.held b;
      comparison = get_or k.state.tally.said b 0;
    }

-- The round met q replies: q bricks are counted; of each of them the reply that is kept was sent, and where it holds a block, the block sent with
-- it is the one in the coordinator's buffer.
pub record Met (s : Settings) (sent : List Item) (k : Buffered) : Type 0 where
  pub a-quorum : members k.state.tally.counted s.n ≡ quorum s.n s.m
  pub low : (b : ℕ) → Counted k b → b < s.n
  pub block : (b : ℕ) → Counted k b → List ℕ
  pub was-sent : (b : ℕ) (e : Counted k b) → reply (kept_reply k b) (block b e) ∈ sent
  pub block-kept : (b : ℕ) (e : Counted k b) → (kept_reply k b).held ≡ true → block_of s.size k.blocks b ≡ block b e

-- all of them said yes
abbrev pub AllSaidYes : Buffered → Type 0
AllSaidYes k = (b : ℕ) → Counted k b → (kept_reply k b).yes ≡ true

-- brick b said no
abbrev pub SaidNo : Buffered → ℕ → Type 0
SaidNo k b = Counted k b × ((kept_reply k b).yes ≡ false)

-- "no block found"
abbrev pub NoBlock : Buffered → Type 0
NoBlock k = (b : ℕ) → Counted k b → (kept_reply k b).held ≡ false

-- "time 0 on too few": every block is of time 0, and fewer than m bricks gave one
abbrev pub ZeroOnFew : Settings → Buffered → Type 0
ZeroOnFew s k =
    (members k.state.tally.held s.n < s.m) × ((b : ℕ) → Counted k b → (kept_reply k b).held ≡ true → (kept_reply k b).found ≡ 0)

-- What a letter tells of the replies counted in the round that ended an operation.
pub data Tells (s : Settings) (sent : List Item) (k : Buffered) : ℕ → Type 0 where
  -- "F: read in one round": all said yes with one newest time, and every target is among them
  read_at_once : is_reading k.state.op.kind ≡ true → k.state.op.phase ≡ read_kind → AllSaidYes k
      → (newest : ℕ) → ((b : ℕ) → Counted k b → (kept_reply k b).found ≡ newest)
      → ((b : ℕ) → b < s.n → is_target s.n (target_count s.m k.state.op.kind) k.state.op.first b ≡ true → Counted k b)
      → Tells s sent k letter_f
  -- "H: a read recovered at the first time tried": all said yes to its store, and it never sent an Order-and-read after the second round
  first_time : is_reading k.state.op.kind ≡ true → k.state.op.phase ≡ write_kind → AllSaidYes k → k.state.op.round ≡ third_round
      → ((b : ℕ) (msg : Message) (block old : List ℕ) → message b msg block old ∈ sent → msg.kind ≡ order_read_kind
      → msg.stripe ≡ k.state.op.stripe → msg.time ≡ k.state.op.time → msg.round ≤ second_round)
      → Tells s sent k letter_h
  -- "L: a read recovered at a lower time": all said yes to its store, and it had sent an Order-and-read after the second round
  lower_time : is_reading k.state.op.kind ≡ true → k.state.op.phase ≡ write_kind → AllSaidYes k → third_round < k.state.op.round
      → (b : ℕ) (msg : Message) (block old : List ℕ) → message b msg block old ∈ sent → msg.kind ≡ order_read_kind
      → msg.stripe ≡ k.state.op.stripe → msg.time ≡ k.state.op.time → third_round ≤ msg.round
      → Tells s sent k letter_l
  -- "S: written, stripe or block": all said yes to Write or Modify
  written : is_reading k.state.op.kind ≡ false → stores_entry k.state.op.phase ≡ true → AllSaidYes k → Tells s sent k letter_s
  -- "O: an Order or Order-and-read was told no"
  order_told_no : stores_entry k.state.op.phase ≡ false → k.state.op.phase ≢ read_kind → (b : ℕ) → SaidNo k b → Tells s sent k letter_o
  -- "G: every no to a Write or Modify came from a full log alone", and there was one
  full_logs : stores_entry k.state.op.phase ≡ true → (b : ℕ) → SaidNo k b → ((b : ℕ) → SaidNo k b → (kept_reply k b).comparison ≡ full_log)
      → Tells s sent k letter_g
  -- "W: any other no there"
  other_no : stores_entry k.state.op.phase ≡ true → (b : ℕ) → SaidNo k b → (kept_reply k b).comparison ≢ full_log → Tells s sent k letter_w
  -- "X: all said yes, but no block found, time 0 on too few, rounds spent" (E3: blocks of a run never disagree)
  nothing_found : k.state.op.phase ≡ order_read_kind → AllSaidYes k → NoBlock k ⊎ (ZeroOnFew s k ⊎ (last_round ≤ k.state.op.round))
      → Tells s sent k letter_x

-- In a run from fresh, a reply that ends an operation shows a letter that tells what q replies said: those that its coordinator has counted, this
-- one among them, each sent to the operation's round.
abbrev pub LettersTellTheReplies : Type 0
LettersTellTheReplies =
    (s : Settings) → in_range s ≡ true → (events : List Event) (a : Reply) (block : List ℕ) (g : Went)
    → let w = (run s events).world in let k = counted_at s w a block in
    reply a block ∈ w.sent → take_step s.n s.m s.size s.stripes (addressee w a) a block (s.n * s.size) ≡ went g → g.seen.letter ≢ no_letter
    → Met s w.sent k × Tells s w.sent k g.seen.letter

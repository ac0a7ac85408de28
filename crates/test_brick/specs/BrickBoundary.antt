-- The brick's routines at a boundary of numbers and slices: the number that each gives, and what the lent buffers hold afterwards.
-- The lowest number comes first here too: 1, then 2 for the boundary's own buffers, then what the brick itself refuses.
use Rattle.std.specs.Prelude.{Bool, cond, ◌&&◌, List, [], ◌∷◌, ℕ, ◌+◌, eqb, leb, length, get_or}
use Rattle.brick.specs.Receive.{Outcome, given_number, outcome}
use Rattle.brick.specs.Receive.{Given}
use Rattle.brick.specs.Receive.{Answered, Silent, Refused}
use Rattle.byte_lists.specs.Lists.{tabulate}
use Rattle.image.specs.Opening.{lending_refusal, panel_of, place_in, shown_number}
use Rattle.image.specs.Parse.{parse}
use Rattle.image.specs.PanelAnswer.{Shown}
use Rattle.image.specs.PanelAnswer.{Values}
use Rattle.image_write.specs.Saving.{fresh_after}
use Rattle.message.specs.declared.Message.{Message}
use Rattle.message.specs.declared.Reply.{Reply}
use Rattle.settings.specs.Count.{one_if}
use Rattle.settings.specs.Ranges.{max_bricks, settings_refusal}
use Rattle.settings.specs.Refusal.{passed, refuse_unless, first_refusal, bad_length}
use Rattle.settings.specs.declared.Settings.{Settings}
use Rattle.volume.specs.Rows.{row_lending_refusal, fresh_row_after, row_outcome}
use Rattle.image_view.specs.View.{found_number, found_of}
use Rattle.image_view.specs.View.{Found}
use Rattle.image_view.specs.View.{At}

-- the lengths of the boundary's own buffers: two numbers of the panel or of an entry, 23 of a message, nine of a reply
abbrev pub pair_length : ℕ
pair_length = 2

abbrev pub message_length : ℕ
message_length = 23

abbrev pub reply_length : ℕ
reply_length = 9

-- 1, a setting outside its range; then 2, where one of the boundary's own buffers has another length
unfoldable pub own_refusal : Settings → Bool → ℕ
own_refusal s right = first_refusal (settings_refusal s ∷ refuse_unless right bad_length ∷ [])

-- A fresh brick: the number, and the image afterwards, or the row of images.
pub record FreshGiven : Type 0 where
  pub number : ℕ
  pub image : List ℕ

abbrev pub fresh_with : ℕ → List ℕ → FreshGiven
fresh_with number image = record { number = number; image = image }

abbrev pub fresh_at : Settings → ℕ → List ℕ → FreshGiven
fresh_at s brick image = fresh_with (lending_refusal s brick (length image)) (fresh_after s brick image)

abbrev pub fresh_row_at : Settings → ℕ → List ℕ → FreshGiven
fresh_row_at s brick row = fresh_with (row_lending_refusal s brick (length row)) (fresh_row_after s brick row)

-- The panel, and the entry at a place: the number, and what the buffer of two numbers holds afterwards.
pub record PairGiven : Type 0 where
  pub number : ℕ
  pub pair : List ℕ

-- what is given where nothing is refused before; else that number, and the buffer as it was
unfoldable pub pair_unless : ℕ → List ℕ → PairGiven → PairGiven
pair_unless refusal old given = cond (eqb refusal passed) given (record { number = refusal; pair = old })

-- the panel's two times, or the buffer as it was
unfoldable pub shown_buffer : Shown → List ℕ → List ℕ
shown_buffer (Values p) old = p.promise ∷ p.newest ∷ []
shown_buffer (Shown.Refused number) old = old

unfoldable pub panel_pair : Shown → List ℕ → PairGiven
panel_pair shown old = record { number = shown_number shown; pair = shown_buffer shown old }

unfoldable pub panel_at : Settings → ℕ → List ℕ → List ℕ → PairGiven
panel_at s brick image old = pair_unless (own_refusal s (eqb (length old) pair_length)) old (panel_pair (panel_of (parse s brick image)) old)

-- the entry's time and the place of its block, 0 for a mark; or the buffer as it was
unfoldable pub entry_buffer : Found → List ℕ → List ℕ
entry_buffer (At e) old = e.time ∷ place_in e.holding ∷ []
entry_buffer (Found.Refused number) old = old

unfoldable pub entry_pair : Found → List ℕ → PairGiven
entry_pair found old = record { number = found_number found; pair = entry_buffer found old }

unfoldable pub entry_pair_at : Settings → ℕ → List ℕ → ℕ → List ℕ → PairGiven
entry_pair_at s brick image place old =
    pair_unless (own_refusal s (eqb (length old) pair_length)) old (entry_pair (found_of (parse s brick image) place) old)

-- where a message's numbers stand: kind, time, round, max, stripe, old time, data block, and a flag for each brick that a set may have
abbrev pub asked_kind_at : ℕ
asked_kind_at = 0

abbrev pub asked_time_at : ℕ
asked_time_at = 1

abbrev pub asked_round_at : ℕ
asked_round_at = 2

abbrev pub asked_max_at : ℕ
asked_max_at = 3

abbrev pub asked_stripe_at : ℕ
asked_stripe_at = 4

abbrev pub asked_old_at : ℕ
asked_old_at = 5

abbrev pub asked_block_at : ℕ
asked_block_at = 6

abbrev pub asked_targets_at : ℕ
asked_targets_at = 7

-- the last byte, which is no kind and no flag
abbrev pub last_byte : ℕ
last_byte = 255

-- a number as a byte; one that no byte holds is the last byte, so that the brick refuses it in its place where the field counts
unfoldable pub as_byte : ℕ → ℕ
as_byte k = cond (leb k last_byte) k last_byte

-- so many numbers of a list, from a place on, as bytes
unfoldable pub as_bytes : ℕ → ℕ → List ℕ → List ℕ
as_bytes at count l = tabulate count (λ (i : ℕ). as_byte (get_or l (at + i) 0))

-- the message of 23 numbers
unfoldable pub message_of : List ℕ → Message
message_of asked =
    record {
      kind = as_byte (get_or asked asked_kind_at 0);
      stripe = get_or asked asked_stripe_at 0;
      time = get_or asked asked_time_at 0;
      round = get_or asked asked_round_at 0;
      max = get_or asked asked_max_at 0;
      old = get_or asked asked_old_at 0;
      block = get_or asked asked_block_at 0;
      targets = as_bytes asked_targets_at max_bricks asked;
    }

-- A message: the number, and what the image (or the row of images) and the two buffers of the reply hold afterwards.
pub record ReceiptGiven : Type 0 where
  pub number : ℕ
  pub image : List ℕ
  pub out : List ℕ
  pub reply : List ℕ

abbrev pub receipt_with : ℕ → (image out reply : List ℕ) → ReceiptGiven
receipt_with number image out reply = record { number = number; image = image; out = out; reply = reply }

-- the number that tells silence from a reply and from every refusal
abbrev pub silence : ℕ
silence = 100

-- the number of an answer: silence has one of its own
unfoldable pub answer_code : Given → ℕ
answer_code (Answered r) = given_number (Answered r)
answer_code Silent = silence
answer_code (Refused number) = given_number (Refused number)

-- a reply as nine numbers
unfoldable pub reply_numbers : Reply → List ℕ
reply_numbers r = r.kind ∷ r.brick ∷ r.time ∷ r.round ∷ one_if r.yes ∷ r.found ∷ one_if r.held ∷ r.stripe ∷ r.comparison ∷ []

-- the reply's numbers, or the buffer as it was
unfoldable pub given_buffer : Given → List ℕ → List ℕ
given_buffer (Answered r) old = reply_numbers r
given_buffer Silent old = old
given_buffer (Refused number) old = old

unfoldable pub receipt : Outcome → List ℕ → ReceiptGiven
receipt o reply = receipt_with (answer_code o.given) o.image o.out (given_buffer o.given reply)

-- the lengths of the message's numbers and of the reply's
unfoldable pub numbers_right : ℕ → ℕ → Bool
numbers_right asked reply = eqb asked message_length && eqb reply reply_length

-- what the brick gives, where the boundary itself refuses nothing before; else that number, and all as it was
unfoldable pub receipt_at : Settings → (asked image out reply : List ℕ) → Outcome → ReceiptGiven
receipt_at s asked image out reply o =
    let refusal : ℕ = own_refusal s (numbers_right (length asked) (length reply)) in
    cond (eqb refusal passed) (receipt o reply) (receipt_with refusal image out reply)

-- a message at one image, and at the images of all stripes
abbrev pub received_at : Settings → ℕ → (asked block old image out reply : List ℕ) → ReceiptGiven
received_at s brick asked block old image out reply = receipt_at s asked image out reply (outcome s brick image (message_of asked) block old out)

abbrev pub row_received_at : Settings → ℕ → (asked block old row out reply : List ℕ) → ReceiptGiven
row_received_at s brick asked block old row out reply = receipt_at s asked row out reply (row_outcome s brick row (message_of asked) block old out)

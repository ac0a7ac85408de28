-- One message at one brick's image of the message's stripe: the answer, the image and the reply's buffer afterwards, refused calls included.
use Rattle.std.specs.Prelude.{Result, Ok, Err, Option, Some, None, Bool, cond, ◌&&◌, List, [], ◌∷◌, ℕ, ◌*◌, ◌≤◌, ◌<◌, eqb, ltb, length}
use Rattle.settings.specs.Ranges.{settings_refusal, stripe_refusal}
use Rattle.settings.specs.Refusal.{passed, refuse_unless, first_refusal, bad_length, bad_number}
use Rattle.settings.specs.declared.Settings.{Settings}
use Rattle.message.specs.Messages.{is_silent, message_refusal, message_block_refusal}
use Rattle.message.specs.declared.Message.{Message}
use Rattle.image.specs.Brick.{Brick, entry_count, time_at}
use Rattle.image.specs.Image.{image_of, image_size}
use Rattle.image.specs.Parse.{Parsed, Opens, Refuses, parse, open_refusal}
use Rattle.brick_log.specs.BrickRules.{place_for, reply_to, brick_after, block_after}
use Rattle.message.specs.declared.Reply.{Reply}
use Rattle.settings.specs.Refusal.{number_of_refusal}
use Rattle.settings.specs.declared.Refusal.{Refusal}

-- the lengths of what is lent beside a message: its block, the old block that goes with Modify, the reply's buffer
pub record Beside : Type 0 where
  pub block : ℕ
  pub old : ℕ
  pub out : ℕ

abbrev pub beside : (block old out : List ℕ) → Beside
beside block old out = record { block = length block; old = length old; out = length out }

-- each has the block size
unfoldable pub beside_right : Settings → Beside → Bool
beside_right s b = eqb b.block s.size && eqb b.old s.size && eqb b.out s.size

-- What is tested before an image is looked at, lowest number first: 1 the settings; 2 the length of the lent images, so many of them, and
-- of what is lent beside the message; 3 the brick; 13 the stripe; 14 a data block that the message names.
unfoldable pub front_refusal : Settings → (images brick lent : ℕ) → Message → Beside → ℕ
front_refusal s images brick lent msg b =
    first_refusal
    (settings_refusal s
    ∷ refuse_unless (eqb lent (images * image_size s)) bad_length
    ∷ refuse_unless (beside_right s b) bad_length
    ∷ refuse_unless (ltb brick s.n) bad_number
    ∷ stripe_refusal s.stripes msg.stripe
    ∷ message_block_refusal s.m msg
    ∷ [])

-- why a message is refused at the image of its stripe, lowest number first: what is tested before, the image, the message itself
unfoldable pub receive_refusal : Settings → ℕ → List ℕ → Message → Beside → ℕ
receive_refusal s brick bytes msg b =
    first_refusal
    (front_refusal s 1 brick (length bytes) msg b
    ∷ open_refusal s brick bytes
    ∷ message_refusal s.n s.m msg
    ∷ [])

-- the answer to a message: a reply, silence, or the number of a refusal
pub data Given : Type 0 where
  Answered : Reply → Given
  Silent : Given
  Refused : ℕ → Given

-- the answer of the code, by the refusal's number
abbrev pub given_in : Result (Option Reply) Refusal → Given
given_in (Ok (Some reply)) = Answered reply
given_in (Ok None) = Silent
given_in (Err r) = Refused (number_of_refusal r)

-- the answer, and what the image and the reply's buffer hold afterwards
pub record Outcome : Type 0 where
  pub given : Given
  pub image : List ℕ
  pub out : List ℕ

-- the outcome with these parts
abbrev pub outcome_with : Given → (image out : List ℕ) → Outcome
outcome_with g image out = record { given = g; image = image; out = out }

-- "A refusal returns its number alone and every image, record and buffer keeps its bytes."
unfoldable pub refused_with : ℕ → List ℕ → List ℕ → Outcome
refused_with number bytes out = record { given = Refused number; image = bytes; out = out }

-- "Trim t: no reply"; E6: "a Drop has no reply"
unfoldable pub given_by : Settings → ℕ → Brick → Message → Given
given_by s brick x msg = cond (is_silent msg.kind) Silent (Answered (reply_to s brick x msg))

unfoldable pub accepted : Settings → ℕ → Message → (block old bytes out : List ℕ) → Parsed → Outcome
accepted s brick msg block old bytes out (Opens x) =
    record {
      given = given_by s brick x msg;
      image = image_of s brick (brick_after s brick x msg block old);
      out = block_after x (place_for brick x msg) out;
    }
accepted s brick msg block old bytes out (Refuses number) = refused_with number bytes out

-- one message, with its block and the old block that goes with Modify, at the image of its stripe
unfoldable pub outcome : Settings → ℕ → List ℕ → Message → (block old out : List ℕ) → Outcome
outcome s brick bytes msg block old out =
    cond (eqb (receive_refusal s brick bytes msg (beside block old out)) passed)
    (accepted s brick msg block old bytes out (parse s brick bytes))
    (refused_with (receive_refusal s brick bytes msg (beside block old out)) bytes out)

-- The lookup under max gives the highest entry below it: entry i, if it gives i + 1.
pub record Highest (x : Brick) (max i : ℕ) : Type 0 where
  pub there : i < entry_count x
  pub below : time_at x i < max
  pub highest : (j : ℕ) → j < entry_count x → time_at x j < max → time_at x j ≤ time_at x i

-- 0 for a reply and for silence
unfoldable pub given_number : Given → ℕ
given_number (Answered reply) = passed
given_number Silent = passed
given_number (Refused number) = number

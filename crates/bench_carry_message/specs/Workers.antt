-- A carried message at its brick: what it needs of the bench, and what the brick's answer does to what was sent and printed.
use Rattle.std.specs.Prelude.{◌≡◌, Bool, true, cond, ◌||◌, List, [], ◌++◌, ℕ, ◌+◌, ◌*◌, ◌≤◌, ◌<◌, eqb, ltb, length, take, drop}
use Rattle.settings.specs.Refusal.{passed, bad_line}
use Rattle.settings.specs.declared.Settings.{Settings}
use Rattle.message.specs.Messages.{is_silent}
use Rattle.message.specs.declared.Message.{Message}
use Rattle.brick.specs.Receive.{Beside}
use Rattle.brick.specs.Receive.{Given}
use Rattle.brick.specs.Receive.{Answered, Silent, Refused}
use Rattle.volume.specs.Rows.{row_size}
use Rattle.register.specs.Runs.{message, replied_with}
use Rattle.bench_state.specs.State.{up_of, world_of}
use Rattle.bench_state.specs.Workers.{Fits}
use Rattle.bench_state.specs.declared.Bench.{Bench}
use Rattle.bench_sent.specs.Sent.{sent_block_at, old_block_at, item_at, items_of}
use Rattle.bench_print.specs.Printing.{refused_text, printed_into}
use Rattle.bench_rules.specs.Play.{}
use Rattle.bench_rules.specs.Turning.{lent, world_in}
use Rattle.bench_rules.specs.declared.After.{After}
use Rattle.bench_limits.specs.Limits.{last_message, image_room, images_length, numbers_length, bytes_length, line_room}

-- a set that is played, without what the coordinators keep, for which a message has no use
pub record Lends (b : Bench) (images numbers bytes : List ℕ) : Type 0 where
  pub fits : Fits b.settings
  pub few : b.sent ≤ last_message
  pub images-long : length images ≡ images_length
  pub numbers-long : length numbers ≡ numbers_length
  pub bytes-long : length bytes ≡ bytes_length

-- every message but a Trim or a Drop sends a reply, and that may be no message past 127
unfoldable pub may_send : ℕ → ℕ → Bool
may_send kind sent = is_silent kind || ltb sent last_message

-- the images of a brick, in the buffer of all bricks
unfoldable pub image_in : Settings → ℕ → List ℕ → List ℕ
image_in s brick images = take (row_size s) (drop (brick * image_room) images)

-- what is lent beside a message has the block size
abbrev pub of_the_size : Settings → Beside
of_the_size s = record { block = s.size; old = s.size; out = s.size }

-- what a message is refused with whose reply may no longer be sent: the brick's own number, or 12 where the brick refuses nothing
unfoldable pub past_limit : ℕ → ℕ
past_limit number = cond (eqb number passed) bad_line number

-- item k is a message to a brick of the set that is up, and its reply may be sent
pub record Reaching (b : Bench) (numbers bytes : List ℕ) (k brick : ℕ) (msg : Message) : Type 0 where
  pub sent-before : k < b.sent
  pub there : brick < b.settings.n
  pub item-is :
      item_at b.settings.size numbers bytes k ≡ message brick msg (sent_block_at b.settings.size bytes k) (old_block_at b.settings.size bytes k)
  pub is_up : up_of b.up brick ≡ true
  pub may-send : may_send msg.kind b.sent ≡ true

-- how many messages are sent after a brick's answer
unfoldable pub sent_after_message : ℕ → Given → ℕ
sent_after_message k (Answered r) = k + 1
sent_after_message k Silent = k
sent_after_message k (Refused number) = k

-- what is printed of a brick's answer
unfoldable pub told_of : Given → List ℕ
told_of (Answered r) = []
told_of Silent = []
told_of (Refused number) = refused_text number

-- what a brick gave is settled: a reply is one more item, a refusal is printed; without a reply the record and the rows keep every byte
pub record Settled (b : Bench) (g : Given) (block numbers bytes : List ℕ) (at : ℕ) (out : List ℕ) (r : After) (numbers' bytes' out' : List ℕ) : Type 0 where
  pub world_is : (images kept : List ℕ) → world_in r.bench (lent images kept numbers' bytes')
      ≡ world_of b images kept (items_of b.settings.size numbers bytes b.sent ++ replied_with g block)
  pub settings-kept : r.bench.settings ≡ b.settings
  pub few : r.bench.sent ≤ last_message
  pub text-is : out' ≡ printed_into at (told_of g) out
  pub used-is : r.used ≡ at + length (told_of g)
  pub short : r.used ≤ at + line_room
  pub no-reply-keeps : replied_with g block ≡ [] → (r.bench ≡ b) × (numbers' ≡ numbers) × (bytes' ≡ bytes)

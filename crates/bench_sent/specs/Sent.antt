-- What the bench has sent, kept in two lent buffers: item k has row k of the numbers and row k of the bytes (`bench_limits/Limits`).
use Rattle.std.specs.Prelude.{Bool, cond, not, List, [], ◌∷◌, ◌++◌, ℕ, zero, suc, ◌+◌, ◌*◌, ◌%◌, eqb, get_or, take, drop}
use Rattle.message.specs.declared.Message.{Message}
use Rattle.message.specs.declared.Reply.{Reply}
use Rattle.register.specs.Runs.{Item, message, reply}
use Rattle.bench_limits.specs.Limits.{row_numbers, row_bytes, tag_place, brick_place, kind_place, time_place, round_place, max_place}
use Rattle.bench_limits.specs.Limits.{found_place, yes_place, held_place, stripe_place, old_time_place, data_block_place, comparison_place}
use Rattle.bench_limits.specs.Limits.{message_tag, flag_count, block_place, old_block_place}

-- number i of row k
unfoldable pub number_at : List ℕ → ℕ → ℕ → ℕ
number_at numbers k i = get_or numbers (k * row_numbers + i) 0

-- whether row k is a reply, by its tag
unfoldable pub is_reply : List ℕ → ℕ → Bool
is_reply numbers k = not (eqb (number_at numbers k tag_place) message_tag)

-- the target flags of row k
unfoldable pub flags_at : List ℕ → ℕ → List ℕ
flags_at bytes k = take flag_count (drop (k * row_bytes) bytes)

-- the block of row k, of this size
unfoldable pub sent_block_at : ℕ → List ℕ → ℕ → List ℕ
sent_block_at size bytes k = take size (drop (k * row_bytes + block_place) bytes)

-- and the old block that a message has beside it
unfoldable pub old_block_at : ℕ → List ℕ → ℕ → List ℕ
old_block_at size bytes k = take size (drop (k * row_bytes + old_block_place) bytes)

-- row k read as a message
unfoldable pub message_at : List ℕ → List ℕ → ℕ → Message
message_at numbers bytes k =
    record {
      kind = number_at numbers k kind_place % 256;
      stripe = number_at numbers k stripe_place;
      time = number_at numbers k time_place;
      round = number_at numbers k round_place;
      max = number_at numbers k max_place;
      old = number_at numbers k old_time_place;
      block = number_at numbers k data_block_place;
      targets = flags_at bytes k;
    }

-- row k read as a reply
unfoldable pub reply_at : List ℕ → ℕ → Reply
reply_at numbers k =
    record {
      kind = number_at numbers k kind_place % 256;
      brick = number_at numbers k brick_place;
      stripe = number_at numbers k stripe_place;
      time = number_at numbers k time_place;
      round = number_at numbers k round_place;
      yes = eqb (number_at numbers k yes_place) 1;
      found = number_at numbers k found_place;
      held = eqb (number_at numbers k held_place) 1;
      comparison = number_at numbers k comparison_place % 256;
    }

-- the item that row k stands for
unfoldable pub item_at : ℕ → List ℕ → List ℕ → ℕ → Item
item_at size numbers bytes k =
    cond (is_reply numbers k)
    (reply (reply_at numbers k) (sent_block_at size bytes k))
    (message (number_at numbers k brick_place) (message_at numbers bytes k) (sent_block_at size bytes k) (old_block_at size bytes k))

-- the items of the first k rows, in their order
unfoldable pub items_of : ℕ → List ℕ → List ℕ → ℕ → List Item
items_of size numbers bytes zero = []
items_of size numbers bytes (suc k) = items_of size numbers bytes k ++ item_at size numbers bytes k ∷ []

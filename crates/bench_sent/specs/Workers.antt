-- What the inner workers of this crate ask and give.
use Rattle.std.specs.Prelude.{◌≡◌, List, [], ◌∷◌, ◌++◌, ℕ, ◌+◌, ◌*◌, ◌≤◌, length}
use Rattle.byte_lists.specs.Lists.{zeros, put}
use Rattle.message.specs.Kinds.{write_kind, modify_kind}
use Rattle.message.specs.declared.Message.{Message}
use Rattle.message.specs.declared.Reply.{Reply}
use Rattle.register.specs.Driver.{with_blocks}
use Rattle.register.specs.Runs.{Item, message, to_all, block_for, old_for}
use Rattle.settings.specs.Count.{one_if}
use Rattle.settings.specs.declared.Settings.{Settings}
use Rattle.bench_sent.specs.Sent.{items_of}
use Rattle.bench_limits.specs.Limits.{row_numbers, row_bytes, message_tag, reply_tag, flag_count, block_place, old_block_place}

-- a row's numbers, each at its place; the other places are free, and 0
abbrev pub sent_row : (tag brick kind time round max agreed held stripe old block comparison : ℕ) → List ℕ
sent_row tag brick kind time round max agreed held stripe old block comparison =
    tag ∷ brick ∷ kind ∷ time ∷ round ∷ max ∷ agreed ∷ held ∷ stripe ∷ old ∷ block ∷ comparison ∷ 0 ∷ 0 ∷ 0 ∷ 0 ∷ []

-- the numbers of a message to a brick, which has no comparison, and of a reply, which has no old time and names no block
unfoldable pub message_row : ℕ → Message → List ℕ
message_row brick msg = sent_row message_tag brick msg.kind msg.time msg.round msg.max 0 0 msg.stripe msg.old msg.block 0

unfoldable pub reply_row : Reply → List ℕ
reply_row r = sent_row reply_tag r.brick r.kind r.time r.round r.found (one_if r.yes) (one_if r.held) r.stripe 0 0 r.comparison

-- the numbers with another row k; the bytes with other flags and another block in row k (what is behind a shorter block stays)
unfoldable pub numbers_with : ℕ → List ℕ → List ℕ → List ℕ
numbers_with k row numbers = put (k * row_numbers) row numbers

unfoldable pub bytes_with : ℕ → List ℕ → List ℕ → List ℕ → List ℕ
bytes_with k flags block bytes = put (k * row_bytes + block_place) block (put (k * row_bytes) flags bytes)

-- the bytes with another old block in row k; a reply has none, and leaves what is there
unfoldable pub old_with : ℕ → List ℕ → List ℕ → List ℕ
old_with k old bytes = put (k * row_bytes + old_block_place) old bytes

-- no targets: the flags of a reply's row
unfoldable pub no_flags : List ℕ
no_flags = zeros flag_count

-- after a store at row k, the items are those before and one more
pub record Added (k : ℕ) (block numbers bytes numbers' bytes' : List ℕ) (item : Item) : Type 0 where
  pub items : (size : ℕ) → length block ≡ size → items_of size numbers' bytes' (k + 1) ≡ items_of size numbers bytes k ++ item ∷ []

-- the blocks that are sent are there: with a Write those of n bricks, with Modify the new block in the stripe and the old one among the
-- reply blocks
pub record Coded (n size : ℕ) (msg : Message) (blocks stripe coded : List ℕ) : Type 0 where
  pub enough : msg.kind ≡ write_kind → n * size ≤ length coded
  pub new-there : msg.kind ≡ modify_kind → msg.block * size + size ≤ length stripe
  pub old-there : msg.kind ≡ modify_kind → msg.block * size + size ≤ length blocks

-- after a broadcast from row k on, the items are those before and the message to each of the first n bricks, as the runs' driver sends it
pub record Sends (k n size : ℕ) (msg : Message) (blocks stripe coded numbers bytes numbers' bytes' : List ℕ) : Type 0 where
  pub items : (s : Settings) → s.size ≡ size
      → items_of size numbers' bytes' (k + n) ≡ items_of size numbers bytes k ++ to_all s (with_blocks size msg blocks stripe coded) n

-- the block and the old block that go to brick j, as the runs' driver sends them
pub record Picked (j size : ℕ) (msg : Message) (blocks stripe coded block old : List ℕ) : Type 0 where
  pub long : length block ≡ size
  pub old-long : length old ≡ size
  pub block-is : (s : Settings) → s.size ≡ size → block ≡ block_for s (with_blocks size msg blocks stripe coded) j
  pub old-is : (s : Settings) → s.size ≡ size → old ≡ old_for s (with_blocks size msg blocks stripe coded)

-- row at has the message to brick j, with its blocks
pub record One (at j size : ℕ) (msg : Message) (blocks stripe coded numbers bytes numbers' bytes' : List ℕ) : Type 0 where
  pub items : (s : Settings) → s.size ≡ size
      → (let c = with_blocks size msg blocks stripe coded in
      items_of size numbers' bytes' (at + 1) ≡ items_of size numbers bytes at ++ message j msg (block_for s c j) (old_for s c) ∷ [])

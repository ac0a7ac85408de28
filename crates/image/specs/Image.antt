-- Document 01, "The saved brick": "capacity + 1 blocks of 512 bytes".
use Rattle.std.specs.Prelude.{cond, List, ℕ, zero, suc, ◌+◌, ◌*◌, ltb}
use Rattle.settings.specs.declared.Settings.{Settings}
use Rattle.byte_lists.specs.Lists.{stacked}
use Rattle.image_block.specs.Block.{head_block, entry_block, mark_block, unused_block}
use Rattle.image.specs.Brick.{Brick, entry_count, time_at, means_at, mark_at}
use Rattle.image_block.specs.Block.{block_bytes}

-- the block of an entry of the log; E2: "image kind 3: time, size, no block bytes" for a mark
unfoldable pub slot_block : Settings → Brick → ℕ → List ℕ
slot_block s x i = cond (mark_at x i) (mark_block (time_at x i) s.size) (entry_block (time_at x i) (means_at x i))

-- "Block 0 is the head", "Blocks 1 to count are entries", the others are unused
unfoldable pub image_block : Settings → ℕ → Brick → ℕ → List ℕ
image_block s brick x zero = head_block s brick (entry_count x) x.promise
image_block s brick x (suc i) = cond (ltb i (entry_count x)) (slot_block s x i) unused_block

-- the saved form of a brick
unfoldable pub image_of : Settings → ℕ → Brick → List ℕ
image_of s brick x = stacked (s.capacity + 1) (image_block s brick x)

unfoldable pub image_size : Settings → ℕ
image_size s = block_bytes * (s.capacity + 1)

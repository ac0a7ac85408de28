-- What the inner workers of this crate ask and give.
use Rattle.std.specs.Prelude.{Bool, cond, List, ◌++◌, eqb, ℕ, zero, suc, ◌+◌, ◌*◌, take, drop}
use Rattle.byte_lists.specs.Lists.{put}
use Rattle.image.specs.Brick.{Brick, LogEntry}
use Rattle.image_block.specs.Block.{entry_block, mark_block, unused_block}
use Rattle.image.specs.Parse.{image_block_at, held_in}
use Rattle.image_write.specs.Saving.{lowest_held}
use Rattle.image_block.specs.Block.{block_bytes}

-- the lowest entry of a log has its block, where it must
unfoldable pub held_if : (held : Bool) → List LogEntry → List LogEntry
held_if held log = cond held (lowest_held log) log

-- without the d entries from place `from` on; where `held`, the entry right above them has its block
unfoldable pub removed : Brick → (from d : ℕ) → (held : Bool) → Brick
removed x from d held = record { promise = x.promise; log = take from x.log ++ held_if held (drop (from + d) x.log) }

-- the block of the image for an entry: a mark, or an entry with its block
unfoldable pub slot_of : (size : ℕ) → LogEntry → List ℕ
slot_of size e = cond e.mark (mark_block e.time size) (entry_block e.time e.block)

-- the bytes after an entry, whose block stands in block `holder` of the image, was given that block in its own place, block `own`
unfoldable pub held_own : (size own holder time : ℕ) → List ℕ → List ℕ
held_own size own holder time l =
    cond (eqb holder own) l (put (block_bytes * own) (entry_block time (held_in size (image_block_at l holder))) l)

-- n blocks, from number `from` on, made unused
unfoldable pub cleared : ℕ → ℕ → List ℕ → List ℕ
cleared from zero l = l
cleared from (suc n) l = put (block_bytes * (from + n)) unused_block (cleared from n l)

-- the `kept` entries above the d that go from place `from` on, moved down: block from + k + 1 becomes what block from + d + k + 1 was
unfoldable pub shifted : (from d kept : ℕ) → List ℕ → List ℕ
shifted from d zero l = l
shifted from d (suc k) l = put (block_bytes * (from + k + 1)) (image_block_at l (from + d + k + 1)) (shifted from d k l)

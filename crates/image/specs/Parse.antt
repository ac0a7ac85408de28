-- Opening a saved brick: the brick that the bytes are the image of, or one refusal.
use Rattle.std.specs.Prelude.{Bool, cond, ◌&&◌, List, [], ◌∷◌, ℕ, zero, suc, ◌+◌, ◌*◌, ltb, eqb, length, take, drop, get_or}
use Rattle.settings.specs.Ranges.{in_range}
use Rattle.settings.specs.Refusal.{passed, refuse_unless, first_refusal, bad_setting, bad_length, bad_number, bad_check, bad_record}
use Rattle.settings.specs.declared.Settings.{Settings}
use Rattle.byte_lists.specs.Little.{number}
use Rattle.image_block.specs.Block.{checked}
use Rattle.byte_lists.specs.Lists.{same}
use Rattle.image.specs.Brick.{Brick, LogEntry, sound_brick}
use Rattle.byte_lists.specs.Each.{each}
use Rattle.image.specs.Image.{image_of, image_size}
use Rattle.image_block.specs.Block.{block_bytes, count_bytes, count_from, held_from, kind_from, mark_kind, promise_from, time_bytes, time_from}

-- block k of some bytes
unfoldable pub image_block_at : List ℕ → ℕ → List ℕ
image_block_at bytes k = take block_bytes (drop (block_bytes * k) bytes)

-- "Block 0 is the head: .. 10–11 entry count (1 to capacity), 12–19 promise."
unfoldable pub count_in : List ℕ → ℕ
count_in head = number (take count_bytes (drop count_from head))

unfoldable pub promise_in : List ℕ → ℕ
promise_in head = number (take time_bytes (drop promise_from head))

-- "entries in rising time: 4–11 time, 12–13 block size, block from 16"
unfoldable pub time_in : List ℕ → ℕ
time_in block = number (take time_bytes (drop time_from block))

unfoldable pub held_in : ℕ → List ℕ → List ℕ
held_in size block = take size (drop held_from block)

-- E2: "image kind 3"
unfoldable pub mark_in : List ℕ → Bool
mark_in block = eqb (get_or block kind_from 0) mark_kind

-- The block of the image that entry i means: its own, i + 1, or that of the entry below it. (A lowest mark has none: it is refused.)
unfoldable pub holder_in : List ℕ → ℕ → ℕ
holder_in bytes zero = 1
holder_in bytes (suc i) = cond (mark_in (image_block_at bytes (i + 2))) (holder_in bytes i) (i + 2)

unfoldable pub entry_in : ℕ → List ℕ → ℕ → LogEntry
entry_in size bytes i =
    record {
      time = time_in (image_block_at bytes (i + 1));
      block = held_in size (image_block_at bytes (holder_in bytes i));
      mark = mark_in (image_block_at bytes (i + 1));
    }

-- n entries, from entry i on
unfoldable pub entries_in : ℕ → List ℕ → ℕ → ℕ → List LogEntry
entries_in size bytes i zero = []
entries_in size bytes i (suc n) = entry_in size bytes i ∷ entries_in size bytes (suc i) n

-- the brick whose fields stand in some bytes
unfoldable pub brick_in : Settings → List ℕ → Brick
brick_in s bytes = record { promise = promise_in (image_block_at bytes 0); log = entries_in s.size bytes 0 (count_in (image_block_at bytes 0)) }

-- whether the check of block k holds
unfoldable pub checked_at : List ℕ → ℕ → Bool
checked_at bytes k = checked (image_block_at bytes k)

-- whether the bytes are, to the last one, the image of a brick that keeps to the rules
unfoldable pub is_image : Settings → ℕ → List ℕ → Bool
is_image s brick bytes = sound_brick s (brick_in s bytes) && same (image_of s brick (brick_in s bytes)) bytes

-- Why an image doesn't open, lowest number first: 1 a setting outside its range, 2 a wrong length, 3 a brick number not below n,
-- 5 a block whose check fails, 6 anything else that no brick's image has.
unfoldable pub open_refusal : Settings → ℕ → List ℕ → ℕ
open_refusal s brick bytes =
    first_refusal
    (refuse_unless (in_range s) bad_setting
    ∷ refuse_unless (eqb (length bytes) (image_size s)) bad_length
    ∷ refuse_unless (ltb brick s.n) bad_number
    ∷ refuse_unless (each (checked_at bytes) (s.capacity + 1)) bad_check
    ∷ refuse_unless (is_image s brick bytes) bad_record
    ∷ [])

pub data Parsed : Type 0 where
  Opens : Brick → Parsed
  Refuses : ℕ → Parsed

unfoldable pub parse : Settings → ℕ → List ℕ → Parsed
parse s brick bytes =
    cond (eqb (open_refusal s brick bytes) passed) (Opens (brick_in s bytes)) (Refuses (open_refusal s brick bytes))

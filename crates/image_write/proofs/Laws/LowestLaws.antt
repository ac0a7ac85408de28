-- The lowest entry of a log with its block: as many entries, of the same times, that mean the same blocks.
use mathlib.Core.Path.{◌≡◌, refl}
use mathlib.Core.List.{List, [], ◌∷◌}
use Prim.Native.Nat.{ℕ, zero, suc}
use lib.ListN.{length, get_or}
use Rattle.image.specs.Brick.{LogEntry, no_entry}
use Rattle.image_write.specs.Saving.{block_entry, lowest_held}

-- the lowest entry has its block, the others are as they were
pub lowest_length : (log : List LogEntry) → length (lowest_held log) ≡ length log
unfolding lowest_held
lowest_length [] = refl
lowest_length (e ∷ log) = refl

pub lowest_time : (log : List LogEntry) (i : ℕ) → (get_or (lowest_held log) i no_entry).time ≡ (get_or log i no_entry).time
unfolding lowest_held block_entry
lowest_time [] i = refl
lowest_time (e ∷ log) zero = refl
lowest_time (e ∷ log) (suc i) = refl

pub lowest_block : (log : List LogEntry) (i : ℕ) → (get_or (lowest_held log) i no_entry).block ≡ (get_or log i no_entry).block
unfolding lowest_held block_entry
lowest_block [] i = refl
lowest_block (e ∷ log) zero = refl
lowest_block (e ∷ log) (suc i) = refl

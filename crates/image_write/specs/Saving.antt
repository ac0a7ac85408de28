-- What the lent image holds after a fresh brick was asked for, and the changes of an abstract brick.
use Rattle.std.specs.Prelude.{true, false, cond, List, [], ◌∷◌, ◌++◌, ℕ, ◌-◌, eqb, length}
use Rattle.settings.specs.Refusal.{passed}
use Rattle.settings.specs.declared.Settings.{Settings}
use Rattle.image.specs.Brick.{Brick, LogEntry, entry_count, means_at, fresh_brick}
use Rattle.image.specs.Image.{image_of}
use Rattle.image.specs.Opening.{lending_refusal}

-- a fresh brick's image, or the bytes as they were where it is refused
unfoldable pub fresh_after : Settings → ℕ → List ℕ → List ℕ
fresh_after s brick bytes = cond (eqb (lending_refusal s brick (length bytes)) passed) (image_of s brick (fresh_brick s)) bytes

-- "the promise becomes t"
unfoldable pub with_promise : Brick → ℕ → Brick
with_promise x t = record { promise = t; log = x.log }

-- "then it is appended. The promise is left as it is."
unfoldable pub appended : Brick → LogEntry → Brick
appended x e = record { promise = x.promise; log = x.log ++ e ∷ [] }

-- an entry with its block
unfoldable pub block_entry : ℕ → List ℕ → LogEntry
block_entry t block = record { time = t; block = block; mark = false }

-- E2: "a mark meaning the block before it", at the end of a log
unfoldable pub mark_entry : Brick → ℕ → LogEntry
mark_entry x t = record { time = t; block = means_at x (entry_count x - 1); mark = true }

-- E2: "Where the lowest entry a Trim keeps is a mark, it becomes its block; other marks stay."
unfoldable pub lowest_held : List LogEntry → List LogEntry
lowest_held [] = []
lowest_held (e ∷ log) = block_entry e.time e.block ∷ log

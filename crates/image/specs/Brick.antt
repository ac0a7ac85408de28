-- Document 01, "What a brick does": the abstract brick. Document 02, E2: its log has marks.
use Rattle.std.specs.Prelude.{Bool, ◌&&◌, ◌||◌, not, true, false, List, [], ◌∷◌, ℕ, ◌-◌, ◌≤◌, ◌<◌, leb, ltb, eqb, length, get_or, ◌≡◌}
use Rattle.settings.specs.Times.{valid_time}
use Rattle.settings.specs.declared.Settings.{Settings}
use Rattle.byte_lists.specs.Lists.{zeros, same}
use Rattle.byte_lists.specs.Each.{each}

-- "entries (time, block)"; E2: "other data bricks a mark meaning the block before it". `block` is the block that the entry means: its own, or
-- of a mark that of the entry below it.
pub record LogEntry : Type 0 where
  pub time : ℕ
  pub block : List ℕ
  pub mark : Bool

-- "State: a promised time, and a log of entries (time, block) in rising time."
pub record Brick : Type 0 where
  pub promise : ℕ
  pub log : List LogEntry

unfoldable pub entry_count : Brick → ℕ
entry_count x = length x.log

-- what stands where no entry is
unfoldable pub no_entry : LogEntry
no_entry = record { time = 0; block = []; mark = false }

-- The log by place, counted from 0, is all that the crates above speak of: the time of the entry at a place, mark or block,
unfoldable pub time_at : Brick → ℕ → ℕ
time_at x i = (get_or x.log i no_entry).time

-- and the block that it means.
unfoldable pub means_at : Brick → ℕ → List ℕ
means_at x i = (get_or x.log i no_entry).block

-- whether it is a mark: only the image tells it from an entry with a block
unfoldable pub mark_at : Brick → ℕ → Bool
mark_at x i = (get_or x.log i no_entry).mark

-- "'Newest' is the last entry's time."
unfoldable pub newest : Brick → ℕ
newest x = time_at x (entry_count x - 1)

-- "Fresh: promise 0, one entry of time 0 with a zero block."
unfoldable pub fresh_brick : Settings → Brick
fresh_brick s = record { promise = 0; log = record { time = 0; block = zeros s.size; mark = false } ∷ [] }

-- "Promise and entry times are 0 or valid times."
unfoldable pub saved_time : ℕ → Bool
saved_time t = eqb t 0 || valid_time t

-- "entries in rising time": each above the one before it
unfoldable pub rises_at : Brick → ℕ → Bool
rises_at x i = eqb i 0 || ltb (time_at x (i - 1)) (time_at x i)

-- E2: "So the lowest entry of a log is never a mark", and a mark means "the block before it"
unfoldable pub mark_sound : Brick → ℕ → Bool
mark_sound x i = not (mark_at x i) || (ltb 0 i && same (means_at x i) (means_at x (i - 1)))

-- an entry as a brick may hold it
unfoldable pub entry_sound : Settings → Brick → ℕ → Bool
entry_sound s x i = saved_time (time_at x i) && rises_at x i && eqb (length (means_at x i)) s.size && mark_sound x i

-- "entry count (1 to capacity)"
unfoldable pub count_sound : Settings → ℕ → Bool
count_sound s n = leb 1 n && leb n s.capacity

-- a brick's promise and log keep to these rules
unfoldable pub sound_brick : Settings → Brick → Bool
sound_brick s x = count_sound s (entry_count x) && saved_time x.promise && each (entry_sound s x) (entry_count x)

pub record EntrySound (s : Settings) (x : Brick) (i : ℕ) : Type 0 where
  pub saved : saved_time (time_at x i) ≡ true
  pub rises : rises_at x i ≡ true
  pub sized : length (means_at x i) ≡ s.size
  pub marked : mark_at x i ≡ true → (0 < i) × (means_at x i ≡ means_at x (i - 1))

pub record Sound (s : Settings) (x : Brick) : Type 0 where
  pub count_low : 1 ≤ entry_count x
  pub count-high : entry_count x ≤ s.capacity
  pub promise-saved : saved_time x.promise ≡ true
  pub entries : (i : ℕ) → i < entry_count x → EntrySound s x i

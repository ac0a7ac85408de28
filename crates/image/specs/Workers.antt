-- What the inner workers of this crate ask and give.
use Rattle.std.specs.Prelude.{Bool, cond, not, ◌&&◌, ◌||◌, true, List, [], ◌∷◌, ◌++◌, ℕ, ◌+◌, ◌≤◌, ◌-◌, ltb, eqb, drop, replicate, ◌≡◌, ◌<◌, length}
use Rattle.settings.specs.Ranges.{in_range}
use Rattle.settings.specs.declared.Settings.{Settings}
use Rattle.image_block.specs.Block.{head_body, entry_body, mark_body, unused_body}
use Rattle.byte_lists.specs.Lists.{same}
use Rattle.image.specs.Brick.{Brick, entry_count, saved_time, count_sound}
use Rattle.image.specs.Image.{image_size}
use Rattle.image.specs.Parse.{held_in, mark_in, Opens, parse, image_block_at, checked_at, time_in}
use Rattle.image.specs.declared.Entry.{Entry}
use Rattle.image.specs.ImageAnswers.{Opening}
use Rattle.image.specs.declared.Head.{Head}
use Rattle.byte_lists.specs.Each.{each}
use Rattle.image.specs.Opening.{row_of, blank, entry_for, working_log}
use Rattle.settings.specs.Ranges.{SettingsRange}
use Rattle.image.specs.Brick.{Sound}
use Rattle.image.specs.Image.{image_of}
use Rattle.image.specs.Parse.{brick_in}
use Rattle.image_block.specs.Block.{check_bytes}
use Rattle.settings.specs.Ranges.{max_capacity}
use Rattle.settings.specs.Refusal.{first_refusal, refuse_unless, bad_check, bad_record}

-- what an image that opens satisfies
pub record ImageOpened (s : Settings) (brick : ℕ) (l : List ℕ) (x : Brick) : Type 0 where
  pub in-range : in_range s ≡ true
  pub range : SettingsRange s
  pub long : length l ≡ image_size s
  pub brick-low : brick < s.n
  pub checks : each (checked_at l) (s.capacity + 1) ≡ true
  pub is_read : x ≡ brick_in s l
  pub keeps : Sound s x
  pub is-image : l ≡ image_of s brick x

-- the time of entry i is above the one before it
unfoldable pub rises : ℕ → ℕ → ℕ → Bool
rises i last time = eqb i 0 || ltb last time

-- the head, from its kind on, with that count and that promise
unfoldable pub head_fits : Settings → ℕ → List ℕ → ℕ → ℕ → Bool
head_fits s brick t n promise = count_sound s n && saved_time promise && same (drop check_bytes t) (head_body s brick n promise)

-- a block of the log from its kind on, as its kind, time and bytes say: a mark, or an entry
unfoldable pub form_body : ℕ → List ℕ → ℕ → List ℕ
form_body size t time = cond (mark_in t) (mark_body time size) (entry_body time (held_in size t))

-- the lowest is no mark
unfoldable pub form_low : List ℕ → ℕ → Bool
form_low t i = not (mark_in t) || ltb 0 i

-- the block of entry i of n, from its kind on: an entry or a mark, or unused
unfoldable pub slot_fits : ℕ → List ℕ → ℕ → ℕ → ℕ → ℕ → Bool
slot_fits size t time i n last =
    cond (ltb i n) (saved_time time && rises i last time && form_low t i && same (drop check_bytes t) (form_body size t time))
    (same (drop check_bytes t) unused_body)

-- an answer that opened: the brick, and all that is known of it
pub record Hub (s : Settings) (brick : ℕ) (l : List ℕ) (o : Opening) (h : Head) : Type 0 where
  pub x : Brick
  pub is : parse s brick l ≡ Opens x
  pub saved : ImageOpened s brick l x
  pub counts : h.count ≡ entry_count x
  pub promises : h.promise ≡ x.promise
  pub logs : o.log ≡ working_log x
  pub low : 1 ≤ h.count
  pub high : h.count ≤ s.capacity
  pub most : h.count ≤ max_capacity

-- the check of the block of entry i
unfoldable pub check_after : List ℕ → ℕ → Bool
check_after l i = checked_at l (i + 1)

-- whether the block of entry i is as it should be
unfoldable pub slot_at : ℕ → List ℕ → ℕ → ℕ → Bool
slot_at size l n i = slot_fits size (image_block_at l (i + 1)) (time_in (image_block_at l (i + 1))) i n (time_in (image_block_at l i))

-- the working log's entry i
unfoldable pub entry_at : List ℕ → ℕ → ℕ → Entry
entry_at l n i = entry_for (time_in (image_block_at l (i + 1))) (mark_in (image_block_at l (i + 1))) i n

-- the loop's refusal: 5 where the check of any block fails, or else 6 where any is not as it should be
unfoldable pub scan_refusal : ℕ → ℕ → List ℕ → ℕ → ℕ
scan_refusal size cap l n =
    first_refusal
    (refuse_unless (each (check_after l) cap) bad_check
    ∷ refuse_unless (each (slot_at size l n) cap) bad_record
    ∷ [])

-- the log that it gives
abbrev pub scanned_log : ℕ → List ℕ → ℕ → List Entry
scanned_log cap l n = row_of (entry_at l n) cap ++ replicate (max_capacity - cap) blank

-- Document 01: "A saved brick may be opened as a view, .., giving the count and the entry at a place."
use Rattle.std.specs.Prelude.{Result, Ok, Err, cond, List, ℕ, ◌+◌, ◌/◌, leb, length}
use Rattle.std.specs.Borrow.{Bor}
use Rattle.settings.specs.Refusal.{bad_length, bad_number, number_of_refusal}
use Rattle.settings.specs.declared.Refusal.{Refusal}
use Rattle.settings.specs.declared.Settings.{Settings}
use Rattle.image.specs.Brick.{entry_count, time_at, mark_at}
use Rattle.image.specs.Parse.{Parsed, Opens, Refuses, parse, image_block_at, time_in, mark_in}
use Rattle.image.specs.Opening.{holding_for}
use Rattle.image.specs.declared.Entry.{Entry}
use Rattle.image_view.specs.ViewCount.{Counted, Entries}
use Rattle.image_view.specs.declared.View.{View as LentView}
use Rattle.settings.specs.Refusal.{passed}
use Rattle.image_block.specs.Block.{block_bytes}

-- "the count": how many entries the brick has, or why the image is refused
unfoldable pub count_of : Parsed → Counted
count_of (Opens x) = Entries (entry_count x)
count_of (Refuses number) = Counted.Refused number

-- the count of the code, by the refusal's number
abbrev pub counted_given : Result ℕ Refusal → Counted
counted_given (Ok count) = Entries count
counted_given (Err r) = Counted.Refused (number_of_refusal r)

-- the paper's number for each answer to "the count": 0 where there are entries, else the image's refusal
unfoldable pub counted_number : Counted → ℕ
counted_number (Entries count) = passed
counted_number (Counted.Refused number) = number

-- An entry, or the number of the refusal.
pub data Found : Type 0 where
  At : Entry → Found
  Refused : ℕ → Found

-- "the entry at a place": its time, and the place of its held block, or that it is a mark; or 3 for "a view's place not below its count"
unfoldable pub found_of : Parsed → ℕ → Found
found_of (Opens x) place =
    cond (leb (entry_count x) place) (Refused bad_number) (At (record { time = time_at x place; holding = holding_for (mark_at x place) place }))
found_of (Refuses k) place = Refused k

-- the view of a lent image: "a record holding a reference to the lent image", and the count
pub record View : Type 0 where
  pub image : Bor (List ℕ)
  pub counted : Counted

abbrev pub view_of : Settings → ℕ → Bor (List ℕ) → View
view_of s brick image = record { image = image; counted = count_of (parse s brick image.now) }

-- the view of the code, by the refusal's number
abbrev pub view_in : LentView → View
view_in v = record { image = v.image; counted = counted_given v.counted }

-- the entry of the code, by the refusal's number
abbrev pub found_given : Result Entry Refusal → Found
found_given (Ok entry) = At entry
found_given (Err r) = Refused (number_of_refusal r)

-- the entry at a place, read from bytes that have n entries; 2 where they are too short for that
unfoldable pub found_at : List ℕ → ℕ → ℕ → Found
found_at l n place =
    cond (leb (length l / block_bytes) n) (Refused bad_length)
    (cond (leb n place) (Refused bad_number)
    (At (record { time = time_in (image_block_at l (place + 1)); holding = holding_for (mark_in (image_block_at l (place + 1))) place })))

-- the same by what opening gave
unfoldable pub found_by : List ℕ → Counted → ℕ → Found
found_by l (Entries n) place = found_at l n place
found_by l (Counted.Refused number) place = Refused number

-- the entry at a place of a view
abbrev pub found_in : View → ℕ → Found
found_in v place = found_by v.image.now v.counted place

-- 0 where there is an entry
unfoldable pub found_number : Found → ℕ
found_number (At entry) = passed
found_number (Refused number) = number

-- the image's refusal; of one that opens, 3 for "a view's place not below its count"
unfoldable pub place_number : Parsed → ℕ → ℕ
place_number (Opens x) place = cond (leb (entry_count x) place) bad_number passed
place_number (Refuses number) place = number

-- The answer of an opening, by the refusal's number, and the tests that the code makes on single blocks.
use Rattle.std.specs.Prelude.{Result, Ok, Err, Bool, cond, get_or, List, [], ◌∷◌, ◌++◌, ℕ, zero, suc, ◌+◌, ltb, eqb}
use Rattle.settings.specs.Ranges.{in_range}
use Rattle.settings.specs.Refusal.{refuse_unless, first_refusal, bad_setting, bad_length, bad_number}
use Rattle.settings.specs.declared.Settings.{Settings}
use Rattle.image.specs.Brick.{Brick, entry_count, time_at, mark_at, newest}
use Rattle.image.specs.Image.{image_size}
use Rattle.image.specs.Parse.{Parsed, Opens, Refuses}
use Rattle.image.specs.declared.Entry.{Entry}
use Rattle.image.specs.declared.Holding.{Holding}
use Rattle.image.specs.declared.Holding.TheVariants.{Held, Same}
use Rattle.image.specs.ImageAnswers.{ImageAnswer}
use Rattle.image.specs.ImageAnswers.{Opened, Refused}
use Rattle.image.specs.declared.Panel.{Panel}
use Rattle.image.specs.PanelAnswer.{Shown}
use Rattle.image.specs.PanelAnswer.{Values}
use Rattle.image.specs.ImageAnswers.{Opening}
use Rattle.image.specs.declared.Opened.{Opened as OpenedImage}
use Rattle.settings.specs.Refusal.{number_of_refusal}
use Rattle.settings.specs.declared.Refusal.{Refusal}
use Rattle.settings.specs.Refusal.{passed}
use Rattle.settings.specs.Ranges.{max_capacity}

-- n values in a row
unfoldable pub row_of : (ℕ → Entry) → ℕ → List Entry
row_of f zero = []
row_of f (suc k) = row_of f k ++ f k ∷ []

-- what stands in the working log where no entry is
unfoldable pub blank : Entry
blank = record { time = 0; holding = Held 0 }

-- "an entry names either a held block's place": entry i of a log has its block in block i + 1 of the image; "or, later, another case":
-- a mark (E2)
unfoldable pub holding_for : Bool → ℕ → Holding
holding_for mark i = cond mark Same (Held (i + 1))

unfoldable pub entry_for : (time : ℕ) → Bool → (i n : ℕ) → Entry
entry_for time mark i n = cond (ltb i n) (record { time = time; holding = holding_for mark i }) blank

unfoldable pub entry_of : Brick → ℕ → Entry
entry_of x i = entry_for (time_at x i) (mark_at x i) i (entry_count x)

-- the place that an entry of the working log names, 0 for a mark
unfoldable pub place_in : Holding → ℕ
place_in (Held place) = place
place_in Same = 0

-- the block of the image that entry i of a working log means: its own, or of a mark that of the entry below it
unfoldable pub holder_of : List Entry → ℕ → ℕ
holder_of log zero = place_in (get_or log 0 blank).holding
holder_of log (suc i) =
    cond (eqb (place_in (get_or log (suc i) blank).holding) 0) (holder_of log i) (place_in (get_or log (suc i) blank).holding)

-- the working log: the brick's entries, then blanks
unfoldable pub working_log : Brick → List Entry
working_log x = row_of (entry_of x) max_capacity

unfoldable pub no_blank : ℕ → Entry
no_blank i = blank

-- what the code answers: the count and the promise, and the working log; or the number of the refusal, and blanks
unfoldable pub opening : Parsed → Opening
opening (Opens x) = record { answer = Opened (record { count = entry_count x; promise = x.promise }); log = working_log x }
opening (Refuses k) = record { answer = Refused k; log = row_of no_blank max_capacity }

-- the answer of the code, by the refusal's number
abbrev pub opening_in : Result OpenedImage Refusal → Opening
opening_in (Ok o) = record { answer = Opened o.head; log = o.log }
opening_in (Err r) = record { answer = Refused (number_of_refusal r); log = row_of no_blank max_capacity }

-- the number in an answer, 0 in one that opened
unfoldable pub answer_number : ImageAnswer → ℕ
answer_number (Opened head) = 0
answer_number (Refused k) = k

-- the service panel: the promise and the newest time, or the refusal
unfoldable pub panel_of : Parsed → Shown
panel_of (Opens x) = Values (record { promise = x.promise; newest = newest x })
panel_of (Refuses k) = Shown.Refused k

-- what the code shows, by the refusal's number
abbrev pub shown_in : Result Panel Refusal → Shown
shown_in (Ok panel) = Values panel
shown_in (Err r) = Shown.Refused (number_of_refusal r)

-- the first refusals of whatever is lent an image: 1 a setting, 2 the length, 3 the brick's number
unfoldable pub lending_refusal : Settings → ℕ → ℕ → ℕ
lending_refusal s brick len =
    first_refusal
    (refuse_unless (in_range s) bad_setting
    ∷ refuse_unless (eqb len (image_size s)) bad_length
    ∷ refuse_unless (ltb brick s.n) bad_number
    ∷ [])

-- the panel's number: 0 where it shows two times
unfoldable pub shown_number : Shown → ℕ
shown_number (Values panel) = passed
shown_number (Shown.Refused number) = number

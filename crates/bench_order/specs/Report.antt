-- Document 01, "The bench": "It prints per ended operation: coordinator, kind, time, then ok, the stripe .., abort or cut; per refusal, `refused`
-- and the number, and plays on." E5: the letter stands after the time. Here all that is printed is made from the run alone, and from the refused parts.
use Rattle.std.specs.Prelude.{◌≡◌, cond, List, [], ◌∷◌, ◌++◌, ℕ, eqb}
use Rattle.settings.specs.declared.Settings.{Settings}
use Rattle.coord_record.specs.Records.{idle_kind, reading_kind, writing_kind}
use Rattle.order.specs.Claim.{Blocks, Action, read, write, read_block, write_block, Seen, began, ended}
use Rattle.register.specs.Runs.{plain, World, Event, Moved, step, next_moved}
use Rattle.register.specs.RunLetters.{letter_at}
use Rattle.bench_parse.specs.Lines.{Line, set_line, write_line, read_line, carry_line, crash_line, down_line, up_line, no_line, reads}
use Rattle.bench_print.specs.Printing.{refused_text}
use Rattle.bench_rules.specs.Play.{Played, refuses, passes, happens, carried, plays}
use Rattle.bench_limits.specs.Limits.{bench_stripe}
use Rattle.bench_order.specs.Told.{told_end}
use Rattle.settings.specs.Times.{coordinator_of}

-- the kind of an action; "The bench keeps to one stripe and whole-stripe lines" (E2), so none of its runs has one on one block
unfoldable pub kind_of : {S B : Type 0} {blocks : Blocks S B} → Action blocks → ℕ
kind_of read = reading_kind
kind_of (write content) = writing_kind
kind_of (read_block j) = reading_kind
kind_of (write_block j b) = writing_kind

-- the kind that the operation of this time began with
unfoldable pub kind_in : (s : Settings) → List (Seen (plain s)) → ℕ → ℕ
kind_in s [] time = idle_kind
kind_in s (began other action ∷ l) time = cond (eqb other time) (kind_of action) (kind_in s l time)
kind_in s (ended other how ∷ l) time = kind_in s l time

-- The lines of what is seen now, with the letter of the event, after what was seen before: "A time is count × 16 + coordinator number", so the
-- coordinator is in the time, and the kind is that of the operation's beginning.
unfoldable pub reported : (s : Settings) → List (Seen (plain s)) → (letter : ℕ) → List (Seen (plain s)) → List ℕ
reported s before letter [] = []
reported s before letter (began time action ∷ l) = reported s before letter l
reported s before letter (ended time how ∷ l) = told_end s (coordinator_of time) (kind_in s before time) time letter how ++ reported s before letter l

-- what is reported of an event of the run, on the bench's one stripe
abbrev pub reported_at : (s : Settings) → Moved s → Event → List ℕ
reported_at s r e = reported s (r.seen bench_stripe) (letter_at s r.world e) ((step s r.world e).seen bench_stripe)

-- "A line, or one carried number": a part of what is played on a set, which is accepted or refused by itself.
pub data Part : Type 0 where
  whole_line : Line → Part
  one_number : ℕ → Part

-- "In a `carry` line each number is carried or refused by itself, left to right."
unfoldable pub each_number : List ℕ → List Part
each_number [] = []
each_number (k ∷ ks) = one_number k ∷ each_number ks

-- any other line is one part
unfoldable pub parts_of : Line → List Part
parts_of (set_line n m size capacity) = whole_line (set_line n m size capacity) ∷ []
parts_of (write_line c clock digits) = whole_line (write_line c clock digits) ∷ []
parts_of (read_line c clock brick) = whole_line (read_line c clock brick) ∷ []
parts_of (carry_line messages) = each_number messages
parts_of (crash_line c) = whole_line (crash_line c) ∷ []
parts_of (down_line b) = whole_line (down_line b) ∷ []
parts_of (up_line b) = whole_line (up_line b) ∷ []
parts_of no_line = whole_line no_line ∷ []

-- the parts of some lines, as they read
unfoldable pub parts_in : List (List ℕ) → List Part
parts_in [] = []
parts_in (l ∷ ls) = parts_of (reads l) ++ parts_in ls

-- what a part does
unfoldable pub plays_part : Settings → World → Part → Played
plays_part s w (whole_line line) = plays s w line
plays_part s w (one_number k) = carried s w k

-- The text tells of these parts, played one after the other from the moment r of a run on; and these events happened.
pub data Reports (s : Settings) : Moved s → List Part → List Event → List ℕ → Type 0 where
  nothing : {r : Moved s} → Reports s r [] [] []
  -- the part is refused with this number, and the text is `refused` and the number
  refusal : {r : Moved s} {part : Part} {parts : List Part} {events : List Event} {text : List ℕ} (number : ℕ)
      → plays_part s r.world part ≡ refuses r.world number
      → Reports s r parts events text
      → Reports s r (part ∷ parts) events (refused_text number ++ text)
  -- the part is this event, and the text is the lines of what is seen at it on the bench's one stripe
  event : {r : Moved s} {part : Part} {parts : List Part} {events : List Event} {text : List ℕ} (e : Event)
      → plays_part s r.world part ≡ happens s r.world e (reported_at s r e)
      → Reports s (next_moved s r e) parts events text
      → Reports s r (part ∷ parts) (e ∷ events) (reported_at s r e ++ text)
  -- the part is lost without a word: "carried to a down brick it is lost"
  silence : {r : Moved s} {part : Part} {parts : List Part} {events : List Event} {text : List ℕ}
      → plays_part s r.world part ≡ passes r.world
      → Reports s r parts events text
      → Reports s r (part ∷ parts) events text

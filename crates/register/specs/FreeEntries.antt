-- Document 02, E6: "With short logs, a few writes cut short fill every brick and nothing is stored again." How many stores a log of K entries
-- bears: only a yes to a Write or Modify adds an entry, and a Trim not below the newest time leaves one. So K − 2 stores after such a Trim, cut
-- short or with their own Trims lost, leave a free entry. Proved in `proofs/Laws/FreeEntryLaws`.
use Rattle.std.specs.Prelude.{◌≡◌, true, ◌&&◌, List, [], ◌∷◌, ◌++◌, ℕ, ◌+◌, ◌≤◌, ◌<◌, eqb, length}
use Rattle.settings.specs.Count.{one_if}
use Rattle.settings.specs.Ranges.{in_range}
use Rattle.settings.specs.declared.Settings.{Settings}
use Rattle.message.specs.Kinds.{trim_kind}
use Rattle.message.specs.Messages.{stores_entry}
use Rattle.message.specs.declared.Message.{Message}
use Rattle.image.specs.Brick.{Brick, entry_count, newest}
use Rattle.register.specs.Runs.{Item, message, reply, World, Event, arrives, run}
use Rattle.register.specs.Entries.{HasState}

-- 1 for a yes of brick b to a Write or Modify on a stripe, 0 for any other item
unfoldable pub store_of : (stripe b : ℕ) → Item → ℕ
store_of stripe b (message c msg block old) = 0
store_of stripe b (reply r block) = one_if (eqb r.stripe stripe && eqb r.brick b && stores_entry r.kind && r.yes)

-- how many of these are among what was sent
unfoldable pub stores_by : (stripe b : ℕ) → List Item → ℕ
stores_by stripe b [] = 0
stores_by stripe b (i ∷ is) = store_of stripe b i + stores_by stripe b is

-- In a run from fresh, whatever events follow: a brick's log of a stripe grows by no more entries than it said yes to Writes and Modifies on that
-- stripe meanwhile.
abbrev pub OnlyStoresAddEntries : Type 0
OnlyStoresAddEntries =
    (s : Settings) → in_range s ≡ true → (events later : List Event) (stripe b : ℕ) → stripe < s.stripes → b < s.n
    → (x y : Brick) → HasState s (run s events).world stripe b x → HasState s (run s (events ++ later)).world stripe b y
    → entry_count y + stores_by stripe b (run s events).world.sent ≤ entry_count x + stores_by stripe b (run s (events ++ later)).world.sent

-- The item at place k of what was sent is a Trim to brick b, on a stripe; the brick is up, and its newest time there is not above that of the Trim.
pub record TakesTrim (s : Settings) (w : World) (k stripe b : ℕ) : Type 0 where
  pub earlier : List Item
  pub others : List Item
  pub msg : Message
  pub block : List ℕ
  pub old : List ℕ
  pub sent_is : w.sent ≡ earlier ++ message b msg block old ∷ others
  pub place_is : k ≡ length earlier
  pub on-stripe : msg.stripe ≡ stripe
  pub trims : msg.kind ≡ trim_kind
  pub is_up : w.up b ≡ true
  pub state : Brick
  pub has-state : HasState s w stripe b state
  pub not-below : newest state ≤ msg.time

-- A brick that took such a Trim, and has since said yes to at most K − 2 Writes and Modifies on that stripe, has a free entry.
abbrev pub FreeEntryAfterTrim : Type 0
FreeEntryAfterTrim =
    (s : Settings) → in_range s ≡ true → (before later : List Event) (k stripe b : ℕ) → stripe < s.stripes → b < s.n
    → TakesTrim s (run s before).world k stripe b
    → let after = (run s (before ++ arrives k ∷ later)).world in
    stores_by stripe b after.sent + 2 ≤ stores_by stripe b (run s before).world.sent + s.capacity
    → (y : Brick) → HasState s after stripe b y → entry_count y < s.capacity

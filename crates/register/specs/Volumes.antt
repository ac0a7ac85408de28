-- Document 02, E1, of runs: stripes do not touch each other, there are S of them, and a coordinator has one clock and one operation for all.
-- Proved in `proofs/Laws/VolumeLaws`.
use Rattle.std.specs.Prelude.{◌≡◌, ◌≢◌, Bool, true, false, List, [], ◌∷◌, ◌++◌, ℕ, zero, suc, ◌≤◌, ◌<◌, eqb, length}
use Rattle.settings.specs.Ranges.{in_range}
use Rattle.settings.specs.Refusal.{passed, first_refusal, busy}
use Rattle.settings.specs.Times.{draw_refusal, coordinator_of}
use Rattle.settings.specs.declared.Settings.{Settings}
use Rattle.coord_record.specs.Records.{idle_kind}
use Rattle.byte_lists.specs.Little.{are_bytes}
use Rattle.coord_refusals.specs.Checks.{write_checks, read_checks, write_block_checks, read_block_checks}
use Rattle.volume.specs.Rows.{image_at}
use Rattle.order.specs.Claim.{Seen, ◌∈◌}
use Rattle.register.specs.Runs.{plain, Item, message, reply, World, Event, start_write, start_read, start_write_block, start_read_block, arrives, crashes}
use Rattle.register.specs.Runs.{goes_down, comes_up, step, run}
use Rattle.register.specs.RefusedEvents.{event_number}

-- the item at a place among those sent is a message of this stripe
unfoldable pub message_on : List Item → (place stripe : ℕ) → Bool
message_on [] place stripe = false
message_on (message b msg block old ∷ is) zero stripe = eqb msg.stripe stripe
message_on (reply r block ∷ is) zero stripe = false
message_on (i ∷ is) (suc place) stripe = message_on is place stripe

-- the event is a message of this stripe that reaches its brick; no other event changes an image
unfoldable pub changes_image : World → Event → (stripe : ℕ) → Bool
changes_image w (arrives place) stripe = message_on w.sent place stripe
changes_image w (start_write c number reading content) stripe = false
changes_image w (start_read c number reading first) stripe = false
changes_image w (start_write_block c number reading block content) stripe = false
changes_image w (start_read_block c number reading block) stripe = false
changes_image w (crashes c left) stripe = false
changes_image w (goes_down b) stripe = false
changes_image w (comes_up b) stripe = false

-- "An event on one stripe changes no byte of another's images."
abbrev pub StripesApart : Type 0
StripesApart =
    (s : Settings) (w : World) (e : Event) (stripe b : ℕ) → changes_image w e stripe ≡ false
    → image_at s stripe ((step s w e).world.images b) ≡ image_at s stripe (w.images b)

-- the stripe that an item names
unfoldable pub item_stripe : Item → ℕ
item_stripe (message b msg block old) = msg.stripe
item_stripe (reply r block) = r.stripe

-- the stripe of what arrives: a message's own, and of a reply that of the operation that runs at its coordinator
unfoldable pub arrival_stripe : World → List Item → (place : ℕ) → ℕ
arrival_stripe w [] place = 0
arrival_stripe w (message b msg block old ∷ is) zero = msg.stripe
arrival_stripe w (reply r block ∷ is) zero = (w.coordinators (coordinator_of r.time)).state.op.stripe
arrival_stripe w (i ∷ is) (suc place) = arrival_stripe w is place

-- the item names the stripe of the operation that starts or of what arrives; at the other events nothing is sent
unfoldable pub sent_at : World → Event → Item → Bool
sent_at w (start_write c stripe reading content) i = eqb (item_stripe i) stripe
sent_at w (start_read c stripe reading first) i = eqb (item_stripe i) stripe
sent_at w (start_write_block c stripe reading block content) i = eqb (item_stripe i) stripe
sent_at w (start_read_block c stripe reading block) i = eqb (item_stripe i) stripe
sent_at w (arrives place) i = eqb (item_stripe i) (arrival_stripe w w.sent place)
sent_at w (crashes c left) i = false
sent_at w (goes_down b) i = false
sent_at w (comes_up b) i = false

-- "Messages and replies gain a stripe number": all that an event sends names the stripe of the operation that sent it, and a brick's reply that of
-- the message.
abbrev pub SentOnItsStripe : Type 0
SentOnItsStripe =
    (s : Settings) (w : World) (e : Event)
    → (new : List Item) × ((step s w e).world.sent ≡ w.sent ++ new) × ((i : Item) → i ∈ new → sent_at w e i ≡ true)

-- Nothing is seen of a stripe that the volume does not have: all operations are among those that the stripes below S order.
abbrev pub NothingSeenPastTheStripes : Type 0
NothingSeenPastTheStripes = (s : Settings) (events : List Event) (stripe : ℕ) → s.stripes ≤ stripe → (run s events).seen stripe ≡ []

-- "A coordinator uses one clock for all stripes": when an operation begins, on whatever stripe, its time is above those of all operations that its
-- coordinator began before, on whatever stripe and crashes or not, and is that of no operation before.
abbrev pub OneClock : Type 0
OneClock =
    (s : Settings) → in_range s ≡ true → (events : List Event) (e : Event) (j t : ℕ) (x : (plain s).Kind)
    → Seen.began t x ∈ (step s (run s events).world e).seen j
    → (k u : ℕ) (y : (plain s).Kind) → Seen.began u y ∈ (run s events).seen k → (coordinator_of u ≡ coordinator_of t → u < t) × (u ≢ t)

-- the numbers below 9 with which a start on a stripe is refused, 0 for none: at coordinator c with this reading
module _ (s : Settings) (w : World) (c stripe reading : ℕ) where
  abbrev pub write_below_busy : List ℕ → ℕ
  write_below_busy content =
      first_refusal
      (write_checks s.n s.m s.size s.stripes (w.coordinators c).state stripe (length content) (length (w.coordinators c).stripe)
      (draw_refusal (w.coordinators c).state.clock reading ∷ []))

  abbrev pub read_below_busy : (first : ℕ) → ℕ
  read_below_busy first =
      first_refusal
      (read_checks s.n s.m s.size s.stripes (w.coordinators c).state stripe first
      (draw_refusal (w.coordinators c).state.clock reading ∷ []))

  abbrev pub write_block_below_busy : (block : ℕ) → List ℕ → ℕ
  write_block_below_busy block content =
      first_refusal
      (write_block_checks s.n s.m s.size s.stripes (w.coordinators c).state stripe block (length content)
      (length (w.coordinators c).stripe) (draw_refusal (w.coordinators c).state.clock reading ∷ []))

  abbrev pub read_block_below_busy : (block : ℕ) → ℕ
  read_block_below_busy block =
      first_refusal
      (read_block_checks s.n s.m s.size s.stripes (w.coordinators c).state stripe block
      (draw_refusal (w.coordinators c).state.clock reading ∷ []))

-- "and one operation at a time": while one runs, on whatever stripe, a start that no lower number refuses is 9.
abbrev pub OneOperationAtATime : Type 0
OneOperationAtATime =
    (s : Settings) (w : World) (c stripe reading : ℕ) → (w.coordinators c).state.op.kind ≢ idle_kind
    → ((content : List ℕ) → are_bytes content ≡ true → write_below_busy s w c stripe reading content ≡ passed
    → event_number s w (start_write c stripe reading content) ≡ busy)
    × ((first : ℕ) → read_below_busy s w c stripe reading first ≡ passed → event_number s w (start_read c stripe reading first) ≡ busy)
    × ((block : ℕ) (content : List ℕ) → are_bytes content ≡ true → write_block_below_busy s w c stripe reading block content ≡ passed
    → event_number s w (start_write_block c stripe reading block content) ≡ busy)
    × ((block : ℕ) → read_block_below_busy s w c stripe reading block ≡ passed → event_number s w (start_read_block c stripe reading block) ≡ busy)

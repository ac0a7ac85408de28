-- What is seen of a start is what was handed to it, and an operation ends once, after its beginning. Proved in `proofs/Laws/BeginningLaws`.
use Rattle.std.specs.Prelude.{◌≡◌, true, cond, List, [], ◌∷◌, ℕ, ◌≤◌, ◌<◌, eqb}
use Rattle.settings.specs.Ranges.{in_range}
use Rattle.settings.specs.Refusal.{passed}
use Rattle.settings.specs.Times.{time_of, next_count, coordinator_of, last_coordinator}
use Rattle.settings.specs.declared.Settings.{Settings}
use Rattle.order.specs.Claim.{read, write, read_block, write_block, Ending, Seen, ◌∈◌, Before}
use Rattle.register.specs.Runs.{plain, World, Event, start_write, start_read, start_write_block, start_read_block, on_stripe, step, run}
use Rattle.register.specs.RefusedEvents.{event_number}

-- "A clock reading gives count = the larger of the reading and last count + 1": the time that coordinator c draws with this reading
abbrev pub time_drawn : World → (c reading : ℕ) → ℕ
time_drawn w c reading = time_of (next_count (w.coordinators c).state.clock.last reading) (w.coordinators c).state.clock.coordinator

-- this alone is seen at the event, on this stripe and on no other, and nothing at all if the event is refused
abbrev pub ShowsUnlessRefused : (s : Settings) → World → Event → (stripe : ℕ) → Seen (plain s) → Type 0
ShowsUnlessRefused s w e stripe what =
    (k : ℕ) → (step s w e).seen k ≡ on_stripe stripe (cond (eqb (event_number s w e) passed) (what ∷ []) []) k

-- "An operation is a start that isn't refused; it begins there": in any set, with the time drawn there and the kind, bytes and block number that
-- were handed to it.
abbrev pub BeginsAsHandedIn : Type 0
BeginsAsHandedIn =
    (s : Settings) (w : World) (c stripe reading : ℕ)
    → ((content : List ℕ)
    → ShowsUnlessRefused s w (start_write c stripe reading content) stripe (Seen.began (time_drawn w c reading) (write content)))
    × ((first : ℕ) → ShowsUnlessRefused s w (start_read c stripe reading first) stripe (Seen.began (time_drawn w c reading) read))
    × ((block : ℕ) (content : List ℕ)
    → ShowsUnlessRefused s w (start_write_block c stripe reading block content) stripe (Seen.began (time_drawn w c reading) (write_block block content)))
    × ((block : ℕ)
    → ShowsUnlessRefused s w (start_read_block c stripe reading block) stripe (Seen.began (time_drawn w c reading) (read_block block)))

-- In a run the time that a coordinator draws is its own.
abbrev pub DrawsItsOwnTimes : Type 0
DrawsItsOwnTimes =
    (s : Settings) → in_range s ≡ true → (events : List Event) (c reading : ℕ) → c ≤ last_coordinator
    → coordinator_of (time_drawn (run s events).world c reading) ≡ c

-- In a run whatever ends began before,
abbrev pub EndsAfterItsBeginning : Type 0
EndsAfterItsBeginning =
    (s : Settings) → in_range s ≡ true → (events : List Event) (stripe : ℕ) → stripe < s.stripes → (t : ℕ) (r : Ending (plain s))
    → Seen.ended t r ∈ (run s events).seen stripe
    → (k : (plain s).Kind) × Before (Seen.began t k) (Seen.ended t r) ((run s events).seen stripe)

-- and ends once.
abbrev pub EndsOnce : Type 0
EndsOnce =
    (s : Settings) → in_range s ≡ true → (events : List Event) (stripe : ℕ) → stripe < s.stripes → (t : ℕ) (r r' : Ending (plain s))
    → ¬ Before (Seen.ended t r) (Seen.ended t r') ((run s events).seen stripe)

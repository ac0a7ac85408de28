-- Document 01, "A run and its order", on the bench: "A run is a list of events on one set .. It starts fresh". Every script is a run, and the
-- operations of the set that it plays have one order. "The bench keeps to one stripe" (document 02, E2): the order is that of this stripe.
use Rattle.std.specs.Prelude.{◌≡◌, ◌≢◌, Bool, true, false, not, ◌&&◌, List, [], ◌∷◌, ℕ}
use Rattle.settings.specs.declared.Settings.{Settings}
use Rattle.order.specs.Claim.{OneOrder}
use Rattle.register.specs.Runs.{plain, World, Event, start_write, start_read, start_write_block, start_read_block, arrives, crashes, goes_down, comes_up, run}
use Rattle.bench_limits.specs.Limits.{bench_stripe}
use Rattle.bench_state.specs.State.{bench_range}
use Rattle.bench_rules.specs.Play.{Stage, waiting, playing, events_of}
use Rattle.bench_order.specs.Script.{script}

-- A stage stands for the run of its events: its settings are within the bench's limits, and its world is the one that the run of the events,
-- from the fresh set, reaches. Without a set nothing happened.
unfoldable pub StandsFor : Stage → Type 0
StandsFor waiting = Unit {0}
StandsFor (playing s w events) = (bench_range s ≡ true) × (w ≡ (run s events).world)

-- Every script is a run.
abbrev pub EveryScriptIsARun : Type 0
EveryScriptIsARun = (input : List ℕ) → StandsFor (script input).stage

-- Its events are those of its lines, in order.
abbrev pub EveryScriptKeepsItsEvents : Type 0
EveryScriptKeepsItsEvents = (input : List ℕ) → events_of (script input).stage ≡ (script input).events

-- "Demand 3 says of every run: some order of its operations": whatever the script, the operations of the set that it plays have one order,
-- that of the bench's stripe;
abbrev pub EveryScriptHasOneOrder : Type 0
EveryScriptHasOneOrder =
    (input : List ℕ) (s : Settings) (w : World) (events : List Event) → (script input).stage ≡ playing s w events
    → OneOrder (plain s) ((run s events).seen bench_stripe)

-- and they are all: nothing is seen on any other stripe.
abbrev pub EveryScriptKeepsToOneStripe : Type 0
EveryScriptKeepsToOneStripe =
    (input : List ℕ) (s : Settings) (w : World) (events : List Event) → (script input).stage ≡ playing s w events
    → (stripe : ℕ) → stripe ≢ bench_stripe → (run s events).seen stripe ≡ []

-- an event that starts an operation on one block
unfoldable pub starts_on_block : Event → Bool
starts_on_block (start_write_block c stripe reading block content) = true
starts_on_block (start_read_block c stripe reading block) = true
starts_on_block (start_write c stripe reading content) = false
starts_on_block (start_read c stripe reading first) = false
starts_on_block (arrives k) = false
starts_on_block (crashes c left) = false
starts_on_block (goes_down b) = false
starts_on_block (comes_up b) = false

-- no event does
unfoldable pub on_whole_stripes : List Event → Bool
on_whole_stripes [] = true
on_whole_stripes (e ∷ es) = not (starts_on_block e) && on_whole_stripes es

-- "The bench keeps to .. whole-stripe lines" (E2): no script starts an operation on one block.
abbrev pub EveryScriptKeepsToWholeStripes : Type 0
EveryScriptKeepsToWholeStripes = (input : List ℕ) → on_whole_stripes (script input).events ≡ true

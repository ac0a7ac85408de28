-- Document 01, "The bench": what a line does to the set, and what it prints. A line's events are played by the runs' own `step`.
use Rattle.std.specs.Prelude.{Bool, cond, List, [], ◌∷◌, ◌++◌, ℕ, zero, suc, ◌*◌, leb, ltb, length, replicate}
use Rattle.settings.specs.Refusal.{bad_setting, bad_number, bad_line}
use Rattle.settings.specs.declared.Settings.{Settings}
use Rattle.message.specs.declared.Message.{Message}
use Rattle.volume.specs.Rows.{row_outcome}
use Rattle.brick.specs.Receive.{Given}
use Rattle.brick.specs.Receive.{Answered, Silent, Refused}
use Rattle.coord_apply.specs.Answers.{Step, refused, went}
use Rattle.coordinator.specs.Routines.{take_step, crash_step, write_step, read_step}
use Rattle.register.specs.Runs.{Item, message, reply, World, untouched, Event, start_write, start_read, arrives, crashes, goes_down, comes_up, fresh_set, step}
use Rattle.bench_state.specs.State.{bench_range}
use Rattle.bench_parse.specs.Lines.{Line, set_line, write_line, read_line, carry_line, crash_line, down_line, up_line, no_line}
use Rattle.bench_print.specs.Printing.{refused_text, ended_text}
use Rattle.bench_rules.specs.Content.{counted, content}
use Rattle.bench_limits.specs.Limits.{bench_stripes, bench_stripe, bench_coordinators, last_message}
use Rattle.settings.specs.Times.{coordinator_of}

-- What a line, or one carried number, leaves: the world, the events that were accepted, and what is printed.
pub record Played : Type 0 where
  pub world : World
  pub events : List Event
  pub printed : List ℕ

-- "per refusal, `refused` and the number": nothing changes
unfoldable pub refuses : World → ℕ → Played
refuses w number = record { world = w; events = []; printed = refused_text number }

-- nothing changes, and nothing is printed
unfoldable pub passes : World → Played
passes w = record { world = w; events = []; printed = [] }

-- an accepted event leaves what the runs' step leaves
unfoldable pub happens : Settings → World → Event → List ℕ → Played
happens s w e text = record { world = (step s w e).world; events = e ∷ []; printed = text }

-- An event at coordinator c, by the step of its routine: refused with the step's number, or because it "would send past message 127".
-- "It prints per ended operation: coordinator, kind, time, then ok, the stripe .., abort or cut".
unfoldable pub acts : Settings → World → Event → ℕ → Step → Played
acts s w e c (refused number) = refuses w number
acts s w e c (went g) =
    cond (leb (length (step s w e).world.sent) last_message)
    (happens s w e (ended_text c g.seen g.next.stripe))
    (refuses w bad_line)

-- "coordinators 0 to 3 .. coordinator numbers past them are refusal 3"
unfoldable pub at_coordinator : World → ℕ → Played → Played
at_coordinator w c p = cond (ltb c bench_coordinators) p (refuses w bad_number)

-- "hex digits other than two for each stripe byte" are refused after the numbers of the start
unfoldable pub unless_short : Bool → Step → Step
unless_short ok (refused number) = refused number
unless_short ok (went g) = cond ok (went g) (refused bad_line)

-- "`write c clock hex`", on the bench's one stripe
unfoldable pub writes : Settings → World → ℕ → ℕ → List ℕ → Played
writes s w c clock digits =
    at_coordinator w c
    (acts s w (start_write c bench_stripe clock (content s digits)) c
    (unless_short (counted s digits) (write_step s.n s.m s.size s.stripes (w.coordinators c) bench_stripe clock (content s digits))))

-- "`read c clock brick`", on the same stripe
unfoldable pub starts : Settings → World → ℕ → ℕ → ℕ → Played
starts s w c clock brick =
    at_coordinator w c
    (acts s w (start_read c bench_stripe clock brick) c (read_step s.n s.m s.size s.stripes (w.coordinators c) bench_stripe clock brick))

-- "`crash c`": the bench still has the buffers after it
unfoldable pub crashes_at : Settings → World → ℕ → Played
crashes_at s w c = at_coordinator w c (acts s w (crashes c untouched) c (crash_step s.n s.m s.size s.stripes (w.coordinators c)))

-- "`down b`, `up b`"; "brick .. numbers past them are refusal 3"
unfoldable pub switches : Settings → World → ℕ → Event → Played
switches s w b e = cond (ltb b s.n) (happens s w e []) (refuses w bad_number)

-- What the brick gave: a reply, silence after a Trim or a Drop, or a refusal. "A line, or one carried number, that would send past message 127 is
-- refused before anything changes": so is a reply that would be one past it. What the brick refuses sends nothing and has the brick's number.
unfoldable pub delivered : Settings → World → ℕ → Given → Played
delivered s w k (Answered r) = cond (ltb (length w.sent) last_message) (happens s w (arrives k) []) (refuses w bad_line)
delivered s w k Silent = happens s w (arrives k) []
delivered s w k (Refused number) = refuses w number

-- a message at its brick, which is up
unfoldable pub reaches : Settings → World → ℕ → ℕ → Message → (block old : List ℕ) → Played
reaches s w k b msg block old = delivered s w k (row_outcome s b (w.images b) msg block old (replicate s.size 0)).given

-- "Any sent message may be carried again; carried to a down brick it is lost." A reply goes to the coordinator in its time.
unfoldable pub carries : Settings → World → ℕ → Item → Played
carries s w k (message b msg block old) =
    cond (ltb b s.n) (cond (w.up b) (reaches s w k b msg block old) (passes w)) (refuses w bad_number)
carries s w k (reply r block) =
    at_coordinator w (coordinator_of r.time)
    (acts s w (arrives k) (coordinator_of r.time)
    (take_step s.n s.m s.size s.stripes (w.coordinators (coordinator_of r.time)) r block (s.n * s.size)))

-- item j of a list, carried as item k of all: refused if it was "not sent yet"
unfoldable pub carries_at : Settings → World → ℕ → List Item → ℕ → Played
carries_at s w k [] j = refuses w bad_line
carries_at s w k (i ∷ is) zero = carries s w k i
carries_at s w k (i ∷ is) (suc j) = carries_at s w k is j

-- "Sent messages are numbered from 1"
unfoldable pub carried : Settings → World → ℕ → Played
carried s w zero = refuses w bad_line
carried s w (suc k) = carries_at s w k w.sent k

-- one after the other
unfoldable pub and_then : Played → Played → Played
and_then p q = record { world = q.world; events = p.events ++ q.events; printed = p.printed ++ q.printed }

-- "In a `carry` line each number is carried or refused by itself, left to right."
unfoldable pub carried_all : Settings → World → List ℕ → Played
carried_all s w [] = passes w
carried_all s w (k ∷ ks) = and_then (carried s w k) (carried_all s (carried s w k).world ks)

-- a line after an accepted `set`; "is a `set` after an accepted one" is refusal 12
unfoldable pub plays : Settings → World → Line → Played
plays s w (set_line n m size capacity) = refuses w bad_line
plays s w (write_line c clock digits) = writes s w c clock digits
plays s w (read_line c clock brick) = starts s w c clock brick
plays s w (carry_line messages) = carried_all s w messages
plays s w (crash_line c) = crashes_at s w c
plays s w (down_line b) = switches s w b (goes_down b)
plays s w (up_line b) = switches s w b (comes_up b)
plays s w no_line = refuses w bad_line

-- The bench: no set so far, or a set with its world and the events that led to it.
pub data Stage : Type 0 where
  waiting : Stage
  playing : Settings → World → List Event → Stage

-- the events that led to a stage
unfoldable pub events_of : Stage → List Event
events_of waiting = []
events_of (playing s w events) = events

-- What a line leaves: the stage, the events of this line, and what is printed.
pub record Turn : Type 0 where
  pub stage : Stage
  pub events : List Event
  pub printed : List ℕ

unfoldable pub waits : ℕ → Turn
waits number = record { stage = waiting; events = []; printed = refused_text number }

-- "`set n m size capacity` (first, one time)"; "Settings past the bench's limits are refusal 1"
unfoldable pub begins : Settings → Turn
begins s = cond (bench_range s) (record { stage = playing s (fresh_set s) []; events = []; printed = [] }) (waits bad_setting)

-- the settings of a `set` line: "The bench keeps to one stripe"
abbrev pub one_stripe : (n m size capacity : ℕ) → Settings
one_stripe n m size capacity = record { n = n; m = m; size = size; capacity = capacity; stripes = bench_stripes }

-- what is "no `set` while none is accepted" is refusal 12
unfoldable pub first : Line → Turn
first (set_line n m size capacity) = begins (one_stripe n m size capacity)
first (write_line c clock digits) = waits bad_line
first (read_line c clock brick) = waits bad_line
first (carry_line messages) = waits bad_line
first (crash_line c) = waits bad_line
first (down_line b) = waits bad_line
first (up_line b) = waits bad_line
first no_line = waits bad_line

-- one line: the events of a set are those so far, and the line's
unfoldable pub turn : Stage → Line → Turn
turn waiting line = first line
turn (playing s w events) line =
    record {
      stage = playing s (plays s w line).world (events ++ (plays s w line).events);
      events = (plays s w line).events;
      printed = (plays s w line).printed;
    }

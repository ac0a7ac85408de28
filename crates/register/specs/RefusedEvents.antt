-- "Refused events stand in the list and change nothing, as does one naming a message not sent so far." Proved in
-- `proofs/Laws/RefusedEventLaws`.
use Rattle.std.specs.Prelude.{◌≡◌, ◌≢◌, false, cond, List, [], ◌∷◌, ℕ, zero, suc, ◌*◌, ltb, replicate}
use Rattle.settings.specs.Refusal.{passed, refuse_unless, bad_number, bad_line}
use Rattle.settings.specs.Times.{coordinator_of}
use Rattle.settings.specs.declared.Settings.{Settings}
use Rattle.byte_lists.specs.Little.{are_bytes}
use Rattle.message.specs.declared.Message.{Message}
use Rattle.brick.specs.Receive.{given_number}
use Rattle.volume.specs.Rows.{row_outcome}
use Rattle.coord_apply.specs.Answers.{Step, answer_of}
use Rattle.coordinator.specs.Routines.{take_step, crash_step, write_step, read_step, write_block_step, read_block_step}
use Rattle.register.specs.Runs.{Item, message, reply, World, Event, start_write, start_read, start_write_block, start_read_block, arrives, crashes, goes_down}
use Rattle.register.specs.Runs.{comes_up, unmoved, arriving, step}

-- the number in the answer of a coordinator's routine
abbrev pub routine_number : World → ℕ → Step → ℕ
routine_number w c p = (answer_of (w.coordinators c).state p).refusal

-- the number with which a message is refused by its brick, if that is up, or a reply by its coordinator
unfoldable pub item_number : Settings → World → Item → ℕ
item_number s w (message b msg block old) =
    cond (w.up b) (given_number (row_outcome s b (w.images b) msg block old (replicate s.size 0)).given) passed
item_number s w (reply r block) =
    routine_number w (coordinator_of r.time)
    (take_step s.n s.m s.size s.stripes (w.coordinators (coordinator_of r.time)) r block (s.n * s.size))

-- the same by place; 12 for "a number not sent yet"
unfoldable pub arrival_number : Settings → World → List Item → ℕ → ℕ
arrival_number s w [] k = bad_line
arrival_number s w (i ∷ is) zero = item_number s w i
arrival_number s w (i ∷ is) (suc k) = arrival_number s w is k

-- The number with which an event is refused in a world, 0 for none. Content that is no list of bytes counts as 12, what does not read; "a
-- brick number not below n" is refused also where a brick goes down or comes up.
unfoldable pub event_number : Settings → World → Event → ℕ
event_number s w (start_write c stripe reading content) =
    cond (are_bytes content) (routine_number w c (write_step s.n s.m s.size s.stripes (w.coordinators c) stripe reading content)) bad_line
event_number s w (start_read c stripe reading first) =
    routine_number w c (read_step s.n s.m s.size s.stripes (w.coordinators c) stripe reading first)
event_number s w (start_write_block c stripe reading block content) =
    cond (are_bytes content)
    (routine_number w c (write_block_step s.n s.m s.size s.stripes (w.coordinators c) stripe reading block content))
    bad_line
event_number s w (start_read_block c stripe reading block) =
    routine_number w c (read_block_step s.n s.m s.size s.stripes (w.coordinators c) stripe reading block)
event_number s w (arrives k) = arrival_number s w w.sent k
event_number s w (crashes c left) = routine_number w c (crash_step s.n s.m s.size s.stripes (w.coordinators c))
event_number s w (goes_down b) = refuse_unless (ltb b s.n) bad_number
event_number s w (comes_up b) = refuse_unless (ltb b s.n) bad_number

-- In any world an event that is refused leaves every image, record, buffer and brick as it was, sends nothing, and nothing is seen of it.
abbrev pub RefusedEventsChangeNothing : Type 0
RefusedEventsChangeNothing = (s : Settings) (w : World) (e : Event) → event_number s w e ≢ passed → step s w e ≡ unmoved s w

-- "at a down brick it is lost"
abbrev pub LostAtADownBrick : Type 0
LostAtADownBrick =
    (s : Settings) (w : World) (b : ℕ) (msg : Message) (block old : List ℕ) → w.up b ≡ false
    → arriving s w (message b msg block old) ≡ unmoved s w

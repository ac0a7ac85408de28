-- In a run from fresh no image is refused as 2, 5 or 6, no record as 6, no buffer beside a record as 2, no crash, no message, and no reply but as 11.
-- Proved in `proofs/Laws/NeverRefusedLaws` and `AcceptedLaws`.
use Rattle.std.specs.Prelude.{◌≡◌, true, false, List, [], ◌∷◌, ◌++◌, ℕ, ◌*◌, ◌≤◌, ◌<◌, length, replicate}
use Rattle.settings.specs.Ranges.{in_range}
use Rattle.settings.specs.Refusal.{passed, refuse_unless, stray_reply}
use Rattle.settings.specs.Times.{last_coordinator, coordinator_of}
use Rattle.settings.specs.declared.Settings.{Settings}
use Rattle.message.specs.Messages.{is_silent}
use Rattle.message.specs.declared.Message.{Message}
use Rattle.message.specs.declared.Reply.{Reply}
use Rattle.image.specs.Brick.{Brick, mark_at}
use Rattle.image.specs.Parse.{Opens, parse}
use Rattle.brick.specs.Receive.{given_number}
use Rattle.volume.specs.Rows.{image_at, row_size, row_outcome}
use Rattle.coord_record.specs.Sound.{sound_record}
use Rattle.coord_decide.specs.Deciding.{answers}
use Rattle.coord_apply.specs.Answers.{Buffered, answer_of}
use Rattle.coordinator.specs.Routines.{crash_step}
use Rattle.order.specs.Claim.{◌∈◌}
use Rattle.register.specs.Runs.{message, reply, Event, arriving, run}
use Rattle.register.specs.RefusedEvents.{item_number}

-- No image of any stripe is refused, as 2, 5 or 6: each opens, and E2: "So the lowest entry of a log is never a mark".
abbrev pub ImagesOpen : Type 0
ImagesOpen =
    (s : Settings) → in_range s ≡ true → (events : List Event) (stripe b : ℕ) → stripe < s.stripes → b < s.n
    → (x : Brick) × (parse s b (image_at s stripe ((run s events).world.images b)) ≡ Opens x) × (mark_at x 0 ≡ false)

-- No brick's row of images is refused as 2.
abbrev pub RowsLong : Type 0
RowsLong =
    (s : Settings) → in_range s ≡ true → (events : List Event) (b : ℕ) → b < s.n → length ((run s events).world.images b) ≡ row_size s

-- a coordinator that the next routine opens
pub record Fine (s : Settings) (k : Buffered) : Type 0 where
  pub sound-is : sound_record s.n s.m s.size s.stripes k.state ≡ true
  pub blocks-long : length k.blocks ≡ s.n * s.size
  pub stripe-long : length k.stripe ≡ s.m * s.size

-- No record and no buffer beside it is refused, as 6 or 2.
abbrev pub RecordsOpen : Type 0
RecordsOpen =
    (s : Settings) → in_range s ≡ true → (events : List Event) (c : ℕ) → c ≤ last_coordinator
    → Fine s ((run s events).world.coordinators c)

-- No crash of one of the 16 coordinators is refused.
abbrev pub CrashesAccepted : Type 0
CrashesAccepted =
    (s : Settings) → in_range s ≡ true → (events : List Event) (c : ℕ) → c ≤ last_coordinator
    → let k = (run s events).world.coordinators c in
    (answer_of k.state (crash_step s.n s.m s.size s.stripes k)).refusal ≡ passed

-- No message that was sent is refused by its brick.
abbrev pub MessagesAccepted : Type 0
MessagesAccepted =
    (s : Settings) → in_range s ≡ true → (events : List Event) (b : ℕ) (msg : Message) (block old : List ℕ)
    → let w = (run s events).world in
    message b msg block old ∈ w.sent → given_number (row_outcome s b (w.images b) msg block old (replicate s.size 0)).given ≡ passed

-- Where it reaches a brick that is up, one reply is sent, unless it is a Trim or a Drop.
abbrev pub MessagesAnswered : Type 0
MessagesAnswered =
    (s : Settings) → in_range s ≡ true → (events : List Event) (b : ℕ) (msg : Message) (block old : List ℕ)
    → let w = (run s events).world in
    message b msg block old ∈ w.sent → w.up b ≡ true → is_silent msg.kind ≡ false
    → (r : Reply) × (held : List ℕ) × ((arriving s w (message b msg block old)).world.sent ≡ w.sent ++ reply r held ∷ [])

-- A reply that was sent is refused by its coordinator only as 11, and only if it does not answer the round that is open there.
abbrev pub RepliesOnlyStray : Type 0
RepliesOnlyStray =
    (s : Settings) → in_range s ≡ true → (events : List Event) (r : Reply) (block : List ℕ)
    → let w = (run s events).world in
    let k = (w.coordinators (coordinator_of r.time)).state in
    reply r block ∈ w.sent → item_number s w (reply r block) ≡ refuse_unless (answers s.n s.m k.op k.tally r) stray_reply

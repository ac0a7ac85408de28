-- The runs are the code's: whoever calls the routines, in a loop and as often as they like, has made a run. Each call stands here with the
-- facts that its contract gives, and with what a driver does with them. Proved in `proofs/Laws/CallLoopLaws`.
use Rattle.std.specs.Prelude.{◌≡◌, true, false, List, [], ℕ, ◌*◌, ◌≤◌, ◌<◌, length}
use Rattle.settings.specs.Ranges.{in_range}
use Rattle.settings.specs.Refusal.{passed}
use Rattle.settings.specs.Times.{last_coordinator, coordinator_of}
use Rattle.settings.specs.declared.Settings.{Settings}
use Rattle.byte_lists.specs.Little.{Bytes}
use Rattle.message.specs.Kinds.{write_kind, modify_kind}
use Rattle.message.specs.declared.Message.{Message}
use Rattle.message.specs.declared.Reply.{Reply}
use Rattle.brick.specs.Receive.{outcome_with, outcome}
use Rattle.volume.specs.Rows.{image_at, with_image, row_lending_refusal, fresh_row_after, row_outcome}
use Rattle.brick.specs.Receive.{Given}
use Rattle.coord_record.specs.Records.{geometry_of, idle_with}
use Rattle.coord_apply.specs.Answers.{Buffered, returned}
use Rattle.coord_apply.specs.Answers.{Answer}
use Rattle.coordinator.specs.Routines.{write_call, read_call, write_block_call, read_block_call, take_call, crash_call}
use Rattle.order.specs.Claim.{OneOrder, ◌∈◌}
use Rattle.register.specs.Runs.{plain, message, reply, World, Event, Moved, unmoved, joined, received, standing, run}
use Rattle.register.specs.Driver.{driven, held_block, failed}

-- buffers of the lengths that the settings ask for, with any bytes in them
pub record BufferLengths (s : Settings) (blocks stripe : List ℕ) : Type 0 where
  pub blocks-long : length blocks ≡ s.n * s.size
  pub stripe-long : length stripe ≡ s.m * s.size

-- coordinator c of a set, idle, with this last count and these buffers
abbrev pub idle_at : (s : Settings) → (c last : ℕ) → (blocks stripe : List ℕ) → Buffered
idle_at s c last blocks stripe =
    record { state = idle_with (geometry_of s) (record { coordinator = c; last = last }); blocks = blocks; stripe = stripe }

-- How it starts, by what `volume::write_fresh` (not refused, whatever lay in the rows) and `coord_record::idle_with` give: "fresh
-- images, all bricks up, 16 idle coordinators .., nothing sent".
-- Document 01 has them "with last count 0". Here each has any last count, as a coordinator has that served other bricks before, or these
-- before they were written afresh.
-- What stays a duty: nothing that was sent in an earlier life of the bricks is delivered once `write_fresh` has begun.
pub record Started (s : Settings) (w : World) : Type 0 where
  pub before : ℕ → List ℕ
  pub not-refused : (b : ℕ) → b < s.n → row_lending_refusal s b (length (before b)) ≡ passed
  pub images-are : (b : ℕ) → b < s.n → w.images b ≡ fresh_row_after s b (before b)
  pub all_up : (b : ℕ) → b < s.n → w.up b ≡ true
  pub last : ℕ → ℕ
  pub all-idle : (c : ℕ) → c ≤ last_coordinator → (w.coordinators c).state ≡ idle_with (geometry_of s) (record { coordinator = c; last = last c })
  pub all_fit : (c : ℕ) → c ≤ last_coordinator → BufferLengths s (w.coordinators c).blocks (w.coordinators c).stripe
  pub none-sent : w.sent ≡ []

-- What the contracts of the coordinator's routines ensure of the answer a and of the buffers lent, at a coordinator with its buffers.
module _ (s : Settings) (k : Buffered) (a : Answer) where
  -- `coordinator::start_write`
  abbrev pub WriteEnsures : (number reading : ℕ) → (content stripe : List ℕ) → Type 0
  WriteEnsures number reading content stripe =
      (blocks coded : List ℕ)
      → returned a blocks stripe coded ≡ write_call s.n s.m s.size s.stripes k.state blocks k.stripe coded number reading content

  -- `coordinator::start_read`
  abbrev pub ReadEnsures : (number reading first : ℕ) → Type 0
  ReadEnsures number reading first =
      (blocks stripe coded : List ℕ)
      → returned a blocks stripe coded ≡ read_call s.n s.m s.size s.stripes k.state blocks stripe coded number reading first

  -- `coordinator::start_write_block`
  abbrev pub WriteBlockEnsures : (number reading block : ℕ) → (content stripe : List ℕ) → Type 0
  WriteBlockEnsures number reading block content stripe =
      (blocks coded : List ℕ)
      → returned a blocks stripe coded
      ≡ write_block_call s.n s.m s.size s.stripes k.state blocks k.stripe coded number reading block content

  -- `coordinator::start_read_block`
  abbrev pub ReadBlockEnsures : (number reading block : ℕ) → Type 0
  ReadBlockEnsures number reading block =
      (blocks stripe coded : List ℕ)
      → returned a blocks stripe coded ≡ read_block_call s.n s.m s.size s.stripes k.state blocks stripe coded number reading block

  -- `coordinator::take_reply`
  abbrev pub TakeEnsures : Reply → (block coded blocks' stripe' coded' : List ℕ) → Type 0
  TakeEnsures r block coded blocks' stripe' coded' =
      returned a blocks' stripe' coded' ≡ take_call s.n s.m s.size s.stripes k.state k.blocks k.stripe coded r block

-- `coordinator::crash`
abbrev pub CrashEnsures : Settings → Buffered → Answer → Type 0
CrashEnsures s k a =
    (blocks stripe coded : List ℕ) → returned a blocks stripe coded ≡ crash_call s.n s.m s.size s.stripes k.state blocks stripe coded

-- What is lent beside a message: the block that was sent with a Write, both blocks that were sent with Modify.
pub record LentWith (msg : Message) (block old lent lent_old : List ℕ) : Type 0 where
  pub write : msg.kind ≡ write_kind → lent ≡ block
  pub modify : msg.kind ≡ modify_kind → (lent ≡ block) × (lent_old ≡ old)

-- What calls may have led to: a world, and what was seen so far. A call is made with the set's settings, at a coordinator with its own record
-- and buffers, or at the brick that a message was sent to with that brick's row or image. Among such calls those that are refused are here too,
-- and their contracts say that nothing changed; a call with other settings, at another brick or with other buffers is not here.
-- What was sent may be carried any number of times, in any order, or never; what was not sent since the start is not carried.
pub data RoutineCalls (s : Settings) : Moved s → Type 0 where
  begin : (w : World) → Started s w → RoutineCalls s (unmoved s w)
  -- `coordinator::start_write`; no start sends blocks
  start_write : (r : Moved s) → RoutineCalls s r → (c : ℕ) → c ≤ last_coordinator
      → (number reading : ℕ) (content : List ℕ) → Bytes content
      → (a : Answer) (stripe : List ℕ) → WriteEnsures s (r.world.coordinators c) a number reading content stripe
      → RoutineCalls s (joined s r (driven s r.world c a (r.world.coordinators c).blocks stripe []))
  -- `coordinator::start_read`
  start_read : (r : Moved s) → RoutineCalls s r → (c : ℕ) → c ≤ last_coordinator
      → (number reading first : ℕ)
      → (a : Answer) → ReadEnsures s (r.world.coordinators c) a number reading first
      → RoutineCalls s (joined s r (driven s r.world c a (r.world.coordinators c).blocks (r.world.coordinators c).stripe []))
  -- `coordinator::start_write_block`
  start_write_block : (r : Moved s) → RoutineCalls s r → (c : ℕ) → c ≤ last_coordinator
      → (number reading block : ℕ) (content : List ℕ) → Bytes content
      → (a : Answer) (stripe : List ℕ) → WriteBlockEnsures s (r.world.coordinators c) a number reading block content stripe
      → RoutineCalls s (joined s r (driven s r.world c a (r.world.coordinators c).blocks stripe []))
  -- `coordinator::start_read_block`
  start_read_block : (r : Moved s) → RoutineCalls s r → (c : ℕ) → c ≤ last_coordinator
      → (number reading block : ℕ)
      → (a : Answer) → ReadBlockEnsures s (r.world.coordinators c) a number reading block
      → RoutineCalls s (joined s r (driven s r.world c a (r.world.coordinators c).blocks (r.world.coordinators c).stripe []))
  -- `coordinator::take_reply`: a reply goes to the coordinator in its time. Beside one that holds no block anything may be lent, and any
  -- buffer to send from: the contract says what is refused.
  take_reply : (r : Moved s) → RoutineCalls s r → (x : Reply) (block : List ℕ) → reply x block ∈ r.world.sent
      → (lent : List ℕ)
      → (x.held ≡ true → lent ≡ block)
      → (coded : List ℕ) (a : Answer) (blocks' stripe' coded' : List ℕ)
      → TakeEnsures s (r.world.coordinators (coordinator_of x.time)) a x lent coded blocks' stripe' coded'
      → RoutineCalls s (joined s r (driven s r.world (coordinator_of x.time) a blocks' stripe' coded'))
  -- `coordinator::crash`
  crash : (r : Moved s) → RoutineCalls s r → (c : ℕ) → c ≤ last_coordinator
      → (a : Answer) → CrashEnsures s (r.world.coordinators c) a
      → RoutineCalls s (joined s r (driven s r.world c a (r.world.coordinators c).blocks (r.world.coordinators c).stripe []))
  -- `volume::receive`: a message goes to its brick if that is up. Beside one that is no Write or Modify anything may be lent, and any buffer
  -- for the reply: the contract says what is refused.
  receive : (r : Moved s) → RoutineCalls s r → (b : ℕ) (msg : Message) (block old : List ℕ) → message b msg block old ∈ r.world.sent
      → r.world.up b ≡ true
      → (lent lent_old out : List ℕ) → LentWith msg block old lent lent_old
      → (g : Given) (images' out' : List ℕ)
      → outcome_with g images' out' ≡ row_outcome s b (r.world.images b) msg lent lent_old out
      → RoutineCalls s (joined s r (received s r.world b (outcome_with g images' (held_block s g out'))))
  -- `brick::receive`: the same with the image of the message's stripe lent alone, and put back into its place in the row
  receive_image : (r : Moved s) → RoutineCalls s r → (b : ℕ) (msg : Message) (block old : List ℕ)
      → message b msg block old ∈ r.world.sent → r.world.up b ≡ true
      → (lent lent_old out : List ℕ) → LentWith msg block old lent lent_old
      → (g : Given) (image' out' : List ℕ)
      → outcome_with g image' out' ≡ outcome s b (image_at s msg.stripe (r.world.images b)) msg lent lent_old out
      → RoutineCalls s
      (joined s r (received s r.world b (outcome_with g (with_image s msg.stripe image' (r.world.images b)) (held_block s g out'))))
  -- a brick goes down, or comes up with its image as saved
  brick_goes_down : (r : Moved s) → RoutineCalls s r → (b : ℕ) → RoutineCalls s (joined s r (standing s r.world b false))
  brick_comes_up : (r : Moved s) → RoutineCalls s r → (b : ℕ) → RoutineCalls s (joined s r (standing s r.world b true))
  -- power fails at a coordinator, where an operation runs or none
  power_fails : (r : Moved s) → RoutineCalls s r → (c : ℕ) → c ≤ last_coordinator
      → (blocks stripe : List ℕ) → BufferLengths s blocks stripe
      → RoutineCalls s (joined s r (failed s r.world c blocks stripe))

-- A coordinator of the calls beside the same one of a run: they are equal; or it has begun nothing yet, and they differ in the last count
-- alone, which is 0 in the run.
pub data Alike (s : Settings) (c : ℕ) (k j : Buffered) : Type 0 where
  equal : k ≡ j → Alike s c k j
  begun_nothing : (last : ℕ) (blocks stripe : List ℕ) → k ≡ idle_at s c last blocks stripe → j ≡ idle_at s c 0 blocks stripe → Alike s c k j

-- the same images and bricks up, below n, the same 16 coordinators, up to the counts of those that have begun nothing, and the same sent
pub record Agrees (s : Settings) (w v : World) : Type 0 where
  pub same-image : (b : ℕ) → b < s.n → w.images b ≡ v.images b
  pub same_up : (b : ℕ) → b < s.n → w.up b ≡ v.up b
  pub same-coordinator : (c : ℕ) → c ≤ last_coordinator → Alike s c (w.coordinators c) (v.coordinators c)
  pub same_sent : w.sent ≡ v.sent

-- Whoever makes such calls has made a run of some events, from last counts of 0 on: what is seen is what is seen of that run, and the world
-- agrees with the run's.
abbrev pub WhoeverCallsMakesARun : Type 0
WhoeverCallsMakesARun =
    (s : Settings) → in_range s ≡ true → (r : Moved s) → RoutineCalls s r
    → (events : List Event) × ((k : ℕ) → r.seen k ≡ (run s events).seen k) × Agrees s r.world (run s events).world

-- Demand 3 of what is seen by whoever makes such calls, stripe by stripe.
abbrev pub WhoeverCallsHasOneOrder : Type 0
WhoeverCallsHasOneOrder =
    (s : Settings) → in_range s ≡ true → (r : Moved s) → RoutineCalls s r → (stripe : ℕ) → stripe < s.stripes → OneOrder (plain s) (r.seen stripe)

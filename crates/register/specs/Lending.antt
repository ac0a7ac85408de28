-- No duty is hidden in what is lent, nor in what is left after a crash. Proved in `proofs/Laws/LendingLaws`.
use Rattle.std.specs.Prelude.{◌≡◌, true, List, ℕ, ◌≤◌, length}
use Rattle.settings.specs.Ranges.{in_range, max_bricks}
use Rattle.settings.specs.Refusal.{passed}
use Rattle.settings.specs.Times.{last_coordinator}
use Rattle.settings.specs.declared.Settings.{Settings}
use Rattle.message.specs.Kinds.{write_kind, modify_kind}
use Rattle.message.specs.declared.Message.{Message}
use Rattle.message.specs.declared.Reply.{Reply}
use Rattle.brick.specs.Receive.{Outcome}
use Rattle.volume.specs.Rows.{row_outcome}
use Rattle.coord_record.specs.Records.{geometry_of, idle_with}
use Rattle.coord_record.specs.declared.Coordinator.{Coordinator}
use Rattle.coord_apply.specs.Answers.{Buffered, answer_of}
use Rattle.coord_laws.specs.Soundness.{Sized}
use Rattle.coordinator.specs.Routines.{take_step, crash_step}
use Rattle.register.specs.Runs.{Event, run}
use Rattle.register.specs.Driver.{holds}

-- the same answer and images, and the same block where one is held
pub record SameAnswer (a b : Outcome) : Type 0 where
  pub given_is : a.given ≡ b.given
  pub image-is : a.image ≡ b.image
  pub block-is : holds a.given ≡ true → a.out ≡ b.out

-- A brick: the reply's buffer may hold any bytes, and so may the block beside a message that is no Write or Modify, and the old block beside
-- one that is no Modify.
abbrev pub LentBytesMakeNoDifference : Type 0
LentBytesMakeNoDifference =
    (s : Settings) (b : ℕ) (images : List ℕ) (msg : Message) (block block' old old' out out' : List ℕ)
    → length block ≡ length block'
    → length old ≡ length old'
    → length out ≡ length out'
    → (msg.kind ≡ write_kind → block ≡ block')
    → (msg.kind ≡ modify_kind → (block ≡ block') × (old ≡ old'))
    → SameAnswer (row_outcome s b images msg block old out) (row_outcome s b images msg block' old' out')

-- A coordinator: what lies beside a reply that holds no block may be anything.
abbrev pub UnheldBlocksMakeNoDifference : Type 0
UnheldBlocksMakeNoDifference =
    (n m size stripes : ℕ) (k : Buffered) (r : Reply) (block block' : List ℕ) (coded : ℕ) → (r.held ≡ true → block ≡ block')
    → take_step n m size stripes k r block coded ≡ take_step n m size stripes k r block' coded

-- "A crash makes the coordinator idle and keeps its count": in every run, `crash` gives what `idle_with` makes of the coordinator's
-- number and its last count, also where no operation ran.
abbrev pub CrashIsIdleWith : Type 0
CrashIsIdleWith =
    (s : Settings) → in_range s ≡ true → (events : List Event) (c : ℕ) → c ≤ last_coordinator
    → (answer_of ((run s events).world.coordinators c).state (crash_step s.n s.m s.size s.stripes ((run s events).world.coordinators c))).next
    ≡ idle_with (geometry_of s) (record { coordinator = c; last = ((run s events).world.coordinators c).state.clock.last })

-- arrays of 16 places, as the code's records have them
pub record SixteenPlaces (c : Coordinator) : Type 0 where
  pub tally-sized : Sized c.tally
  pub bricks-sized : length c.bricks ≡ max_bricks

-- The same of every call of `crash` that is not refused, in a run or not.
abbrev pub AcceptedCrashIsIdleWith : Type 0
AcceptedCrashIsIdleWith =
    (n m size stripes : ℕ) (k : Buffered) → SixteenPlaces k.state
    → (answer_of k.state (crash_step n m size stripes k)).refusal ≡ passed
    → (answer_of k.state (crash_step n m size stripes k)).next ≡ idle_with (record { n = n; m = m; size = size; stripes = stripes }) k.state.clock

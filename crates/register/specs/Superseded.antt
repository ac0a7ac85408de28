-- Document 02, E6: which times are superseded, and what is never cleared, in every run from fresh. What a brick has stored is read off its yes
-- replies to Write and Modify: they stand among what was sent, for ever. Proved in `proofs/Laws/SupersededLaws`.
use Rattle.std.specs.Prelude.{◌≡◌, ◌⊎◌, true, false, List, ◌++◌, ℕ, ◌≤◌, ◌<◌}
use Rattle.byte_lists.specs.Each.{some}
use Rattle.settings.specs.Count.{count}
use Rattle.settings.specs.Ranges.{in_range, quorum}
use Rattle.settings.specs.declared.Settings.{Settings}
use Rattle.message.specs.Kinds.{order_read_kind, trim_kind, drop_kind}
use Rattle.message.specs.Messages.{is_silent, stores_entry}
use Rattle.message.specs.declared.Message.{Message}
use Rattle.message.specs.declared.Reply.{Reply}
use Rattle.image.specs.Brick.{Brick, entry_count, time_at}
use Rattle.brick_log.specs.BrickRules.{brick_after}
use Rattle.coord_record.specs.declared.Tally.{Tally}
use Rattle.coord_tally.specs.Counting.{said_no, highest, at_times}
use Rattle.order.specs.Claim.{◌∈◌}
use Rattle.order.specs.Quorums.{Many}
use Rattle.register.specs.Runs.{Item, message, reply, World, Event, run}
use Rattle.register.specs.Entries.{HasState}
use Rattle.register.specs.Recoveries.{addressee, counted_at, QthReply}

-- brick b said yes to a Write or Modify of this time on a stripe
pub record SaidStored (sent : List Item) (stripe b time : ℕ) : Type 0 where
  pub answer : Reply
  pub block : List ℕ
  pub was-sent : reply answer block ∈ sent
  pub of-stripe : answer.stripe ≡ stripe
  pub of-brick : answer.brick ≡ b
  pub of-time : answer.time ≡ time
  pub stores : stores_entry answer.kind ≡ true
  pub said-yes : answer.yes ≡ true

-- "q bricks have stored" it
abbrev pub QuorumStored : (s : Settings) → (sent : List Item) → (stripe time : ℕ) → Type 0
QuorumStored s sent stripe time = Many s.n (quorum s.n s.m) (λ b. SaidStored sent stripe b time)

-- "that time is superseded: in a run it never gets to q bricks, or q bricks have stored a later one": whatever events follow
abbrev pub Superseded : (s : Settings) → List Event → (stripe time : ℕ) → Type 0
Superseded s events stripe time =
    ((later : List Event) → ¬ QuorumStored s (run s (events ++ later)).world.sent stripe time)
    ⊎ ((t : ℕ) × (time < t) × QuorumStored s (run s events).world.sent stripe t)

-- what is counted of a round, once this reply is
abbrev pub tallied_at : Settings → World → Reply → List ℕ → Tally
tallied_at s w a block = (counted_at s w a block).state.tally

-- A reply is taken as the q-th of an Order-and-read round, all q say yes, and the highest time among those that hold a block, other than 0, is on
-- fewer than m of them.
pub record FoundOnFew (s : Settings) (w : World) (a : Reply) (block : List ℕ) (time : ℕ) : Type 0 where
  pub qth : QthReply s w a block
  pub recovers : (counted_at s w a block).state.op.phase ≡ order_read_kind
  pub all_yes : some (said_no (tallied_at s w a block).counted (tallied_at s w a block).granted) s.n ≡ false
  pub is-highest : time ≡ highest (tallied_at s w a block).held (tallied_at s w a block).found s.n
  pub not-zero : time ≡ 0 → ⊥
  pub on-few : count (at_times (tallied_at s w a block).held (tallied_at s w a block).found time) s.n < s.m

-- "If a recovery round with q yes replies finds its highest time, other than 0, on fewer than m of them, that time is superseded".
abbrev pub RecoveryRoundsSupersede : Type 0
RecoveryRoundsSupersede =
    (s : Settings) → in_range s ≡ true → (events : List Event) (a : Reply) (block : List ℕ) (time : ℕ) → FoundOnFew s (run s events).world a block time
    → Superseded s events (addressee (run s events).world a).state.op.stripe time

-- So is the time of every Drop that was sent.
abbrev pub DroppedTimesAreSuperseded : Type 0
DroppedTimesAreSuperseded =
    (s : Settings) → in_range s ≡ true → (events : List Event) (stripe : ℕ) → stripe < s.stripes
    → (b : ℕ) (msg : Message) (block old : List ℕ) → message b msg block old ∈ (run s events).world.sent → msg.stripe ≡ stripe → msg.kind ≡ drop_kind
    → Superseded s events stripe msg.time

-- And every Trim that was sent, early or not, is of a time that q bricks have stored.
abbrev pub TrimmedTimesAreStored : Type 0
TrimmedTimesAreStored =
    (s : Settings) → in_range s ≡ true → (events : List Event) (stripe : ℕ) → stripe < s.stripes
    → (b : ℕ) (msg : Message) (block old : List ℕ) → message b msg block old ∈ (run s events).world.sent → msg.stripe ≡ stripe → msg.kind ≡ trim_kind
    → QuorumStored s (run s events).world.sent stripe msg.time

-- the highest time that q bricks have stored; 0, which a fresh brick has, where there is none
pub record HighestStored (s : Settings) (sent : List Item) (stripe time : ℕ) : Type 0 where
  pub is-stored : (time ≡ 0) ⊎ QuorumStored s sent stripe time
  pub highest : (t : ℕ) → QuorumStored s sent stripe t → t ≤ time

-- a log has an entry of this time
abbrev pub HasTime : Brick → ℕ → Type 0
HasTime x time = (i : ℕ) × (i < entry_count x) × (time_at x i ≡ time)

-- Whatever was cleared, a brick that has stored the highest time that q bricks stored has it in its log.
abbrev pub HighestStays : Type 0
HighestStays =
    (s : Settings) → in_range s ≡ true → (events : List Event) (stripe : ℕ) → stripe < s.stripes
    → (time : ℕ) → HighestStored s (run s events).world.sent stripe time
    → (b : ℕ) → b < s.n → (time ≡ 0) ⊎ SaidStored (run s events).world.sent stripe b time
    → (x : Brick) → HasState s (run s events).world stripe b x → HasTime x time

-- No Trim or Drop of a run removes the highest time that q bricks stored: where a brick has it, it still does after each of them that was sent to
-- it, whenever that arrives.
abbrev pub ClearingKeepsTheHighest : Type 0
ClearingKeepsTheHighest =
    (s : Settings) → in_range s ≡ true → (events : List Event) (stripe : ℕ) → stripe < s.stripes
    → (time : ℕ) → HighestStored s (run s events).world.sent stripe time
    → (b : ℕ) (msg : Message) (block old : List ℕ) → message b msg block old ∈ (run s events).world.sent → msg.stripe ≡ stripe → is_silent msg.kind ≡ true
    → (x : Brick) → HasState s (run s events).world stripe b x → HasTime x time → HasTime (brick_after s b x msg block old) time

-- What holds of one stripe at each moment of a run, with the history of the stripe so far: for each brick, for each item sent, for each
-- coordinator.
use mathlib.Core.Path.{◌≡◌}
use mathlib.Core.Logic.{◌⊎◌}
use mathlib.Core.Bool.{Bool, true, cond, not, ◌&&◌}
use mathlib.Core.List.{List, [], ◌∷◌}
use Prim.Native.Nat.{ℕ, ◌≤◌, ◌<◌}
use lib.Dec.{eqb}
use lib.ListN.{length, get_or}
use Rattle.settings.specs.Ranges.{quorum, SettingsRange}
use Rattle.settings.proofs.Laws.QuorumLaws.{quorum_twice}
use Rattle.settings.specs.Times.{time_of, coordinator_of}
use Rattle.settings.specs.declared.Settings.{Settings}
use Rattle.byte_lists.specs.Each.{some}
use Rattle.message.specs.Flags.{member}
use Rattle.message.specs.Kinds.{read_kind, order_kind, order_read_kind, order_block_kind, write_kind, modify_kind, trim_kind, drop_kind, third_round}
use Rattle.message.specs.Messages.{stores_entry}
use Rattle.message.specs.declared.Message.{Message}
use Rattle.message.specs.declared.Reply.{Reply}
use Rattle.image.specs.Brick.{Brick, entry_count, time_at, means_at, Sound}
use Rattle.image.specs.Image.{image_of}
use Rattle.erasure.specs.Code.{coded_of, block_of, with_block, Stripe}
use Rattle.coord_record.specs.Records.{idle_kind, writing_kind, writing_block_kind, target_count, idle_with}
use Rattle.coord_record.specs.CountedRules.{is_target, block_right}
use Rattle.coord_tally.specs.Counting.{highest}
use Rattle.coord_apply.specs.Answers.{Buffered}
use Rattle.coord_laws.specs.Soundness.{Sized}
use Rattle.volume.specs.Rows.{image_at}
use Rattle.order.specs.Claim.{Plain, Seen, ◌∈◌}
use Rattle.order.specs.Facts.{began, promised, stored, showed, History, seen}
use Rattle.order.specs.Places.{Suf, In}
use Rattle.order.specs.Quorums.{Quorums}
use Rattle.order.specs.Valid.{Began, Launched, Ended, PromisedUpTo, Val, Committed, Passed, Gone, Valid}
use Rattle.register.specs.Runs.{plain, Item, message, reply, Moved, begun_kind}

-- The quorums of a setting.
abbrev pub quorums : (s : Settings) → SettingsRange s → Quorums
quorums s g =
    record {
      n = s.n;
      m = s.m;
      q = quorum s.n s.m;
      share = quorum_twice s.n s.m g.code.m-high;
      some = g.code.m-low;
    }

abbrev pub Hist : Settings → Type 0
Hist s = History (plain s)

-- The block is coded block b of a stripe that t stands for.
pub record Means (s : Settings) (h : Hist s) (t b : ℕ) (block : List ℕ) : Type 0 where
  pub full : List ℕ
  pub value : Val h t full
  pub proper : Stripe s.m s.size full
  pub coded : block ≡ block_of s.size (coded_of s.n s.m s.size full) b

-- A brick has time t by itself: t is 0, or the brick stored it.
abbrev pub Stands : {P : Plain} → History P → ℕ → ℕ → Type 0
Stands h b t = (t ≡ 0) ⊎ In (stored b t) h

-- a time stands at some place of the log
abbrev pub LogHas : Brick → ℕ → Type 0
LogHas x u = (j : ℕ) × (j < entry_count x) × (time_at x j ≡ u)

-- Brick b, in the state x.
pub record BrickInv (s : Settings) (g : SettingsRange s) (h : Hist s) (b : ℕ) (x : Brick) : Type 0 where
  -- its promise bounds what it promised
  pub bounded : PromisedUpTo h b x.promise
  -- the time at each place is 0 or stored, and the place means what its time stands for
  pub entries : (j : ℕ) → j < entry_count x → Stands h b (time_at x j) × Means s h (time_at x j) b (means_at x j)
  -- what it stored is at some place of its log, or gone
  pub kept : (u : ℕ) → Stands h b u → LogHas x u ⊎ Gone (quorums s g) h u
  -- the fresh entry is there until a later time is committed
  pub kept-zero : LogHas x 0 ⊎ Passed (quorums s g) h 0

-- a block that block j of a stripe may become
pub record Piece (s : Settings) (j : ℕ) (block : List ℕ) : Type 0 where
  pub low : j < s.m
  pub sized : length block ≡ s.size
  pub small : (i : ℕ) → get_or block i 0 < 256

-- Modify over its old time: that stands for a stripe whose block j is the old block, and the message's time for the stripe with the new one.
pub record Modifies (s : Settings) (h : Hist s) (msg : Message) (new old : List ℕ) : Type 0 where
  pub sent : Launched h msg.time
  pub full : List ℕ
  pub value : Val h msg.old full
  pub proper : Stripe s.m s.size full
  pub piece : Piece s msg.block new
  pub old-is : old ≡ block_of s.size full msg.block
  pub after : Val h msg.time (with_block s.size full msg.block new)

-- A message to brick b.
pub record MessageInv (s : Settings) (g : SettingsRange s) (h : Hist s) (b : ℕ) (msg : Message) (block old : List ℕ) : Type 0 where
  pub brick-low : b < s.n
  pub asks : msg.kind ≤ order_block_kind → Began h msg.time
  pub stores : msg.kind ≡ write_kind → Launched h msg.time × Means s h msg.time b block
  pub modifies : msg.kind ≡ modify_kind → Modifies s h msg block old
  pub trims : msg.kind ≡ trim_kind → (0 < msg.time) × Committed (quorums s g) h msg.time
  pub drops : msg.kind ≡ drop_kind → (0 < msg.time) × Gone (quorums s g) h msg.time

-- What a yes to Order-and-read says of all that the brick stored: for the max of some such message of that time and round that was sent.
pub record Looked (s : Settings) (g : SettingsRange s) (h : Hist s) (sent : List Item) (r : Reply) : Type 0 where
  pub asked : Message
  pub with-block : List ℕ
  pub with-old : List ℕ
  pub was-sent : message r.brick asked with-block with-old ∈ sent
  pub kind-is : asked.kind ≡ order_read_kind
  pub time-is : asked.time ≡ r.time
  pub round_is : asked.round ≡ r.round
  pub nothing-else : (u : ℕ) → u < r.time → u < asked.max → Stands h r.brick u
      → ((r.held ≡ true) × (u ≤ r.found)) ⊎ Gone (quorums s g) h u

-- What a yes to the first round of a block write says: the time found is the brick's own, and all that it stored is at most that or gone.
pub record Newest (s : Settings) (g : SettingsRange s) (h : Hist s) (r : Reply) : Type 0 where
  pub below : r.found < r.time
  pub stands : Stands h r.brick r.found
  pub nothing-else : (u : ℕ) → u < r.time → Stands h r.brick u → (u ≤ r.found) ⊎ Gone (quorums s g) h u

-- A reply that says yes.
pub record ReplyInv (s : Settings) (g : SettingsRange s) (h : Hist s) (sent : List Item) (r : Reply) (block : List ℕ) : Type 0 where
  pub brick-low : r.brick < s.n
  pub orders : r.yes ≡ true → r.kind ≡ order_kind → In (promised r.brick r.time) h
  pub writes : r.yes ≡ true → r.kind ≡ write_kind → In (stored r.brick r.time) h
  pub modifies : r.yes ≡ true → r.kind ≡ modify_kind → In (stored r.brick r.time) h
  pub reads : r.yes ≡ true → r.kind ≡ read_kind → In (showed r.brick r.time r.found) h
  pub shows : r.yes ≡ true → r.kind ≡ read_kind → r.held ≡ true → Means s h r.found r.brick block
  pub looks : r.yes ≡ true → r.kind ≡ order_read_kind → In (promised r.brick r.time) h
  pub finds : r.yes ≡ true → r.kind ≡ order_read_kind → r.held ≡ true
      → (r.found < r.time) × Stands h r.brick r.found × Means s h r.found r.brick block
  pub looked : r.yes ≡ true → r.kind ≡ order_read_kind → Looked s g h sent r
  pub joins : r.yes ≡ true → r.kind ≡ order_block_kind → In (promised r.brick r.time) h
  pub newest : r.yes ≡ true → r.kind ≡ order_block_kind → Newest s g h r
  pub lends : r.yes ≡ true → r.kind ≡ order_block_kind → r.held ≡ true → Means s h r.found r.brick block

abbrev pub ItemInv : (s : Settings) (g : SettingsRange s) → Hist s → List Item → Item → Type 0
ItemInv s g h sent (message b msg block old) = MessageInv s g h b msg block old
ItemInv s g h sent (reply r block) = ReplyInv s g h sent r block

-- A brick that a coordinator has counted in the open round: its reply was sent, fits the round, and is what is kept of it.
pub record CountedInv (s : Settings) (sent : List Item) (k : Buffered) (b : ℕ) : Type 0 where
  pub from : Reply
  pub block : List ℕ
  pub was-sent : reply from block ∈ sent
  pub low : b < s.n
  pub brick-is : from.brick ≡ b
  pub kind-is : from.kind ≡ k.state.op.phase
  pub time-is : from.time ≡ k.state.op.time
  pub round_is : from.round ≡ k.state.op.round
  pub yes-is : from.yes ≡ member k.state.tally.granted b
  pub held-is : from.held ≡ member k.state.tally.held b
  pub found-is : from.found ≡ get_or k.state.tally.found b 0
  pub said-is : from.comparison ≡ get_or k.state.tally.said b 0
  pub block-is : from.held ≡ true → block_of s.size k.blocks b ≡ block
  pub right : block_right k.state.op.phase (is_target s.n (target_count s.m k.state.op.kind) k.state.op.first b)
      from.yes from.held from.found ≡ true

-- What was sent asks of an operation: an Order-and-read of its time is of an earlier round, or of this one with this max.
abbrev pub Asked : List Item → (time round phase max : ℕ) → Type 0
Asked sent time round phase max =
    (b : ℕ) (msg : Message) (block old : List ℕ) → message b msg block old ∈ sent → msg.kind ≡ order_read_kind → msg.time ≡ time
    → (msg.round ≤ round) × (msg.round ≡ round → (phase ≡ order_read_kind) × (msg.max ≡ max))

-- An Order-and-read of a round after the second was sent for the operation of this time: its recovery tried a lower time.
pub record Lowered (sent : List Item) (time : ℕ) : Type 0 where
  pub brick : ℕ
  pub asked : Message
  pub block : List ℕ
  pub old : List ℕ
  pub was-sent : message brick asked block old ∈ sent
  pub kind-is : asked.kind ≡ order_read_kind
  pub time-is : asked.time ≡ time
  pub late : third_round ≤ asked.round

-- the highest time among the replies that hold a block
abbrev pub top_of : Settings → Buffered → ℕ
top_of s k = highest k.state.tally.held k.state.tally.found s.n

-- The running operation of coordinator c.
pub record Running (s : Settings) (g : SettingsRange s) (h : Hist s) (sent : List Item) (c : ℕ) (k : Buffered) : Type 0 where
  pub own : coordinator_of k.state.op.time ≡ c
  -- it began as what the record and the stripe beside it say
  pub begun : In (began k.state.op.time (begun_kind s k)) h
  pub proper : k.state.op.kind ≡ writing_kind → Stripe s.m s.size k.stripe
  pub piece : k.state.op.kind ≡ writing_block_kind → Piece s k.state.op.first (block_of s.size k.stripe k.state.op.first)
  pub unended : ¬ Ended h k.state.op.time
  pub unsent : (k.state.op.phase ≡ write_kind → ⊥) → (k.state.op.phase ≡ modify_kind → ⊥) → ¬ Launched h k.state.op.time
  pub counts : (b : ℕ) → member k.state.tally.counted b ≡ true → CountedInv s sent k b
  pub holds : (b : ℕ) → member k.state.tally.held b ≡ true → member k.state.tally.counted b ≡ true
  pub asked : Asked sent k.state.op.time k.state.op.round k.state.op.phase k.state.op.max
  -- a recovery past its first round has tried a lower time, and so has a store after that
  pub looked-lower : k.state.op.phase ≡ order_read_kind → third_round ≤ k.state.op.round → Lowered sent k.state.op.time
  pub stored-lower : k.state.op.phase ≡ write_kind → third_round < k.state.op.round → Lowered sent k.state.op.time
  -- in a recovery, every time from its bound on is gone
  pub cleared : k.state.op.phase ≡ order_read_kind → (u : ℕ) → k.state.op.max ≤ u → u < k.state.op.time → Gone (quorums s g) h u
  -- in a Write round, what is stored is what the operation's time stands for
  pub storing : k.state.op.phase ≡ write_kind
      → Launched h k.state.op.time × Val h k.state.op.time k.stripe × Stripe s.m s.size k.stripe
  -- in a Modify round it was sent
  pub modifying : k.state.op.phase ≡ modify_kind → Launched h k.state.op.time

-- The clock of coordinator c: the times it used are at most its last.
pub record ClockInv (s : Settings) (h : Hist s) (c : ℕ) (k : Buffered) : Type 0 where
  pub number : k.state.clock.coordinator ≡ c
  pub used : (t : ℕ) → Began h t → coordinator_of t ≡ c → t ≤ time_of k.state.clock.last c

-- Coordinator c with its buffers.
pub record CoordinatorInv (s : Settings) (g : SettingsRange s) (h : Hist s) (sent : List Item) (c : ℕ) (k : Buffered) : Type 0 where
  pub number : k.state.clock.coordinator ≡ c
  -- the times it used are at most its last
  pub used : (t : ℕ) → Began h t → coordinator_of t ≡ c → t ≤ time_of k.state.clock.last c
  pub sized : Sized k.state.tally
  -- without an operation, the record is that of its clock alone
  pub idle-is : k.state.op.kind ≡ idle_kind → k.state ≡ idle_with k.state.geometry k.state.clock
  pub runs : (k.state.op.kind ≡ idle_kind → ⊥) → Running s g h sent c k

-- The image of brick b is the saved form of a brick that keeps its rules.
pub record ImageInv (s : Settings) (g : SettingsRange s) (h : Hist s) (b : ℕ) (image : List ℕ) : Type 0 where
  pub state : Brick
  pub saved : image ≡ image_of s b state
  pub sound : Sound s state
  pub keeps : BrickInv s g h b state

-- What a world is to one stripe: its images by brick, the coordinators, what was sent and what was seen of it.
pub record View (s : Settings) : Type 0 where
  pub images : ℕ → List ℕ
  pub coordinators : ℕ → Buffered
  pub sent : List Item
  pub seen : List (Seen (plain s))

-- Brick b said yes to a Write or Modify of time t: its reply stands among what was sent.
pub record ToldStored (sent : List Item) (b t : ℕ) : Type 0 where
  pub from : Reply
  pub block : List ℕ
  pub was-sent : reply from block ∈ sent
  pub brick-is : from.brick ≡ b
  pub time-is : from.time ≡ t
  pub yes-is : from.yes ≡ true
  pub kind-is : stores_entry from.kind ≡ true

-- What holds of a view, with the history of the stripe so far.
pub record ViewInv (s : Settings) (g : SettingsRange s) (h : Hist s) (v : View s) : Type 0 where
  pub valid : Valid (quorums s g) h
  pub seen-is : seen h ≡ v.seen
  pub bricks : (b : ℕ) → b < s.n → ImageInv s g h b (v.images b)
  pub items : (i : Item) → i ∈ v.sent → ItemInv s g h v.sent i
  pub coordinators : (c : ℕ) → CoordinatorInv s g h v.sent c (v.coordinators c)
  pub told : (b t : ℕ) → In (stored b t) h → ToldStored v.sent b t

-- the same after some event, with a history that goes on from this one
abbrev pub Goes : (s : Settings) (g : SettingsRange s) → Hist s → View s → Type 0
Goes s g h v = (h' : Hist s) × Suf h h' × ViewInv s g h' v

-- an item of this stripe
unfoldable pub item_on : ℕ → Item → Bool
item_on k (message b msg block old) = eqb msg.stripe k
item_on k (reply r block) = eqb r.stripe k

unfoldable pub items_on : ℕ → List Item → List Item
items_on k [] = []
items_on k (i ∷ is) = cond (item_on k i) (i ∷ items_on k is) (items_on k is)

-- a coordinator runs an operation of this stripe
unfoldable pub runs_on : ℕ → Buffered → Bool
runs_on k h = not (eqb h.state.op.kind idle_kind) && eqb h.state.op.stripe k

-- A coordinator that runs on another stripe counts as idle here: of it only the clock matters.
unfoldable pub viewed : ℕ → Buffered → Buffered
viewed k h = cond (runs_on k h) h (record { state = idle_with h.state.geometry h.state.clock; blocks = h.blocks; stripe = h.stripe })

-- the world as stripe k sees it
unfoldable pub view : {s : Settings} → ℕ → Moved s → View s
view {s} k r =
    record {
      images = λ (b : ℕ). image_at s k (r.world.images b);
      coordinators = λ (c : ℕ). viewed k (r.world.coordinators c);
      sent = items_on k r.world.sent;
      seen = r.seen k;
    }

-- What holds of stripe k at each moment of a run.
abbrev pub Inv : (s : Settings) (g : SettingsRange s) → ℕ → Hist s → Moved s → Type 0
Inv s g k h r = ViewInv s g h (view k r)

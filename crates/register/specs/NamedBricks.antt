-- Which bricks a finished read of a run names, and what it gives, by the replies counted. Document 01: "A finished read names the m bricks decoded
-- from." Document 02, E2: reading block j in one round "has brick j as its only target, and names it alone"; E7: "Two service books for one read
-- list different bricks. A recovered read shall name, and decode from, the first m in brick number among those that gave the chosen time; E3's
-- check takes the rest." How many a notice names is `coord_apply/Answers.named_in`. Proved in `proofs/Laws/NamedBrickLaws`.
use Rattle.std.specs.Prelude.{◌≡◌, ◌⊎◌, true, false, List, [], ◌∷◌, ◌++◌, ℕ, zero, suc, ◌*◌, ◌≤◌, ◌<◌, length, get_or, take}
use Rattle.settings.specs.Ranges.{in_range}
use Rattle.settings.specs.declared.Settings.{Settings}
use Rattle.message.specs.Flags.{member}
use Rattle.message.specs.Kinds.{order_read_kind, write_kind}
use Rattle.message.specs.declared.Reply.{Reply}
use Rattle.erasure.specs.Code.{block_of, coded_of}
use Rattle.coord_record.specs.Records.{on_block}
use Rattle.coord_record.specs.declared.Op.{Op}
use Rattle.coord_tally.specs.Counting.{in_row, target_row}
use Rattle.coord_tally.specs.FirstTheorem.{FirstOf}
use Rattle.coord_letters.specs.Letters.{letter_f, letter_h, letter_l}
use Rattle.coord_blocks.specs.Blocks.{stripe_from}
use Rattle.coord_apply.specs.Acts.{next_op}
use Rattle.coord_apply.specs.Answers.{Buffered, Went, went, named_in}
use Rattle.coord_apply.specs.declared.Notice.{Notice}
use Rattle.coordinator.specs.Routines.{take_step}
use Rattle.order.specs.Claim.{◌∈◌}
use Rattle.register.specs.Recoveries.{addressee, counted_at, QthReply}
use Rattle.register.specs.RunLetters.{Counted, kept_reply, Met, AllSaidYes}
use Rattle.register.specs.Runs.{Item, reply, Event, arrives, run}

-- brick b gave a block of this time: its reply is counted, and holds one
abbrev pub Gave : Buffered → (time b : ℕ) → Type 0
Gave k time b = Counted k b × ((kept_reply k b).held ≡ true) × ((kept_reply k b).found ≡ time)

-- READ IN ONE ROUND. What such a read names and gives, by what its coordinator k has counted; `stripe` is the one beside its record then.
pub record OneRoundRead (s : Settings) (k : Buffered) (e : Notice) (stripe : List ℕ) : Type 0 where
  -- those named gave blocks of one time (that all q said yes with it tells the letter: `RunLetters.Tells`)
  pub newest : ℕ
  pub gave : (i : ℕ) → i < length (named_in s.m e) → Gave k newest (get_or (named_in s.m e) i 0)
  -- a read of the stripe names its targets, "m bricks counted upward from a given one, wrapping at n", in this order, and decodes their blocks
  pub targets : on_block k.state.op.kind ≡ false → named_in s.m e ≡ take s.m (target_row s.n s.m k.state.op.first)
  pub decoded : on_block k.state.op.kind ≡ false → stripe ≡ stripe_from s.m s.size (named_in s.m e) k.blocks
  -- a read of block j names brick j alone, and what stands for block j in the stripe is the block of that brick's reply
  pub alone : on_block k.state.op.kind ≡ true → named_in s.m e ≡ k.state.op.first ∷ []
  pub given : on_block k.state.op.kind ≡ true
      → block_of s.size stripe k.state.op.first ≡ block_of s.size k.blocks k.state.op.first

-- In a run from fresh, a reply at which a read, of the stripe or of one block, ends with F: what it names and gives is so, by the replies counted,
-- this one among them.
abbrev pub OneRoundReadsNameTheirTargets : Type 0
OneRoundReadsNameTheirTargets =
    (s : Settings) → in_range s ≡ true → (events : List Event) (a : Reply) (block : List ℕ) (g : Went)
    → let w = (run s events).world in let k = counted_at s w a block in
    reply a block ∈ w.sent → take_step s.n s.m s.size s.stripes (addressee w a) a block (s.n * s.size) ≡ went g
    → g.seen.letter ≡ letter_f
    → Met s w.sent k × OneRoundRead s k g.seen g.next.stripe

-- RECOVERED. The item at a place of what was sent, from 0:
unfoldable pub IsAt : List Item → ℕ → Item → Type 0
IsAt [] k i = ⊥
IsAt (j ∷ is) zero i = j ≡ i
IsAt (j ∷ is) (suc k) i = IsAt is k i

-- The event of a run at which the recovery of a read that is in its store was decided: the arrival of a reply, taken as the q-th of the
-- Order-and-read round right before the store.
pub record Recovery (s : Settings) (events : List Event) (op : Op) : Type 0 where
  pub earlier : List Event
  pub place : ℕ
  pub later : List Event
  pub parts : events ≡ earlier ++ (arrives place ∷ later)
  pub last : Reply
  pub block : List ℕ
  pub arrived : IsAt (run s earlier).world.sent place (reply last block)
  pub qth : QthReply s (run s earlier).world last block
  pub phase-is : (counted_at s (run s earlier).world last block).state.op.phase ≡ order_read_kind
  pub store_is : op ≡ next_op (counted_at s (run s earlier).world last block).state.op write_kind 0

-- its coordinator there, with that reply counted
abbrev pub recovered_at : (s : Settings) (events : List Event) (op : Op) → Recovery s events op → Buffered
recovered_at s events op x = counted_at s (run s x.earlier).world x.last x.block

-- In a run from fresh there is at most one: two such records are of the same replies counted, with the same buffers.
abbrev pub RecoveriesAreOne : Type 0
RecoveriesAreOne =
    (s : Settings) → in_range s ≡ true → (events : List Event) (op : Op) (x y : Recovery s events op)
    → recovered_at s events op x ≡ recovered_at s events op y

-- What a recovered read names, and the stripe that it recovered, by what its coordinator k had counted when that was decided.
pub record RecoveredRead (s : Settings) (k : Buffered) (e : Notice) (stripe : List ℕ) : Type 0 where
  pub all_yes : AllSaidYes k
  -- "Take the highest time among replies that hold a block": none is above it, and those named gave it
  pub chosen : ℕ
  pub highest : (b : ℕ) → Counted k b → (kept_reply k b).held ≡ true → (kept_reply k b).found ≤ chosen
  -- "name .. the first m in brick number among those that gave the chosen time"; the row is 0 past them
  pub first : FirstOf (Gave k chosen) s.m (named_in s.m e)
  pub row_is : e.bricks ≡ in_row (named_in s.m e)
  -- "and decode from"
  pub decoded : stripe ≡ stripe_from s.m s.size (named_in s.m e) k.blocks
  -- "E3's check takes the rest": every block of the chosen time, a named brick's or not, is the coded block of that stripe
  pub checked : (b : ℕ) → Gave k chosen b → block_of s.size k.blocks b ≡ block_of s.size (coded_of s.n s.m s.size stripe) b

-- In a run from fresh, a reply at which a read, of the stripe or of one block, ends with H or L: it names these bricks, and the stripe beside its
-- record, which it gives or whose block it gives, is that one.
abbrev pub RecoveredReadsNameTheFirst : Type 0
RecoveredReadsNameTheFirst =
    (s : Settings) → in_range s ≡ true → (events : List Event) (a : Reply) (block : List ℕ) (g : Went)
    → let w = (run s events).world in let op = (addressee w a).state.op in
    reply a block ∈ w.sent → take_step s.n s.m s.size s.stripes (addressee w a) a block (s.n * s.size) ≡ went g
    → (g.seen.letter ≡ letter_h) ⊎ (g.seen.letter ≡ letter_l)
    → (x : Recovery s events op) × Met s (run s x.earlier).world.sent (recovered_at s events op x)
    × RecoveredRead s (recovered_at s events op x) g.seen g.next.stripe

-- The same replies counted: of the same bricks, the same of them with a block, and each block of the same time with the same bytes. When they
-- came, in which order, and to which operation does not matter.
pub record SameReplies (s : Settings) (k k' : Buffered) : Type 0 where
  pub counted : (b : ℕ) → member k.state.tally.counted b ≡ member k'.state.tally.counted b
  pub held : (b : ℕ) → Counted k b → (kept_reply k b).held ≡ (kept_reply k' b).held
  pub found : (b : ℕ) → Counted k b → (kept_reply k b).held ≡ true → (kept_reply k b).found ≡ (kept_reply k' b).found
  pub block : (b : ℕ) → Counted k b → (kept_reply k b).held ≡ true → block_of s.size k.blocks b ≡ block_of s.size k'.blocks b

-- Two recovered reads, of two runs or of one, whose recovery rounds counted the same replies name the same bricks and recovered the same stripe:
-- what a recovered read answers is a function of the replies counted.
abbrev pub SameRepliesSameAnswer : Type 0
SameRepliesSameAnswer =
    (s : Settings) → in_range s ≡ true → (k k' : Buffered) (e e' : Notice) (stripe stripe' : List ℕ)
    → RecoveredRead s k e stripe → RecoveredRead s k' e' stripe' → SameReplies s k k'
    → (named_in s.m e ≡ named_in s.m e') × (e.bricks ≡ e'.bricks) × (stripe ≡ stripe')

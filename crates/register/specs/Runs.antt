-- Document 01, "A run and its order", with document 02's volumes (E1) and operations on one block (E2): the set, its events, and what is
-- seen of a run, stripe by stripe.
-- Each event works on what the one before left, by the very definitions that the contracts of a brick and of a coordinator cite.
use Rattle.std.specs.Prelude.{Bool, true, false, cond, ◌&&◌, List, [], ◌∷◌, ◌++◌, ℕ, zero, suc, ◌*◌, ◌<◌, eqb, ltb, length, replicate}
use Rattle.settings.specs.Times.{coordinator_of}
use Rattle.settings.specs.declared.Settings.{Settings}
use Rattle.byte_lists.specs.Little.{are_bytes}
use Rattle.message.specs.Kinds.{write_kind, modify_kind}
use Rattle.message.specs.declared.Message.{Message}
use Rattle.message.specs.declared.Reply.{Reply}
use Rattle.brick.specs.Receive.{Outcome}
use Rattle.volume.specs.Rows.{fresh_row, row_outcome}
use Rattle.brick.specs.Receive.{Given}
use Rattle.brick.specs.Receive.{Answered, Silent, Refused}
use Rattle.coord_record.specs.Records.{reading_kind, reading_block_kind, writing_block_kind, on_block, geometry_of, idle_with}
use Rattle.erasure.specs.Code.{block_of, with_block}
use Rattle.coord_apply.specs.Answers.{Buffered, Broadcast, Step, refused, went, began_seen, ok_seen, read_seen, aborted_seen, cut_seen}
use Rattle.coord_apply.specs.declared.Notice.{Notice}
use Rattle.coordinator.specs.Routines.{take_step, crash_step, write_step, read_step, write_block_step, read_block_step}
use Rattle.order.specs.Claim.{Plain, Blocks, read, write, read_block, write_block, Result, ok, bytes, stripe, finished, aborted, cut, Seen, OneOrder}

-- "The plain stripe is m blocks, zeros at first."
unfoldable pub zero_stripe : Settings → List ℕ
zero_stripe s = replicate (s.m * s.size) 0

-- block j of it, and the stripe with that block set
abbrev pub stripe_blocks : Settings → Blocks (List ℕ) (List ℕ)
stripe_blocks s = record { at = λ (j : ℕ) (v : List ℕ). block_of s.size v j; set = λ (j : ℕ) (b v : List ℕ). with_block s.size v j b }

abbrev pub plain : Settings → Plain
plain s = stripe (stripe_blocks s) (zero_stripe s)

-- What was sent: a message to a brick, or a reply, which goes to the coordinator in its time; each with its block, and a message with the
-- old block too (E2: "Modify goes out: old block, new block"). Where a kind has no use for a block, zeros stand for it.
pub data Item : Type 0 where
  message : ℕ → Message → (block old : List ℕ) → Item
  reply : Reply → List ℕ → Item

-- "images, coordinator records, sent messages and up or down bricks": the images by brick, a brick's in one row, stripe after stripe
-- (`volume/Rows.image_at` is the image of a stripe); the coordinators with their buffers by number; what was sent in the order of sending.
pub record World : Type 0 where
  pub images : ℕ → List ℕ
  pub up : ℕ → Bool
  pub coordinators : ℕ → Buffered
  pub sent : List Item

-- "fresh images, all bricks up, 16 idle coordinators with last count 0, nothing sent"
-- (a coordinator above 15 is refused by each routine, as 3, and so never does anything)
unfoldable pub idle : Settings → ℕ → Buffered
idle s c =
    record {
      state = idle_with (geometry_of s) (record { coordinator = c; last = 0 });
      blocks = replicate (s.n * s.size) 0;
      stripe = replicate (s.m * s.size) 0;
    }

unfoldable pub fresh_set : Settings → World
fresh_set s = record { images = fresh_row s; up = λ (b : ℕ). true; coordinators = idle s; sent = [] }

-- What a crash leaves in the buffers beside a coordinator's record: what lay there, or anything else.
pub data Left : Type 0 where
  untouched : Left
  lost : (blocks stripe : List ℕ) → Left

-- "a read or write started at a coordinator with any clock reading" (on a stripe; a write with its bytes, a read with the brick that its
-- targets are counted from; or on one block of it, by its number), "a sent message reaching its brick, a sent reply reaching its
-- coordinator" (both by place among what was sent, from 0), "a coordinator's crash" (with what it leaves in the buffers), "a brick going down or coming up"
pub data Event : Type 0 where
  start_write : (coordinator stripe reading : ℕ) (content : List ℕ) → Event
  start_read : (coordinator stripe reading first : ℕ) → Event
  start_write_block : (coordinator stripe reading block : ℕ) (content : List ℕ) → Event
  start_read_block : (coordinator stripe reading block : ℕ) → Event
  arrives : ℕ → Event
  crashes : (coordinator : ℕ) → Left → Event
  goes_down : ℕ → Event
  comes_up : ℕ → Event

-- What an event leaves, and what is seen of it, by stripe: an operation beginning or ending, or nothing.
pub record Moved (s : Settings) : Type 0 where
  pub world : World
  pub seen : ℕ → List (Seen (plain s))

-- nothing is changed and nothing is seen
unfoldable pub unmoved : (s : Settings) → World → Moved s
unmoved s w = record { world = w; seen = λ (k : ℕ). [] }

-- what came before, and what one event leaves and shows
abbrev pub joined : (s : Settings) → Moved s → Moved s → Moved s
joined s r m = record { world = m.world; seen = λ (k : ℕ). r.seen k ++ m.seen k }

-- a function with another value at one place
unfoldable pub put_at : {A : Type 0} → (ℕ → A) → ℕ → A → ℕ → A
put_at f k a j = cond (eqb j k) a (f j)

-- what is seen on one stripe, and nothing on any other
unfoldable pub on_stripe : {A : Type 0} → ℕ → List A → ℕ → List A
on_stripe stripe l k = cond (eqb k stripe) l []

-- The kind of the operation that a coordinator with its buffers has begun: "their kinds and bytes only". A write's bytes are the stripe
-- beside the record, or that block of it.
unfoldable pub begun_kind : (s : Settings) → Buffered → (plain s).Kind
begun_kind s k =
    cond (eqb k.state.op.kind reading_kind) read
    (cond (eqb k.state.op.kind reading_block_kind) (read_block k.state.op.first)
    (cond (eqb k.state.op.kind writing_block_kind) (write_block k.state.op.first (block_of s.size k.stripe k.state.op.first))
    (write k.stripe)))

-- What a read is seen to have given: the stripe beside the record, or that block of it.
unfoldable pub read_given : (s : Settings) → Notice → (stripe : List ℕ) → (plain s).Given
read_given s e stripe = cond (on_block e.kind) (Result.block (block_of s.size stripe e.block)) (bytes stripe)

-- What is seen at an event that leaves a coordinator so: "An operation is a start that isn't refused; it begins there. It is finished at
-- the event that answers ok or gives what was read, aborted at the event that answers abort, cut at a crash of its coordinator before
-- either".
unfoldable pub seen_of : (s : Settings) → Notice → Buffered → List (Seen (plain s))
seen_of s e k =
    cond (eqb e.what began_seen) (Seen.began e.time (begun_kind s k) ∷ [])
    (cond (eqb e.what ok_seen) (Seen.ended e.time (finished ok) ∷ [])
    (cond (eqb e.what read_seen) (Seen.ended e.time (finished (read_given s e k.stripe)) ∷ [])
    (cond (eqb e.what aborted_seen) (Seen.ended e.time aborted ∷ [])
    (cond (eqb e.what cut_seen) (Seen.ended e.time cut ∷ []) []))))

-- the block that goes to brick b with a broadcast: its own in a Write round, the new block with Modify; other messages have no use for theirs
unfoldable pub block_for : Settings → Broadcast → ℕ → List ℕ
block_for s c b =
    cond (eqb c.message.kind write_kind) (block_of s.size c.blocks b)
    (cond (eqb c.message.kind modify_kind) c.blocks (replicate s.size 0))

-- and the old block that goes with Modify
unfoldable pub old_for : Settings → Broadcast → List ℕ
old_for s c = cond (eqb c.message.kind modify_kind) c.old (replicate s.size 0)

-- a broadcast is one message to each of the first k bricks
unfoldable pub to_all : Settings → Broadcast → ℕ → List Item
to_all s c zero = []
to_all s c (suc k) = to_all s c k ++ message k c.message (block_for s c k) (old_for s c) ∷ []

unfoldable pub broadcasts : Settings → List Broadcast → List Item
broadcasts s [] = []
broadcasts s (c ∷ cs) = to_all s c s.n ++ broadcasts s cs

-- What a coordinator's routine does in the world; "refused events .. change nothing".
unfoldable pub coordinated : (s : Settings) → World → ℕ → Step → Moved s
coordinated s w c (refused number) = unmoved s w
coordinated s w c (went g) =
    record {
      world = record {
        images = w.images;
        up = w.up;
        coordinators = put_at w.coordinators c g.next;
        sent = w.sent ++ broadcasts s g.sent;
      };
      seen = on_stripe g.seen.stripe (seen_of s g.seen g.next);
    }

-- What a brick's routine does in the world.
unfoldable pub replied_with : Given → List ℕ → List Item
replied_with (Answered r) out = reply r out ∷ []
replied_with Silent out = []
replied_with (Refused number) out = []

unfoldable pub received : (s : Settings) → World → ℕ → Outcome → Moved s
received s w b o =
    record {
      world = record {
        images = put_at w.images b o.image;
        up = w.up;
        coordinators = w.coordinators;
        sent = w.sent ++ replied_with o.given o.out;
      };
      seen = λ (k : ℕ). [];
    }

-- "What was sent arrives unaltered, in any order, any number of times or never; at a down brick it is lost."
unfoldable pub arriving : (s : Settings) → World → Item → Moved s
arriving s w (message b msg block old) =
    cond (w.up b) (received s w b (row_outcome s b (w.images b) msg block old (replicate s.size 0))) (unmoved s w)
arriving s w (reply r block) =
    coordinated s w (coordinator_of r.time)
    (take_step s.n s.m s.size s.stripes (w.coordinators (coordinator_of r.time)) r block (s.n * s.size))

-- the item at a place, if so many were sent: "one naming a message not sent so far" changes nothing
unfoldable pub arriving_at : (s : Settings) → World → List Item → ℕ → Moved s
arriving_at s w [] k = unmoved s w
arriving_at s w (i ∷ is) zero = arriving s w i
arriving_at s w (i ∷ is) (suc k) = arriving_at s w is k

-- a brick goes down or comes up; refused, as 3, if there is no such brick
unfoldable pub standing : (s : Settings) → World → ℕ → Bool → Moved s
standing s w b how =
    cond (ltb b s.n)
    (record { world = record { images = w.images; up = put_at w.up b how; coordinators = w.coordinators; sent = w.sent }; seen = λ (k : ℕ). [] })
    (unmoved s w)

-- lists of the lengths that the settings ask for: n blocks of replies, m of the stripe
unfoldable pub buffers_fit : Settings → (blocks stripe : List ℕ) → Bool
buffers_fit s blocks stripe = eqb (length blocks) (s.n * s.size) && eqb (length stripe) (s.m * s.size)

-- "A crash makes the coordinator idle and keeps its count": so much is sure of the record. The buffers beside it may hold any lists that
-- fit (others are passed over); so may those of an idle coordinator, at whose crash nothing is seen.
unfoldable pub leaving : Settings → Left → Buffered → Buffered
leaving s untouched h = h
leaving s (lost blocks stripe) h = cond (buffers_fit s blocks stripe) (record { state = h.state; blocks = blocks; stripe = stripe }) h

-- the same of the crash's step: what it sends and shows stays, and a refused one changes nothing
unfoldable pub left_by : Settings → Left → Step → Step
left_by s left (refused number) = refused number
left_by s left (went g) = went (record { next = leaving s left g.next; sent = g.sent; seen = g.seen })

-- A start's content is bytes: with other numbers no such call can be made, and nothing is changed.
unfoldable pub step : (s : Settings) → World → Event → Moved s
step s w (start_write c stripe reading content) =
    cond (are_bytes content)
    (coordinated s w c (write_step s.n s.m s.size s.stripes (w.coordinators c) stripe reading content))
    (unmoved s w)
step s w (start_read c stripe reading first) = coordinated s w c (read_step s.n s.m s.size s.stripes (w.coordinators c) stripe reading first)
step s w (start_write_block c stripe reading block content) =
    cond (are_bytes content)
    (coordinated s w c (write_block_step s.n s.m s.size s.stripes (w.coordinators c) stripe reading block content))
    (unmoved s w)
step s w (start_read_block c stripe reading block) =
    coordinated s w c (read_block_step s.n s.m s.size s.stripes (w.coordinators c) stripe reading block)
step s w (arrives k) = arriving_at s w w.sent k
step s w (crashes c left) = coordinated s w c (left_by s left (crash_step s.n s.m s.size s.stripes (w.coordinators c)))
step s w (goes_down b) = standing s w b false
step s w (comes_up b) = standing s w b true

-- one event after what came before
unfoldable pub next_moved : (s : Settings) → Moved s → Event → Moved s
next_moved s r e = joined s r (step s r.world e)

unfoldable pub run_from : (s : Settings) → Moved s → List Event → Moved s
run_from s r [] = r
run_from s r (e ∷ es) = run_from s (next_moved s r e) es

-- "A run is a list of events on one set .. It starts fresh".
unfoldable pub run : (s : Settings) → List Event → Moved s
run s events = run_from s (unmoved s (fresh_set s)) events

-- Demand 3 of a run: "The order of operations is promised stripe by stripe".
abbrev pub RunHasOneOrder : (s : Settings) → List Event → Type 0
RunHasOneOrder s events = (stripe : ℕ) → stripe < s.stripes → OneOrder (plain s) ((run s events).seen stripe)

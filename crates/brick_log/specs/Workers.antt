-- What the working log shows of the brick: the newest time, the lookups, what a Trim and a Drop take out.
use Rattle.std.specs.Prelude.{◌≡◌, Bool, false, cond, not, ◌&&◌, List, ℕ, zero, suc, ◌+◌, ◌-◌, ◌*◌, ◌≤◌, ◌<◌, leb, ltb, eqb, take, drop, get_or}
use Rattle.std.specs.Prelude.{Option, Some, None}
use Rattle.image.specs.Brick.{Brick, entry_count, time_at, newest}
use Rattle.image.specs.Parse.{brick_in}
use Rattle.image.specs.Workers.{ImageOpened}
use Rattle.settings.specs.declared.Settings.{Settings}
use Rattle.image.specs.Opening.{holder_of, working_log, blank}
use Rattle.image.specs.declared.Entry.{Entry}
use Rattle.message.specs.Flags.{member}
use Rattle.message.specs.Messages.{is_silent}
use Rattle.message.specs.declared.Message.{Message}
use Rattle.brick_log.specs.BrickRules.{place_for, found_for, trimmed_to, dropped_from}
use Rattle.image_write.specs.Workers.{removed}
use Rattle.brick_log.specs.declared.Known.{Known}
use Rattle.brick_log.specs.declared.Plan.{Plan}
use Rattle.brick_log.specs.declared.Plan.TheVariants.{Answer, Remove, Nothing}
use Rattle.brick_log.specs.declared.Removal.{Removal}
use Rattle.image_block.specs.Block.{block_bytes, held_from}
use Rattle.message.specs.Kinds.{order_read_kind, order_block_kind, read_kind, trim_kind, drop_kind}
use Rattle.settings.specs.Ranges.{max_capacity}

-- an opened image, with what is known of its brick
pub record LogReady (s : Settings) (brick : ℕ) (l : List ℕ) (k : Known) : Type 0 where
  pub saved : ImageOpened s brick l (brick_in s l)
  pub counts : k.count ≡ entry_count (brick_in s l)
  pub promises : k.promise ≡ (brick_in s l).promise
  pub newests : k.newest ≡ newest (brick_in s l)
  pub holders : k.holder ≡ holder_of (working_log (brick_in s l)) (entry_count (brick_in s l) - 1)
  pub low : 1 ≤ k.count
  pub high : k.count ≤ s.capacity
  pub most : s.capacity ≤ max_capacity

-- the time of the entry at a place of the working log
abbrev pub log_time : List Entry → ℕ → ℕ
log_time log i = (get_or log i blank).time

-- the last of n places that a test takes, by its place and 1; 0 for none
unfoldable pub last_in : (ℕ → Bool) → ℕ → ℕ
last_in p zero = 0
last_in p (suc i) = cond (p i) (suc i) (last_in p i)

-- the lookups in the working log: the highest entry under max, and the entry of time t
abbrev pub under_in : List Entry → (max n : ℕ) → ℕ
under_in log max n = last_in (λ (i : ℕ). ltb (log_time log i) max) n

abbrev pub time_in : List Entry → (t n : ℕ) → ℕ
time_in log t n = last_in (λ (i : ℕ). eqb (log_time log i) t) n

-- the answer of a lookup: the entry's place, from its place and 1; none for 0
unfoldable pub looked_in : ℕ → Option ℕ
looked_in zero = None
looked_in (suc i) = Some i

-- the first place from d on, or the one n further, whose time is not under t
unfoldable pub cut_from : (ℕ → ℕ) → ℕ → ℕ → ℕ → ℕ
cut_from times t d zero = d
cut_from times t d (suc n) = cond (ltb (times d) t) (cut_from times t (d + 1) n) d

-- "drops every entry under t other than the newest": how many, of n entries in rising time
unfoldable pub cut_for : List Entry → ℕ → ℕ → ℕ
cut_for log n t = cut_from (log_time log) t 0 (n - 1)

-- what is known of an opened brick, from its log of n entries and its promise
abbrev pub known_of : List Entry → (n promise : ℕ) → Known
known_of log n promise = record { count = n; promise = promise; newest = log_time log (n - 1); holder = holder_of log (n - 1) }

-- what goes: so many entries from a place on; and of the entry right above them the block of the image that holds it, and its time
abbrev pub removal : (from cut holder lowest : ℕ) → Removal
removal from cut holder lowest = record { from = from; cut = cut; holder = holder; lowest = lowest }

-- a Trim: the first d
unfoldable pub trim_plan : List Entry → ℕ → Removal
trim_plan log d = removal 0 d (holder_of log d) (log_time log d)

-- a Drop of entry i of n: "the lowest mark that means the dropped block becomes that block first" is the entry right above, if block i + 1 of
-- the image, that of entry i, holds it
unfoldable pub drop_at : List Entry → (n i : ℕ) → Removal
drop_at log n i =
    cond (eqb (i + 1) n) (removal i 1 (i + 1 + 1) 0)
    (cond (eqb (holder_of log (i + 1)) (i + 1)) (removal i 1 (i + 1) (log_time log (i + 1))) (removal i 1 (i + 1 + 1) 0))

unfoldable pub drop_in : List Entry → ℕ → Option ℕ → Plan
drop_in log n (Some i) = Remove (drop_at log n i)
drop_in log n None = Nothing

-- "unless it is the only one it has"
unfoldable pub drop_plan : List Entry → (n t : ℕ) → Plan
drop_plan log n t = cond (eqb n 1) Nothing (drop_in log n (looked_in (time_in log t n)))

-- the plan for the answer of a lookup
unfoldable pub plan_in : List Entry → Option ℕ → Plan
plan_in log (Some i) = Answer (Some (holder_of log i)) (log_time log i)
plan_in log None = Answer None 0

-- the block that Read gives
unfoldable pub read_place : Known → List ℕ → ℕ → Option ℕ
read_place k targets brick = cond (leb k.promise k.newest && member targets brick) (Some k.holder) None

-- an Order of the message's time is granted
unfoldable pub granted : Known → Message → Bool
granted k msg = ltb k.newest msg.time && leb k.promise msg.time

-- what the first round of a block write gives
unfoldable pub block_plan : Known → Message → ℕ → Plan
block_plan k msg brick = cond (granted k msg) (Answer (cond (eqb brick msg.block) (Some k.holder) None) k.newest) (Answer None 0)

-- the block that Order-and-read gives, by the entry's place and 1
unfoldable pub under_for : List Entry → ℕ → Known → Message → ℕ
under_for log n k msg = cond (granted k msg) (under_in log msg.max n) 0

-- what a message asks for, by its kind
unfoldable pub plan_for : List Entry → ℕ → Known → Message → ℕ → Plan
plan_for log n k msg brick =
    cond (eqb msg.kind trim_kind) (Remove (trim_plan log (cut_for log n msg.time)))
    (cond (eqb msg.kind drop_kind) (drop_plan log n msg.time)
    (cond (eqb msg.kind read_kind) (Answer (read_place k msg.targets brick) k.newest)
    (cond (eqb msg.kind order_read_kind) (plan_in log (looked_in (under_for log n k msg)))
    (cond (eqb msg.kind order_block_kind) (block_plan k msg brick) (Answer None 0)))))

-- the bytes of a block of the image, or what the buffer held
unfoldable pub gave_of : List ℕ → ℕ → Option ℕ → List ℕ → List ℕ
gave_of l size None out = out
gave_of l size (Some place) out = take size (drop (block_bytes * place + held_from) l)

-- the block of the image that an entry means, by its place and 1; none for 0
unfoldable pub holder_for : Brick → ℕ → Option ℕ
holder_for x zero = None
holder_for x (suc i) = Some (holder_of (working_log x) i)

-- an entry that another block of the image holds: which, and its time
pub record HeldElsewhere (x : Brick) (k : Known) (i holder lowest : ℕ) : Type 0 where
  pub low : i < k.count
  pub holder-is : holder ≡ holder_of (working_log x) i
  pub lowest-is : lowest ≡ time_at x i

-- what goes is in the log; the entry right above has its own block, or is one that another holds
pub record RemoveReady (x : Brick) (k : Known) (r : Removal) : Type 0 where
  pub within : r.from + r.cut ≤ k.count
  pub above : (r.cut ≡ 0 → ⊥) → (r.holder ≡ r.from + r.cut + 1 → ⊥) → HeldElsewhere x k (r.from + r.cut) r.holder r.lowest

-- the brick without what goes: the entry right above has its block then, if another block of the image held it
unfoldable pub removed_by : Brick → Removal → Brick
removed_by x r = cond (eqb r.cut 0) x (removed x r.from r.cut (not (eqb r.holder (r.from + r.cut + 1))))

-- what goes leaves y
pub record Removes (x : Brick) (k : Known) (r : Removal) (y : Brick) : Type 0 where
  pub ready : RemoveReady x k r
  pub leaves : y ≡ removed_by x r

-- the plan, one of a Trim or a Drop, takes out what leaves y
unfoldable pub Takes : Brick → Known → Plan → Brick → Type 0
Takes x k (Answer place found) y = ⊥
Takes x k (Remove r) y = Removes x k r y
Takes x k Nothing y = y ≡ x

-- the plan is what the message asks of the brick
pub record Ahead (brick : ℕ) (x : Brick) (k : Known) (msg : Message) (p : Plan) : Type 0 where
  pub answers : is_silent msg.kind ≡ false → p ≡ Answer (holder_for x (place_for brick x msg)) (found_for brick x msg)
  pub trims : msg.kind ≡ trim_kind → Takes x k p (trimmed_to x msg.time)
  pub drops : msg.kind ≡ drop_kind → Takes x k p (dropped_from x msg.time)

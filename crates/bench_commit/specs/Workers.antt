-- What the answer of a coordinator's routine does on the bench, as the runs' driver makes it.
use Rattle.std.specs.Prelude.{cond, List, [], ◌∷◌, ◌++◌, ℕ, ◌+◌, ◌*◌, ◌≤◌, ◌<◌, eqb, leb, length, take, ◌≡◌}
use Rattle.settings.specs.Refusal.{bad_line}
use Rattle.settings.specs.declared.Settings.{Settings}
use Rattle.coord_apply.specs.Answers.{Answer}
use Rattle.register.specs.Driver.{driven, with_blocks}
use Rattle.register.specs.Runs.{World, Event, broadcasts}
use Rattle.bench_print.specs.Printing.{ended_text}
use Rattle.bench_rules.specs.Play.{Played, refuses, acts}
use Rattle.coord_apply.specs.Answers.{Buffered, Step, most_broadcasts}
use Rattle.bench_state.specs.declared.Bench.{Bench}
use Rattle.bench_rules.specs.Turning.{lent, world_in}
use Rattle.bench_rules.specs.Workers.{Turned}
use Rattle.bench_rules.specs.declared.After.{After}
use Rattle.message.specs.Kinds.{modify_kind}
use Rattle.message.specs.declared.Message.{Message}
use Rattle.bench_sent.specs.Sent.{items_of}
use Rattle.bench_state.specs.Workers.{Fits}
use Rattle.bench_limits.specs.Limits.{bench_coordinators, last_message, kept_length, numbers_length, bytes_length, line_room}

-- refused with its number; refused with 12 where it would send past message 127; or kept, sent and printed
unfoldable pub answered : Settings → World → Event → ℕ → Answer → List ℕ → List ℕ → List ℕ → Played
answered s w e c a blocks stripe coded =
    cond (eqb a.refusal 0)
    (cond (leb (length (driven s w c a blocks stripe coded).world.sent) last_message)
    (record { world = (driven s w c a blocks stripe coded).world; events = e ∷ []; printed = ended_text c a.seen stripe })
    (refuses w bad_line))
    (refuses w a.refusal)

-- how many messages are sent after so many broadcasts to n bricks
unfoldable pub sent_after_answer : ℕ → ℕ → ℕ → ℕ
sent_after_answer n sent broadcasts = sent + broadcasts * n

-- an event with this step at coordinator c has been played, whatever the images are
pub record BenchActed (b : Bench) (c : ℕ) (e : Event) (p : Buffered → Step) (kept numbers bytes : List ℕ) (at : ℕ) (out : List ℕ) (r : After)
    (kept' numbers' bytes' out' : List ℕ) : Type 0 where
  pub turned : (images : List ℕ)
      → Turned b (lent images kept numbers bytes) at out
      (acts b.settings (world_in b (lent images kept numbers bytes)) e c (p ((world_in b (lent images kept numbers bytes)).coordinators c)))
      r (lent images kept' numbers' bytes') out'

-- an event has been played, whatever the images are
pub record Plays (b : Bench) (p : World → Played) (kept numbers bytes : List ℕ) (at : ℕ) (out : List ℕ) (r : After)
    (kept' numbers' bytes' out' : List ℕ) : Type 0 where
  pub turned : (images : List ℕ)
      → Turned b (lent images kept numbers bytes) at out (p (world_in b (lent images kept numbers bytes))) r (lent images kept' numbers' bytes') out'

-- what an answer may list: two broadcasts at most, and Modify of none but a block that a stripe has
pub record Lists (m count : ℕ) (first second : Message) : Type 0 where
  pub few : count ≤ most_broadcasts
  pub first-low : first.kind ≡ modify_kind → first.block < m
  pub second-low : second.kind ≡ modify_kind → second.block < m

-- the items after an answer's broadcasts
pub record Round (s : Settings) (sent count : ℕ) (first second : Message) (blocks stripe coded numbers bytes numbers' bytes' : List ℕ) : Type 0 where
  pub items : items_of s.size numbers' bytes' (sent_after_answer s.n sent count)
      ≡ items_of s.size numbers bytes sent
      ++ broadcasts s (take count (with_blocks s.size first blocks stripe coded ∷ with_blocks s.size second blocks stripe coded ∷ []))

-- what the functions at a coordinator are lent: a set that is played, and room for a line
pub record Seats (b : Bench) (c : ℕ) (kept numbers bytes : List ℕ) (at : ℕ) (out : List ℕ) : Type 0 where
  pub fits : Fits b.settings
  pub few : b.sent ≤ last_message
  pub low : c < bench_coordinators
  pub kept-long : length kept ≡ kept_length
  pub numbers-long : length numbers ≡ numbers_length
  pub bytes-long : length bytes ≡ bytes_length
  pub room : at + line_room ≤ length out

-- the buffers that a routine works on
pub record Copies (s : Settings) (blocks stripe coded : List ℕ) : Type 0 where
  pub blocks-long : length blocks ≡ s.n * s.size
  pub stripe-long : length stripe ≡ s.m * s.size
  pub coded-long : length coded ≡ s.n * s.size

-- an answer has done what it does, whatever the images are
pub record Answers (b : Bench) (c : ℕ) (a : Answer) (blocks stripe coded kept numbers bytes : List ℕ) (at : ℕ) (out : List ℕ) (r : After)
    (kept' numbers' bytes' out' : List ℕ) : Type 0 where
  pub turned : (images : List ℕ) (e : Event)
      → Turned b (lent images kept numbers bytes) at out
      (answered b.settings (world_in b (lent images kept numbers bytes)) e c a blocks stripe coded)
      r (lent images kept' numbers' bytes') out'

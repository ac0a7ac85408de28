-- A whole line: the bench's stage as its record and buffers have it, and what a line does to them.
use Rattle.std.specs.Prelude.{◌≡◌, Bool, cond, ◌&&◌, ◌||◌, List, [], ◌∷◌, ℕ, ◌≤◌, eqb, leb, length}
use Rattle.settings.specs.Refusal.{refuse_unless, first_refusal, bad_setting, bad_length, bad_record}
use Rattle.bench_parse.specs.Lines.{reads}
use Rattle.bench_rules.specs.Play.{Stage, waiting, playing, events_of, Turn, turn}
use Rattle.register.specs.Runs.{Event}
use Rattle.bench_rules.specs.Turning.{Lent, world_in}
use Rattle.bench_print.specs.Printing.{printed_into}
use Rattle.bench_state.specs.State.{bench_range}
use Rattle.bench_state.specs.declared.Bench.{Bench}
use Rattle.bench_player.specs.declared.LinePlayed.{LinePlayed}
use Rattle.bench_limits.specs.Limits.{last_message, kept_length, images_length, numbers_length, bytes_length, text_length}

-- The stage that the record and the buffers stand for, given the events that led to it, which nobody keeps. The record of no set has n = 0.
unfoldable pub stage_of : Bench → Lent → List Event → Stage
stage_of b l events = cond (eqb b.settings.n 0) waiting (playing b.settings (world_in b l) events)

-- the lengths of the lent buffers: images, what the coordinators keep, the rows' numbers and bytes, and the printed text
unfoldable pub lent_lengths_right : ℕ → ℕ → ℕ → ℕ → ℕ → Bool
lent_lengths_right images kept numbers bytes out =
    eqb images images_length && eqb kept kept_length && eqb numbers numbers_length && eqb bytes bytes_length && eqb out text_length

-- What a record and buffers that are no bench's are refused with, before the line is looked at: 1 settings past the limits,
-- 2 a length, 6 more messages than 127.
unfoldable pub bench_refused : Bench → ℕ → ℕ → ℕ → ℕ → ℕ → ℕ
bench_refused b images kept numbers bytes out =
    first_refusal
    (refuse_unless (eqb b.settings.n 0 || bench_range b.settings) bad_setting
    ∷ refuse_unless (lent_lengths_right images kept numbers bytes out) bad_length
    ∷ refuse_unless (leb b.sent last_message) bad_record
    ∷ [])

-- the same for the buffers themselves
abbrev pub refusal_of : Bench → Lent → List ℕ → ℕ
refusal_of b l out = bench_refused b (length l.images) (length l.kept) (length l.numbers) (length l.bytes) (length out)

-- one line, as its bytes read; a refused call does nothing
unfoldable pub heard : ℕ → Stage → List ℕ → Turn
heard refusal stage line = cond (eqb refusal 0) (turn stage (reads line)) (record { stage = stage; events = []; printed = [] })

-- The record and the buffers stand for the stage after a turn, with its events, and what it prints stands at the beginning of the text.
pub record Heard (t : Turn) (out : List ℕ) (r : LinePlayed) (l' : Lent) (out' : List ℕ) : Type 0 where
  pub stage_is : stage_of r.bench l' (events_of t.stage) ≡ t.stage
  pub text-is : out' ≡ printed_into 0 t.printed out
  pub used-is : r.used ≡ length t.printed
  pub within : r.used ≤ length out

-- A whole call: the refusal; whatever the events so far, the turn from the stage with these events; where it leaves the stage as it was (a
-- refused line, or a refused call) every byte of the record and of the lent buffers is kept, those that mean nothing too; a refused call keeps
-- the text as well, and an accepted one leaves a bench that is accepted again.
pub record Called (b : Bench) (l : Lent) (line out : List ℕ) (r : LinePlayed) (l' : Lent) (out' : List ℕ) : Type 0 where
  pub refusal_is : r.refusal ≡ refusal_of b l out
  pub plays-on : (events : List Event) → Heard (heard r.refusal (stage_of b l events) line) out r l' out'
  pub unmoved-keeps : (events : List Event) → (heard r.refusal (stage_of b l events) line).stage ≡ stage_of b l events → (r.bench ≡ b) × (l' ≡ l)
  pub refused-keeps : (r.refusal ≡ 0 → ⊥) → (r.bench ≡ b) × (l' ≡ l) × (out' ≡ out)
  pub accepted-again : r.refusal ≡ 0 → refusal_of r.bench l' out' ≡ 0

-- Document 01, "The bench": "It prints per ended operation: coordinator, kind, time, then ok, the stripe .., abort or cut; per refusal, `refused`
-- and the number, and plays on."
use Rattle.std.specs.Prelude.{◌≡◌, true, List, [], ◌∷◌, ◌++◌, ℕ}
use Rattle.settings.specs.declared.Settings.{Settings}
use Rattle.register.specs.Runs.{Event, unmoved, fresh_set, run}
use Rattle.bench_parse.specs.Lines.{set_line, reads}
use Rattle.bench_print.specs.Printing.{refused_text}
use Rattle.bench_state.specs.State.{bench_range}
use Rattle.bench_rules.specs.Play.{Stage, waiting, playing, waits, first}
use Rattle.bench_order.specs.Report.{parts_in, Reports}
use Rattle.bench_lines.specs.Cutting.{lines}
use Rattle.bench_order.specs.Script.{script}

-- The text tells of these lines, from the bench without a set to this stage.
pub data Prints : List (List ℕ) → Stage → List ℕ → Type 0 where
  no_more_lines : Prints [] waiting []
  -- the line is refused with this number, and there is no set so far
  no_set : {l : List ℕ} {ls : List (List ℕ)} {stage : Stage} {text : List ℕ} (number : ℕ)
      → first (reads l) ≡ waits number
      → Prints ls stage text
      → Prints (l ∷ ls) stage (refused_text number ++ text)
  -- the line is a `set` within the bench's limits: the text tells of the parts of the lines after it, on a fresh set, and the events that
  -- happened are those of its run
  set : {l : List ℕ} {ls : List (List ℕ)} {events : List Event} {text : List ℕ} (s : Settings)
      → reads l ≡ set_line s.n s.m s.size s.capacity
      → bench_range s ≡ true
      → Reports s (unmoved s (fresh_set s)) (parts_in ls) events text
      → Prints (l ∷ ls) (playing s (run s events).world events) text

-- What a script prints is, part by part, the line of each operation that ends at an event of its run, and the number of each part that is
-- refused; and nothing else.
abbrev pub EveryScriptPrintsItsRun : Type 0
EveryScriptPrintsItsRun = (input : List ℕ) → Prints (lines input) (script input).stage (script input).printed

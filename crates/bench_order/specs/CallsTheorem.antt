-- Why a script is what the code plays: whoever calls `bench_player::play_line` for each line of an input, one after the other on what the call
-- before left, and prints the bytes that each call says it used, prints the script's text and has the script's stage.
use Rattle.std.specs.Prelude.{◌≡◌, ℕ, length}
use mathlib.Core.List.{List, [], flatten}
use Rattle.bench_rules.specs.Play.{waiting, events_of}
use Rattle.bench_rules.specs.Turning.{Lent}
use Rattle.bench_state.specs.declared.Bench.{Bench}
use Rattle.bench_player.specs.Lining.{stage_of, refusal_of}
use Rattle.bench_player.specs.Calls.{Calls}
use Rattle.bench_parse.specs.Lines.{held_length}
use Rattle.bench_lines.specs.Cutting.{lines, HandedOn}
use Rattle.bench_io.specs.Workers.{RunLeft}
use Rattle.bench_order.specs.Script.{script}

-- From a bench without a set that is not refused, on the lines of an input: the script's stage, with the script's events, and its text.
abbrev pub CallsAreTheScript : Type 0
CallsAreTheScript =
    (input : List ℕ) (b b' : Bench) (l l' : Lent) (out out' text : List ℕ) → refusal_of b l out ≡ 0 → stage_of b l [] ≡ waiting
    → Calls b l out (lines input) text b' l' out'
    → (stage_of b' l' (events_of (script input).stage) ≡ (script input).stage) × (text ≡ (script input).printed)

-- The same for whoever reads the input in chunks, cuts it by calls of `bench_lines::cut_line` into an empty line of 1,001 bytes, and plays what
-- is handed on: whatever the chunks, the script of the whole input.
abbrev pub CutCallsAreTheScript : Type 0
CutCallsAreTheScript =
    (line : List ℕ) (chunks handed : List (List ℕ)) (b b' : Bench) (l l' : Lent) (out out' text : List ℕ) → length line ≡ held_length
    → HandedOn line 0 chunks handed → refusal_of b l out ≡ 0 → stage_of b l [] ≡ waiting → Calls b l out handed text b' l' out'
    → (stage_of b' l' (events_of (script (flatten chunks)).stage) ≡ (script (flatten chunks)).stage) × (text ≡ (script (flatten chunks)).printed)

-- The same of the program, `bench_io::bench_run`: where it leaves with 0, its turns have played the script of the bytes that came with them, one
-- turn after the other, and this is the text that they handed to `write`.
abbrev pub ProgramPlaysTheScript : Type 0
ProgramPlaysTheScript =
    (r : RunLeft 0)
    → (stage_of r.ran.last.bench r.l' (events_of (script (flatten r.ran.chunks)).stage) ≡ (script (flatten r.ran.chunks)).stage)
    × (r.ran.text ≡ (script (flatten r.ran.chunks)).printed)

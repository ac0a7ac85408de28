-- No script sends past message 127.
use mathlib.Core.Bool.{Bool, true, false, cond}
use mathlib.Core.List.{List, [], ◌∷◌}
use Prim.Native.Nat.{ℕ}
use native.Mathlib.Omega.{arith}
use mathlib.Core.Path.{subst}
use Rattle.settings.specs.Refusal.{bad_setting}
use Rattle.settings.specs.declared.Settings.{Settings}
use Rattle.register.specs.Runs.{World, fresh_set}
use Rattle.bench_parse.specs.Lines.{Line, set_line, write_line, read_line, carry_line, crash_line, down_line, up_line, no_line, reads}
use Rattle.bench_state.specs.State.{bench_range}
use Rattle.bench_rules.specs.Play.{Played, refuses, passes, happens, and_then, Stage, waiting, playing, waits, begins, one_stripe, first, turn}
use Rattle.bench_order.specs.LimitTheorem.{NeverPastMessage127}
use Rattle.bench_order.specs.Report.{Part}
use Rattle.bench_lines.specs.Cutting.{lines}
use Rattle.bench_order.specs.Script.{stays, follows, plays_lines, script}
use Rattle.bench_order.proofs.Laws.Parts.{FewSent, Does, refusing, passing, happening, Parts, none, one, both}
use Rattle.bench_order.proofs.Laws.ScriptPartLaws.{every_line_by_parts}
use Rattle.bench_order.proofs.Laws.ScriptRunLaws.{WholeAt, turn_whole}

does_few : (s : Settings) (w : World) (p : Played) → Does s w p → FewSent w → FewSent p.world
unfolding refuses passes happens
does_few s w p (refusing number) h = h
does_few s w p passing h = h
does_few s w p (happening e c kind b f o z) h = f h

parts_few : (s : Settings) (w : World) (ps : List Part) (p : Played) → Parts s w ps p → FewSent w → FewSent p.world
unfolding passes and_then
parts_few s w ps p (none _) h = h
parts_few s w ps p (one _ part d) h = does_few s w p d h
parts_few s w ps p (both _ xs ys q r a b) h = parts_few s q.world ys r b (parts_few s w xs q a h)

-- a set, if there is one, has sent 127 messages at most
unfoldable FewAt : Stage → Type 0
FewAt waiting = Unit {0}
FewAt (playing s w events) = FewSent w

begins_few : (s : Settings) → FewAt (begins s).stage
unfolding begins waits FewAt FewSent fresh_set
begins_few s = go (bench_range s)
  where
    go : (b : Bool) → FewAt (cond b (record { stage = playing s (fresh_set s) []; events = []; printed = [] }) (waits bad_setting)).stage
    go true = omega arith
    go false = tt

turn_few : (stage : Stage) (line : Line) → WholeAt stage → FewAt stage → FewAt (turn stage line).stage
unfolding turn first waits WholeAt FewAt
turn_few waiting (set_line n m size capacity) i h = begins_few (one_stripe n m size capacity)
turn_few waiting (write_line c clock digits) i h = tt
turn_few waiting (read_line c clock brick) i h = tt
turn_few waiting (carry_line messages) i h = tt
turn_few waiting (crash_line c) i h = tt
turn_few waiting (down_line b) i h = tt
turn_few waiting (up_line b) i h = tt
turn_few waiting no_line i h = tt
turn_few (playing s w events) line i h = parts_few s w _ _ (every_line_by_parts s w i.0 i.1 line) h

lines_few : (stage : Stage) (ls : List (List ℕ)) → WholeAt stage → FewAt stage → FewAt (plays_lines stage ls).stage
unfolding plays_lines stays follows
lines_few stage [] i h = h
lines_few stage (l ∷ ls) i h = lines_few (turn stage (reads l)).stage ls (turn_whole stage (reads l) i) (turn_few stage (reads l) i h)

pub never_past_message_127 : NeverPastMessage127
unfolding script WholeAt FewAt FewSent
never_past_message_127 input s w events e = subst FewAt e (lines_few waiting (lines input) tt tt)

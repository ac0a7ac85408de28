-- Calls one after the other are the script.
use mathlib.Core.Path.{◌≡◌, refl, ap, ap₂, subst, ◌∙◌}
use mathlib.Core.List.{List, [], ◌∷◌, ◌++◌, map, flatten}
use Prim.Native.Nat.{ℕ, ◌+◌}
use native.Mathlib.Omega.{arith}
use lib.ListN.{length, take}
use borrow.Author.Tests.{eq-eqb}
use Rattle.bench_parse.specs.Lines.{reads}
use Rattle.bench_print.proofs.Laws.WrittenLaws.{written_front}
use Rattle.bench_rules.specs.Play.{Stage, waiting, events_of, Turn, turn}
use Rattle.bench_rules.specs.Turning.{Lent}
use Rattle.bench_state.specs.declared.Bench.{Bench}
use Rattle.bench_player.specs.Lining.{stage_of, bench_refused, refusal_of, heard, Called}
use Rattle.register.specs.Runs.{Event}
use Rattle.bench_player.specs.declared.LinePlayed.{LinePlayed}
use Rattle.bench_order.specs.Script.{stays, follows, plays_lines, script}
use Rattle.byte_lists.specs.Lists.{put}
use Rattle.bench_player.specs.Calls.{Calls, none, call}
use Rattle.bench_parse.specs.Lines.{held_length}
use Rattle.bench_limits.specs.Limits.{kept_length, images_length, numbers_length, bytes_length, text_length}
use Rattle.bench_lines.specs.Cutting.{lines}
use Rattle.bench_lines.proofs.Laws.CuttingLaws.{cutting_gives_the_lines}
use Rattle.bench_player.proofs.Laws.HeldLaws.{reads_held}
use Rattle.bench_io.proofs.Laws.ProgramLaws.{all_played, ended_well}
use Rattle.bench_order.specs.CallsTheorem.{CallsAreTheScript, CutCallsAreTheScript, ProgramPlaysTheScript}

-- one call is one turn, and prints its text
module _ (b : Bench) (l : Lent) (line out : List ℕ) (r : LinePlayed) (l' : Lent) (out' : List ℕ) (t : refusal_of b l out ≡ 0)
    (c : Called b l line out r l' out') (events : List Event) where
  accepted : r.refusal ≡ 0
  accepted = c.refusal_is ∙ t

  heard_so : heard r.refusal (stage_of b l events) line ≡ turn (stage_of b l events) (reads line)
  unfolding heard
  heard_so = rw (eq-eqb r.refusal 0 accepted) refl

  call_stage : stage_of r.bench l' (events_of (turn (stage_of b l events) (reads line)).stage) ≡ (turn (stage_of b l events) (reads line)).stage
  call_stage = subst (λ (x : Turn). stage_of r.bench l' (events_of x.stage) ≡ x.stage) heard_so (c.plays-on events).stage_is

  call_text : take r.used out' ≡ (turn (stage_of b l events) (reads line)).printed
  unfolding put
  call_text =
      let p = (heard r.refusal (stage_of b l events) line).printed in
      let h = c.plays-on events in
      ap₂ (λ (k : ℕ) (o : List ℕ). take k o) (h.used-is ∙ (let e : length p ≡ 0 + length p = omega arith in e)) h.text-is
      ∙ written_front 0 p out (omega arith)
      ∙ ap (λ (x : Turn). x.printed) heard_so

-- what calls leave, from a stage
pub record LeftByCalls (stage : Stage) (ls : List (List ℕ)) (text : List ℕ) (b : Bench) (l : Lent) : Type 0 where
  pub stage_is : stage_of b l (events_of (plays_lines stage ls).stage) ≡ (plays_lines stage ls).stage
  pub text-is : text ≡ (plays_lines stage ls).printed

pub calls_play : {b b'' : Bench} {l l'' : Lent} {out out'' text : List ℕ} {ls : List (List ℕ)} (stage : Stage) → refusal_of b l out ≡ 0
    → stage_of b l (events_of stage) ≡ stage → Calls b l out ls text b'' l'' out'' → LeftByCalls stage ls text b'' l''
unfolding plays_lines stays follows
calls_play stage t e (none b l out) = record { stage_is = e; text-is = refl }
calls_play {b} {b''} {l} {l''} {out} {out''} stage t e (call {line = line} {text = text} {rest = rest} r l' out' c cs) =
    let again = c.accepted-again (accepted b l line out r l' out' t c (events_of stage)) in
    let s = call_stage b l line out r l' out' t c (events_of stage) in
    let u : stage_of r.bench l' (events_of (turn stage (reads line)).stage) ≡ (turn stage (reads line)).stage
    = subst (λ (x : Stage). stage_of r.bench l' (events_of (turn x (reads line)).stage) ≡ (turn x (reads line)).stage) e s in
    let left = calls_play (turn stage (reads line)).stage again u cs in
    record {
      stage_is = left.stage_is;
      text-is =
          ap₂ (λ (x y : List ℕ). x ++ y)
          (call_text b l line out r l' out' t c (events_of stage) ∙ ap (λ (x : Stage). (turn x (reads line)).printed) e) left.text-is;
    }

pub calls_are_the_script : CallsAreTheScript
unfolding script events_of
calls_are_the_script input b b' l l' out out' text t w cs =
    let left = calls_play waiting t w cs in
    (left.stage_is, left.text-is)

-- Of each line its first 1,001 bytes are enough.
held_plays : (stage : Stage) (ls : List (List ℕ)) → plays_lines stage (map (take held_length) ls) ≡ plays_lines stage ls
unfolding plays_lines
held_plays stage [] = refl
held_plays stage (l ∷ ls) =
    rw (reads_held l) (ap (follows (turn stage (reads l))) (held_plays (turn stage (reads l)).stage ls))

pub cut_calls_are_the_script : CutCallsAreTheScript
unfolding script events_of
cut_calls_are_the_script line chunks handed b b' l l' out out' text n h t w cs =
    let left = calls_play waiting t w cs in
    let e : plays_lines waiting handed ≡ plays_lines waiting (lines (flatten chunks))
    = ap (plays_lines waiting) (cutting_gives_the_lines line chunks handed n h) ∙ held_plays waiting (lines (flatten chunks)) in
    (subst (λ (u : Turn). stage_of b' l' (events_of u.stage) ≡ u.stage) e left.stage_is, left.text-is ∙ ap (λ (u : Turn). u.printed) e)

-- what a bench without a set refuses of buffers with the right lengths: nothing
not_refused : (b : Bench) (l : Lent) (out : List ℕ) → length l.images ≡ images_length → length l.kept ≡ kept_length
    → length l.numbers ≡ numbers_length → length l.bytes ≡ bytes_length → length out ≡ text_length
    → bench_refused b images_length kept_length numbers_length bytes_length text_length ≡ 0 → refusal_of b l out ≡ 0
not_refused b l out i k n y o e = rw (i, k, n, y, o) e

pub program_plays_the_script : ProgramPlaysTheScript
program_plays_the_script r =
    let c = r.ran in
    let all = all_played c (ended_well r.status r.left_is) in
    cut_calls_are_the_script r.line c.chunks all.handed c.first c.last.bench r.l r.l' r.out r.out' c.text r.line-long all.all_lines
    (not_refused c.first r.l r.out r.images-long r.kept-long r.numbers-long r.bytes-long r.out-long c.right) (c.no-set r.l []) all.calls

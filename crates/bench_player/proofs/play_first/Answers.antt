use Rattle.std.proofs.Common.{rules, refl}
use Rattle.bench_parse.proofs.Laws.CallerLaws.{said_set}
use Rattle.bench_parse.specs.Lines.{reads}
use Rattle.bench_player.proofs.Laws.PlayerRefusalLaws.{has_number}
use Rattle.bench_player.proofs.Laws.PlayerTurnLaws.{first_set, first_bad, first_other}
use Rattle.bench_state.proofs.Laws.BenchRangeLaws.{bench_passed}
use Rattle.settings.specs.Refusal.{number_of_refusal}
use Rattle.bench_player.proofs.play_first.Goals as goal

pub set_up-bench-requires-clause-s_value : goal.set_up-bench-requires-clause-s_value
set_up-bench-requires-clause-s_value c = let f = bench_passed _ 0 c.in-Ok.ensures refl in (f.in-range, f.small)

pub returns-in-Ok : goal.returns-in-Ok
returns-in-Ok c =
    let u = c.set_up-bench.ensures in
    first_set _ _ _ _ c.args.b c.args.images.now c.args.kept.now 0 c.args.out.now _ (reads c.args.line.now) _ _
    (said_set c.args.l c.args.line.now c.requires.line_value.0 _ _ _ _ c.in-Set.is) c.in-Ok.ensures refl u.0 u.1

pub returns-in-Err : goal.returns-in-Err
returns-in-Err c =
    first_bad c.args.b c.args.out.now _ _ c.requires.n_value.0 _ _ _ _ (number_of_refusal c.in-Err.refusal) (reads c.args.line.now) c.args.images.now c.args.kept.now
    (said_set c.args.l c.args.line.now c.requires.line_value.0 _ _ _ _ c.in-Set.is) c.in-Err.ensures (has_number c.in-Err.refusal) c.refuse_as.ensures

pub returns-in_default : goal.returns-in_default
returns-in_default c =
    first_other c.args.b c.args.out.now _ _ c.requires.n_value.0 c.args.images.now c.args.kept.now c.refuse_as-in_default.ensures c.args.l c.args.line.now
    c.requires.line_value.0 c.requires.line_value.1 (λ n m size capacity e. search (rules, c.in_default.not-Set))

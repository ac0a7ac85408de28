use Rattle.std.proofs.Common.{rules}
use Rattle.bench_io.proofs.Laws.ReadLaws.{turn_came, turn_ended, turn_again, turn_failed}
use Rattle.bench_io.proofs.turn.Goals as goal

pub returns-in-Came-eq0 : goal.returns-in-Came-eq0
returns-in-Came-eq0 g c = turn_ended _ _ _ _ _ c.args.answer _ _ _ (cc) c.play_last.ensures

pub returns-in-Came : goal.returns-in-Came
returns-in-Came g c = turn_came _ _ _ _ _ c.args.answer c.in-Came.n _ _ _ _ _ c.in-Came.is (search rules) (search rules) c.play_chunk.ensures

pub returns-in-Interrupted : goal.returns-in-Interrupted
returns-in-Interrupted g c = turn_again _ _ _ _ _ c.args.answer c.in-Interrupted.is c.requires

pub returns-in-Failed : goal.returns-in-Failed
returns-in-Failed g c = turn_failed _ _ _ _ _ c.args.answer c.in-Failed.is

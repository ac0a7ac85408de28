use Rattle.bench_io.proofs.Laws.PassLaws.{last_played}
use Rattle.bench_io.proofs.play_last.Goals as goal

pub returns : goal.returns
returns g c = last_played _ _ _ _ _ _ _ _ _ c.at_the_end.ensures c.play-p.ensures

use Rattle.bench_parse.proofs.Laws.NumeralLaws.{carry_number}
use Rattle.bench_parse.proofs.number_at.Goals as goal

pub returns : goal.returns
returns c = carry_number _ _ c.requires _ (rw c.unwrap.ensures at c.number_from.ensures)

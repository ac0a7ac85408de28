use Rattle.interpolate.proofs.Laws.WeightRowLaws.{row_all}
use Rattle.interpolate.proofs.Known.combine.Goals as goal

pub returns : goal.returns
returns c = row_all _ _ _ _ _ _ c.loop-i-test.false c.loop-i.auto.i-end c.loop-i.invariant

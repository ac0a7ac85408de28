use Rattle.std.proofs.Common.{arith}
use Rattle.image_block.proofs.Laws.CheckRowLaws.{rows_more, rows_all}
use Rattle.image_block.proofs.check_of.Goals as goal

pub loop-row-preserved : goal.loop-row-preserved
loop-row-preserved c = rows_more _ _ _ _ c.loop-row.auto.row c.row_sum-sum.ensures.0 c.row_sum-sum.ensures.1 c.loop-row.invariant

pub returns : goal.returns
returns c = rows_all _ _ _ c.requires (omega arith) c.loop-row.invariant

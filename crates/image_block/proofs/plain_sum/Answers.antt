use Rattle.std.proofs.Common.{arith}
use Rattle.image_block.proofs.Laws.CheckRowLaws.{totalling_more, totalling_all}
use Rattle.image_block.proofs.plain_sum.Goals as goal

pub loop-i-preserved : goal.loop-i-preserved
loop-i-preserved c = totalling_more _ _ _ (omega arith) (omega (arith, c.type_inv.t c.loop-i.i)) c.loop-i.invariant

pub returns : goal.returns
returns c = totalling_all _ _ _ c.requires (omega arith) c.loop-i.invariant

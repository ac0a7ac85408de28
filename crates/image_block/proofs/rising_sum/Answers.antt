use Rattle.std.proofs.Common.{arith}
use Rattle.image_block.proofs.Laws.CheckRowLaws.{rising_more, rising_all}
use Rattle.image_block.proofs.rising_sum.Goals as goal

pub loop-p-preserved : goal.loop-p-preserved
loop-p-preserved c = rising_more _ _ _ c.requires (omega (arith, c.type_inv.b c.loop-p.p)) c.loop-p-test.true c.loop-p.invariant

pub returns : goal.returns
returns c = rising_all _ _ _ c.requires (omega arith) c.loop-p.invariant

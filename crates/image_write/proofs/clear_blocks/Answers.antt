use Rattle.std.proofs.Common.{arith}
use Rattle.image_write.proofs.Laws.BlocksLaws.{clearing_none, clearing_more}
use Rattle.image_write.proofs.clear_blocks.Goals as goal

pub loop-k-init : goal.loop-k-init
loop-k-init c = clearing_none _ _

pub loop-k-preserved : goal.loop-k-preserved
loop-k-preserved c = clearing_more _ _ _ _ _ _ (omega arith) c.unused-b.ensures c.store.ensures c.loop-k.invariant

use Rattle.std.proofs.Common.{refl, arith, ◌∙◌}
use Rattle.image.proofs.Laws.ScanLaws.{part_is}
use Rattle.image_write.proofs.Laws.BlocksLaws.{shifting_none, shifting_more}
use Rattle.image_write.proofs.shift_blocks.Goals as goal

pub loop-k-init : goal.loop-k-init
loop-k-init c = shifting_none _ _ _

pub loop-k-preserved : goal.loop-k-preserved
loop-k-preserved c = shifting_more _ _ _ _ _ _ _ (omega arith) (c.copied-b.ensures ∙ part_is _ _ _ refl) c.store.ensures c.loop-k.invariant

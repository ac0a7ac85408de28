use Rattle.image_write.proofs.Laws.BlocksLaws.{Clearing}
use Rattle.image_write.proofs.clear_blocks.Given as goal

abbrev pub invariant-loop-k : goal.invariant-loop-k
invariant-loop-k l = Clearing l.fn.image l.from l.k l.image

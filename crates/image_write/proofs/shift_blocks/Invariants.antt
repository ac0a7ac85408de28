use Rattle.image_write.proofs.Laws.BlocksLaws.{Shifting}
use Rattle.image_write.proofs.shift_blocks.Given as goal

abbrev pub invariant-loop-k : goal.invariant-loop-k
invariant-loop-k l = Shifting l.fn.image l.from l.d l.k l.image

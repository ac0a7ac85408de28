use Rattle.coord_blocks.proofs.Laws.BufferLaws.{Gathered}
use Rattle.coord_blocks.proofs.gather.Given as goal

abbrev pub invariant-loop-i : goal.invariant-loop-i
invariant-loop-i l = Gathered l.size l.bricks l.blocks l.fn.out l.out l.i

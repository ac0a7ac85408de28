use Rattle.image_block.proofs.Laws.CheckRowLaws.{Rising}
use Rattle.image_block.proofs.rising_sum.Given as goal

abbrev pub invariant-loop-p : goal.invariant-loop-p
invariant-loop-p l = Rising l.b l.rise l.p

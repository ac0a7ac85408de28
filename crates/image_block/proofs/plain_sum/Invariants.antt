use Rattle.image_block.proofs.Laws.CheckRowLaws.{Totalling}
use Rattle.image_block.proofs.plain_sum.Given as goal

abbrev pub invariant-loop-i : goal.invariant-loop-i
invariant-loop-i l = Totalling l.t l.part l.i

use Rattle.image_block.proofs.Laws.CheckRowLaws.{Rows}
use Rattle.image_block.proofs.check_of.Given as goal

abbrev pub invariant-loop-row : goal.invariant-loop-row
invariant-loop-row l = Rows l.b l.sum l.row

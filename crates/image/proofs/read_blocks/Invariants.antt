use Rattle.image.proofs.Laws.ScanLaws.{Scanning}
use Rattle.image.proofs.read_blocks.Given as goal

abbrev pub invariant-loop-i : goal.invariant-loop-i
invariant-loop-i l = Scanning l.size l.image l.count l.fits l.last l.i l.log

use Rattle.std.proofs.Common.{◌≡◌, true}
use Rattle.byte_lists.specs.Each.{each}
use Rattle.interpolate.proofs.Laws.FurtherBlockLaws.{fit_at}
use Rattle.interpolate.proofs.Known.all_fit.Given as goal

abbrev pub invariant-loop-i : goal.invariant-loop-i
invariant-loop-i l = each (fit_at l.self.points.now l.self.size l.self.blocks.now l.further l.given) l.i ≡ true

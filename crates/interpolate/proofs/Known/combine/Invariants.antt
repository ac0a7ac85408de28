use Rattle.std.proofs.Common.{◌≡◌}
use Rattle.byte_lists.specs.Lists.{tabulate}
use Rattle.interpolate.proofs.Laws.WeightRowLaws.{partial}
use Rattle.interpolate.proofs.Known.combine.Given as goal

abbrev pub invariant-loop-i : goal.invariant-loop-i
invariant-loop-i l = l.out ≡ tabulate l.self.size (partial l.self.points.now l.self.size l.self.blocks.now l.x l.i)

use Rattle.std.proofs.Common.{◌≡◌}
use Rattle.interpolate.specs.Workers.{numerator}
use Rattle.interpolate.proofs.Known.numerator.Given as goal

abbrev pub invariant-loop-b : goal.invariant-loop-b
invariant-loop-b l = l.all ≡ numerator l.self.points.now l.x l.b-index

use Rattle.interpolate.specs.Workers.{Differences}
use Rattle.interpolate.proofs.shares_of.Given as goal

abbrev pub invariant-loop-k : goal.invariant-loop-k
invariant-loop-k l = Differences l.points l.k l.shares

use Rattle.std.proofs.Common.{◌≡◌, ◌-◌}
use Rattle.image.specs.Opening.{holder_of}
use Rattle.image.proofs.holder_of.Given as goal

abbrev pub invariant-loop-k : goal.invariant-loop-k
invariant-loop-k l = holder_of l.log (l.k - 1) ≡ holder_of l.log l.i

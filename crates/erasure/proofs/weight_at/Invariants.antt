use Rattle.std.proofs.Common.{◌≡◌}
use Rattle.erasure.proofs.Laws.WeightFactorLaws.{weight_to}
use Rattle.erasure.proofs.weight_at.Given as goal

abbrev pub invariant-loop-k : goal.invariant-loop-k
invariant-loop-k l = l.w ≡ weight_to l.k l.brick l.j

use Rattle.std.proofs.Common.{ℕ, ◌+◌}
use Rattle.interpolate.specs.Workers.{denominator}
use Rattle.byte_lists.proofs.Laws.TabulateLaws.{Filled}
use Rattle.interpolate.proofs.times_differences.Given as goal

abbrev pub invariant-loop-i : goal.invariant-loop-i
invariant-loop-i l = Filled (λ (j : ℕ). denominator l.points j (l.k + 1)) l.fn.products l.products l.i

use Rattle.std.proofs.Common.{ℕ}
use Rattle.interpolate.specs.Workers.{weight}
use Rattle.byte_lists.proofs.Laws.TabulateLaws.{Filled}
use Rattle.interpolate.proofs.Known.weights_at.Given as goal

abbrev pub invariant-loop-i : goal.invariant-loop-i
invariant-loop-i l = Filled (λ (j : ℕ). weight l.self.points.now j l.x) l.fn.weights l.weights l.i

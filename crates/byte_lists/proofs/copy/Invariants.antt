use Rattle.std.proofs.Common.{ℕ}
use lib.ListN.{get_or}
use Rattle.byte_lists.proofs.Laws.TabulateLaws.{Filled}
use Rattle.byte_lists.proofs.copy.Given as goal

abbrev pub invariant-loop-i : goal.invariant-loop-i
invariant-loop-i l = Filled (λ (p : ℕ). get_or l.from p 0) l.fn.to l.to l.i

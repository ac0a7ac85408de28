use Rattle.std.proofs.Common.{ℕ, get_or}
use Rattle.gf256.specs.Product.{inverse}
use Rattle.byte_lists.proofs.Laws.TabulateLaws.{Filled}
use Rattle.interpolate.proofs.invert.Given as goal

abbrev pub invariant-loop-i : goal.invariant-loop-i
invariant-loop-i l = Filled (λ (p : ℕ). inverse (get_or l.fn.bytes p 0)) l.fn.bytes l.bytes l.i

use Rattle.std.proofs.Common.{ℕ, get_or}
use Rattle.gf256.specs.Product.{plus, product}
use Rattle.byte_lists.proofs.Laws.TabulateLaws.{Filled}
use Rattle.interpolate.proofs.add_multiples.Given as goal

abbrev pub invariant-loop-i : goal.invariant-loop-i
invariant-loop-i l = Filled (λ (p : ℕ). plus (get_or l.fn.to p 0) (product l.fn.w.w (get_or l.from p 0))) l.fn.to l.to l.i

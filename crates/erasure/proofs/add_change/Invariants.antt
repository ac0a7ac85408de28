use Rattle.std.proofs.Common.{ℕ, get_or}
use Rattle.gf256.specs.Product.{plus, product}
use Rattle.byte_lists.proofs.Laws.TabulateLaws.{Filled}
use Rattle.erasure.proofs.add_change.Given as goal

abbrev pub invariant-loop-i : goal.invariant-loop-i
invariant-loop-i l = Filled (λ (p : ℕ). plus (get_or l.own p 0) (product l.fn.w.w (plus (get_or l.old p 0) (get_or l.new p 0)))) l.fn.out l.out l.i

use Rattle.std.proofs.Common.{arith, refl}
use Rattle.byte_lists.proofs.Laws.TabulateLaws.{filled_more, filled_copy}
use Rattle.byte_lists.proofs.copy.Goals as goal

pub loop-i-preserved : goal.loop-i-preserved
loop-i-preserved c = filled_more _ _ _ _ _ c.loop-i.invariant (omega arith) refl

pub returns : goal.returns
returns c = filled_copy _ _ _ _ c.loop-i.invariant (omega arith) c.requires

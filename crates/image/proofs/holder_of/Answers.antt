use Rattle.std.proofs.Common.{arith}
use Rattle.image.specs.Opening.{blank}
use Rattle.image.proofs.Laws.HolderLaws.{holder_here, holder_next, holder_lowest}
use Rattle.image.proofs.holder_of.Goals as goal

pub returns-then-place-ne0 : goal.returns-then-place-ne0
unfolding blank
returns-then-place-ne0 c = holder_here _ _ _ _ c.place_of-place.ensures c.if-place-ne0.true c.loop-k.invariant

pub loop-k-preserved : goal.loop-k-preserved
unfolding blank
loop-k-preserved c = holder_next _ _ _ _ (omega arith) c.place_of-place.ensures c.if-place-ne0.false c.loop-k.invariant

pub returns : goal.returns
unfolding blank
returns c = holder_lowest _ _ _ _ (omega arith) c.place_of.ensures c.loop-k.invariant

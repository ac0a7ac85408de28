use Rattle.erasure.proofs.Laws.ListLaws.{different_not, different_more, different_end}
use Rattle.erasure.proofs.all_different.Goals as goal

pub returns-then-contains : goal.returns-then-contains
returns-then-contains c = different_not _ _ c.loop-i-test.true _ c.loop-i.invariant c.contains.ensures.value c.if-contains.true

pub loop-i-preserved : goal.loop-i-preserved
loop-i-preserved c = different_more _ _ c.loop-i-test.true _ c.loop-i.invariant c.contains.ensures.value c.if-contains.false

pub returns : goal.returns
returns c = different_end _ _ c.loop-i-test.false c.loop-i.invariant

use Rattle.std.proofs.Common.{arith}
use Rattle.byte_lists.proofs.Laws.TabulateLaws.{filled_more}
use Rattle.interpolate.proofs.Laws.WeightLaws.{weight_by_parts}
use Rattle.interpolate.proofs.Known.weights_at.Goals as goal

pub loop-i-preserved : goal.loop-i-preserved
loop-i-preserved c =
    let ready = c.args.self.now.ready in
    filled_more _ _ _ _ _ c.loop-i.invariant (omega arith)
    (weight_by_parts _ ready.bytes _ _ c.args.x c.loop-i.i _ _ _ ready c.ranges.x.fits c.requires.by_index c.numerator-top.ensures
    c.loop-i-test.true c.inv-own.ensures c.mul-share.ensures.value c.mul.ensures.value)

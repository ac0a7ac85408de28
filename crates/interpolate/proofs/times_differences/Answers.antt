use Rattle.std.proofs.Common.{ℕ}
use Rattle.interpolate.proofs.Laws.WeightLaws.{difference_taken, difference_left}
use Rattle.interpolate.proofs.times_differences.Goals.{then-i-k, else-i-k}
use Rattle.interpolate.proofs.times_differences.Goals as goal

pub loop-i-preserved : goal.loop-i-preserved
loop-i-preserved c =
    let l = c.loop-i in
    let small = λ (k : ℕ). (c.type_inv.points k).fits in
    elim c.if-i-k.branch [
      | then-i-k w ↦
          difference_taken _ small c.args.k l.i _ _ _ _ c.requires.differences l.invariant
          c.loop-i-test.true c.requires.k_in_bounds.1 w.if-i-k.true w.mul.ensures.value w.products-is
      | else-i-k w ↦
          difference_left _ small c.args.k l.i _ _ _ c.requires.differences l.invariant
          c.loop-i-test.true w.if-i-k.false w.products-is
    ]

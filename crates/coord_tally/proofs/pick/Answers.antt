use Rattle.std.proofs.Common.{arith, ap, refl, length, ◌∙◌}
use Rattle.coord_tally.proofs.pick.Goals as goal
use Rattle.coord_tally.proofs.pick.Goals.{then-at_time+then-k-m, else-at_time, else-at_time-via-then-at_time+else-k-m, else-at_time-via-else-at_time}
use Rattle.coord_tally.specs.Counting.{at_times}
use Rattle.coord_tally.proofs.Laws.TargetRowLaws.{picks_none, picks_not, picks_full, picks_more, picks_all, picks_same}
use lib.ListN.{length-set}

pub loop-brick-init : goal.loop-brick-init
loop-brick-init c = (picks_none _ _, omega arith, refl)

pub loop-brick-preserved : goal.loop-brick-preserved
unfolding at_times
loop-brick-preserved c =
    let l = c.loop-brick in
    let e = c.at_time.ensures in
    elim c.if-at_time.branch [
      | then-at_time+then-k-m w ↦ (
        picks_same _ _ _ _ _ _ _ (picks_more _ _ _ _ _ _ l.invariant.0 e w.if-at_time.true w.if-k-m.true (omega arith)) w.row-is w.k-is,
        omega (arith, w.k-is),
        ap length w.row-is ∙ length-set l.row l.k l.brick ∙ l.invariant.2,
      )
      | else-at_time w ↦ (
        elim w.else-at_time.branch [
          | else-at_time-via-then-at_time+else-k-m v ↦ picks_same _ _ _ _ _ _ _ (picks_full _ _ _ _ _ _ l.invariant.0 e v.if-at_time.true v.if-k-m.false) w.row-is w.k-is
          | else-at_time-via-else-at_time v ↦ picks_same _ _ _ _ _ _ _ (picks_not _ _ _ _ _ _ l.invariant.0 e v.if-at_time.false) w.row-is w.k-is
        ],
        omega (arith, w.k-is),
        ap length w.row-is ∙ l.invariant.2,
      )
    ]

pub returns : goal.returns
returns c = picks_all _ _ _ _ _ _ _ _ c.loop-brick.invariant.0 (omega arith) (omega arith)

use Rattle.test_coordinator.specs.CoordinatorBoundary.{row_at}
use Rattle.test_coordinator.proofs.Laws.CoordinatorBoundaryLaws.{record_is}
use Rattle.test_coordinator.proofs.record_of.Goals as goal

pub returns : goal.returns
unfolding row_at
returns c =
    record_is c.args.numbers.now c.args.bytes.now _ _ _ _ _ _ c.row_of-found.ensures c.row_of-counted.ensures c.row_of-granted.ensures
    c.row_of-held.ensures c.row_of-bricks.ensures c.row_of-said.ensures

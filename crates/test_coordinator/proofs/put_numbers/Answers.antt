use Rattle.test_coordinator.specs.CoordinatorBoundary.{record_numbers}
use Rattle.test_coordinator.proofs.Laws.CoordinatorBoundaryLaws.{numbers_are}
use Rattle.test_coordinator.proofs.put_numbers.Goals as goal

pub returns : goal.returns
unfolding record_numbers
returns c =
    let s = c.args.c.now in
    numbers_are c.args.out.now s.clock.coordinator s.clock.last s.op.time s.op.round s.op.max s.op.first s.geometry.n s.geometry.m s.geometry.size
    s.geometry.stripes s.op.stripe s.tally.found _ c.requires c.put_row.ensures.out_after

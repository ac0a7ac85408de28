use Rattle.test_coordinator.specs.CoordinatorBoundary.{record_bytes}
use Rattle.test_coordinator.proofs.Laws.CoordinatorBoundaryLaws.{bytes_are}
use Rattle.test_coordinator.proofs.put_bytes.Goals as goal

pub returns : goal.returns
unfolding record_bytes
returns c =
    let s = c.args.c.now in
    let w1 = c.put_row.ensures in
    let w2 = c.put_row-2.ensures in
    let w3 = c.put_row-3.ensures in
    let w4 = c.put_row-4.ensures in
    let w5 = c.put_row-5.ensures in
    bytes_are c.args.out.now s.op.kind s.op.phase s.tally.counted s.tally.granted s.tally.held s.bricks s.tally.said _ _ _ _ _ c.requires
    w1.row_len w2.row_len w3.row_len w4.row_len w1.out_after w2.out_after w3.out_after w4.out_after w5.out_after

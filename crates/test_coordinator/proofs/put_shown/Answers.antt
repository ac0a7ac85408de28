use Rattle.test_coordinator.specs.CoordinatorBoundary.{answer_bytes}
use Rattle.test_coordinator.proofs.Laws.CoordinatorBoundaryLaws.{shown_are}
use Rattle.test_coordinator.proofs.put_shown.Goals as goal

pub returns : goal.returns
unfolding answer_bytes
returns c =
    let a = c.args.a.now in
    let w1 = c.put_row.ensures in
    let w2 = c.put_row-2.ensures in
    let w3 = c.put_row-3.ensures in
    shown_are c.args.out.now a.message.kind a.seen.what a.seen.kind a.second.kind a.seen.letter a.message.targets a.seen.bricks a.second.targets _ _ _
    c.requires w1.row_len w2.row_len w1.out_after w2.out_after w3.out_after

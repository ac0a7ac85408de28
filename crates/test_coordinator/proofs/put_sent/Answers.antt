use Rattle.test_coordinator.specs.CoordinatorBoundary.{answer_numbers}
use Rattle.test_coordinator.proofs.Laws.CoordinatorBoundaryLaws.{answer_stored}
use Rattle.test_coordinator.proofs.put_sent.Goals as goal

pub returns : goal.returns
unfolding answer_numbers
returns c = answer_stored c.args.out.now _ _ _ _ _ _ _ _ _ _ _ _ _ _ _ _ c.requires

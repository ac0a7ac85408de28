use mathlib.Core.Path.{refl}
use Rattle.test_coordinator.proofs.Laws.CoordinatorBoundaryLaws.{row_put_is}
use Rattle.test_coordinator.proofs.put_row.Goals as goal

pub returns-clause-out_after : goal.returns-clause-out_after
returns-clause-out_after g c = row_put_is _ _ _ _ _ refl c.copy_from_slice.ensures.after

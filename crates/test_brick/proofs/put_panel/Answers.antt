use mathlib.Core.Path.{refl}
use Rattle.test_brick.proofs.Laws.BrickBoundaryLaws.{pair_long}
use Rattle.test_brick.proofs.put_panel.Goals as goal

pub copy_from_slice-requires : goal.copy_from_slice-requires
copy_from_slice-requires c = pair_long _ _ _ c.in_ok-check_own.ensures refl

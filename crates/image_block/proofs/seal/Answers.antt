use Rattle.std.proofs.Common.{arith, ◌∙◌}
use Rattle.image_block.proofs.Laws.CheckLaws.{check_high}
use Rattle.image_block.proofs.Laws.BlockStoreLaws.{sealed_stored}
use Rattle.image_block.proofs.seal.Goals as goal

pub overflow_cast-check : goal.overflow_cast-check
overflow_cast-check c = omega (arith, c.check_of-check.ensures, check_high)

pub returns : goal.returns
returns c = sealed_stored c.args.b _ _ c.check_of-check.ensures (c.copy_from_slice.ensures.after ∙ c.to_le_bytes.ensures)

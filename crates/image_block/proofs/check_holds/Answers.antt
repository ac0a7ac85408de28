use Rattle.image_block.proofs.Laws.CheckLaws.{check_held}
use Rattle.std.proofs.Common.{arith}
use Rattle.image_block.proofs.check_holds.Goals as goal

pub returns : goal.returns
returns c = check_held _ _ _ c.requires (λ i. omega (arith, c.type_inv.b i)) c.read2.ensures.0 c.check_of.ensures

use Rattle.image_block.proofs.Laws.CheckRowLaws.{row_summed}
use Rattle.image_block.proofs.row_sum.Goals as goal

pub returns : goal.returns
returns c = row_summed _ _ _ _ c.requires.past_le_past_most c.rising_sum.ensures.0 c.rising_sum.ensures.1 c.plain_sum.ensures.0 c.plain_sum.ensures.1

use Rattle.byte_lists.specs.Lists.{zeros}
use Rattle.image_write.proofs.Laws.BlocksLaws.{zero_entry}
use Rattle.image_block.specs.Block.{block_bytes}
use Rattle.image_write.proofs.write_zero_entry.Goals as goal

pub returns : goal.returns
unfolding zeros
returns c = zero_entry block_bytes _ _ _ c.requires.1 c.write_entry.ensures

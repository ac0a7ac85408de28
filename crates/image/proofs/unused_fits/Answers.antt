use Rattle.byte_lists.specs.Lists.{zeros}
use Rattle.image_block.specs.Block.{unused_body}
use Rattle.image.proofs.unused_fits.Goals as goal

pub returns : goal.returns
unfolding unused_body zeros
returns c = c.same_body.ensures

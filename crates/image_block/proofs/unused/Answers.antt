use Rattle.std.proofs.Common.{sym}
use Rattle.byte_lists.specs.Lists.{zeros}
use Rattle.image_block.proofs.Laws.CheckFigures.{unused_is}
use Rattle.image_block.proofs.unused.Goals as goal

pub returns : goal.returns
unfolding zeros
returns c = sym unused_is

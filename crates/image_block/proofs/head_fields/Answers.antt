use Rattle.std.proofs.Common.{◌∙◌, ap, take}
use Rattle.byte_lists.specs.Little.{little}
use Rattle.byte_lists.specs.Lists.{zeros}
use Rattle.image_block.proofs.Laws.BlockStoreLaws.{head_stored, le_8}
use Rattle.image_block.proofs.head_fields.Goals as goal

pub returns : goal.returns
unfolding little zeros
returns c =
    rw (c.store-3.ensures, c.store-2.ensures, c.store.ensures)
    (head_stored c.args.member.set.settings _ _ _ _ _ _ (ap (take 2) (c.to_le_bytes.ensures ∙ le_8 _))
    (ap (take 2) (c.to_le_bytes-2.ensures ∙ le_8 _)) (c.to_le_bytes-3.ensures ∙ le_8 _))

use Rattle.std.proofs.Common.{◌∙◌, ap, take}
use Rattle.byte_lists.specs.Little.{little}
use Rattle.byte_lists.specs.Lists.{zeros}
use Rattle.image_block.proofs.Laws.BlockStoreLaws.{slot_stored, le_8}
use Rattle.image_block.proofs.slot_fields.Goals as goal

pub returns : goal.returns
unfolding little zeros
returns c =
    rw (c.store-3.ensures, c.store-2.ensures)
    (slot_stored _ _ _ _ _ _ _ c.requires c.store.ensures (c.to_le_bytes.ensures ∙ le_8 c.args.time) (ap (take 2) (c.to_le_bytes-2.ensures ∙ le_8 c.args.size)))

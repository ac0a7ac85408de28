-- Document 01, "Figures to hold it to": the checks of a fresh head and its entry, for n 3, m 1, brick 0, capacity 4, size 1.
use mathlib.Core.Path.{◌≡◌, refl}
use mathlib.Core.List.{[], ◌∷◌}
use Rattle.byte_lists.specs.Little.{little, byte_of}
use Rattle.image_block.specs.Block.{body_bytes, weighted, check_of, sealed, head_body, slot_body, entry_body, unused_body, unused_block}
use Rattle.byte_lists.specs.Lists.{zeros}

pub fresh_head_check : check_of (head_body (record { n = 3; m = 1; size = 1; capacity = 4; stripes = 1 }) 0 1 0) ≡ 55
unfolding weighted check_of head_body little byte_of zeros
fresh_head_check = refl

pub fresh_entry_check : check_of (entry_body 0 (0 ∷ [])) ≡ 14
unfolding weighted check_of entry_body slot_body little byte_of zeros
fresh_entry_check = refl

-- "an unused block is 510 zeros after a check of 1"
pub unused_is : unused_block ≡ 1 ∷ 0 ∷ zeros body_bytes
unfolding unused_block unused_body sealed weighted check_of little byte_of zeros
unused_is = refl

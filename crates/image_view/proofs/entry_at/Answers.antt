use Rattle.std.proofs.Common.{refl}
use Rattle.image.specs.Parse.{time_in}
use Rattle.image.proofs.Laws.ScanLaws.{part_is}
use Rattle.image_view.proofs.Laws.ViewLaws.{at_short, at_past, at_there, same_of, held_of}
use Rattle.image_view.proofs.entry_at.Goals as goal

pub returns-then-image-count : goal.returns-then-image-count
returns-then-image-count c = at_short _ _ _ c.if-image-count.true

pub returns-then-count-place : goal.returns-then-count-place
returns-then-count-place c = at_past _ _ _ c.if-image-count.false c.if-count-place.true

pub returns-then-is_mark : goal.returns-then-is_mark
unfolding time_in
returns-then-is_mark c =
    at_there _ _ _ _ _ _ c.if-image-count.false c.if-count-place.false (part_is _ _ _ refl) c.read8-time.ensures c.is_mark.ensures _ (same_of _ _ c.if-is_mark.true)

pub returns-else-is_mark : goal.returns-else-is_mark
unfolding time_in
returns-else-is_mark c =
    at_there _ _ _ _ _ _ c.if-image-count.false c.if-count-place.false (part_is _ _ _ refl) c.read8-time.ensures c.is_mark.ensures _ (held_of _ _ c.if-is_mark.false)

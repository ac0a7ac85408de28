use Rattle.image_write.proofs.Laws.HoldLaws.{held_here, held_there}
use Rattle.image_write.proofs.hold_own.Goals as goal

pub returns-then-holder-own : goal.returns-then-holder-own
returns-then-holder-own c = held_here _ _ _ _ _ c.if-holder-own.true

pub returns : goal.returns
returns c = held_there _ _ _ _ _ _ _ c.if-holder-own.false c.copied-b.ensures c.write_entry.ensures

use Rattle.std.proofs.Common.{Ok}
use Rattle.image.specs.Opening.{opening_in}
use Rattle.image.proofs.Laws.HubLaws.{show_values}
use Rattle.image.proofs.show.Goals as goal

pub returns : goal.returns
returns c = show_values _ _ _ (opening_in (Ok c.in-Ok.opened)) _ _ c.in-Ok.ensures.opened

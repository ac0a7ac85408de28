use Rattle.std.proofs.Common.{ap, ◌∙◌}
use Rattle.image_view.specs.ViewCount.{Counted}
use Rattle.image_view.specs.View.{View, found_in, counted_number}
use Rattle.image_view.proofs.Laws.ViewLaws.{view_entry}
use Rattle.image_view.proofs.Laws.FoundNumberLaws.{counted_number_lem}
use Rattle.image_view.proofs.open_view.Goals as goal

pub returns-clause-view : goal.returns-clause-view
returns-clause-view c = ap (λ (n : Counted). record { image = c.args.image; counted = n }) c.count_in-counted.ensures

pub returns-clause-entries : goal.returns-clause-entries
returns-clause-entries c = λ place. ap (λ (v : View). found_in v place) (returns-clause-view c) ∙ view_entry c.args.s c.args.brick c.args.image place

pub returns-clause-number : goal.returns-clause-number
returns-clause-number c = ap counted_number c.count_in-counted.ensures ∙ counted_number_lem c.args.s c.args.brick c.args.image.now

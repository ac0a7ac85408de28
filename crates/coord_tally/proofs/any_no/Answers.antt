use Rattle.std.proofs.Common.{rules, refl}
use Rattle.coord_tally.proofs.any_no.Goals as goal
use Rattle.coord_tally.specs.Counting.{said_no}
use Rattle.message.specs.Flags.{member}
use Rattle.byte_lists.proofs.Laws.OverRangeLaws.{some_from_any}
use borrow.Author.Tests.{tests}

pub returns : goal.returns
unfolding said_no member
returns c = some_from_any (said_no c.args.counted c.args.granted) c.args.n _ _ _ c.any.ensures.ran refl (λ x b q k. search (rules, tests))

use Rattle.std.proofs.Common.{rules, refl}
use Rattle.coord_tally.proofs.any_other.Goals as goal
use Rattle.coord_tally.specs.Counting.{other_time}
use Rattle.message.specs.Flags.{member}
use Rattle.byte_lists.proofs.Laws.OverRangeLaws.{some_from_any}
use borrow.Author.Tests.{tests}

pub returns : goal.returns
unfolding other_time member
returns c = some_from_any (other_time c.args.counted c.args.found c.args.time) c.args.n _ _ _ c.any.ensures.ran refl (λ x b q k. search (rules, tests))

use Rattle.std.proofs.Common.{rules, refl}
use Rattle.coord_tally.proofs.any_missing.Goals as goal
use Rattle.coord_tally.specs.Counting.{missing}
use Rattle.message.specs.Flags.{member}
use Rattle.byte_lists.proofs.Laws.OverRangeLaws.{some_from_any}
use borrow.Author.Tests.{tests}

pub returns : goal.returns
unfolding missing member
returns c = some_from_any (missing c.args.n c.args.m c.args.first c.args.counted) c.args.n _ _ _ c.any.ensures.ran refl (λ x b q k. search (rules, tests))

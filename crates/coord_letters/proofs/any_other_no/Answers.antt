use Rattle.std.proofs.Common.{rules, refl}
use Rattle.coord_letters.proofs.any_other_no.Goals as goal
use Rattle.coord_letters.specs.Letters.{said_other}
use Rattle.coord_tally.specs.Counting.{said_no}
use Rattle.message.specs.Flags.{member}
use Rattle.byte_lists.proofs.Laws.OverRangeLaws.{some_from_any}

pub returns : goal.returns
unfolding said_other said_no member
returns c =
    some_from_any (said_other c.args.t.now.counted c.args.t.now.granted c.args.t.now.said) c.args.n _ _ _ c.any.ensures.ran refl (λ x b q k. search rules)

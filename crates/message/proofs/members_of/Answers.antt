use Rattle.std.proofs.Common.{rules, ◌∙◌, arith}
use Rattle.message.proofs.members_of.Goals as goal
use Rattle.message.proofs.Laws.FlagLaws.{members_is}
use Rattle.std.proofs.lemmas.Iterator.{YieldsList-from_slice}
use Rattle.std.proofs.lemmas.Iterator.Consumers.{YieldsList-from_filter, count_from_yields_List}
use borrow.Author.Tests.{tests}
use lib.Dec.{eqb}
use lib.ListN.{take}

pub returns : goal.returns
returns c =
    count_from_yields_List _ _ c.count.ensures.ran
    (YieldsList-from_filter _ (λ f. eqb f 1) (YieldsList-from_slice (take c.args.n c.args.flags) cc) (cc) (λ x b q k. search (rules, tests)))
    ∙ members_is c.args.flags c.args.n (omega arith)

use Rattle.std.proofs.Common.{rules, ◌∙◌, refl}
use Rattle.message.proofs.flags_within.Goals as goal
use Rattle.message.proofs.Laws.FlagLaws.{within_is}
use Rattle.settings.specs.Count.{one_if}
use Rattle.std.proofs.lemmas.Iterator.{YieldsList-from_range}
use Rattle.std.proofs.lemmas.Iterator.Search.{all_from_yields_List}
use borrow.Author.Tests.{tests}
use lib.Dec.{leb, ltb}
use lib.ListN.{get_or}

pub returns : goal.returns
returns c =
    all_from_yields_List (λ i. leb (get_or c.args.flags i 0) (one_if (ltb i c.args.n))) _ _ _ c.all.ensures.ran
    (YieldsList-from_range 0 16 16 refl refl) (λ x b q k. search (rules, tests))
    ∙ within_is c.args.flags c.args.n 16

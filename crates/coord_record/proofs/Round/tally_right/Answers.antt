use Rattle.std.proofs.Common.{rules, ◌∙◌, refl}
use Rattle.coord_record.proofs.Laws.RuleLaws.{each_is}
use Rattle.coord_record.proofs.Round.tally_right.Goals as goal
use Rattle.coord_record.specs.CountedRules.{kept_right, tally_right}
use Rattle.std.proofs.lemmas.Iterator.{YieldsList-from_range}
use Rattle.std.proofs.lemmas.Iterator.Search.{all_from_yields_List}
use borrow.Author.Tests.{tests}

pub returns : goal.returns
unfolding tally_right
returns c =
    let right = kept_right c.args.self.n c.args.self.targets c.args.self.phase c.args.self.first c.args.t.now in
    all_from_yields_List right _ _ _ c.all.ensures.ran (YieldsList-from_range 0 16 16 refl refl) (λ x b q k. search (rules, tests))
    ∙ each_is right 16

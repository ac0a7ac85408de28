use Rattle.std.proofs.Common.{rules, ◌∙◌, refl, ℕ, ◌-◌}
use Rattle.coord_record.proofs.Laws.RuleLaws.{each_is}
use Rattle.coord_record.proofs.bricks_right.Goals as goal
use Rattle.coord_record.specs.CountedRules.{brick_right, bricks_right}
use Rattle.std.proofs.lemmas.Iterator.{YieldsList-from_range}
use Rattle.std.proofs.lemmas.Iterator.Search.{all_from_yields_List}
use borrow.Author.Tests.{tests}
use lib.ListN.{get_or}
use mathlib.Core.Bool.{Bool}

pub returns : goal.returns
unfolding bricks_right brick_right
returns c =
    let right : ℕ → Bool = λ i. brick_right c.args.n c.args.k i (get_or c.args.bricks (i - 1) 0) (get_or c.args.bricks i 0) in
    all_from_yields_List right _ _ _ c.all.ensures.ran (YieldsList-from_range 0 16 16 refl refl) (λ x b q k. search (rules, tests))
    ∙ each_is right 16

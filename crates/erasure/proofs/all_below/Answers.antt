use Rattle.std.proofs.Common.{ℕ, rules, tests, sym, ◌∙◌}
use Rattle.std.proofs.lemmas.Iterator.{YieldsList-from_slice}
use Rattle.std.proofs.lemmas.Iterator.Search.{all_from_yields_List}
use lib.Dec.{ltb}
use Rattle.erasure.proofs.Laws.ListLaws.{below_all}
use Rattle.erasure.proofs.all_below.Goals as goal

pub returns : goal.returns
returns c =
    all_from_yields_List (λ (b : ℕ). ltb b c.args.n) _ _ _ c.all.ensures.ran (YieldsList-from_slice c.args.bricks.now cc) (λ x b q k. search (rules, tests))
    ∙ sym (below_all c.args.n c.args.bricks.now)

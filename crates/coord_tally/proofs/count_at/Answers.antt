use Rattle.std.proofs.Common.{◌≡◌, rules, arith, ◌∙◌}
use Rattle.coord_tally.proofs.count_at.Goals as goal
use Rattle.coord_tally.specs.Counting.{at_times}
use Rattle.settings.specs.Count.{count}
use Rattle.coord_tally.proofs.Laws.CountingLaws.{count_is}
use Rattle.std.proofs.lemmas.Iterator.{YieldsList-from_range}
use Rattle.std.proofs.lemmas.Iterator.Consumers.{YieldsList-from_filter, count_from_yields_List}

pub returns : goal.returns
unfolding at_times
returns c =
    let counted : c.count.result ≡ count (at_times c.args.flags c.args.found c.args.time) c.args.n =
    count_from_yields_List _ _ c.count.ensures.ran
    (YieldsList-from_filter _ (at_times c.args.flags c.args.found c.args.time) (YieldsList-from_range 0 c.args.n c.args.n (cc) (omega arith)) c.filter.ensures.closure (λ x b q k. search rules))
    ∙ count_is (at_times c.args.flags c.args.found c.args.time) c.args.n
    in
    omega arith

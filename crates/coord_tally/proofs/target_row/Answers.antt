use Rattle.std.proofs.Common.{rules, cond, ltb}
use Rattle.coord_tally.proofs.target_row.Goals as goal
use Rattle.coord_tally.specs.Counting.{target_row, upward}
use Rattle.byte_lists.proofs.Laws.OverRangeLaws.{tabulate_from_fn}
use borrow.Author.Tests.{tests}

pub returns : goal.returns
unfolding target_row
returns c =
    tabulate_from_fn (λ i. cond (ltb i c.args.m) (upward c.args.n c.args.first i) 0) 16 _ c.from_fn.ensures.items (λ x y q k. search (rules, tests))

use Rattle.std.proofs.Common.{rules}
use Rattle.coord_tally.proofs.target_flags.Goals as goal
use Rattle.coord_tally.specs.Counting.{target_flag, target_flags}
use Rattle.byte_lists.proofs.Laws.OverRangeLaws.{tabulate_from_fn}

pub returns : goal.returns
unfolding target_flags
returns c = tabulate_from_fn (target_flag c.args.n c.args.m c.args.first) 16 _ c.from_fn.ensures.items (λ x y q k. search rules)

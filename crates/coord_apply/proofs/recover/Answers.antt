use mathlib.Core.Path.{sym}
use Rattle.coord_blocks.proofs.Laws.OneBlockLaws.{stored_by, agreeing_by}
use Rattle.coord_apply.proofs.Laws.ActLaws.{givers_by, givers_count, givers_first, givers_handed}
use Rattle.settings.proofs.Laws.CountLaws.{count_at_most}
use Rattle.coord_tally.specs.Counting.{at_times}
use native.Mathlib.Omega.{arith}
use Rattle.coord_apply.proofs.recover.Goals as goal

pub slice_bounds-row-end : goal.slice_bounds-row-end
slice_bounds-row-end c =
    let most = count_at_most (at_times c.args.c.tally.held c.args.c.tally.found c.args.time) c.args.code.n in omega (arith, c.requires.k_value.0, c.args.code.in_range.n-high)

pub decode_stored-requires-clause-handed_on : goal.decode_stored-requires-clause-handed_on
decode_stored-requires-clause-handed_on c =
    givers_handed _ _ _ _ _ _ _ _ c.args.code.in_range c.requires.k_value.0 c.pick-row.ensures _ c.requires.k_value.1 c.requires.decision_ready.blocks-length

pub returns-clause-value : goal.returns-clause-value
returns-clause-value c =
    agreeing_by _ _ c.decode_stored.result _ _ _ c.decode_stored.ensures.value
    (givers_by _ _ _ _ _ _ _ _ c.args.code.in_range c.requires.k_value.0 c.pick-row.ensures)

pub returns-clause-stripe_after : goal.returns-clause-stripe_after
returns-clause-stripe_after c =
    stored_by _ _ c.decode_stored.result _ _ _ _ c.decode_stored.ensures.stripe_after
    (givers_first _ _ _ _ _ _ _ _ c.args.code.in_range c.requires.k_value.0 c.pick-row.ensures _ c.requires.k_value.1 c.requires.decision_ready.blocks-length)

pub slice_bounds-decode_stored-end : goal.slice_bounds-decode_stored-end
slice_bounds-decode_stored-end c = sym (givers_count _ _ _ _ _ _ _ _ c.args.code.in_range c.requires.k_value.0 c.pick-row.ensures)

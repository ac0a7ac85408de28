use Rattle.brick_log.proofs.Laws.LogChangeLaws.{remove_none, remove_places, remove_moved}
use Rattle.brick_log.proofs.Saved.remove.Goals as goal

pub returns-then-r-eq0 : goal.returns-then-r-eq0
returns-then-r-eq0 c = remove_none _ _ _ _ c.requires.log_ready _ c.if-r-eq0.true

pub hold_own-requires-clause-own_in_bounds : goal.hold_own-requires-clause-own_in_bounds
hold_own-requires-clause-own_in_bounds c =
    remove_places _ _ _ _ c.requires.log_ready _ c.requires.remove_ready c.if-r-eq0.false

pub returns : goal.returns
returns c =
    let p = c.requires in
    remove_moved _ _ _ _ p.log_ready _ _ _ _ _ p.remove_ready c.if-r-eq0.false c.hold_own.ensures c.shift_blocks.ensures c.clear_blocks.ensures
    c.write_head.ensures

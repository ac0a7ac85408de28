use mathlib.Core.Path.{refl}
use Rattle.brick_log.proofs.Laws.LogChangeLaws.{modify_moved}
use Rattle.brick_log.proofs.Saved.modify.Goals as goal

pub returns : goal.returns
returns c =
    let p = c.requires in
    modify_moved _ _ _ _ p.log_ready _ _ _ _ _ _ p.block_lt_m.1 p.block_len.0 refl c.write_modified.ensures c.write_head.ensures

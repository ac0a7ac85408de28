use mathlib.Core.Path.{refl}
use Rattle.brick_log.proofs.Laws.LogChangeLaws.{write_moved}
use Rattle.brick_log.proofs.Saved.write.Goals as goal

pub returns : goal.returns
returns c =
    let p = c.requires in
    write_moved _ _ _ _ p.log_ready _ _ _ _ _ _ p.block_len.1 p.block_len.0 refl refl c.write_entry.ensures c.write_head.ensures

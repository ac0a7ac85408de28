use Rattle.brick_log.proofs.Laws.LogChangeLaws.{order_moved}
use Rattle.brick_log.proofs.Saved.order.Goals as goal

pub returns : goal.returns
returns c = order_moved _ _ _ _ c.requires _ _ c.write_head.ensures

use Rattle.std.proofs.Common.{◌*◌}
use Rattle.byte_lists.proofs.Laws.StackLaws.{Stacked}
use Rattle.interpolate.specs.Values.{block_at}
use Rattle.interpolate.proofs.Known.rows.Given as goal

abbrev pub invariant-loop-x : goal.invariant-loop-x
invariant-loop-x l = Stacked (block_at l.self.points.now l.self.size l.self.blocks.now) l.self.size l.fn.out l.out l.x (l.x * l.self.size)

use Prim.Native.Nat.{◌+◌, ◌*◌}
use Rattle.byte_lists.proofs.Laws.StackLaws.{Stacked}
use Rattle.image_block.specs.Block.{block_bytes}
use Rattle.image.specs.Brick.{fresh_brick}
use Rattle.image.specs.Image.{image_of}
use Rattle.volume.proofs.fill_row.Given as goal

abbrev pub invariant-loop-stripe : goal.invariant-loop-stripe
invariant-loop-stripe l =
    Stacked (λ k. image_of l.fn.s l.fn.brick (fresh_brick l.fn.s)) (block_bytes * (l.fn.s.capacity + 1)) l.fn.images l.images l.stripe
    (l.stripe * (block_bytes * (l.fn.s.capacity + 1)))

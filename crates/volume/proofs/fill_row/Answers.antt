use mathlib.Core.Path.{refl, ◌∙◌}
use Prim.Native.Nat.{◌+◌, ◌*◌}
use native.Mathlib.Nat.{zero-mul}
use native.Mathlib.Omega.{arith}
use Rattle.byte_lists.proofs.Laws.StackLaws.{stacked_none, stacked_all, part_length}
use Rattle.image_block.specs.Block.{block_bytes}
use Rattle.volume.proofs.Laws.RowCallLaws.{row_within, fresh_part, row_size_lem, stacked_next}
use Rattle.volume.proofs.fill_row.Goals as goal

pub loop-stripe-init : goal.loop-stripe-init
loop-stripe-init c = rw (zero-mul (block_bytes * (c.args.s.capacity + 1))) (stacked_none _ _ _)

pub slice_bounds-write_fresh-end : goal.slice_bounds-write_fresh-end
slice_bounds-write_fresh-end c =
    let i = c.loop-stripe.invariant in
    omega (
      arith,
      row_within c.args.s c.args.images.now c.loop-stripe.images c.loop-stripe.stripe (c.loop-stripe.stripe * (block_bytes * (c.args.s.capacity + 1)))
          (block_bytes * (c.args.s.capacity + 1)) c.requires.images_len i.size-kept refl refl (omega arith),
    )

pub loop-stripe-preserved : goal.loop-stripe-preserved
loop-stripe-preserved c =
    let i = c.loop-stripe.invariant in
    let w = row_within c.args.s c.args.images.now c.loop-stripe.images c.loop-stripe.stripe (c.loop-stripe.stripe * (block_bytes * (c.args.s.capacity + 1)))
    (block_bytes * (c.args.s.capacity + 1)) c.requires.images_len i.size-kept refl refl (omega arith) in
    let long = part_length (block_bytes * (c.args.s.capacity + 1)) c.loop-stripe.images (c.loop-stripe.stripe * (block_bytes * (c.args.s.capacity + 1))) w in
    stacked_next _ _ _ _ _ _ i w (c.write_fresh.auto.image ∙ long)
    (c.write_fresh.ensures.image_after ∙ fresh_part _ _ _ c.requires.settings_range c.requires.brick_lt_n long)

pub returns : goal.returns
returns c =
    stacked_all _ (block_bytes * (c.args.s.capacity + 1)) c.args.images.now _ _ _ _ c.loop-stripe.invariant (omega arith) (omega arith)
    (row_size_lem c.args.s c.args.images.now c.requires.images_len)

use Rattle.std.proofs.Common.{arith}
use Rattle.image.specs.Image.{image_size}
use Rattle.image_write.proofs.Laws.FreshImageLaws.{fresh_made}
use Rattle.image_write.proofs.fill_fresh.Goals as goal

pub write_zero_entry-requires : goal.write_zero_entry-requires
unfolding image_size
write_zero_entry-requires c = omega arith

pub clear_blocks-requires : goal.clear_blocks-requires
unfolding image_size
clear_blocks-requires c = omega arith

pub returns : goal.returns
returns c = fresh_made _ _ _ _ _ _ c.args.member.set.in_range c.requires c.write_head.ensures c.write_zero_entry.ensures c.clear_blocks.ensures

use mathlib.Core.Path.{refl}
use native.Mathlib.Omega.{arith}
use Rattle.image.specs.Image.{image_size}
use Rattle.brick_log.proofs.Laws.LogChangeLaws.{holder_high, recoded_written}
use Rattle.brick_log.proofs.Saved.write_recoded.Goals as goal

pub overflow_mul-from : goal.overflow_mul-from
overflow_mul-from c = let r = c.requires.log_ready in omega (arith, holder_high _ _ _ _ r, r.high, r.most)

pub overflow_add-from : goal.overflow_add-from
overflow_add-from c = let r = c.requires.log_ready in omega (arith, holder_high _ _ _ _ r, r.high, r.most)

pub overflow_add-e : goal.overflow_add-e
overflow_add-e c = let r = c.requires.log_ready in omega (arith, holder_high _ _ _ _ r, r.high, r.most, r.saved.range.code.size-high)

pub slice_bounds-recode_into-end : goal.slice_bounds-recode_into-end
unfolding image_size
slice_bounds-recode_into-end c =
    let r = c.requires.log_ready in omega (arith, holder_high _ _ _ _ r, r.high, r.saved.long, r.saved.range.code.size-high)

pub returns : goal.returns
returns c = recoded_written _ _ _ _ c.requires.log_ready _ _ _ _ _ _ _ _ refl refl c.recode_into.ensures c.write_entry.ensures

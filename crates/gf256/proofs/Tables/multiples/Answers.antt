use Rattle.std.proofs.Common.{refl, sym, arith}
use Rattle.gf256.specs.Product.{plus, twice}
use Rattle.gf256.proofs.Laws.ProductLaws.{product_one}
use Rattle.gf256.proofs.Laws.BitLaws.{doubles, doublings_are}
use Rattle.gf256.proofs.Tables.multiples.Goals as goal

pub invariant_of-result : goal.invariant_of-result
unfolding twice plus
invariant_of-result c = record {
  doubled =
      doublings_are _ _ _ _ _ _ _ _
      (doubles 1 2 _ _ _ refl (omega arith) c.ranges.w.fits (sym (product_one _)) c.mul.ensures.value)
      (doubles 2 4 _ _ _ refl (omega arith) c.ranges.w.fits c.mul.ensures.value c.mul-2.ensures.value)
      (doubles 4 8 _ _ _ refl (omega arith) c.ranges.w.fits c.mul-2.ensures.value c.mul-3.ensures.value)
      (doubles 8 16 _ _ _ refl (omega arith) c.ranges.w.fits c.mul-3.ensures.value c.mul-4.ensures.value)
      (doubles 16 32 _ _ _ refl (omega arith) c.ranges.w.fits c.mul-4.ensures.value c.mul-5.ensures.value)
      (doubles 32 64 _ _ _ refl (omega arith) c.ranges.w.fits c.mul-5.ensures.value c.mul-6.ensures.value)
      (doubles 64 128 _ _ _ refl (omega arith) c.ranges.w.fits c.mul-6.ensures.value c.mul-7.ensures.value);
}

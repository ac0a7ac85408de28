use Rattle.std.proofs.Common.{◌≡◌, ◌+◌, refl, ◌∙◌, Bool, true, false, ◌&&◌, arith}
use Rattle.image.proofs.read_blocks.Goals.{then-fits, else-fits}
use Rattle.image.specs.Image.{image_size}
use Rattle.image.specs.Parse.{time_in}
use Rattle.image.proofs.Laws.ScanLaws.{scanning_none, scanning_more, scan_unchecked, scan_unfit, scan_passed, part_is}
use Rattle.image.proofs.read_blocks.Goals as goal

and_then : (a b r : Bool) → a ≡ true → r ≡ b → r ≡ a && b
and_then a b r e q = rw e q

and_else : (a b r : Bool) → a ≡ false → r ≡ a → r ≡ a && b
and_else a b r e q = rw e (q ∙ e)

pub loop-i-init : goal.loop-i-init
loop-i-init c = scanning_none _ _ _ _ _ c.entry_for-log.ensures refl

pub slice_bounds-t-end : goal.slice_bounds-t-end
unfolding image_size
slice_bounds-t-end c = omega arith

pub returns-then-not-check_holds-clause-value : goal.returns-then-not-check_holds-clause-value
returns-then-not-check_holds-clause-value c =
    scan_unchecked _ _ _ _ _ _ _ (omega arith) c.loop-i.invariant _ _ _ c.loop-i-test.true (part_is _ _ (c.loop-i.i + 1) refl) c.check_holds.ensures c.if-not-check_holds.true

pub loop-i-preserved : goal.loop-i-preserved
unfolding time_in
loop-i-preserved c =
    scanning_more _ _ _ _ _ _ _ (omega arith) c.loop-i.invariant _ _ _ _ _ _ (part_is _ _ (c.loop-i.i + 1) refl) c.check_holds.ensures c.if-not-check_holds.false
    c.read8-time.ensures
    (elim c.if-fits.branch [
      | then-fits w ↦ and_then _ _ _ w.if-fits.true (w.fits-is ∙ w.slot_fits-fits.ensures)
      | else-fits w ↦ and_else _ _ _ w.if-fits.false w.fits-is
    ])
    c.is_mark.ensures c.entry_for.ensures

pub returns-then-not-fits-clause-value : goal.returns-then-not-fits-clause-value
returns-then-not-fits-clause-value c =
    let e : c.loop-i.i ≡ c.args.set.settings.capacity = omega arith in
    scan_unfit _ _ _ _ _ _ _ c.if-not-fits.true (rw e at c.loop-i.invariant)

pub returns-clause-value : goal.returns-clause-value
returns-clause-value c =
    let e : c.loop-i.i ≡ c.args.set.settings.capacity = omega arith in
    scan_passed _ _ _ _ _ _ _ c.if-not-fits.false (rw e at c.loop-i.invariant)

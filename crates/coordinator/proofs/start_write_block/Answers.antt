use Rattle.coordinator.proofs.Laws.RoutineLaws.{passed_on, write_block_call_lem, start_refused, start_denied, start_written, block_fits, write_block_passed}
use Rattle.coord_record.specs.Records.{no_bricks}
use native.Mathlib.Omega.{arith}
use mathlib.Core.Path.{refl, sym, ◌∙◌}
use Rattle.coordinator.proofs.start_write_block.Goals as goal

pub returns-in_err-check_write_block : goal.returns-in_err-check_write_block
returns-in_err-check_write_block c = λ blocks coded.
    rw (passed_on _ _ c.from_residual.ensures.1)
    (write_block_call_lem _ _ _ _ _ _ _ blocks _ coded _ _ _ (start_refused _ _ _ _ _ _ _ blocks _ coded _ _ _ c.in_err-check_write_block.ensures))

pub returns-then-is_err : goal.returns-then-is_err
unfolding no_bricks
returns-then-is_err c = λ blocks coded.
    write_block_call_lem _ _ _ _ _ _ _ blocks _ coded _ _ _
    (start_denied _ _ _ _ _ _ _ blocks _ coded _ _ c.in_ok-check_write_block.ensures _ (sym c.is_err.ensures.value ∙ c.if-is_err.true) c.start-begun.ensures)

pub place-requires : goal.place-requires
place-requires c =
    let p = write_block_passed _ _ _ _ _ _ _ _ _ _ _ c.in_ok-check_write_block.ensures refl in
    let f = block_fits _ _ _ _ _ _ _ _ _ _ c.in_ok-check_write_block.ensures refl in (p.bytes-length, omega (arith, p.bytes-length, f.0))

pub returns : goal.returns
unfolding no_bricks
returns c = λ blocks coded.
    write_block_call_lem _ _ _ _ _ _ _ blocks _ coded _ _ _
    (start_written _ _ _ _ _ _ _ blocks _ coded _ _ c.in_ok-check_write_block.ensures _ _ (sym c.is_err.ensures.value ∙ c.if-is_err.false) c.start-begun.ensures
    c.place.ensures refl)

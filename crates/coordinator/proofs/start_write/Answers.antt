use Rattle.coordinator.proofs.Laws.RoutineLaws.{passed_on, write_call_lem, start_refused, start_denied, start_written, lengths_same}
use Rattle.coord_record.specs.Records.{no_bricks}
use mathlib.Core.Path.{refl, sym, ◌∙◌}
use Rattle.coordinator.proofs.start_write.Goals as goal

pub returns-in_err-check_write : goal.returns-in_err-check_write
returns-in_err-check_write c = λ blocks coded.
    rw (passed_on _ _ c.from_residual.ensures.1)
    (write_call_lem _ _ _ _ _ _ _ blocks _ coded _ _ (start_refused _ _ _ _ _ _ _ blocks _ coded _ _ _ c.in_err-check_write.ensures))

pub returns-then-is_err : goal.returns-then-is_err
unfolding no_bricks
returns-then-is_err c = λ blocks coded.
    write_call_lem _ _ _ _ _ _ _ blocks _ coded _ _
    (start_denied _ _ _ _ _ _ _ blocks _ coded _ _ c.in_ok-check_write.ensures _ (sym c.is_err.ensures.value ∙ c.if-is_err.true) c.start-answer.ensures)

pub copy-requires : goal.copy-requires
copy-requires c = lengths_same _ _ _ _ _ _ _ _ _ _ c.in_ok-check_write.ensures refl

pub returns : goal.returns
unfolding no_bricks
returns c = λ blocks coded.
    write_call_lem _ _ _ _ _ _ _ blocks _ coded _ _
    (start_written _ _ _ _ _ _ _ blocks _ coded _ _ c.in_ok-check_write.ensures _ _ (sym c.is_err.ensures.value ∙ c.if-is_err.false) c.start-answer.ensures
    c.copy.ensures refl)

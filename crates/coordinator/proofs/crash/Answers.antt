use Rattle.coordinator.proofs.Laws.RoutineLaws.{passed_on, crash_refused, crash_idle, crash_cut}
use Rattle.coord_record.specs.Records.{no_bricks}
use Rattle.coordinator.proofs.crash.Goals as goal

pub returns-in_err-check_crash : goal.returns-in_err-check_crash
returns-in_err-check_crash c = λ blocks stripe coded.
    rw (passed_on _ _ c.from_residual.ensures.1) (crash_refused _ _ _ _ _ blocks stripe coded _ c.in_err-check_crash.ensures)

pub returns-then-c-eq-IDLE : goal.returns-then-c-eq-IDLE
returns-then-c-eq-IDLE c = λ blocks stripe coded. crash_idle _ _ _ _ _ blocks stripe coded _ c.in_ok-check_crash.ensures c.if-c-eq-IDLE.true c.kept.ensures

pub returns : goal.returns
unfolding no_bricks
returns c = λ blocks stripe coded.
    crash_cut _ _ _ _ _ blocks stripe coded _ c.in_ok-check_crash.ensures c.if-c-eq-IDLE.false (rw (← c.no_message.ensures) c.end.ensures)

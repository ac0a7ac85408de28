use Rattle.coordinator.proofs.Laws.RoutineLaws.{passed_on, read_call_lem, start_refused, start_answered, first_below}
use native.Mathlib.Omega.{arith}
use mathlib.Core.Path.{refl}
use Rattle.coordinator.proofs.start_read.Goals as goal

pub returns-in_err-code : goal.returns-in_err-code
returns-in_err-code c = λ blocks stripe coded.
    rw (passed_on _ _ c.from_residual.ensures.1)
    (read_call_lem _ _ _ _ _ _ _ blocks stripe coded _ _ (start_refused _ _ _ _ _ _ _ blocks stripe coded _ _ _ c.in_err-code.ensures.value))

pub target_flags-targets-requires : goal.target_flags-targets-requires
target_flags-targets-requires c =
    let b = first_below _ _ _ _ _ _ _ _ _ c.in_ok-code.ensures.value refl in omega (arith, b, c.in_ok-code.ensures.code.0)

pub returns : goal.returns
returns c = λ blocks stripe coded.
    read_call_lem _ _ _ _ _ _ _ blocks stripe coded _ _
    (start_answered _ _ _ _ _ _ _ blocks stripe coded _ _ c.in_ok-code.ensures.value _
    (rw (← c.in_ok-code.ensures.code.0, ← c.in_ok-code.ensures.code.1, ← c.target_flags-targets.ensures) c.start.ensures) refl refl)

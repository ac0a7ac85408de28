use mathlib.Core.Path.{◌≡◌, refl}
use Rattle.settings.specs.Refusal.{number_of_refusal}
use Rattle.test_coordinator.proofs.Laws.CoordinatorBoundaryLaws.{laid_refused, laid_given}
use Rattle.coord_refusals.proofs.Laws.RefusedLaws.{number_positive}
use native.Mathlib.Omega.{arith}
use Rattle.test_coordinator.proofs.put_answer.Goals as goal

pub returns-in_default-clause-shown_after : goal.returns-in_default-clause-shown_after
returns-in_default-clause-shown_after c = λ old.
    rw c.unwrap_err.ensures
    (laid_refused _ _ (λ (z : number_of_refusal c.unwrap_err.result ≡ 0). let p = number_positive c.unwrap_err.result in omega arith))

pub returns-clause-shown_after : goal.returns-clause-shown_after
returns-clause-shown_after c = λ old.
    rw c.in-Ok.is (laid_given _ _ _ _ _ _ refl c.put_numbers.ensures c.put_bytes.ensures c.put_sent.ensures c.put_shown.ensures)

use mathlib.Core.List.{[]}
use mathlib.Core.Path.{◌≡◌, refl, ap, ◌∙◌}
use native.Mathlib.Omega.{arith}
use Rattle.coord_record.specs.declared.Coordinator.{Coordinator}
use Rattle.coord_refusals.proofs.Laws.RefusedLaws.{number_positive}
use Rattle.coordinator.specs.Routines.{read_block_call}
use Rattle.test_coordinator.proofs.Laws.CoordinatorBoundaryLaws.{crossed_refused, crossed}
use Rattle.test_coordinator.proofs.coord_start_read_block.Goals as goal

pub returns-in_default : goal.returns-in_default
returns-in_default c =
    crossed_refused _ _ _ _ _ _ _ _ _ _ (c.number.ensures ∙ (rw c.unwrap_err.ensures at c.lent_record-lent.ensures.value))
    (λ (z : c.number.result ≡ 0). let p = number_positive c.unwrap_err.result in omega (arith, c.number.ensures))

pub returns : goal.returns
returns c =
    let s = c.args in
    crossed _ _ _ _ 0 _ _ _ _ _ _ _ _ _ _ _ c.in-Ok.ensures.value refl
    (c.start_read_block-answer.ensures [] [] []
    ∙ ap (λ (x : Coordinator). read_block_call s.n s.m s.size s.stripes x [] [] [] s.stripe_number s.reading s.block) c.in-Ok.ensures.read)
    (c.put_answer.ensures.value _) (c.put_answer.ensures.shown_after _)

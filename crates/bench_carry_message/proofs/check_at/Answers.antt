use mathlib.Core.Path.{◌≡◌, refl, sym}
use Rattle.std.proofs.Common.{rules}
use Rattle.settings.specs.Refusal.{number_of_refusal, refusal_in}
use Rattle.brick.proofs.Laws.OutcomeLaws.{refusal_number}
use Rattle.bench_carry_message.proofs.Laws.PastLimitLaws.{refused_front, refused_image, refused_message, unopened_is, opened_is}
use Rattle.bench_carry_message.proofs.check_at.Goals as goal

pub returns-in_err-check_front : goal.returns-in_err-check_front
returns-in_err-check_front c =
    let r = c.in_err-check_front.field-0.0 in
    let e : refusal_in c.from_residual.result ≡ number_of_refusal r = search rules in
    rw e (refused_front _ _ _ _ _ _ c.in_err-check_front.ensures (refusal_number r))

pub returns-in_default : goal.returns-in_default
returns-in_default c =
    let r = c.unwrap_err.result in
    let e : c.in_default.field-0 ≡ r = cc in
    rw (sym e)
    (refused_image _ _ _ _ _ _ c.in_ok-check_front.ensures refl _ (unopened_is _ _ _ _ c.in_default.ensures.value) (refusal_number c.in_default.field-0))

pub returns : goal.returns
returns c =
    refused_message _ _ _ _ _ _ c.in_ok-check_front.ensures refl _ (opened_is _ _ _ _ c.in-Ok.ensures.value) refl _ c.check.ensures

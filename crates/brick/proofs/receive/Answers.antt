use mathlib.Core.Path.{◌≡◌, refl, sym, ap}
use Rattle.std.proofs.Common.{rules}
use Rattle.settings.specs.Refusal.{number_of_refusal}
use Rattle.brick_log.specs.declared.Known.{Known}
use Rattle.brick.specs.Receive.{Refused, given_in}
use Rattle.brick.proofs.Laws.OutcomeLaws.{refusal_number, fronted, modify_names, ends_early, ends_unopened, ends_wrong, ends_acted}
use Rattle.brick.proofs.Laws.BrickActLaws.{ready, ahead, log_is, hub_reads}
use Rattle.brick.proofs.receive.Goals as goal

pub returns-in_err-check_front : goal.returns-in_err-check_front
returns-in_err-check_front c =
    let r = c.in_err-check_front.field-0.0 in
    let e : given_in c.from_residual.result ≡ Refused (number_of_refusal r) = search rules in
    rw e (ends_early _ _ _ _ _ _ _ _ c.in_err-check_front.ensures (refusal_number r))

pub returns-in_default : goal.returns-in_default
returns-in_default c =
    let r = c.unwrap_err.result in
    let e : c.in_default.field-0 ≡ r = cc in
    rw (sym e) (ends_unopened _ _ _ _ _ _ _ _ c.in_ok-check_front.ensures refl _ c.in_default.ensures.value)

pub returns-in_err-check : goal.returns-in_err-check
returns-in_err-check c =
    let r = c.in_err-check.field-0.0 in
    let e : given_in c.from_residual-in_err-check.result ≡ Refused (number_of_refusal r) = search rules in
    rw e
    (ends_wrong _ _ _ _ _ _ _ _ c.in_ok-check_front.ensures refl _ (hub_reads _ _ _ _ _ c.in-Ok.ensures.opened) _ c.in_err-check.ensures
    (refusal_number r))

pub act-requires-clause-log_ready : goal.act-requires-clause-log_ready
act-requires-clause-log_ready c = ready _ _ _ _ _ _ c.in-Ok.ensures.opened c.known-k.ensures

pub act-requires-clause-ahead : goal.act-requires-clause-ahead
act-requires-clause-ahead c =
    let u = c.in-Ok.ensures.opened in
    let r = ready _ _ _ _ _ _ u c.known-k.ensures in
    ahead _ _ _ _ _ _ _ _ r (log_is _ _ _ _ _ u) (sym (ap (λ (k : Known). k.count) c.known-k.ensures)) c.plan_for-plan.ensures

pub act-requires-clause-block_len : goal.act-requires-clause-block_len
act-requires-clause-block_len c =
    let b = fronted _ _ _ _ _ _ _ c.in_ok-check_front.ensures refl in (b.block-is, b.old-is, b.out-is)

pub act-requires-clause-block_lt_m : goal.act-requires-clause-block_lt_m
act-requires-clause-block_lt_m c e =
    let b = fronted _ _ _ _ _ _ _ c.in_ok-check_front.ensures refl in b.block-low (modify_names _ e)

pub returns : goal.returns
returns c =
    ends_acted _ _ _ _ _ _ _ _ c.in_ok-check_front.ensures refl _ (hub_reads _ _ _ _ _ c.in-Ok.ensures.opened) _ c.in_ok-check.ensures refl
    _ _ _ c.act.ensures

-- Laws of `specs/RolledForward`.
use mathlib.Core.Path.{refl}
use Rattle.order.specs.Claim.{read, changed, given, bytes}
use Rattle.order.specs.Valid.{sets, onto}
use Rattle.order.proofs.Laws.OneOrderTheorem.{one_order, the_order}
use Rattle.order.proofs.Laws.ExampleLaws.{began_ok, promised_ok, stored_ok, showed_ok, launched_over_ok, committed_ok, ended_ok, at, ◌▷◌, tests, orders}
use Rattle.order.specs.RolledForward.{RolledForwardIsValid, RolledForwardHasOneOrder}
use Rattle.order.specs.BenchExample.{three, ten}
use Rattle.order.proofs.Laws.BenchExampleLaws.{cut_short_valid}

pub rolled_forward_is_valid : RolledForwardIsValid
unfolding tests changed given
rolled_forward_is_valid = cut_short_valid
    ▷ began_ok tt tt
    ▷ showed_ok tt tt tt
    ▷ promised_ok tt tt
    ▷ promised_ok tt tt
    ▷ launched_over_ok three tt tt tt tt tt tt tt
    ▷ stored_ok tt tt
    ▷ stored_ok tt tt
    ▷ ended_ok three tt tt (
      committed_ok three tt,
      record {
        kind = read;
        asked = (_, at 6 _);
        keeps = λ s. refl;
        stripe = ten;
        value = onto (_, at 2 _) (_, at 6 _) (sets (_, at 9 _) (_, at 12 _) (λ s. refl)) refl;
        bytes = refl;
      },
    )

pub rolled_forward_has_one_order : RolledForwardHasOneOrder
unfolding orders
rolled_forward_has_one_order = (one_order rolled_forward_is_valid, the_order rolled_forward_is_valid)

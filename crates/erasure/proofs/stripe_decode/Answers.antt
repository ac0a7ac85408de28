use Rattle.std.proofs.Common.{◌≡◌, sym, ◌∙◌, rules, length}
use Rattle.settings.specs.Refusal.{refusal_in}
use Rattle.erasure.specs.Refusals.{list_refusal}
use Rattle.erasure.proofs.Laws.OnePolynomialLaws.{decoded_by_polynomials}
use Rattle.erasure.proofs.Laws.CodeRefusalLaws.{number_not, decode_listed, decode_agrees, decode_disagrees, stripe_refused, stripe_agrees, stripe_disagrees}
use Rattle.erasure.proofs.Laws.PassedLaws.{decode_passed}
use Rattle.erasure.proofs.stripe_decode.Goals as goal

pub returns-in_err-check_list : goal.returns-in_err-check_list
returns-in_err-check_list c =
    let a = c.args in
    let l = c.in_err-check_list.ensures in
    let q : refusal_in c.from_residual.result ≡ list_refusal a.n a.m a.size a.bricks.now (length a.blocks.now) (length a.data.now) = search rules in
    let above : refusal_in c.from_residual.result ≡ 0 → ⊥ = λ z. number_not _ (l ∙ sym q ∙ z) in
    let e = decode_listed _ _ _ _ _ _ _ q above in
    let o = stripe_refused _ _ _ _ _ _ _ q above in
    record {
      value = e;
      data_after = o;
      decoded_by_polynomials = decoded_by_polynomials _ _ _ _ _ _ _ _ (λ i. (c.type_inv.blocks i).fits) e o;
    }

pub decode_checked-requires : goal.decode_checked-requires
decode_checked-requires c = (decode_passed _ _ _ _ _ _ (sym c.in_ok-check_list.ensures)).decodes

pub returns-then-not-decode_checked : goal.returns-then-not-decode_checked
returns-then-not-decode_checked c =
    let z = sym c.in_ok-check_list.ensures in
    let d = c.decode_checked.ensures in
    let e = decode_disagrees _ _ _ _ _ _ _ z d.value c.if-not-decode_checked.true in
    let o = stripe_disagrees _ _ _ _ _ _ _ _ z d.value c.if-not-decode_checked.true d.stripe_after in
    record {
      value = e;
      data_after = o;
      decoded_by_polynomials = decoded_by_polynomials _ _ _ _ _ _ _ _ (λ i. (c.type_inv.blocks i).fits) e o;
    }

pub returns : goal.returns
returns c =
    let z = sym c.in_ok-check_list.ensures in
    let d = c.decode_checked.ensures in
    let e = decode_agrees _ _ _ _ _ _ _ z d.value c.if-not-decode_checked.false in
    let o = stripe_agrees _ _ _ _ _ _ _ _ z d.value c.if-not-decode_checked.false d.stripe_after in
    record {
      value = e;
      data_after = o;
      decoded_by_polynomials = decoded_by_polynomials _ _ _ _ _ _ _ _ (λ i. (c.type_inv.blocks i).fits) e o;
    }

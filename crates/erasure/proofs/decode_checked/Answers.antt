use Rattle.erasure.proofs.Laws.OnePolynomialLaws.{cut_decoded}
use Rattle.erasure.proofs.decode_checked.Goals as goal

pub returns-clause-stripe_after : goal.returns-clause-stripe_after
returns-clause-stripe_after c =
    cut_decoded _ _ _ c.args.blocks.now _ c.requires c.interpolate_checked.result c.args.stripe.now _ c.interpolate_checked.ensures.out_after

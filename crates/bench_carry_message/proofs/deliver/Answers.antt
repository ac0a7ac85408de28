use Rattle.std.proofs.Common.{List, ℕ, length, replicate, ap, ◌∙◌}
use Rattle.std.proofs.lemmas.List.{length-take-le}
use Rattle.bench_limits.specs.Limits.{bench_size}
use Rattle.bench_sent.proofs.Laws.SendLaws.{zeros_cut}
use Rattle.bench_state.proofs.Laws.FrontLaws.{front_is}
use Rattle.bench_carry_message.proofs.Laws.DeliverLaws.{deliver_room, deliver_settled}
use Rattle.brick.specs.Receive.{outcome_with, given_in}
use Rattle.bench_carry_message.proofs.deliver.Goals as goal

pub settle-requires-clause-g_bound : goal.settle-requires-clause-g_bound
settle-requires-clause-g_bound c =
    let fits = c.requires.lends.0.fits in
    let room = replicate bench_size 0 in
    let e = c.receive-given in (
      deliver_room c.args.b c.args.k c.args.brick c.args.msg c.args.images.now c.args.numbers.now c.args.bytes.now c.requires.lends.0 c.requires.lends.1 _ _ _ _ _ _ _ e.ensures,
      ap length (front_is _ _ _ room fits.size_fits e.auto.out) ∙ e.auto.out ∙ length-take-le _ room fits.size_fits,
      fits.size_fits,
    )

pub returns : goal.returns
returns c =
    let fits = c.requires.lends.0.fits in
    let e = c.receive-given in
    deliver_settled c.args.b c.args.k c.args.brick c.args.msg c.args.images.now c.args.numbers.now c.args.bytes.now c.requires.lends.0 c.requires.lends.1
    e.new.images _ _ _ _ c.args.at c.args.out.now _ _ (given_in e.result) (zeros_cut c.args.b.settings.size fits.size_fits)
    (ap (λ (x : List ℕ). outcome_with (given_in e.result) e.new.images x) (front_is _ _ _ (replicate bench_size 0) fits.size_fits e.auto.out) ∙ e.ensures) e.auto.images
    c.settle.ensures

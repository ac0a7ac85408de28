use Rattle.std.proofs.Common.{arith, rules, ◌≡◌, length, sym, ◌∙◌}
use Rattle.bench_limits.specs.Limits.{bench_bricks}
use Rattle.bench_carry_message.proofs.Laws.DeliverLaws.{carried_nowhere, carried_lost, carried_past, item_here, flag_up, flag_down}
use Rattle.bench_carry_message.proofs.carry_message.Goals as goal

pub returns-then-s-brick : goal.returns-then-s-brick
returns-then-s-brick c = λ kept.
    carried_nowhere c.args.b c.args.k _ c.args.images.now c.args.numbers.now c.args.bytes.now c.requires.k_value.0 c.brick_at-brick.ensures
    kept c.args.at c.args.out.now _ _ c.if-s-brick.true c.refuse_as.ensures

pub returns-then-b-brick-ne-UP : goal.returns-then-b-brick-ne-UP
returns-then-b-brick-ne-UP c = λ kept.
    let four : length c.args.b.up ≡ bench_bricks = search rules in
    carried_lost c.args.b c.args.k _ c.args.images.now c.args.numbers.now c.args.bytes.now c.requires.k_value.0 c.brick_at-brick.ensures
    kept c.args.at c.args.out.now c.if-s-brick.false
    (flag_down c.args.b.up _ _ (omega (arith, four, c.requires.lends.0.fits.small.bricks, c.if-s-brick.false)) c.if-b-brick-ne-UP.true) c.requires.lends.0.few

pub returns-then-not-may_send : goal.returns-then-not-may_send
returns-then-not-may_send c = λ kept.
    let four : length c.args.b.up ≡ bench_bricks = search rules in
    carried_past c.args.b c.args.k _ c.args.images.now c.args.numbers.now c.args.bytes.now c.requires.k_value.0 c.brick_at-brick.ensures
    kept c.args.at c.args.out.now _ _ _ _ c.message_at-msg.ensures c.requires.lends.0 c.requires.lends.1 c.if-s-brick.false
    (flag_up c.args.b.up _ _ (omega (arith, four, c.requires.lends.0.fits.small.bricks, c.if-s-brick.false)) c.if-b-brick-ne-UP.false)
    (sym c.may_send.ensures ∙ c.if-not-may_send.true) c.past_limit-refusal.ensures c.refuse_as-then-not-may_send.ensures

pub deliver-requires-clause-lends : goal.deliver-requires-clause-lends
deliver-requires-clause-lends c =
    let four : length c.args.b.up ≡ bench_bricks = search rules in (
      c.requires.lends.0,
      record {
        sent-before = c.requires.lends.1;
        there = c.if-s-brick.false;
        item-is = item_here c.args.b c.args.k _ c.args.images.now c.args.numbers.now c.args.bytes.now c.requires.k_value.0 c.brick_at-brick.ensures _
            c.message_at-msg.ensures;
        is_up = flag_up c.args.b.up _ _ (omega (arith, four, c.requires.lends.0.fits.small.bricks, c.if-s-brick.false)) c.if-b-brick-ne-UP.false;
        may-send = sym c.may_send.ensures ∙ c.if-not-may_send.false;
      },
    )

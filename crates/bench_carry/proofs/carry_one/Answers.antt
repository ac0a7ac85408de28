use Rattle.std.proofs.Common.{arith, refl, sym, ◌∙◌}
use Rattle.bench_carry_message.proofs.Laws.ReachingLaws.{ready_lends}
use Rattle.bench_rules.specs.Turning.{lent}
use Rattle.bench_carry.proofs.Laws.CarryLaws.{carried_zero, carried_past, carried_item, ready_seats}
use Rattle.bench_carry.proofs.carry_one.Goals as goal

pub returns-then-number-eq0 : goal.returns-then-number-eq0
returns-then-number-eq0 c =
    let l = lent c.args.images.now c.args.kept.now c.args.numbers.now c.args.bytes.now in
    carried_zero c.args.b l c.args.at c.args.out.now _ l _ c.args.number c.if-number-eq0.true (c.refuse_as.ensures l)

pub returns-then-b-last : goal.returns-then-b-last
returns-then-b-last c =
    let l = lent c.args.images.now c.args.kept.now c.args.numbers.now c.args.bytes.now in
    carried_past c.args.b l c.args.at c.args.out.now _ l _ c.args.number c.if-b-last.true (c.refuse_as-then-b-last.ensures l)

pub carry_reply-requires : goal.carry_reply-requires
carry_reply-requires c =
    record {
      seats = ready_seats c.args.b (lent c.args.images.now c.args.kept.now c.args.numbers.now c.args.bytes.now) c.args.at c.args.out.now c.requires.bench_ready
          c.requires.line_room_in_bounds;
      k_lt_sent = (omega (arith, c.if-number-eq0.false, c.if-b-last.false), sym c.is_reply.ensures ∙ c.if-is_reply.true);
    }

pub returns-then-is_reply : goal.returns-then-is_reply
returns-then-is_reply c =
    let l = lent c.args.images.now c.args.kept.now c.args.numbers.now c.args.bytes.now in
    carried_item c.args.b l c.args.at c.args.out.now _ _ _ c.args.number _ c.if-number-eq0.false c.if-b-last.false refl (c.carry_reply.ensures.turned c.args.images.now)

pub carry_message-requires : goal.carry_message-requires
carry_message-requires c =
    record {
      lends = (
        ready_lends c.args.b (lent c.args.images.now c.args.kept.now c.args.numbers.now c.args.bytes.now) c.requires.bench_ready,
        omega (arith, c.if-number-eq0.false, c.if-b-last.false),
      );
      k_value = (sym c.is_reply.ensures ∙ c.if-is_reply.false, c.requires.line_room_in_bounds);
    }

pub returns : goal.returns
returns c =
    let l = lent c.args.images.now c.args.kept.now c.args.numbers.now c.args.bytes.now in
    carried_item c.args.b l c.args.at c.args.out.now _ _ _ c.args.number _ c.if-number-eq0.false c.if-b-last.false refl (c.carry_message.ensures c.args.kept.now)

use mathlib.Core.Path.{◌≡◌}
use native.Mathlib.Omega.{arith}
use Rattle.std.proofs.Common.{rules}
use Rattle.settings.specs.Refusal.{number_of_refusal}
use Rattle.brick.specs.Receive.{Answered, Silent, Refused, given_in}
use Rattle.bench_carry_message.proofs.Laws.ReplyKeptLaws.{room_answered, room_any, settled_answered, settled_silent, settled_refused}
use Rattle.bench_carry_message.proofs.settle.Goals as goal

pub put_reply-requires : goal.put_reply-requires
put_reply-requires c =
    let e : given_in c.args.given ≡ Answered c.in-Ok-Some.reply = search rules in
    let h = room_answered _ _ _ e c.requires.g_bound.0 in
    (omega (arith, c.requires.g_bound.1, c.requires.g_bound.2), omega (arith, h, c.requires.numbers_len.0), omega (arith, h, c.requires.numbers_len.1))

pub overflow_add-b : goal.overflow_add-b
overflow_add-b c =
    let e : given_in c.args.given ≡ Answered c.in-Ok-Some.reply = search rules in
    let h = room_answered _ _ _ e c.requires.g_bound.0 in omega (arith, h)

pub returns-in-Ok-Some : goal.returns-in-Ok-Some
returns-in-Ok-Some c =
    let e : given_in c.args.given ≡ Answered c.in-Ok-Some.reply = search rules in
    settled_answered c.args.b c.args.block.now c.args.numbers.now c.args.bytes.now c.args.at c.args.out.now _ _ _ _ _
    e c.requires.g_bound.1 (room_answered _ _ _ e c.requires.g_bound.0) c.with_sent-bench.ensures c.put_reply.ensures.added

pub returns-in-Ok-None : goal.returns-in-Ok-None
returns-in-Ok-None c =
    let e : given_in c.args.given ≡ Silent = search rules in
    settled_silent c.args.b c.args.block.now c.args.numbers.now c.args.bytes.now c.args.at c.args.out.now _ e
    (room_any _ _ c.requires.g_bound.0)

pub refuse_as-requires : goal.refuse_as-requires
refuse_as-requires c = (room_any _ _ c.requires.g_bound.0, c.requires.numbers_len.2)

pub returns-in-Err : goal.returns-in-Err
returns-in-Err c =
    let e : given_in c.args.given ≡ Refused (number_of_refusal c.in-Err.refusal) = search rules in
    settled_refused _ _ _ _ _ _ _ _ _ _ e c.refuse_as.ensures

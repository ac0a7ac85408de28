use Rattle.std.proofs.Common.{length, refl, sym, ◌∙◌}
use Rattle.bench_rules.specs.Turning.{lent}
use Rattle.bench_player.proofs.Laws.PlayerRefusalLaws.{has_number, called_refused, called_first, called_next, accepted, accepted_ready}
use Rattle.bench_player.proofs.play_line.Goals as goal

pub returns-in-Err : goal.returns-in-Err
returns-in-Err c =
    called_refused c.args.b (lent c.args.images.now c.args.kept.now c.args.numbers.now c.args.bytes.now) c.args.line.now c.args.out.now c.number.result
    (c.number.ensures ∙ c.in-Err.ensures) (λ q. has_number c.in-Err.refusal (sym c.number.ensures ∙ q))

pub play_first-first-requires-clause-n_value : goal.play_first-first-requires-clause-n_value
play_first-first-requires-clause-n_value c =
    let a = accepted _ _ _ _ _ c.args.b 0 c.in_default.ensures refl in (c.if-b-eq0.true, a.few)

pub play_first-first-requires-clause-images_len : goal.play_first-first-requires-clause-images_len
play_first-first-requires-clause-images_len c =
    let a = accepted _ _ _ _ _ c.args.b 0 c.in_default.ensures refl in (a.images-long, a.kept-long, a.out-long)

pub returns-then-b-eq0 : goal.returns-then-b-eq0
returns-then-b-eq0 c =
    let k = c.play_first-first.auto in
    called_first c.args.b (lent c.args.images.now c.args.kept.now c.args.numbers.now c.args.bytes.now) c.args.line.now c.args.out.now 0
    c.play_first-first.result _ _ _ c.in_default.ensures refl c.if-b-eq0.true c.play_first-first.ensures k.images k.kept k.out

pub play_next-r-requires-clause-bench_ready : goal.play_next-r-requires-clause-bench_ready
play_next-r-requires-clause-bench_ready c =
    accepted_ready c.args.b (lent c.args.images.now c.args.kept.now c.args.numbers.now c.args.bytes.now) (length c.args.out.now) 0 c.in_default.ensures refl
    c.if-b-eq0.false

pub play_next-r-requires-clause-out_len : goal.play_next-r-requires-clause-out_len
play_next-r-requires-clause-out_len c = let a = accepted _ _ _ _ _ c.args.b 0 c.in_default.ensures refl in a.out-long

pub returns : goal.returns
returns c =
    let k = c.play_next-r.auto in
    called_next c.args.b (lent c.args.images.now c.args.kept.now c.args.numbers.now c.args.bytes.now) c.args.line.now c.args.out.now 0
    c.play_next-r.result _ _ c.in_default.ensures refl c.if-b-eq0.false c.play_next-r.ensures k.images k.kept k.numbers k.bytes k.out

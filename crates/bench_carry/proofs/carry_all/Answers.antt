use Rattle.bench_rules.specs.Turning.{lent}
use Rattle.bench_carry.proofs.Laws.CarryLaws.{carrying_done}
use Rattle.bench_carry.proofs.carry_all.Goals as goal

pub returns : goal.returns
returns c =
    carrying_done c.args.b (lent c.args.images.now c.args.kept.now c.args.numbers.now c.args.bytes.now) c.args.line.now c.args.first c.args.out.now c.loop-place.place
    c.loop-place.r _ c.loop-place.out c.loop-place-test.false c.requires.carry_from.0.short c.loop-place.invariant

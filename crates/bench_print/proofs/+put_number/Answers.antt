use native.Mathlib.Omega.{arith}
use Rattle.bench_print.proofs.Laws.TextLaws.{number_one, number_more, number_one_long, number_more_long}
use Rattle.bench_print.proofs.+put_number.Goals as goal

pub put_byte-requires : goal.put_byte-requires
put_byte-requires t c = omega (arith, number_one_long c.args.k c.if-k-lt10.true)

pub returns-then-k-lt10 : goal.returns-then-k-lt10
returns-then-k-lt10 t c = number_one _ _ _ _ _ _ c.if-k-lt10.true c.digit_of.ensures c.put_byte.ensures

pub put_number-to-requires : goal.put_number-to-requires
put_number-to-requires t c = (omega arith, omega (arith, number_more_long c.args.k c.if-k-lt10.false (omega arith)))

pub put_byte-requires-2 : goal.put_byte-requires-2
put_byte-requires-2 t c = omega (arith, number_more_long c.args.k c.if-k-lt10.false (omega arith))

pub returns : goal.returns
returns t c = number_more _ _ _ _ _ _ _ _ c.if-k-lt10.false (omega arith) (omega arith) c.digit_of-2.ensures c.put_number-to.ensures c.put_byte-2.ensures

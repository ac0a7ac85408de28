use Rattle.std.proofs.Common.{arith}
use Rattle.bench_print.proofs.Laws.TextLaws.{decimal_short}
use Rattle.bench_print.proofs.Laws.WrittenLaws.{placed_both}
use Rattle.bench_print.proofs.put_spaced.Goals as goal

pub put_number-to-requires : goal.put_number-to-requires
put_number-to-requires c = omega (arith, decimal_short c.args.k)

pub put_byte-requires : goal.put_byte-requires
put_byte-requires c = omega (arith, decimal_short c.args.k, c.put_number-to.ensures.next-is)

pub returns-clause-printed_at : goal.returns-clause-printed_at
returns-clause-printed_at c = placed_both _ _ _ _ _ _ _ _ (omega arith) c.put_number-to.ensures c.put_byte.ensures

pub returns-clause-upper_bound : goal.returns-clause-upper_bound
returns-clause-upper_bound c = omega (arith, decimal_short c.args.k, c.put_number-to.ensures.next-is, c.put_byte.ensures.next-is)

use Rattle.std.proofs.Common.{arith}
use Rattle.bench_print.specs.Printing.{refused_word}
use Rattle.bench_print.proofs.Laws.TextLaws.{decimal_short}
use Rattle.bench_print.proofs.Laws.PrintedLineLaws.{printed_refused}
use Rattle.bench_print.proofs.put_refused.Goals as goal

pub put_number-to-requires : goal.put_number-to-requires
put_number-to-requires c = omega (arith, decimal_short c.args.number, c.put_word-word.ensures.next-is)

pub put_byte-requires : goal.put_byte-requires
put_byte-requires c = omega (arith, decimal_short c.args.number, c.put_word-word.ensures.next-is, c.put_number-to.ensures.next-is)

pub returns : goal.returns
unfolding refused_word
returns c = let r = printed_refused _ _ _ _ _ _ _ _ _ (omega arith) c.put_word-word.ensures c.put_number-to.ensures c.put_byte.ensures in record { value = r.0; out_after = r.1.0; upper_bound = r.1.1 }

use Rattle.std.proofs.Common.{rules, arith}
use Rattle.bench_print.specs.Printing.{ok_word, abort_word, cut_word}
use Rattle.bench_print.proofs.Laws.TextLaws.{hex_length}
use Rattle.bench_print.proofs.Laws.PrintedLineLaws.{end_ok, end_read, end_aborted, end_cut}
use Rattle.bench_print.proofs.put_end.Goals as goal

pub put_hex-to-requires : goal.put_hex-to-requires
put_hex-to-requires c = omega (arith, hex_length c.args.stripe.now)

pub put_byte-requires : goal.put_byte-requires
put_byte-requires c = omega (arith, hex_length c.args.stripe.now, c.put_hex-to.ensures.next-is)

pub returns-in-2-clause-printed_at : goal.returns-in-2-clause-printed_at
unfolding ok_word
returns-in-2-clause-printed_at c = end_ok _ _ _ _ _ _ (search rules) c.put_word.ensures

pub returns-in-3-clause-printed_at : goal.returns-in-3-clause-printed_at
returns-in-3-clause-printed_at c = end_read _ _ _ _ _ _ _ _ (search rules) (search rules) (omega arith) c.put_hex-to.ensures c.put_byte.ensures

pub returns-in-3-clause-upper_bound : goal.returns-in-3-clause-upper_bound
returns-in-3-clause-upper_bound c = omega (arith, hex_length c.args.stripe.now, c.put_hex-to.ensures.next-is, c.put_byte.ensures.next-is)

pub returns-in-4-clause-printed_at : goal.returns-in-4-clause-printed_at
unfolding abort_word
returns-in-4-clause-printed_at c = end_aborted _ _ _ _ _ _ (search rules) (search rules) (search rules) c.put_word-in-4.ensures

pub returns-in_default-clause-printed_at : goal.returns-in_default-clause-printed_at
unfolding cut_word
returns-in_default-clause-printed_at c = end_cut _ _ _ _ _ _ (search rules) (search rules) (search rules) c.put_word-in_default.ensures

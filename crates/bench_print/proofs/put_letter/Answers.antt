use Rattle.std.proofs.Common.{arith}
use Rattle.bench_print.proofs.Laws.WrittenLaws.{placed_both}
use Rattle.bench_print.proofs.put_letter.Goals as goal

pub returns-clause-printed_at : goal.returns-clause-printed_at
returns-clause-printed_at c = placed_both _ _ _ _ _ _ _ _ (omega arith) c.put_byte-to.ensures c.put_byte.ensures

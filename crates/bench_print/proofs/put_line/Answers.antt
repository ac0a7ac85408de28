use Rattle.std.proofs.Common.{arith}
use Rattle.bench_print.proofs.Laws.PrintedLineLaws.{line_placed}
use Rattle.bench_print.proofs.put_line.Goals as goal

pub returns-clause-printed_at : goal.returns-clause-printed_at
returns-clause-printed_at c =
    line_placed _ _ _ _ _ _ _ _ _ _ _ _ _ _ _ _ _ _ (omega arith)
    c.put_spaced-first.ensures.printed_at c.put_kind-second.ensures.printed_at c.put_spaced-third.ensures.printed_at
    c.put_letter-fourth.ensures.printed_at c.put_end.ensures.printed_at

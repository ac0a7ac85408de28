use Rattle.bench_print.proofs.Laws.TextLaws.{Hexing}
use Rattle.bench_print.proofs.put_hex.Given as goal

abbrev pub invariant-loop-b : goal.invariant-loop-b
invariant-loop-b l = Hexing l.at l.bytes l.fn.out l.b-index l.to l.out

use Rattle.bench_parse.proofs.Laws.HexLaws.{HexDone}
use Rattle.bench_parse.proofs.hex_bytes.Given as goal

abbrev pub invariant-loop-i : goal.invariant-loop-i
invariant-loop-i l = HexDone l.line l.at l.fn.out l.out l.i

use Rattle.bench_parse.proofs.Laws.NumeralLaws.{NumeralSo}
use Rattle.bench_parse.proofs.word_number.Given as goal

abbrev pub invariant-loop-x : goal.invariant-loop-x
invariant-loop-x l = NumeralSo l.word l.value l.x-index

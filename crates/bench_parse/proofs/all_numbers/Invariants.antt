use Rattle.std.proofs.Common.{length, ◌+◌, ◌-◌}
use Rattle.bench_parse.proofs.Laws.NumeralLaws.{NumbersSo}
use Rattle.bench_parse.proofs.all_numbers.Given as goal

abbrev pub invariant-loop-k : goal.invariant-loop-k
invariant-loop-k l = NumbersSo l.line l.at l.k

abbrev pub decreases-loop-k : goal.decreases-loop-k
decreases-loop-k l = length l.line + 1 - l.k

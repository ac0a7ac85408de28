use Rattle.std.proofs.Common.{length, ◌-◌}
use Rattle.bench_io.proofs.Laws.PassLaws.{Passing}
use Rattle.bench_rules.specs.Turning.{lent}
use Rattle.bench_io.proofs.play_chunk.Given as goal

abbrev pub invariant-loop-at : goal.invariant-loop-at
invariant-loop-at g l =
    Passing l.chunk l.fn.line l.fn.held l.fn.b (lent l.fn.images l.fn.kept l.fn.numbers l.fn.bytes) l.fn.out l.line l.p.held l.at l.p.bench
    (lent l.images l.kept l.numbers l.bytes) l.out l.p.status

abbrev pub decreases-loop-at : goal.decreases-loop-at
decreases-loop-at g l = length l.chunk - l.at

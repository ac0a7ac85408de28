use Rattle.std.proofs.Common.{◌+◌, ◌-◌, length}
use Rattle.bench_rules.specs.Turning.{lent}
use Rattle.bench_carry.specs.Workers.{Carrying}
use Rattle.bench_carry.proofs.carry_all.Given as goal

abbrev pub invariant-loop-place : goal.invariant-loop-place
invariant-loop-place l =
    Carrying l.initial.r.bench (lent l.initial.images l.initial.kept l.initial.numbers l.initial.bytes) l.line l.first l.initial.out l.place l.r
    (lent l.images l.kept l.numbers l.bytes) l.out

abbrev pub decreases-loop-place : goal.decreases-loop-place
decreases-loop-place l = length l.line + 1 - l.place

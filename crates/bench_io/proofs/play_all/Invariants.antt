use Rattle.std.proofs.Common.{◌≡◌}
use Rattle.bench_rules.specs.Turning.{lent}
use Rattle.bench_io.specs.Workers.{goes_on}
use Rattle.bench_io.proofs.Laws.ProgramLaws.{Running}
use Rattle.bench_io.proofs.play_all.Given as goal

abbrev pub invariant-loop-turn : goal.invariant-loop-turn
invariant-loop-turn g l =
    Running l.fn.line (lent l.fn.images l.fn.kept l.fn.numbers l.fn.bytes) l.fn.out l.initial.p.bench l.line l.p (lent l.images l.kept l.numbers l.bytes)
    l.out l._turn
    × (l.p.status ≡ goes_on)

use Rattle.std.proofs.Common.{rules, ◌≤◌}
use Rattle.bench_io.proofs.Laws.ProgramLaws.{left_low}
use Rattle.bench.proofs.run.Goals as goal

pub overflow_cast-left : goal.overflow_cast-left
overflow_cast-left g c = let low : c.bench_run-left.result ≤ 1 = left_low _ c.bench_run-left.ensures in search rules

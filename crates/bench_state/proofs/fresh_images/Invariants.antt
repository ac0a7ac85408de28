use Rattle.bench_state.specs.Workers.{Begun}
use Rattle.bench_state.proofs.fresh_images.Given as goal

abbrev pub invariant-loop-b : goal.invariant-loop-b
invariant-loop-b l = Begun l.s l.images l.b

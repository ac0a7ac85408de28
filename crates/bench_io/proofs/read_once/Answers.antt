use Rattle.bench_io.proofs.Laws.ReadLaws.{came_bytes, came_none}
use Rattle.bench_io.proofs.read_once.Goals as goal

pub returns-in-Ok-clause-bytes : goal.returns-in-Ok-clause-bytes
returns-in-Ok-clause-bytes g c = came_bytes _ _ _ _ c.in-Ok.ensures.bytes.0

pub returns-then-was_interrupted-clause-bytes : goal.returns-then-was_interrupted-clause-bytes
returns-then-was_interrupted-clause-bytes g c = came_none _ _ _ c.in-Err.ensures.bytes

pub returns-else-was_interrupted-clause-bytes : goal.returns-else-was_interrupted-clause-bytes
returns-else-was_interrupted-clause-bytes g c = came_none _ _ _ c.in-Err.ensures.bytes

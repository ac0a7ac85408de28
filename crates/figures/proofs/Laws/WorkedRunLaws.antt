-- Laws of `specs/WorkedRun`.
use mathlib.Core.Path.{refl}
use Rattle.register.proofs.Laws.Opened.{all_open}
use Rattle.figures.specs.WorkedRun.{bench_events, WorkedRunIsSeen, volume_events, VolumeRunIsSeen}

pub worked_run_is_seen : WorkedRunIsSeen
unfolding all_open bench_events
worked_run_is_seen = refl

pub volume_run_is_seen : VolumeRunIsSeen
unfolding all_open volume_events
volume_run_is_seen = (refl, refl)

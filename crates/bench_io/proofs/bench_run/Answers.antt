use Rattle.bench_io.proofs.Laws.ProgramLaws.{run_left}
use Rattle.bench_io.proofs.bench_run.Goals as goal

pub returns : goal.returns
returns g c =
    run_left _ _ _ _ _ _ _ c.play_all-status.ensures c.leave.ensures c.new_line-line.ensures c.new_images-images.ensures c.new_kept-kept.ensures
    c.new_numbers-numbers.ensures c.new_bytes-bytes.ensures c.large_buffer-out.ensures

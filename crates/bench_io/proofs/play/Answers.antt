use Rattle.std.proofs.Common.{[], arith, sym}
use lib.Seq.{length-take-le}
use Rattle.bench_io.proofs.Laws.PassLaws.{plays_not, plays_line}
use Rattle.bench_io.proofs.play.Goals as goal

pub returns-then-not-ended : goal.returns-then-not-ended
returns-then-not-ended g c = plays_not _ _ _ _ _ _ c.if-not-ended.true

pub slice_bounds-write_all-end : goal.slice_bounds-write_all-end
slice_bounds-write_all-end g c = omega (arith, (c.play_line-o.ensures.plays-on []).within, c.play_line-o.auto.out)

pub slice_bounds-write_all-end-2 : goal.slice_bounds-write_all-end-2
slice_bounds-write_all-end-2 g c = sym (length-take-le _ c.play_line-o.new.out (slice_bounds-write_all-end g c))

pub returns : goal.returns
returns g c = plays_line _ _ _ _ _ _ _ _ _ c.is_ok-written.result _ c.after_writing.ensures c.if-not-ended.false c.play_line-o.ensures

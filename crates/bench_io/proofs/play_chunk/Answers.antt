use mathlib.Core.Bool.{true≢false}
use Rattle.std.proofs.Common.{arith, sym, ◌∙◌}
use Rattle.bench_lines.proofs.Laws.CutLaws.{cut_within, cut_moves}
use Rattle.bench_io.proofs.Laws.PassLaws.{passing_none, passing_more, passed_stopped, passed_all}
use Rattle.bench_io.proofs.play_chunk.Goals as goal

pub loop-at-init : goal.loop-at-init
loop-at-init g c = passing_none _ _ _ _ _ _ c.requires

pub play-p-requires : goal.play-p-requires
play-p-requires g c = cut_within _ _ _ _ _ _ c.loop-at.invariant.within c.cut_line-c.ensures

pub returns-then-ne : goal.returns-then-ne
returns-then-ne g c =
    passed_stopped _ _ _ _ _ _ _ _ _ _ _
    (passing_more _ _ _ _ _ _ _ _ _ _ _ _ _ _ _ _ _ _ c.loop-at.invariant c.cut_line-c.ensures c.play-p.ensures) (λ e. true≢false (sym c.if-ne.true ∙ (rw e at c.ne.ensures)))

pub loop-at-smaller : goal.loop-at-smaller
loop-at-smaller g c = omega (arith, c.loop-at-test.true, cut_moves _ _ _ _ _ _ c.loop-at-test.true c.cut_line-c.ensures)

pub loop-at-preserved : goal.loop-at-preserved
loop-at-preserved g c = passing_more _ _ _ _ _ _ _ _ _ _ _ _ _ _ _ _ _ _ c.loop-at.invariant c.cut_line-c.ensures c.play-p.ensures

pub returns : goal.returns
returns g c = passed_all _ _ _ _ _ _ _ _ _ _ _ c.loop-at.invariant c.loop-at-test.false

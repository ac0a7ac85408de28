use mathlib.Core.Bool.{true≢false}
use Rattle.std.proofs.Common.{rules, refl, arith, sym, ◌∙◌}
use Rattle.bench_io.proofs.Laws.ProgramLaws.{running_none, running_more, running_ran}
use Rattle.bench_io.proofs.play_all.Goals as goal

pub turn-p-requires : goal.turn-p-requires
turn-p-requires g c = c.loop-turn.invariant.0.within c.loop-turn.invariant.1

pub loop-turn-init : goal.loop-turn-init
loop-turn-init g c = (running_none _ _ _ _, refl)

pub loop-turn-preserved : goal.loop-turn-preserved
loop-turn-preserved g c = (
  (running_more _ _ _ _ _ _ _ _ _ _ _ _ _ _ _ _ _
      c.loop-turn.invariant.0 c.loop-turn.invariant.1 c.read_once-answer.ensures.moved refl c.turn-p.ensures),
  search rules,
)

pub returns-then-ne : goal.returns-then-ne
returns-then-ne g c =
    running_ran _ _ _ _ _ _ _ _ _ c.no_set.ensures.events_value c.no_set.ensures.text_length_value
    (running_more _ _ _ _ _ _ _ _ _ _ _ _ _ _ _ _ _
    c.loop-turn.invariant.0 c.loop-turn.invariant.1 c.read_once-answer.ensures.moved refl c.turn-p.ensures) (λ e. absurd (true≢false (sym c.if-ne.true ∙ (rw e at c.ne.ensures))))

pub returns : goal.returns
returns g c =
    running_ran _ _ _ _ _ _ _ _ _ c.no_set.ensures.events_value c.no_set.ensures.text_length_value c.loop-turn.invariant.0 (λ e. omega arith)

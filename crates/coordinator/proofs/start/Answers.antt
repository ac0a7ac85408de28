use Rattle.coordinator.proofs.Laws.RoutineLaws.{started_late, started_busy, started_begun}
use Rattle.coordinator.specs.Workers.{start_answer}
use Rattle.coord_apply.specs.Acts.{first_op}
use Rattle.coord_record.specs.Records.{idle_with, no_bricks}
use Rattle.coordinator.proofs.start.Goals as goal

pub returns-in_default : goal.returns-in_default
returns-in_default c =
    started_late _ _ _ _ _ _ _ _ (rw (c.unwrap_err.ensures) at c.draw-drawn.ensures)

pub returns-then-c-ne-IDLE : goal.returns-then-c-ne-IDLE
returns-then-c-ne-IDLE c = started_busy _ _ _ _ _ _ _ _ _ c.in-Ok.ensures c.if-c-ne-IDLE.true

pub returns : goal.returns
unfolding start_answer first_op idle_with no_bricks
returns c =
    rw (c.idle_with.ensures, c.round_message.ensures, c.no_message.ensures, c.notice_of.ensures)
    (started_begun _ _ _ _ _ _ _ _ _ c.in-Ok.ensures c.if-c-ne-IDLE.false)

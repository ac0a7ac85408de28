use mathlib.Core.Path.{refl}
use Rattle.brick.proofs.Laws.OutcomeLaws.{refusal_number}
use Rattle.bench_carry_message.proofs.Laws.PastLimitLaws.{past_brick, past_line}
use Rattle.bench_carry_message.proofs.past_limit.Goals as goal

pub returns-in-Err : goal.returns-in-Err
returns-in-Err c = past_brick _ _ _ _ _ c.requires.0 c.in-Err.ensures (refusal_number c.in-Err.refusal)

pub returns-in-Ok : goal.returns-in-Ok
returns-in-Ok c = past_line _ _ _ _ _ c.requires.0 c.in-Ok.ensures refl

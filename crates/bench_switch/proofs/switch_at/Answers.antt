use Rattle.bench_rules.proofs.Laws.TurningLaws.{turned_lined}
use Rattle.bench_switch.proofs.Laws.SwitchLaws.{switch_flag, switch_past}
use Rattle.bench_switch.proofs.switch_at.Goals as goal

pub returns-then-b-place : goal.returns-then-b-place
returns-then-b-place c = λ l. turned_lined _ _ _ _ _ _ _ (switch_past _ l _ _ c.args.brick _ _ c.if-b-place.true (c.refuse_as.ensures l))

pub returns : goal.returns
returns c = λ l. switch_flag _ l _ _ _ _ c.requires.0 c.requires.1 c.if-b-place.false c.with_up-bench.ensures.up_len c.with_up-bench.ensures.value

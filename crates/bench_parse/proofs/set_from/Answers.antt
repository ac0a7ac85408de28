use Rattle.bench_parse.proofs.Laws.ReadLineLaws.{set_1, set_2, set_3, set_4, set_is}
use Rattle.bench_parse.proofs.set_from.Goals as goal

pub returns-in_err-n : goal.returns-in_err-n
returns-in_err-n c = rw c.from_residual.ensures (set_1 _ _ c.in_err-n.ensures)

pub returns-in_err-m : goal.returns-in_err-m
returns-in_err-m c = rw c.from_residual-in_err-m.ensures (set_2 _ _ _ c.in_ok-n.ensures c.in_err-m.ensures)

pub returns-in_err-size : goal.returns-in_err-size
returns-in_err-size c = rw c.from_residual-in_err-size.ensures (set_3 _ _ _ c.in_ok-n.ensures _ c.in_ok-m.ensures c.in_err-size.ensures)

pub returns-in_err-capacity : goal.returns-in_err-capacity
returns-in_err-capacity c = rw c.from_residual-in_err-capacity.ensures (set_4 _ _ _ c.in_ok-n.ensures _ c.in_ok-m.ensures _ c.in_ok-size.ensures c.in_err-capacity.ensures)

pub returns : goal.returns
returns c = set_is _ _ _ c.in_ok-n.ensures _ c.in_ok-m.ensures _ c.in_ok-size.ensures _ c.in_ok-capacity.ensures

use Rattle.bench_parse.proofs.Laws.ReadLineLaws.{read_1, read_2, read_3, read_is}
use Rattle.bench_parse.proofs.read_from.Goals as goal

pub returns-in_err-c : goal.returns-in_err-c
returns-in_err-c c = rw c.from_residual.ensures (read_1 _ _ c.in_err-c.ensures)

pub returns-in_err-clock : goal.returns-in_err-clock
returns-in_err-clock c = rw c.from_residual-in_err-clock.ensures (read_2 _ _ _ c.in_ok-c.ensures c.in_err-clock.ensures)

pub returns-in_err-brick : goal.returns-in_err-brick
returns-in_err-brick c = rw c.from_residual-in_err-brick.ensures (read_3 _ _ _ c.in_ok-c.ensures _ c.in_ok-clock.ensures c.in_err-brick.ensures)

pub returns : goal.returns
returns c = read_is _ _ _ c.in_ok-c.ensures _ c.in_ok-clock.ensures _ c.in_ok-brick.ensures

use Rattle.bench_parse.proofs.Laws.ReadLineLaws.{one_not, crash_is, down_is, up_is}
use Rattle.bench_parse.specs.Commands.{by_command}
use Rattle.bench_parse.proofs.read_rest.Goals as goal

pub returns-in_err-alone-in-Crash : goal.returns-in_err-alone-in-Crash
unfolding by_command
returns-in_err-alone-in-Crash c = rw (c.from_residual.ensures, c.in-Crash.is) (one_not _ _ _ c.in_err-alone-in-Crash.ensures)

pub returns-in_ok-alone-in-Crash : goal.returns-in_ok-alone-in-Crash
unfolding by_command
returns-in_ok-alone-in-Crash c = rw c.in-Crash.is (crash_is _ _ _ c.in_ok-alone-in-Crash.ensures)

pub returns-in_err-alone-in-Down : goal.returns-in_err-alone-in-Down
unfolding by_command
returns-in_err-alone-in-Down c = rw (c.from_residual-in_err-alone-in-Down.ensures, c.in-Down.is) (one_not _ _ _ c.in_err-alone-in-Down.ensures)

pub returns-in_ok-alone-in-Down : goal.returns-in_ok-alone-in-Down
unfolding by_command
returns-in_ok-alone-in-Down c = rw c.in-Down.is (down_is _ _ _ c.in_ok-alone-in-Down.ensures)

pub returns-in_err-alone-in-Up : goal.returns-in_err-alone-in-Up
unfolding by_command
returns-in_err-alone-in-Up c = rw (c.from_residual-in_err-alone-in-Up.ensures, c.in-Up.is) (one_not _ _ _ c.in_err-alone-in-Up.ensures)

pub returns-in_ok-alone-in-Up : goal.returns-in_ok-alone-in-Up
unfolding by_command
returns-in_ok-alone-in-Up c = rw c.in-Up.is (up_is _ _ _ c.in_ok-alone-in-Up.ensures)

pub returns-in-Set : goal.returns-in-Set
unfolding by_command
returns-in-Set c = rw c.in-Set.is c.set_from.ensures

pub returns-in-Write : goal.returns-in-Write
unfolding by_command
returns-in-Write c = rw c.in-Write.is c.write_from.ensures

pub returns-in-Read : goal.returns-in-Read
unfolding by_command
returns-in-Read c = rw c.in-Read.is c.read_from.ensures

pub returns-in-Carry : goal.returns-in-Carry
unfolding by_command
returns-in-Carry c = rw c.in-Carry.is c.carry_from.ensures

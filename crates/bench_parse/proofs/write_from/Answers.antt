use Rattle.std.proofs.Common.{rules}
use Rattle.bench_parse.proofs.Laws.ReadLineLaws.{write_1, write_2, write_3, write_is}
use Rattle.bench_parse.proofs.write_from.Goals as goal

pub returns-in_err-c : goal.returns-in_err-c
returns-in_err-c c = rw c.from_residual.ensures (write_1 _ _ c.in_err-c.ensures)

pub returns-in_err-clock : goal.returns-in_err-clock
returns-in_err-clock c = rw c.from_residual-in_err-clock.ensures (write_2 _ _ _ c.in_ok-c.ensures c.in_err-clock.ensures)

pub returns-then-not-hex_from : goal.returns-then-not-hex_from
returns-then-not-hex_from c = write_3 _ _ _ c.in_ok-c.ensures _ c.in_ok-clock.ensures _ c.hex_from.ensures c.if-not-hex_from.true

pub returns : goal.returns
returns c = write_is _ _ _ c.in_ok-c.ensures _ c.in_ok-clock.ensures _ c.hex_from.ensures (search rules) c.if-not-hex_from.false

use Rattle.std.proofs.Common.{rules, refl, arith}
use Rattle.bench_print.proofs.Laws.TextLaws.{hexing_none, hexing_room, hexing_more}
use Rattle.bench_print.proofs.put_hex.Goals as goal

pub put_byte-to-requires : goal.put_byte-to-requires
put_byte-to-requires c = omega (arith, hexing_room _ _ _ _ _ _ c.loop-b-test.true c.loop-b.invariant)

pub put_byte-to-requires-in-loop-b : goal.put_byte-to-requires-in-loop-b
put_byte-to-requires-in-loop-b c = omega (arith, hexing_room _ _ _ _ _ _ c.loop-b-test.true c.loop-b.invariant)

pub loop-b-preserved : goal.loop-b-preserved
loop-b-preserved c =
    hexing_more _ _ _ _ _ _ _ _ _ _ _ _ _ c.loop-b-test.true c.loop-b.invariant refl c.hex_digit.ensures c.hex_digit-in-loop-b.ensures
    c.put_byte-to.ensures c.put_byte-to-in-loop-b.ensures (search rules)

pub loop-b-init : goal.loop-b-init
loop-b-init c = hexing_none _ _ _ c.requires

use Rattle.std.proofs.Common.{rules, arith}
use Rattle.bench_parse.proofs.Laws.HexLaws.{hex_more, hex_all}
use Rattle.bench_parse.proofs.hex_bytes.Goals as goal

pub loop-i-preserved : goal.loop-i-preserved
loop-i-preserved c = search (rules, hex_more)

pub returns : goal.returns
returns c = hex_all _ _ _ _ _ c.loop-i.invariant (omega (arith, c.loop-i.invariant.size))

use Rattle.std.proofs.Common.{rules, arith}
use Rattle.bench_lines.proofs.Laws.CutLaws.{cut_end, cut_newline, cut_rest}
use Rattle.bench_lines.proofs.cut_line.Goals as goal

pub returns-then-chunk-from : goal.returns-then-chunk-from
returns-then-chunk-from c = cut_end _ _ _ _ (omega arith)

pub returns-in-Some : goal.returns-in-Some
returns-in-Some c = cut_newline _ _ _ _ _ _ _ c.in-Some.ensures c.keep_bytes.ensures

pub returns-in-None : goal.returns-in-None
returns-in-None c = cut_rest _ _ _ _ _ _ (search rules) c.in-None.ensures c.keep_bytes-in-None.ensures

use Rattle.bench_lines.proofs.Laws.CutLaws.{kept_none, kept_some}
use Rattle.bench_lines.proofs.keep_bytes.Goals as goal

pub returns-then-count-eq0 : goal.returns-then-count-eq0
returns-then-count-eq0 c = kept_none c.args.line.now c.args.held c.args.bytes.now (cc)

pub returns : goal.returns
returns c = kept_some c.args.line.now c.args.held c.args.bytes.now _ _ (cc) c.copy_from_slice.ensures.after

use Rattle.bench_print.proofs.Laws.WrittenLaws.{placed_word}
use Rattle.bench_print.proofs.put_word.Goals as goal

pub returns : goal.returns
returns c = placed_word c.args.at c.args.word.now c.args.out.now _ c.copy_from_slice.ensures.after

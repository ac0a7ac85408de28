use Rattle.std.proofs.Common.{rules}
use Rattle.bench_print.specs.Printing.{read_word, write_word}
use Rattle.bench_print.proofs.Laws.PrintedLineLaws.{kind_reading, kind_writing}
use Rattle.bench_print.proofs.put_kind.Goals as goal

pub returns-in-1-clause-printed_at : goal.returns-in-1-clause-printed_at
unfolding read_word
returns-in-1-clause-printed_at c = kind_reading _ _ _ _ _ (search rules) c.put_word.ensures

pub returns-in_default-clause-printed_at : goal.returns-in_default-clause-printed_at
unfolding write_word
returns-in_default-clause-printed_at c = kind_writing _ _ _ _ _ (search rules) c.put_word-in_default.ensures

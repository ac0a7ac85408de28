use Rattle.std.proofs.Common.{rules}
use Rattle.bench_parse.proofs.Laws.ReadLineLaws.{line_long, line_unread, line_read, command_place}
use Rattle.bench_parse.proofs.read_words.Goals as goal

pub returns-then-line-gt-LONGEST : goal.returns-then-line-gt-LONGEST
returns-then-line-gt-LONGEST c = line_long c.args.line.now (search rules)

pub returns-in_err-command : goal.returns-in_err-command
returns-in_err-command c = rw c.from_residual.ensures (line_unread _ _ (search rules) c.word_end-end.ensures.place c.in_err-command.ensures)

pub returns : goal.returns
returns c = line_read _ _ (search rules) c.word_end-end.ensures.place _ _ c.in_ok-command.ensures c.read_rest.ensures

pub read_rest-requires-clause-follows : goal.read_rest-requires-clause-follows
read_rest-requires-clause-follows c = search (rules, command_place)

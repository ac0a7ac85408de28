use Rattle.std.proofs.Common.{arith, rules}
use Rattle.byte_lists.specs.Lists.{zeros}
use Rattle.bench_sent.specs.Workers.{reply_row, no_flags}
use Rattle.bench_sent.proofs.Laws.SentRowLaws.{reply_added}
use Rattle.bench_sent.proofs.put_reply.Goals as goal

pub returns-clause-added : goal.returns-clause-added
unfolding reply_row no_flags zeros
returns-clause-added c = reply_added _ _ _ _ _ _ _ (search rules) (omega arith) (omega arith) (omega arith) (omega arith) (search rules) (search rules)

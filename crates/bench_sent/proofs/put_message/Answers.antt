use Rattle.std.proofs.Common.{arith, rules}
use Rattle.byte_lists.proofs.Laws.PutLaws.{put_mid_lem}
use Rattle.bench_sent.specs.Workers.{message_row, old_with}
use Rattle.bench_sent.proofs.Laws.SentRowLaws.{message_added}
use Rattle.bench_sent.proofs.put_message.Goals as goal

pub returns-clause-added : goal.returns-clause-added
unfolding message_row old_with
returns-clause-added c = message_added _ _ _ _ _ _ _ _ _ (search rules) (search rules) (omega arith) (omega arith) (omega arith) (omega arith) (search rules) (grind (arith, put_mid_lem))

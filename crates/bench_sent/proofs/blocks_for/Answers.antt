use Rattle.std.proofs.Common.{arith, rules}
use Rattle.bench_sent.proofs.Laws.SendLaws.{picked_zeros}
use Rattle.bench_sent.proofs.blocks_for.Goals as goal

pub returns-in_default : goal.returns-in_default
returns-in_default c = picked_zeros _ _ _ _ _ _ _ (λ e. omega arith) (λ e. search rules) c.requires.zeros

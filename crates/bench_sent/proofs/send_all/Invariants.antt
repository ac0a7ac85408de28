use Rattle.bench_sent.specs.Workers.{Sends}
use Rattle.bench_sent.proofs.send_all.Given as goal

abbrev pub invariant-loop-j : goal.invariant-loop-j
invariant-loop-j l = Sends l.k l.j l.size l.msg l.sources.blocks.now l.sources.stripe.now l.sources.coded.now l.initial.numbers l.initial.bytes l.numbers l.bytes

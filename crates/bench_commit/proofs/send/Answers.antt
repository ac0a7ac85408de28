use Rattle.std.proofs.Common.{arith}
use Rattle.bench_commit.proofs.Laws.CommitLaws.{sent_fits, lent_blocks}
use Rattle.bench_commit.proofs.send.Goals as goal

pub send_all-requires-clause-size_le_bench_size : goal.send_all-requires-clause-size_le_bench_size
send_all-requires-clause-size_le_bench_size c =
    let p = c.requires.fits in
    let q = c.requires.lists in
    let m = sent_fits c.args.s.n c.args.sent c.args.a.sent 1 (omega (arith, c.if-a-eq0.false)) p.2 in
    (p.0.size_fits, omega (arith, m, q.1), omega (arith, m, q.2))

pub send_all-requires-clause-coded : goal.send_all-requires-clause-coded
send_all-requires-clause-coded c = lent_blocks c.args.s _ _ _ _ c.requires.fits.0 c.requires.fits.1 c.requires.lists.0.first-low

pub overflow_add-sent : goal.overflow_add-sent
overflow_add-sent c =
    let m = sent_fits c.args.s.n c.args.sent c.args.a.sent 2 (omega (arith, c.if-a-eq0.false, c.if-a-eq1.false)) c.requires.fits.2 in
    omega (arith, m)

pub send_all-requires-2-clause-size_le_bench_size :
    goal.send_all-requires-2-clause-size_le_bench_size
send_all-requires-2-clause-size_le_bench_size c =
    let p = c.requires.fits in
    let q = c.requires.lists in
    let e = c.send_all.ensures.numbers_len_unchanged in
    let m = sent_fits c.args.s.n c.args.sent c.args.a.sent 2 (omega (arith, c.if-a-eq0.false, c.if-a-eq1.false)) p.2 in
    (p.0.size_fits, omega (arith, m, q.1, e.0), omega (arith, m, q.2, e.1))

pub send_all-requires-2-clause-coded : goal.send_all-requires-2-clause-coded
send_all-requires-2-clause-coded c = lent_blocks c.args.s _ _ _ _ c.requires.fits.0 c.requires.fits.1 c.requires.lists.0.second-low

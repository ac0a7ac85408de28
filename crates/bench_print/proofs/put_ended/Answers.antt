use Rattle.std.proofs.Common.{rules}
use Rattle.bench_print.proofs.Laws.PrintedLineLaws.{printed_line, printed_before, printed_past}
use Rattle.bench_print.proofs.put_ended.Goals as goal

pub returns-in-2-to-5 : goal.returns-in-2-to-5
returns-in-2-to-5 c =
    let r = printed_line _ _ _ _ _ _ _ (search rules) (search rules) c.put_line.ensures.printed_at c.put_line.ensures.upper_bound in
    record { value = r.0; out_after = r.1.0; upper_bound = r.1.1 }

pub returns-in_default : goal.returns-in_default
returns-in_default c =
    let r = printed_before c.args.c c.args.at c.args.seen c.args.stripe.now c.args.out.now (search rules) in
    record { value = r.0; out_after = r.1.0; upper_bound = r.1.1 }

pub returns-in_default-2 : goal.returns-in_default-2
returns-in_default-2 c =
    let r = printed_past c.args.c c.args.at c.args.seen c.args.stripe.now c.args.out.now (search rules) in
    record { value = r.0; out_after = r.1.0; upper_bound = r.1.1 }

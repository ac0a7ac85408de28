use Rattle.std.proofs.Common.{arith}
use Rattle.erasure.proofs.Laws.RecodingLaws.{change_filled}
use Rattle.erasure.proofs.add_change.Goals as goal

pub returns : goal.returns
returns c =
    let a = c.args in
    change_filled a.w.w a.own.now a.old.now a.new.now _ _ c.loop-i.i c.loop-i.invariant (omega arith) c.requires.out-length

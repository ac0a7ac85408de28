use mathlib.Core.Path.{refl}
use Rattle.brick.proofs.Laws.OutcomeLaws.{refusal_number}
use Rattle.test_brick.proofs.Laws.BrickBoundaryLaws.{asked_long, reply_long, receive_kept, receive_whole}
use Rattle.test_brick.proofs.volume_receive.Goals as goal

pub returns-in-Err : goal.returns-in-Err
returns-in-Err c = rw c.number.ensures (receive_kept _ _ _ _ _ _ _ _ refl c.in-Err.ensures (refusal_number c.in-Err.refusal))

pub message_of-requires : goal.message_of-requires
message_of-requires c = asked_long _ _ _ _ _ refl c.in_default.ensures refl

pub put_given-requires : goal.put_given-requires
put_given-requires c = reply_long _ _ _ _ _ refl c.in_default.ensures refl

pub returns : goal.returns
returns c =
    receive_whole _ _ _ _ _ _ _ _ refl c.in_default.ensures _ _ _ _ _ refl (rw c.message_of.ensures at c.receive-given.ensures)
    c.put_given.ensures.value c.put_given.ensures.reply_after

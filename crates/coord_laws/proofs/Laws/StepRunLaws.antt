-- What a run reads off a coordinator's step: what was counted, what is seen, how the clock moves.
use mathlib.Core.Path.{◌≡◌, refl, sym, ap, subst}
use mathlib.Core.List.{List, [], ◌∷◌}
use Prim.Native.Nat.{ℕ, ◌<◌}
use native.Mathlib.Omega.{arith}
use lib.ListN.{length}
use Rattle.coord_apply.specs.Acts.{round_message, seen_block, counting, waiting_or, first_op, starting}
use Rattle.coord_apply.specs.Answers.{Buffered, Went, went, began_seen}
use Rattle.coord_laws.proofs.Laws.SoundnessLaws.{passes, same_went, drawn_went}
use Rattle.coord_laws.proofs.Laws.TallyLaws.{Answering, answering, ReplyParts, reply_parts}
use Rattle.coord_letters.specs.Letters.{no_letter}
use Rattle.coord_record.specs.Records.{no_bricks, reading_kind, writing_kind}
use Rattle.coord_tally.specs.Counting.{target_flags}
use Rattle.coord_refusals.specs.Checks.{write_refusal, read_refusal, take_refusal}
use Rattle.coordinator.specs.Routines.{drawn_then, write_step, read_step, take_step}
use Rattle.coordinator.proofs.Laws.RoutineLaws.{Takes, take_passed}
use Rattle.message.specs.declared.Reply.{Reply}
use Rattle.settings.proofs.Laws.TimeLaws.{gave}
use Rattle.settings.specs.Times.{time_of, next_count, draw_of}
use Rattle.settings.specs.declared.Clock.{Clock}
use Rattle.settings.specs.Times.{Drawn}
use Rattle.message.specs.Kinds.{read_kind, order_kind, first_round}

-- A reply that is not refused: the checks passed; it is of the running operation, its stripe and round, from a brick not counted before.
pub record ReplyTaken (n m size stripes : ℕ) (h : Buffered) (r : Reply) (block : List ℕ) (coded : ℕ) (w : Went) : Type 0 where
  pub takes : Takes n m size stripes h.state r (length block) (length h.blocks) (length h.stripe) coded
  pub reply : ReplyParts n r
  pub answer : Answering n m h.state.op h.state.tally r
  pub is : waiting_or n m size (counting size h r block) ≡ w

pub took : (n m size stripes : ℕ) (h : Buffered) (r : Reply) (block : List ℕ) (coded : ℕ) (w : Went) → take_step n m size stripes h r block coded ≡ went w
    → ReplyTaken n m size stripes h r block coded w
unfolding take_step
took n m size stripes h r block coded w e =
    let p = passes (take_refusal n m size stripes h.state r (length block) (length h.blocks) (length h.stripe) coded) _ w e in
    let t = take_passed n m size stripes h.state r (length block) (length h.blocks) (length h.stripe) coded _ refl p.0 in
    record {
      takes = t;
      reply = reply_parts n r t.reply-right;
      answer = answering n m h.state.op h.state.tally r t.in-round;
      is = same_went (waiting_or n m size (counting size h r block)) w p.1;
    }

-- A start draws a time: it is the time of the count that the clock now has, which is above the old one; that operation is seen to begin.
pub record Begins (h : Buffered) (kind : ℕ) (w : Went) : Type 0 where
  pub rises : h.state.clock.last < w.next.state.clock.last
  pub same_number : w.next.state.clock.coordinator ≡ h.state.clock.coordinator
  pub time-is : w.next.state.op.time ≡ time_of w.next.state.clock.last h.state.clock.coordinator
  pub kind-is : w.next.state.op.kind ≡ kind
  pub round_is : w.next.state.op.round ≡ first_round
  pub seen-is :
      w.seen
      ≡ record {
        what = began_seen;
        kind = kind;
        stripe = w.next.state.op.stripe;
        time = w.next.state.op.time;
        block = seen_block w.next.state.op;
        bricks = no_bricks;
        letter = no_letter;
      }

begins : (h : Buffered) (reading kind phase number first t : ℕ) (next : Clock) (stripe targets : List ℕ) → draw_of h.state.clock reading ≡ Drawn t next
    → Begins h kind (starting h next (first_op kind phase number t first) stripe targets)
unfolding starting first_op next_count
begins h reading kind phase number first t next stripe targets e =
    let g = gave h.state.clock reading t next e in
    record { rises = omega (arith, g.count); same_number = g.same; time-is = g.time; kind-is = refl; round_is = refl; seen-is = refl }

pub write_begins : (n m size stripes : ℕ) (h : Buffered) (number reading : ℕ) (bytes : List ℕ) (w : Went) → write_step n m size stripes h number reading bytes ≡ went w
    → Begins h writing_kind w × (w.next.stripe ≡ bytes)
unfolding write_step starting
write_begins n m size stripes h number reading bytes w e =
    let f : ℕ → Clock → Went = λ time clock. starting h clock (first_op writing_kind order_kind number time 0) bytes no_bricks in
    let p = passes (write_refusal n m size stripes h.state number reading (length bytes) (length h.stripe)) (drawn_then (draw_of h.state.clock reading) f) w e in
    let d = drawn_went (draw_of h.state.clock reading) f w p.1 in (
      subst (Begins h writing_kind) d.3 (begins h reading writing_kind order_kind number 0 d.0 d.1 bytes no_bricks d.2),
      ap (λ (v : Went). v.next.stripe) (sym d.3),
    )

pub read_begins : (n m size stripes : ℕ) (h : Buffered) (number reading first : ℕ) (w : Went) → read_step n m size stripes h number reading first ≡ went w
    → Begins h reading_kind w × (w.sent ≡ record { message = round_message w.next.state.op 0 (target_flags n m first); blocks = []; old = [] } ∷ [])
unfolding read_step starting
read_begins n m size stripes h number reading first w e =
    let f : ℕ → Clock → Went = λ time clock. starting h clock (first_op reading_kind read_kind number time first) h.stripe (target_flags n m first) in
    let p = passes (read_refusal n m size stripes h.state number reading first) (drawn_then (draw_of h.state.clock reading) f) w e in
    let d = drawn_went (draw_of h.state.clock reading) f w p.1 in (
      subst (Begins h reading_kind) d.3 (begins h reading reading_kind read_kind number first d.0 d.1 h.stripe (target_flags n m first) d.2),
      subst (λ (v : Went). v.sent ≡ record { message = round_message v.next.state.op 0 (target_flags n m first); blocks = []; old = [] } ∷ []) d.3 refl,
    )

-- What a coordinator sends has what a brick asks for: the stripe, refusals 10 and 14, and blocks of the block size.
use mathlib.Core.Path.{◌≡◌, refl, sym, subst}
use mathlib.Core.Logic.{◌⊎◌, inl, inr, ⊎_elim}
use mathlib.Core.Bool.{Bool, true, false, cond}
use mathlib.Core.List.Memᴰ
use mathlib.Core.List.{List, [], ◌∷◌, ◌++◌}
use Prim.Native.Nat.{ℕ, ◌*◌, ◌≤◌, ◌<◌}
use native.Mathlib.Omega.{arith}
use native.Mathlib.Decide.{ℕ_discrete}
use lib.Dec.{ltb}
use lib.ListN.{length, length-replicate}
use borrow.Author.Tests.{eq-eqb, ne_eqb}
use Rattle.settings.specs.Ranges.{SettingsRange, quorum}
use Rattle.settings.specs.Refusal.{passed}
use Rattle.settings.specs.Times.{draw_of}
use Rattle.settings.specs.declared.Clock.{Clock}
use Rattle.settings.specs.declared.Settings.{Settings}
use Rattle.message.specs.Flags.{members}
use Rattle.message.specs.Kinds.{read_kind, order_kind, order_read_kind, order_block_kind, write_kind, modify_kind, trim_kind, drop_kind, block_targets}
use Rattle.message.specs.Messages.{found_right, targets_right, message_refusal, message_block_refusal}
use Rattle.message.specs.declared.Reply.{Reply}
use Rattle.interpolate.proofs.Laws.BlockLaws.{length_blocks_at}
use Rattle.erasure.specs.Code.{coded_of, block_of, with_block}
use Rattle.erasure.proofs.Laws.BlockOfLaws.{block_within, block_length}
use Rattle.coord_record.specs.Records.{idle_kind, reading_kind, writing_kind, reading_block_kind, writing_block_kind, on_block, no_bricks}
use Rattle.coord_record.specs.declared.Coordinator.{Coordinator}
use Rattle.coord_record.specs.declared.Op.{Op}
use Rattle.coord_tally.specs.Counting.{target_flags}
use Rattle.coord_blocks.proofs.Laws.OneBlockLaws.{write_within}
use Rattle.coord_decide.specs.Deciding.{decided}
use Rattle.coord_decide.specs.Decisions.{AllYes, Lowers, DecisionSays}
use Rattle.coord_decide.proofs.Laws.SaysLaws.{decided_says}
use Rattle.settings.specs.Times.{no_upper_end}
use Rattle.coord_decide.specs.declared.Decision.{Decision}
use Rattle.coord_decide.specs.declared.Decision.TheVariants.{Abort, Give, Look, Store, Modify, Recover, Finish}
use Rattle.coord_apply.specs.Acts.{round_message, clear_message, clearing, sending_first, next_op, opened, next_round, modifying, ending, acted, with_tally, counting}
use Rattle.coord_apply.specs.Acts.{recovered_stripe, picked_at, named_bricks, waiting_or, first_op, starting}
use Rattle.coord_apply.specs.Answers.{Buffered, Broadcast, Went, went, nothing_seen}
use Rattle.coord_apply.proofs.Laws.ActLaws.{recover_either}
use Rattle.coord_apply.proofs.Laws.FirstLaws.{drops_either, trims_either}
use Rattle.coord_refusals.specs.Checks.{write_refusal, read_refusal, write_block_refusal, read_block_refusal}
use Rattle.coordinator.specs.Routines.{drawn_then, take_step, write_step, read_step, write_block_step, read_block_step}
use Rattle.coord_laws.specs.Soundness.{Good, Full}
use Rattle.coord_laws.proofs.Laws.OpCaseLaws.{in_block_order}
use Rattle.coord_laws.proofs.Laws.SentMessageLaws.{message_passes, message_block_passes, old_right, trim_passes, drop_passes, early_trim_passes}
use Rattle.coord_laws.proofs.Laws.SoundnessLaws.{acted_good, counted_full, passes, drawn_went, write_good, read_good, write_block_good, read_block_good}
use Rattle.coord_laws.proofs.Laws.StepRunLaws.{ReplyTaken, took}
use Rattle.coord_laws.proofs.Laws.StripeLaws.{taken_runs}
use Rattle.coord_laws.proofs.Laws.TargetLaws.{targets_right_lem, block_target_right}
use Rattle.order.specs.Claim.{◌∈◌}
use Rattle.register.specs.Runs.{block_for, old_for}
use Rattle.register.proofs.Laws.NeverRefusedLaws.{Long, counting_long}

-- a broadcast that no brick has a reason to refuse
pub record Fits (s : Settings) (z : Broadcast) : Type 0 where
  pub stripe-low : z.message.stripe < s.stripes
  pub right : message_refusal s.n s.m z.message ≡ passed
  pub block-right : message_block_refusal s.m z.message ≡ passed
  pub block-long : (b : ℕ) → b < s.n → length (block_for s z b) ≡ s.size
  pub old-long : length (old_for s z) ≡ s.size

abbrev pub AllFit : Settings → List Broadcast → Type 0
AllFit s l = (z : Broadcast) → z ∈ l → Fits s z

none_fit : (s : Settings) → AllFit s []
none_fit s z m = absurd (Memᴰ.not-nil m)

one_fits : (s : Settings) (z : Broadcast) → Fits s z → AllFit s (z ∷ [])
one_fits s z f y m = subst (Fits s) (sym (Memᴰ.eq_of_singleton m)) f

both_fit : (s : Settings) (k l : List Broadcast) → AllFit s k → AllFit s l → AllFit s (k ++ l)
both_fit s k l f g z m = ⊎_elim (f z) (g z) (Memᴰ.append_cases k m)

-- the blocks that go with a message
module _ (s : Settings) (z : Broadcast) where
  plain_block : (z.message.kind ≡ write_kind → ⊥) → (z.message.kind ≡ modify_kind → ⊥) → (b : ℕ) → length (block_for s z b) ≡ s.size
  unfolding block_for
  plain_block u v b = rw (ne_eqb z.message.kind write_kind u, ne_eqb z.message.kind modify_kind v) (length-replicate s.size 0)

  plain_old : (z.message.kind ≡ modify_kind → ⊥) → length (old_for s z) ≡ s.size
  unfolding old_for
  plain_old v = rw (ne_eqb z.message.kind modify_kind v) (length-replicate s.size 0)

  write_block_lem : z.message.kind ≡ write_kind → length z.blocks ≡ s.n * s.size → (b : ℕ) → b < s.n → length (block_for s z b) ≡ s.size
  unfolding block_for
  write_block_lem e l b h =
      rw (eq-eqb z.message.kind write_kind e) (block_length s.size z.blocks b (block_within s.n s.size b z.blocks l h))

  modify_block : z.message.kind ≡ modify_kind → length z.blocks ≡ s.size → (b : ℕ) → length (block_for s z b) ≡ s.size
  unfolding block_for
  modify_block e l b = rw (ne_eqb z.message.kind write_kind (λ q. omega (arith, q, e)), eq-eqb z.message.kind modify_kind e) l

  modify_old : z.message.kind ≡ modify_kind → length z.old ≡ s.size → length (old_for s z) ≡ s.size
  unfolding old_for
  modify_old e l = rw (eq-eqb z.message.kind modify_kind e) l

-- Trim and Drop
clear_fits : (s : Settings) (kind time : ℕ) (op : Op) → op.stripe < s.stripes → (kind ≡ write_kind → ⊥) → (kind ≡ modify_kind → ⊥)
    → (message_refusal s.n s.m (clear_message kind op time) ≡ 0) × (message_block_refusal s.m (clear_message kind op time) ≡ 0)
    → Fits s (clearing kind op time)
unfolding clearing clear_message
clear_fits s kind time op low u v e =
    record {
      stripe-low = low;
      right = e.0;
      block-right = e.1;
      block-long = λ b _. plain_block s (clearing kind op time) u v b;
      old-long = plain_old s (clearing kind op time) v;
    }

-- the message of an open round
module _ (s : Settings) (c : Coordinator) (g : Good s.n s.m s.size s.stripes c) (busy : c.op.kind ≡ idle_kind → ⊥) (old : ℕ) (targets blocks held : List ℕ) where
  sent : Broadcast
  sent = record { message = round_message c.op old targets; blocks = blocks; old = held }

  round_fits : (c.op.phase ≡ read_kind → targets_right s.n s.m targets ≡ true) → (c.op.phase ≡ modify_kind → found_right old ≡ true)
      → (c.op.phase ≡ write_kind → length blocks ≡ s.n * s.size)
      → (c.op.phase ≡ modify_kind → (length blocks ≡ s.size) × (length held ≡ s.size))
      → Fits s (record { message = round_message c.op old targets; blocks = blocks; old = held })
  unfolding round_message sent
  round_fits t o write modify =
      record {
        stripe-low = g.parts.stripe-low;
        right = message_passes s.n s.m s.size s.stripes c old targets g busy t o;
        block-right = message_block_passes s.n s.m s.size s.stripes c old targets g;
        block-long = λ b l. block b l (ℕ_discrete c.op.phase write_kind) (ℕ_discrete c.op.phase modify_kind);
        old-long = olds (ℕ_discrete c.op.phase modify_kind);
      }
    where
      block : (b : ℕ) → b < s.n → Dec (c.op.phase ≡ write_kind) → Dec (c.op.phase ≡ modify_kind) → length (block_for s sent b) ≡ s.size
      block b l (yes e) d = write_block_lem s sent e (write e) b l
      block b l (no u) (yes e) = modify_block s sent e (modify e).0 b
      block b l (no u) (no v) = plain_block s sent u v b

      olds : Dec (c.op.phase ≡ modify_kind) → length (old_for s sent) ≡ s.size
      olds (yes e) = modify_old s sent e (modify e).1
      olds (no v) = plain_old s sent v

coded_long : (n m size : ℕ) (stripe : List ℕ) → length (coded_of n m size stripe) ≡ n * size
unfolding coded_of
coded_long n m size stripe = length_blocks_at _ size stripe n

-- WHAT THE Q-TH REPLY SENDS
module _ (s : Settings) (h : Buffered) (r : Reply) (block : List ℕ) (coded : ℕ) (w : Went) (t : ReplyTaken s.n s.m s.size s.stripes h r block coded w)
    (good : Good s.n s.m s.size s.stripes h.state) (busy : h.state.op.kind ≡ idle_kind → ⊥) where
  abbrev k : Buffered
  k = counting s.size h r block

  full : Full s.n s.m s.size s.stripes k.state
  unfolding counting
  full = counted_full s.n s.m s.size s.stripes h.state r t.takes.range good t.reply t.answer

  long : Long s k
  long = counting_long s h r block coded w t

  runs : k.state.op.kind ≡ idle_kind → ⊥
  unfolding counting with_tally
  runs = busy

  low : k.state.op.stripe < s.stripes
  low = full.stripe-low

  -- the next round, with the blocks that a Write or Modify has
  next_fits : (phase max old : ℕ) (bricks blocks held : List ℕ) → Good s.n s.m s.size s.stripes (opened k.state phase max bricks)
      → (phase ≡ read_kind → ⊥) → (phase ≡ modify_kind → found_right old ≡ true) → (phase ≡ write_kind → length blocks ≡ s.n * s.size)
      → (phase ≡ modify_kind → (length blocks ≡ s.size) × (length held ≡ s.size))
      → AllFit s (record { message = round_message (next_op k.state.op phase max) old no_bricks; blocks = blocks; old = held } ∷ [])
  unfolding opened next_op
  next_fits phase max old bricks blocks held g no_read found write modify =
      one_fits s _ (round_fits s (opened k.state phase max bricks) g runs old no_bricks blocks held (λ e. absurd (no_read e)) found write modify)

  modified_long : k.state.op.phase ≡ order_block_kind
      → (length (block_of s.size k.stripe k.state.op.first) ≡ s.size) × (length (block_of s.size k.blocks k.state.op.first) ≡ s.size)
  modified_long e =
      let i = in_block_order k.state.op full.op-right e in (
        block_length s.size k.stripe k.state.op.first
            (write_within s.m s.size (length k.stripe) k.state.op full.block-low long.1 i.kind-is),
        block_length s.size k.blocks k.state.op.first
            (block_within s.n s.size k.state.op.first k.blocks long.0 full.first-low),
      )

  lowered : (max : ℕ)
      → ((k.state.op.phase ≡ read_kind) × (max ≡ no_upper_end))
      ⊎ (((k.state.op.phase ≡ order_block_kind) × AllYes s.n k.state.tally × (max ≡ no_upper_end)) ⊎ Lowers s.n s.m k.state.op k.state.tally max)
      → k.state.op.phase ≡ order_read_kind → Lowers s.n s.m k.state.op k.state.tally max
  lowered max (inl q) e = absurd (omega (arith, q.0, e))
  lowered max (inr (inl q)) e = absurd (omega (arith, q.0, e))
  lowered max (inr (inr q)) e = q

  acted_fit : (d : Decision) → DecisionSays s.n s.m k.state.op k.state.tally d
      → Good s.n s.m s.size s.stripes (acted s.n s.m s.size k d).next.state → AllFit s (acted s.n s.m s.size k d).sent
  unfolding acted ending sending_first next_round modifying DecisionSays
  acted_fit Abort says g = none_fit s
  acted_fit Give says g = none_fit s
  acted_fit (Look max) says g =
      both_fit s _ _
      (drops_either k.state.op max (AllFit s) (λ _. none_fit s)
      (λ e.
      one_fits s _
      (clear_fits s drop_kind max k.state.op low (λ q. omega (arith, q)) (λ q. omega (arith, q))
      (drop_passes s.n s.m s.size s.stripes k.state max t.takes.range.n-high full (lowered max says e)))))
      (next_fits order_read_kind max 0 no_bricks [] [] g (λ q. omega (arith, q)) (λ q. absurd (omega (arith, q))) (λ q. absurd (omega (arith, q))) (λ q. absurd (omega (arith, q))))
  acted_fit Store says g =
      next_fits write_kind 0 0 no_bricks (coded_of s.n s.m s.size k.stripe) [] g (λ q. omega (arith, q)) (λ q. absurd (omega (arith, q)))
      (λ _. coded_long s.n s.m s.size k.stripe) (λ q. absurd (omega (arith, q)))
  acted_fit (Modify time) says g =
      next_fits modify_kind 0 time no_bricks (block_of s.size k.stripe k.state.op.first) (block_of s.size k.blocks k.state.op.first) g (λ q. omega (arith, q))
      (λ _. old_right s.n s.m s.size s.stripes k.state time t.takes.range.n-high full says) (λ q. absurd (omega (arith, q))) (λ _. modified_long says.phase-is)
  acted_fit (Recover time) says g =
      recover_either s.n s.m s.size k time
      (λ (v : Went). Good s.n s.m s.size s.stripes v.next.state → AllFit s v.sent)
      (λ o.
      both_fit s _ _
      (trims_either s.n s.m k.state.op k.state.tally time (AllFit s) (λ _. none_fit s)
      (λ e.
      one_fits s _
      (clear_fits s trim_kind time k.state.op low (λ q. omega (arith, q)) (λ q. omega (arith, q))
      (early_trim_passes s.n s.m s.size s.stripes k.state time t.takes.range.n-high full says e.not_first))))
      (next_fits write_kind 0 0 (named_bricks k.state.op (picked_at s.n s.m k time)) (coded_of s.n s.m s.size (recovered_stripe s.n s.m s.size k time)) [] o
      (λ q. omega (arith, q)) (λ q. absurd (omega (arith, q))) (λ _. coded_long s.n s.m s.size (recovered_stripe s.n s.m s.size k time)) (λ q. absurd (omega (arith, q)))))
      (λ _. none_fit s)
      g
  acted_fit Finish says g = finish-fits
    where
      finish-fits : AllFit s (clearing trim_kind k.state.op k.state.op.time ∷ [])
      finish-fits =
          one_fits s _
          (clear_fits s trim_kind k.state.op.time k.state.op low (λ q. omega (arith, q)) (λ q. omega (arith, q))
          (unfold counting with_tally in trim_passes s.n s.m s.size s.stripes h.state good busy))

  waiting_fit : AllFit s (waiting_or s.n s.m s.size k).sent
  unfolding waiting_or
  waiting_fit = go (ltb (members k.state.tally.counted s.n) (quorum s.n s.m))
    where
      go : (a : Bool)
          → AllFit s
          (cond a (record { next = k; sent = []; seen = nothing_seen }) (acted s.n s.m s.size k (decided s.n s.m k.state.op k.state.tally))).sent
      go true = none_fit s
      go false =
          acted_fit (decided s.n s.m k.state.op k.state.tally) (decided_says s.n s.m k.state.op k.state.tally)
          (acted_good s.n s.m s.size s.stripes k t.takes.range full)

-- A REPLY:
pub take_fits : (s : Settings) (h : Buffered) (r : Reply) (block : List ℕ) (coded : ℕ) (w : Went) → Good s.n s.m s.size s.stripes h.state
    → take_step s.n s.m s.size s.stripes h r block coded ≡ went w → AllFit s w.sent
take_fits s h r block coded w g e =
    let t = took s.n s.m s.size s.stripes h r block coded w e in
    subst (λ (v : Went). AllFit s v.sent) t.is
    (waiting_fit s h r block coded w t g (taken_runs s.n s.m s.size s.stripes h r block coded w e))

-- A START:
module _ (s : Settings) (range : SettingsRange s) (h : Buffered) where
  start_fits : (clock : Clock) (op : Op) (stripe targets : List ℕ) → Good s.n s.m s.size s.stripes (starting h clock op stripe targets).next.state
      → (op.kind ≡ idle_kind → ⊥) → (op.phase ≡ read_kind → targets_right s.n s.m targets ≡ true) → op.phase ≤ order_block_kind
      → AllFit s (starting h clock op stripe targets).sent
  unfolding starting
  start_fits clock op stripe targets g busy t l =
      one_fits s _
      (round_fits s (starting h clock op stripe targets).next.state g busy 0 targets [] [] t (λ q. absurd (omega (arith, q, l))) (λ q. absurd (omega (arith, q, l)))
      (λ q. absurd (omega (arith, q, l))))

  -- a routine that starts one
  started_fits : (reading : ℕ) (op : ℕ → Op) (stripe targets : List ℕ) (w : Went) → Good s.n s.m s.size s.stripes w.next.state
      → drawn_then (draw_of h.state.clock reading) (λ time clock. starting h clock (op time) stripe targets) ≡ went w
      → ((time : ℕ) → (op time).kind ≡ idle_kind → ⊥)
      → ((time : ℕ) (clock : Clock) → Good s.n s.m s.size s.stripes (starting h clock (op time) stripe targets).next.state
      → (op time).phase ≡ read_kind → targets_right s.n s.m targets ≡ true)
      → ((time : ℕ) → (op time).phase ≤ order_block_kind) → AllFit s w.sent
  started_fits reading op stripe targets w g e busy t l =
      let d = drawn_went (draw_of h.state.clock reading) (λ time clock. starting h clock (op time) stripe targets) w e in
      let o = subst (λ (v : Went). Good s.n s.m s.size s.stripes v.next.state) (sym d.3) g in
      subst (λ (v : Went). AllFit s v.sent) d.3 (start_fits d.1 (op d.0) stripe targets o (busy d.0) (t d.0 d.1 o) (l d.0))

  pub write_fits : (number reading : ℕ) (bytes : List ℕ) (w : Went) → write_step s.n s.m s.size s.stripes h number reading bytes ≡ went w → AllFit s w.sent
  unfolding write_step first_op
  write_fits number reading bytes w e =
      started_fits reading (λ time. first_op writing_kind order_kind number time 0) bytes no_bricks w
      (write_good s.n s.m s.size s.stripes h number reading bytes w e)
      (passes (write_refusal s.n s.m s.size s.stripes h.state number reading (length bytes) (length h.stripe)) _ w e).1
      (λ _ q. omega (arith, q)) (λ _ _ _ q. absurd (omega (arith, q))) (λ _. omega arith)

  pub read_fits : (number reading first : ℕ) (w : Went) → read_step s.n s.m s.size s.stripes h number reading first ≡ went w → AllFit s w.sent
  unfolding read_step first_op starting
  read_fits number reading first w e =
      started_fits reading (λ time. first_op reading_kind read_kind number time first) h.stripe (target_flags s.n s.m first) w
      (read_good s.n s.m s.size s.stripes h number reading first w e)
      (passes (read_refusal s.n s.m s.size s.stripes h.state number reading first) _ w e).1
      (λ _ q. omega (arith, q)) (λ _ _ o _. targets_right_lem s.n s.m first range.code.n-high range.code.m-high o.parts.first-low) (λ _. omega arith)

  pub write_block_fits : (number reading block : ℕ) (bytes : List ℕ) (w : Went)
      → write_block_step s.n s.m s.size s.stripes h number reading block bytes ≡ went w → AllFit s w.sent
  unfolding write_block_step first_op
  write_block_fits number reading block bytes w e =
      started_fits reading (λ time. first_op writing_block_kind order_block_kind number time block) (with_block s.size h.stripe block bytes) no_bricks w
      (write_block_good s.n s.m s.size s.stripes h number reading block bytes w e)
      (passes (write_block_refusal s.n s.m s.size s.stripes h.state number reading block (length bytes) (length h.stripe)) _ w e).1
      (λ _ q. omega (arith, q)) (λ _ _ _ q. absurd (omega (arith, q))) (λ _. omega arith)

  pub read_block_fits : (number reading block : ℕ) (w : Went) → read_block_step s.n s.m s.size s.stripes h number reading block ≡ went w → AllFit s w.sent
  unfolding read_block_step first_op starting on_block
  read_block_fits number reading block w e =
      started_fits reading (λ time. first_op reading_block_kind read_kind number time block) h.stripe (target_flags s.n block_targets block) w
      (read_block_good s.n s.m s.size s.stripes h number reading block w e)
      (passes (read_block_refusal s.n s.m s.size s.stripes h.state number reading block) _ w e).1
      (λ _ q. omega (arith, q)) (λ _ _ o _. block_target_right s.n s.m block range.code.n-high range.code.m-high (o.parts.block-low refl)) (λ _. omega arith)

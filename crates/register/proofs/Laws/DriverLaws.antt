-- Laws of `specs/Driver`.
use mathlib.Core.Path.{◌≡◌, refl, sym, ap, ap₂, subst, fun_ext, ◌∙◌}
use mathlib.Core.Bool.{Bool, true, false, cond, true≢false}
use mathlib.Core.List.{List, [], ◌∷◌, ◌++◌, append-nil}
use Prim.Native.Nat.{ℕ, zero, suc, ◌*◌, ◌≤◌}
use native.Mathlib.Omega.{arith}
use lib.Dec.{leb, ltb, eqb}
use lib.ListN.{length, take}
use borrow.Author.Tests.{eqb-true, eq-eqb, ne_eqb}
use Rattle.settings.specs.Ranges.{quorum}
use Rattle.settings.specs.Times.{draw_of}
use Rattle.settings.specs.declared.Clock.{Clock}
use Rattle.settings.specs.Times.{Draw}
use Rattle.settings.specs.Times.{Drawn, Refused}
use Rattle.settings.specs.declared.Settings.{Settings}
use Rattle.message.specs.Flags.{members}
use Rattle.message.specs.Kinds.{order_read_kind, write_kind, modify_kind, trim_kind, drop_kind}
use Rattle.message.specs.Messages.{names_block}
use Rattle.message.specs.declared.Reply.{Reply}
use Rattle.coord_record.specs.Records.{idle_kind, no_bricks}
use Rattle.coord_decide.specs.Deciding.{decided}
use Rattle.coord_decide.specs.declared.Decision.{Decision}
use Rattle.coord_decide.specs.declared.Decision.TheVariants.{Abort, Give, Look, Store, Modify, Recover, Finish}
use Rattle.coord_apply.proofs.Laws.ActLaws.{recover_either}
use Rattle.coord_apply.proofs.Laws.FirstLaws.{drops_either, trims_either}
use Rattle.coord_apply.specs.Acts.{buffered, round_message, clear_message, clearing, drops_first, trims_first, sending_first, next_op, opened, next_round}
use Rattle.coord_apply.specs.Acts.{modifying, ending, acted, counting, waiting_or, first_op}
use Rattle.coord_apply.specs.Acts.{starting}
use Rattle.coord_apply.specs.Answers.{Buffered, Broadcast, Went, Step, refused, went, after_checks, nothing_seen, cut_seen, most_broadcasts, sent_count, sent_message, sent_blocks, answer_of}
use Rattle.coord_apply.specs.Answers.{blocks_after, stripe_after, coded_after, returned, returned_by}
use Rattle.coord_apply.proofs.Laws.AnswerLaws.{returned_answer}
use Rattle.coord_apply.specs.Answers.{Answer}
use Rattle.coord_record.specs.declared.Coordinator.{Coordinator}
use Rattle.coord_record.specs.declared.Op.{Op}
use Rattle.coordinator.specs.Routines.{take_step, crash_step, crashed, drawn_then, write_step, read_step, write_block_step, read_block_step}
use Rattle.order.specs.Claim.{Seen}
use Rattle.register.specs.Runs.{plain, Item, World, untouched, lost, Moved, unmoved, put_at, on_stripe, seen_of, block_for, old_for, to_all, broadcasts}
use Rattle.register.specs.Runs.{coordinated, buffers_fit, leaving, left_by}
use Rattle.register.specs.Driver.{with_blocks, listed, driven, InBuffers, AtMostTwo, none, one, two, Short, refuses, sends}

pub put_same : {A : Type 0} (f : ℕ → A) (c : ℕ) → put_at f c (f c) ≡ f
unfolding put_at
put_same f c = fun_ext (λ j. go j (eqb j c) refl)
  where
    go : (j : ℕ) (b : Bool) → eqb j c ≡ b → cond b (f c) (f j) ≡ f j
    go j true e = ap f (sym (eqb-true j c e))
    go j false e = refl

-- where nothing is seen, it is nowhere seen
pub seen_nowhere : {A : Type 0} (stripe : ℕ) → on_stripe {A = A} stripe [] ≡ (λ (k : ℕ). [])
unfolding on_stripe
seen_nowhere stripe = fun_ext (λ k. go (eqb k stripe))
  where
    go : {A : Type 0} (b : Bool) → cond {A = List A} b [] [] ≡ []
    go true = refl
    go false = refl

-- the blocks that a driver sends with a broadcast of a step are the step's, where the output buffer holds those of a Write round
module _ (s : Settings) (k : Buffered) (b : Broadcast) (i : InBuffers s.size k b) (coded : List ℕ)
    (e : eqb b.message.kind write_kind ≡ true → coded ≡ b.blocks) where
  same_block : (j : ℕ) → block_for s b j ≡ block_for s (with_blocks s.size b.message k.blocks k.stripe coded) j
  unfolding block_for with_blocks
  same_block j = go (eqb b.message.kind write_kind) (eqb b.message.kind modify_kind) refl refl
    where
      go : (x y : Bool) → eqb b.message.kind write_kind ≡ x → eqb b.message.kind modify_kind ≡ y
          → block_for s b j ≡ block_for s (with_blocks s.size b.message k.blocks k.stripe coded) j
      go true true ex ey = absurd (omega (arith, eqb-true b.message.kind write_kind ex, eqb-true b.message.kind modify_kind ey))
      go true false ex ey = rw (ex, ey, e ex) refl
      go false true ex ey = rw (ex, ey) (i.new_is (eqb-true b.message.kind modify_kind ey))
      go false false ex ey = rw (ex, ey) refl

  same_old : old_for s b ≡ old_for s (with_blocks s.size b.message k.blocks k.stripe coded)
  unfolding old_for with_blocks
  same_old = go (eqb b.message.kind modify_kind) refl
    where
      go : (y : Bool) → eqb b.message.kind modify_kind ≡ y
          → old_for s b ≡ old_for s (with_blocks s.size b.message k.blocks k.stripe coded)
      go true ey = rw ey (i.old-is (eqb-true b.message.kind modify_kind ey))
      go false ey = rw ey refl

  same_items : (j : ℕ) → to_all s b j ≡ to_all s (with_blocks s.size b.message k.blocks k.stripe coded) j
  unfolding to_all with_blocks
  same_items zero = refl
  same_items (suc j) = cc (same_items j, same_block j, same_old)

-- what is sent by a step is what its answer and buffers list
same_sent : (s : Settings) (k : Buffered) (old : List ℕ) {l : List Broadcast} → AtMostTwo s.size k l
    → let coded = sent_blocks l old in
    broadcasts s l
    ≡ broadcasts s
    (take (sent_count l)
    (with_blocks s.size (sent_message 0 l) k.blocks k.stripe coded ∷ with_blocks s.size (sent_message 1 l) k.blocks k.stripe coded ∷ []))
unfolding broadcasts with_blocks sent_count sent_message sent_blocks
same_sent s k old none = refl
same_sent s k old (one b i) = cc (same_items s k b i (cond (eqb b.message.kind write_kind) b.blocks old) (λ e. rw e refl) s.n)
same_sent s k old (two a b i j e) =
    let first : List ℕ = cond (eqb a.message.kind write_kind) a.blocks old in
    let coded : List ℕ = cond (eqb b.message.kind write_kind) b.blocks first in
    cc (same_items s k a i coded (λ q. absurd (true≢false (sym q ∙ e))) s.n, same_items s k b j coded (λ e. rw e refl) s.n)

-- an answer lists no more than it has room for
pub few_sent : {size : ℕ} (c : Coordinator) (p : Step) (a : Answer) → Short size p → a ≡ answer_of c p → a.sent ≤ most_broadcasts
unfolding answer_of sent_count
few_sent {size} c p a h e = subst (λ (x : Answer). x.sent ≤ most_broadcasts) (sym e) (few p h)
  where
    most : {k : Buffered} {l : List Broadcast} → AtMostTwo size k l → length l ≤ most_broadcasts
    most none = omega arith
    most (one b i) = omega arith
    most (two a b i j e) = omega arith

    few : (q : Step) → Short size q → (answer_of c q).sent ≤ most_broadcasts
    few q (refuses number) = omega arith
    few q (sends g h) = most h

pub few_returned : {size : ℕ} (c : Coordinator) (blocks stripe coded : List ℕ) (p : Step) (a : Answer) (blocks' stripe' coded' : List ℕ) → Short size p
    → returned a blocks' stripe' coded' ≡ returned_by (buffered c blocks stripe) coded p → a.sent ≤ most_broadcasts
few_returned c blocks stripe coded p a blocks' stripe' coded' h e =
    few_sent c p a h (returned_answer c blocks stripe coded p a blocks' stripe' coded' e)

-- A coordinator's step in the world is what the driver makes of the routine's answer and buffers.
pub coordinated_is_driven : (s : Settings) (w : World) (c : ℕ) (p : Step) (old : List ℕ) → Short s.size p
    → coordinated s w c p
    ≡ driven s w c (answer_of (w.coordinators c).state p) (blocks_after (w.coordinators c) p) (stripe_after (w.coordinators c) p) (coded_after old p)
unfolding coordinated driven listed broadcasts unmoved answer_of blocks_after stripe_after coded_after nothing_seen seen_of
coordinated_is_driven s w c p old (refuses number) =
    ap₂ (λ (f : ℕ → Buffered) (l : List Item). makes f l (λ (k : ℕ). [])) (sym (put_same w.coordinators c)) (sym (append-nil w.sent))
    ∙ ap (makes (put_at w.coordinators c (w.coordinators c)) (w.sent ++ [])) (sym (seen_nowhere _))
  where
    makes : (ℕ → Buffered) → List Item → (ℕ → List (Seen (plain s))) → Moved s
    makes f l seen = record { world = record { images = w.images; up = w.up; coordinators = f; sent = l }; seen = seen }
coordinated_is_driven s w c p old (sends g h) =
    ap (λ (l : List Item). makes (put_at w.coordinators c g.next) (w.sent ++ l) (on_stripe g.seen.stripe (seen_of s g.seen g.next))) (same_sent s g.next old h)
  where
    makes : (ℕ → Buffered) → List Item → (ℕ → List (Seen (plain s))) → Moved s
    makes f l seen = record { world = record { images = w.images; up = w.up; coordinators = f; sent = l }; seen = seen }

-- what a crash leaves: the buffers as they were,
pub left_untouched : (s : Settings) (p : Step) → left_by s untouched p ≡ p
unfolding left_by leaving
left_untouched s (refused number) = refl
left_untouched s (went g) = refl

-- or other lists of the right lengths
pub left_lost : (s : Settings) (blocks stripe : List ℕ) (h : Buffered) → length blocks ≡ s.n * s.size → length stripe ≡ s.m * s.size
    → leaving s (lost blocks stripe) h ≡ record { state = h.state; blocks = blocks; stripe = stripe }
unfolding leaving buffers_fit
left_lost s blocks stripe h eb es = simp (eq-eqb _ _ eb, eq-eqb _ _ es)

-- the routines send two broadcasts at most, and so far one
checked_short : (size k : ℕ) (p : Step) → Short size p → Short size (after_checks k p)
unfolding after_checks
checked_short size k p h = go (leb k 0)
  where
    go : (a : Bool) → Short size (cond a p (refused k))
    go true = h
    go false = refuses k

drawn_short : (size : ℕ) (d : Draw) (f : ℕ → Clock → Went) → ((t : ℕ) (c : Clock) → AtMostTwo size (f t c).next (f t c).sent) → Short size (drawn_then d f)
unfolding drawn_then
drawn_short size (Drawn t c) f h = sends (f t c) (h t c)
drawn_short size (Refused k) f h = refuses k

-- a message that is no Modify
no_modify : (size : ℕ) (k : Buffered) (b : Broadcast) → (b.message.kind ≡ modify_kind → ⊥) → InBuffers size k b
no_modify size k b n = record { new_is = λ e. absurd (n e); old-is = λ e. absurd (n e) }

-- a start
started_short : (size : ℕ) (h : Buffered) (clock : Clock) (op : Op) (stripe targets : List ℕ) → (op.phase ≡ modify_kind → ⊥)
    → AtMostTwo size (starting h clock op stripe targets).next (starting h clock op stripe targets).sent
unfolding starting round_message
started_short size h clock op stripe targets n = one _ (no_modify size _ _ n)

module _ (n m size : ℕ) (k : Buffered) where
  -- one round is sent, and it is no Modify
  record OneRound (w : Went) : Type 0 where
    round : Broadcast
    is : w.sent ≡ round ∷ []
    fits : InBuffers size w.next round

  one_round : (phase max : ℕ) (bricks stripe coded : List ℕ) → (phase ≡ modify_kind → ⊥) → OneRound (next_round k phase max bricks stripe coded)
  unfolding next_round round_message next_op
  one_round phase max bricks stripe coded n = record { round = _; is = refl; fits = no_modify size _ _ n }

  -- what has no reply goes ahead of a round: two at most
  clear_short : (kind time : ℕ) (w : Went) → (kind ≡ modify_kind → ⊥) → (kind ≡ write_kind → ⊥) → OneRound w
      → AtMostTwo size w.next (clearing kind k.state.op time ∷ w.sent)
  unfolding clearing clear_message
  clear_short kind time w n e o =
      subst (λ (l : List Broadcast). AtMostTwo size w.next (clearing kind k.state.op time ∷ l)) (sym o.is)
      (two (clearing kind k.state.op time) o.round (no_modify size w.next (clearing kind k.state.op time) n) o.fits (ne_eqb kind write_kind e))

  alone : (w : Went) → OneRound w → AtMostTwo size w.next w.sent
  alone w o = subst (AtMostTwo size w.next) (sym o.is) (one _ o.fits)

  drops_short : (max : ℕ) (w : Went) → OneRound w
      → AtMostTwo size (sending_first (drops_first k.state.op max) w).next (sending_first (drops_first k.state.op max) w).sent
  unfolding sending_first
  drops_short max w o =
      drops_either k.state.op max (λ (first : List Broadcast). AtMostTwo size w.next (first ++ w.sent)) (λ _. alone w o)
      (λ _. clear_short drop_kind max w (λ e. omega (arith, e)) (λ e. omega (arith, e)) o)

  trims_short : (time : ℕ) (w : Went) → OneRound w
      → AtMostTwo size (sending_first (trims_first n m k.state.op k.state.tally time) w).next (sending_first (trims_first n m k.state.op k.state.tally time) w).sent
  unfolding sending_first
  trims_short time w o =
      trims_either n m k.state.op k.state.tally time (λ (first : List Broadcast). AtMostTwo size w.next (first ++ w.sent)) (λ _. alone w o)
      (λ _. clear_short trim_kind time w (λ e. omega (arith, e)) (λ e. omega (arith, e)) o)

  acted_short : (d : Decision) → AtMostTwo size (acted n m size k d).next (acted n m size k d).sent
  unfolding acted ending modifying round_message next_op opened names_block clearing clear_message
  acted_short Abort = none
  acted_short Give = none
  acted_short (Look max) = drops_short max (next_round k order_read_kind max no_bricks k.stripe []) (one_round _ _ _ _ _ (λ e. omega (arith, e)))
  acted_short Store = alone _ (one_round _ _ _ _ _ (λ e. omega (arith, e)))
  acted_short (Modify time) = one _ (record { new_is = λ e. refl; old-is = λ e. refl })
  acted_short (Recover t) =
      recover_either n m size k t (λ (w : Went). AtMostTwo size w.next w.sent) (trims_short t _ (one_round _ _ _ _ _ (λ e. omega (arith, e)))) none
  acted_short Finish = one _ (no_modify size _ (clearing trim_kind k.state.op k.state.op.time) (λ e. omega (arith, e)))

  waiting_short : AtMostTwo size (waiting_or n m size k).next (waiting_or n m size k).sent
  unfolding waiting_or
  waiting_short = go (ltb (members k.state.tally.counted n) (quorum n m))
    where
      waits : Bool → Went
      waits a = cond a (record { next = k; sent = []; seen = nothing_seen }) (acted n m size k (decided n m k.state.op k.state.tally))

      go : (a : Bool) → AtMostTwo size (waits a).next (waits a).sent
      go true = none
      go false = acted_short (decided n m k.state.op k.state.tally)

module _ (n m size stripes : ℕ) (k : Buffered) where
  pub write_short : (number reading : ℕ) (content : List ℕ) → Short size (write_step n m size stripes k number reading content)
  unfolding write_step first_op
  write_short number reading content =
      checked_short size _ _ (drawn_short size (draw_of k.state.clock reading) _ (λ t c. started_short size k c _ _ _ (λ e. omega (arith, e))))

  pub read_short : (number reading first : ℕ) → Short size (read_step n m size stripes k number reading first)
  unfolding read_step first_op
  read_short number reading first =
      checked_short size _ _ (drawn_short size (draw_of k.state.clock reading) _ (λ t c. started_short size k c _ _ _ (λ e. omega (arith, e))))

  pub write_block_short : (number reading block : ℕ) (content : List ℕ) → Short size (write_block_step n m size stripes k number reading block content)
  unfolding write_block_step first_op
  write_block_short number reading block content =
      checked_short size _ _ (drawn_short size (draw_of k.state.clock reading) _ (λ t c. started_short size k c _ _ _ (λ e. omega (arith, e))))

  pub read_block_short : (number reading block : ℕ) → Short size (read_block_step n m size stripes k number reading block)
  unfolding read_block_step first_op
  read_block_short number reading block =
      checked_short size _ _ (drawn_short size (draw_of k.state.clock reading) _ (λ t c. started_short size k c _ _ _ (λ e. omega (arith, e))))

  crashed_short : AtMostTwo size (crashed n k).next (crashed n k).sent
  unfolding crashed ending
  crashed_short = go (eqb k.state.op.kind idle_kind)
    where
      cuts : Bool → Went
      cuts a = cond a (record { next = k; sent = []; seen = nothing_seen }) (ending n k k.stripe [] cut_seen no_bricks)

      go : (a : Bool) → AtMostTwo size (cuts a).next (cuts a).sent
      go true = none
      go false = none

  pub crash_short : Short size (crash_step n m size stripes k)
  unfolding crash_step
  crash_short = checked_short size _ (went (crashed n k)) (sends (crashed n k) crashed_short)

pub take_short : (n m size stripes : ℕ) (k : Buffered) (r : Reply) (block : List ℕ) (coded : ℕ) → Short size (take_step n m size stripes k r block coded)
unfolding take_step
take_short n m size stripes k r block coded =
    checked_short size _ _ (sends (waiting_or n m size (counting size k r block)) (waiting_short n m size (counting size k r block)))

-- Laws of `specs/Lending`.
use mathlib.Core.Path.{◌≡◌, refl, sym, ap, ap₂, subst, ◌∙◌}
use mathlib.Core.Bool.{Bool, true, false, cond, not}
use mathlib.Core.List.{List, []}
use Prim.Native.Nat.{ℕ, ◌≤◌}
use native.Mathlib.Omega.{arith}
use lib.Dec.{eqb, leb}
use lib.ListN.{length, replicate}
use borrow.Author.Tests.{eqb-true, leb-false}
use Rattle.settings.specs.Ranges.{in_range, code_refusal, stripe_count_refusal}
use Rattle.settings.proofs.Laws.RefusalLaws.{passed_rest}
use Rattle.settings.specs.Refusal.{passed}
use Rattle.settings.specs.Times.{last_coordinator}
use Rattle.settings.specs.declared.Settings.{Settings}
use Rattle.message.specs.Kinds.{write_kind, modify_kind, read_kind, trim_kind, drop_kind}
use Rattle.message.specs.Messages.{is_silent}
use Rattle.message.specs.declared.Message.{Message}
use Rattle.message.specs.declared.Reply.{Reply}
use Rattle.image.specs.Brick.{Brick}
use Rattle.image.specs.Image.{image_of}
use Rattle.image.specs.Parse.{Parsed, Opens, Refuses, parse}
use Rattle.brick.specs.Receive
use Rattle.brick.specs.Receive.{Outcome, beside, outcome, receive_refusal, refused_with, given_by}
use Rattle.brick.specs.Receive.{Answered, Silent}
use Rattle.volume.specs.Rows.{image_at, with_image, in_row, row_refusal, row_outcome}
use Rattle.brick_log.specs.BrickRules.{place_for, reply_to, trimmed_to, dropped_from, written_if_yes, modified_if_yes, ordered_if_yes, brick_after, block_after}
use Rattle.coord_record.specs.Records.{idle_kind, no_bricks, geometry_of, idle_with}
use Rattle.coord_record.specs.declared.Geometry.{Geometry}
use Rattle.coord_record.proofs.Laws.SoundPartLaws.{sound_parts}
use Rattle.coord_record.specs.declared.Coordinator.{Coordinator}
use Rattle.coord_apply.specs.Acts.{ending, counting}
use Rattle.coord_apply.specs.Answers.{Buffered, Went, Step, went, refused, after_checks, nothing_seen, cut_seen, answer_of}
use Rattle.coord_refusals.specs.Checks.{lengths_right, take_refusal, crash_refusal}
use Rattle.coord_laws.proofs.Laws.OpCaseLaws.{clash}
use Rattle.coord_laws.proofs.Laws.SoundnessLaws.{passes}
use Rattle.coord_refusals.proofs.Laws.RefusedLaws.{record_passes}
use Rattle.coordinator.specs.Routines.{take_step, crashed, crash_step}
use Rattle.register.specs.Runs.{Event, replied_with, run}
use Rattle.register.specs.Driver.{holds, held_block}
use Rattle.register.specs.Lending.{SameAnswer, LentBytesMakeNoDifference, UnheldBlocksMakeNoDifference, CrashIsIdleWith, AcceptedCrashIsIdleWith}
use Rattle.coord_record.proofs.Laws.SoundPartLaws.{made_for}
use Rattle.register.proofs.Laws.IdleRecordLaws.{idle_record}
use Rattle.register.proofs.Laws.NeverRefusedLaws.{Rests, run_known, crashes_accepted}

-- the reply's buffer is written where a block is held
held_out : (a t : Bool) (r : Reply) (out out' means : List ℕ) → r.held ≡ not t → holds (cond a Silent (Answered r)) ≡ true
    → cond t out means ≡ cond t out' means
unfolding holds
held_out true t r out out' means e h = clash h
held_out false true r out out' means e h = clash (sym e ∙ h)
held_out false false r out out' means e h = refl

-- the blocks lent beside a message: the same where it is a Write or Modify
module _ (s : Settings) (b : ℕ) (msg : Message) (block block' old old' : List ℕ) (write : msg.kind ≡ write_kind → block ≡ block')
    (modify : msg.kind ≡ modify_kind → (block ≡ block') × (old ≡ old')) where
  -- a brick keeps the block of a Write and what Modify makes of both, alone
  brick_same : (x : Brick) → brick_after s b x msg block old ≡ brick_after s b x msg block' old'
  unfolding brick_after
  brick_same x = go (eqb msg.kind trim_kind) (eqb msg.kind drop_kind) (eqb msg.kind write_kind) (eqb msg.kind modify_kind) refl refl
    where
      rest : Brick
      rest = cond (eqb msg.kind read_kind) x (ordered_if_yes x msg.time)

      go : (a f c d : Bool) → eqb msg.kind write_kind ≡ c → eqb msg.kind modify_kind ≡ d
          → cond a (trimmed_to x msg.time) (cond f (dropped_from x msg.time) (cond c (written_if_yes s x msg.time block) (cond d (modified_if_yes s b x msg block old) rest)))
          ≡ cond a (trimmed_to x msg.time) (cond f (dropped_from x msg.time) (cond c (written_if_yes s x msg.time block') (cond d (modified_if_yes s b x msg block' old') rest)))
      go true f c d ec ed = refl
      go false true c d ec ed = refl
      go false false true d ec ed = ap (written_if_yes s x msg.time) (write (eqb-true msg.kind write_kind ec))
      go false false false true ec ed = let q = modify (eqb-true msg.kind modify_kind ed) in ap₂ (modified_if_yes s b x msg) q.0 q.1
      go false false false false ec ed = refl

  opened_same : (image out out' : List ℕ) (p : Parsed)
      → SameAnswer (Receive.accepted s b msg block old image out p) (Receive.accepted s b msg block' old' image out' p)
  unfolding Receive.accepted refused_with holds
  opened_same image out out' (Refuses number) = record { given_is = refl; image-is = refl; block-is = λ h. clash h }
  opened_same image out out' (Opens x) =
      record {
        given_is = refl;
        image-is = ap (image_of s b) (brick_same x);
        block-is = λ h. unfold given_by reply_to block_after in
            held_out (is_silent msg.kind) (eqb (place_for b x msg) 0) (reply_to s b x msg) out out' _ refl h;
      }

  module _ (out out' : List ℕ) (eb : length block ≡ length block') (eold : length old ≡ length old') (eo : length out ≡ length out') where
    -- of one length, they are refused alike
    same_beside : beside block old out ≡ beside block' old' out'
    same_beside = cc (eb, eold, eo)

    -- of one image
    image_lent : (image : List ℕ) → SameAnswer (outcome s b image msg block old out) (outcome s b image msg block' old' out')
    unfolding outcome refused_with holds
    image_lent image =
        subst (λ (k : ℕ). SameAnswer (by number block old out) (by k block' old' out')) (ap (receive_refusal s b image msg) same_beside)
        (go (eqb number passed))
      where
        number : ℕ
        number = receive_refusal s b image msg (beside block old out)

        by : ℕ → (block old out : List ℕ) → Outcome
        by k block old out = cond (eqb k passed) (Receive.accepted s b msg block old image out (parse s b image)) (refused_with k image out)

        go : (a : Bool)
            → SameAnswer (cond a (Receive.accepted s b msg block old image out (parse s b image)) (refused_with number image out))
            (cond a (Receive.accepted s b msg block' old' image out' (parse s b image)) (refused_with number image out'))
        go true = opened_same image out out' (parse s b image)
        go false = record { given_is = refl; image-is = refl; block-is = λ h. clash h }

    -- of a brick's images in their row
    row_lent : (images : List ℕ) → SameAnswer (row_outcome s b images msg block old out) (row_outcome s b images msg block' old' out')
    unfolding row_outcome in_row refused_with holds
    row_lent images =
        subst (λ (k : ℕ). SameAnswer (by number block old out) (by k block' old' out')) (ap (row_refusal s b images msg) same_beside)
        (go (eqb number passed))
      where
        number : ℕ
        number = row_refusal s b images msg (beside block old out)

        acted : (block old out : List ℕ) → Outcome
        acted block old out = outcome s b (image_at s msg.stripe images) msg block old out

        by : ℕ → (block old out : List ℕ) → Outcome
        by k block old out = cond (eqb k passed) (in_row s msg.stripe images (acted block old out)) (refused_with k images out)

        go : (a : Bool)
            → SameAnswer (cond a (in_row s msg.stripe images (acted block old out)) (refused_with number images out))
            (cond a (in_row s msg.stripe images (acted block' old' out')) (refused_with number images out'))
        go true =
            let i = image_lent (image_at s msg.stripe images) in
            record { given_is = i.given_is; image-is = ap (λ (l : List ℕ). with_image s msg.stripe l images) i.image-is; block-is = i.block-is }
        go false = record { given_is = refl; image-is = refl; block-is = λ h. clash h }

pub lent_bytes_make_no_difference : LentBytesMakeNoDifference
lent_bytes_make_no_difference s b images msg block block' old old' out out' eb eold eo write modify =
    row_lent s b msg block block' old old' write modify out out' eb eold eo images

-- with zeros in the reply's buffer, the block that goes with a reply is what lies there
zeros_there : (s : Settings) (a t : Bool) (r : Reply) (means : List ℕ) → r.held ≡ not t
    → replied_with (cond a Silent (Answered r)) (held_block s (cond a Silent (Answered r)) (cond t (replicate s.size 0) means))
    ≡ replied_with (cond a Silent (Answered r)) (cond t (replicate s.size 0) means)
unfolding replied_with held_block holds
zeros_there s true t r means e = refl
zeros_there s false true r means e = rw e refl
zeros_there s false false r means e = rw e refl

opened_held : (s : Settings) (b : ℕ) (image : List ℕ) (msg : Message) (block old : List ℕ) (p : Parsed)
    → let o = Receive.accepted s b msg block old image (replicate s.size 0) p in
    replied_with o.given (held_block s o.given o.out) ≡ replied_with o.given o.out
unfolding Receive.accepted refused_with replied_with
opened_held s b image msg block old (Refuses number) = refl
opened_held s b image msg block old (Opens x) =
    unfold given_by reply_to block_after in
    zeros_there s (is_silent msg.kind) (eqb (place_for b x msg) 0) (reply_to s b x msg) _ refl

image_held : (s : Settings) (b : ℕ) (image : List ℕ) (msg : Message) (block old : List ℕ)
    → let o = outcome s b image msg block old (replicate s.size 0) in
    replied_with o.given (held_block s o.given o.out) ≡ replied_with o.given o.out
unfolding outcome refused_with replied_with
image_held s b image msg block old = go (eqb number passed)
  where
    out : List ℕ
    out = replicate s.size 0

    number : ℕ
    number = receive_refusal s b image msg (beside block old out)

    go : (a : Bool)
        → let o = cond a (Receive.accepted s b msg block old image out (parse s b image)) (refused_with number image out) in
        replied_with o.given (held_block s o.given o.out) ≡ replied_with o.given o.out
    go true = opened_held s b image msg block old (parse s b image)
    go false = refl

pub zeros_held : (s : Settings) (b : ℕ) (images : List ℕ) (msg : Message) (block old : List ℕ)
    → let o = row_outcome s b images msg block old (replicate s.size 0) in
    replied_with o.given (held_block s o.given o.out) ≡ replied_with o.given o.out
unfolding row_outcome in_row refused_with replied_with
zeros_held s b images msg block old = go (eqb number passed)
  where
    out : List ℕ
    out = replicate s.size 0

    number : ℕ
    number = row_refusal s b images msg (beside block old out)

    go : (a : Bool)
        → let o = cond a (in_row s msg.stripe images (outcome s b (image_at s msg.stripe images) msg block old out)) (refused_with number images out) in
        replied_with o.given (held_block s o.given o.out) ≡ replied_with o.given o.out
    go true = image_held s b (image_at s msg.stripe images) msg block old
    go false = refl

pub unheld_blocks_make_no_difference : UnheldBlocksMakeNoDifference
unfolding take_step take_refusal lengths_right counting
unheld_blocks_make_no_difference n m size stripes k r block block' coded same = go r.held refl
  where
    go : (a : Bool) → r.held ≡ a → take_step n m size stripes k r block coded ≡ take_step n m size stripes k r block' coded
    go true e = ap (λ (z : List ℕ). take_step n m size stripes k r z coded) (same e)
    go false e = rw e refl

-- checks that the answer does not show passed
accepted_went : (c : Coordinator) (k : ℕ) (g : Went) → (answer_of c (after_checks k (went g))).refusal ≡ passed → after_checks k (went g) ≡ went g
unfolding after_checks answer_of
accepted_went c k g = go (leb k 0) refl
  where
    go : (a : Bool) → leb k 0 ≡ a → (answer_of c (cond a (went g) (refused k))).refusal ≡ passed → cond a (went g) (refused k) ≡ went g
    go true e q = refl
    go false e q = let z = leb-false k 0 e in absurd (omega (arith, z, q))

-- a crash of a coordinator whose record, without an operation, is that of its clock alone
crashed_idle : (n : ℕ) (k : Buffered) → Rests k.state → (crashed n k).next.state ≡ idle_with k.state.geometry k.state.clock
unfolding crashed ending
crashed_idle n k idle = go (eqb k.state.op.kind idle_kind) refl
  where
    go : (a : Bool) → eqb k.state.op.kind idle_kind ≡ a
        → (cond a (record { next = k; sent = []; seen = nothing_seen }) (ending n k k.stripe [] cut_seen no_bricks)
        ).next.state ≡ idle_with k.state.geometry k.state.clock
    go true e = idle (eqb-true k.state.op.kind idle_kind e)
    go false e = refl

module _ (s : Settings) (e : in_range s ≡ true) (events : List Event) (c : ℕ) (l : c ≤ last_coordinator) where
  abbrev k : Buffered
  k = (run s events).world.coordinators c

  -- no crash of a run is refused
  pub crash_goes_on : crash_step s.n s.m s.size s.stripes k ≡ went (crashed s.n k)
  unfolding crash_step
  crash_goes_on = accepted_went k.state (crash_refusal s.n s.m s.size s.stripes k.state) (crashed s.n k) (crashes_accepted s e events c l)

  pub crash_leaves : (crashed s.n k).next.state ≡ idle_with (geometry_of s) (record { coordinator = c; last = k.state.clock.last })
  unfolding geometry_of
  crash_leaves =
      let i = run_known s e events c l in
      crashed_idle s.n k i.rests
      ∙ ap₂ (λ (g : Geometry) (j : ℕ). idle_with g (record { coordinator = j; last = k.state.clock.last }))
      (made_for s.n s.m s.size s.stripes k.state.geometry i.good.parts.made-for) i.number

pub crash_is_idle_with : CrashIsIdleWith
unfolding answer_of
crash_is_idle_with s e events c l =
    ap (λ (p : Step). (answer_of ((run s events).world.coordinators c).state p).next) (crash_goes_on s e events c l) ∙ crash_leaves s e events c l

-- what a crash that is not refused gives, of any record
pub accepted_crash_is_idle_with : AcceptedCrashIsIdleWith
unfolding crash_step answer_of crash_refusal
accepted_crash_is_idle_with n m size stripes k z e =
    let refusal = crash_refusal n m size stripes k.state in
    let went_on = accepted_went k.state refusal (crashed n k) e in
    let rest = passed_rest (stripe_count_refusal stripes) _ (passed_rest (code_refusal n m size) _ (passes refusal (went (crashed n k)) (crashed n k) went_on).0) in
    let sound = sound_parts n m size stripes k.state (record_passes n m size stripes k.state [] rest).0.is-sound in
    let same = made_for n m size stripes k.state.geometry sound.made-for in
    ap (λ (p : Step). (answer_of k.state p).next) went_on
    ∙ crashed_idle n k (λ i. idle_record n m size stripes k.state sound z i ∙ ap (λ (g : Geometry). idle_with g k.state.clock) (sym same))
    ∙ ap (λ (g : Geometry). idle_with g k.state.clock) same

-- Laws of `specs/Routines`: what passing the checks says, and the ways through each routine.
use Rattle.std.specs.Prelude.{Result, Ok, Err, IsErrAnd, is_err}
use mathlib.Core.Path.{◌≡◌, refl, sym, ap, subst, ◌∙◌}
use mathlib.Core.Bool.{Bool, true, false, cond, not, ◌&&◌, ◌||◌, true≢false}
use mathlib.Core.List.{List, [], ◌++◌}
use Prim.Native.Nat.{ℕ, zero, suc, ◌+◌, ◌*◌, ◌≤◌, ◌<◌}
use native.Mathlib.Nat.{mul-le-mul_right, suc-mul}
use native.Mathlib.Omega.{arith}
use lib.Dec.{eqb, leb, ltb}
use lib.ListN.{length}
use borrow.Author.Tests.{eq-eqb, ne_eqb, lt-leb, lt-ltb, le-ltb, eqb-true, leb-false, ltb-true}
use Rattle.coord_apply.specs.Acts.{buffered}
use Rattle.coord_apply.specs.Workers.{end_answer, DecisionReady, Acted}
use Rattle.coord_apply.proofs.Laws.ActLaws.{recover_either}
use Rattle.coord_apply.specs.Acts.{with_tally, counting, waiting_or, acted, ending, sending_first, next_round, modifying, round_message, first_op, starting}
use Rattle.coord_apply.specs.Answers.{Buffered, Went, Step, refused, went, after_checks, nothing_seen, no_message, cut_seen, sent_count, sent_message, sent_blocks, answer_of, blocks_after, letter_of}
use Rattle.coord_letters.specs.Letters.{letter_c}
use Rattle.coord_apply.specs.Answers.{stripe_after, coded_after, Returned, returned, returned_by}
use Rattle.coord_apply.specs.Answers.{Answer, answered, answer_in}
use Rattle.coord_apply.specs.declared.Answer as Code
use Rattle.coord_record.specs.Records.{idle_kind, reading_kind, writing_kind, reading_block_kind, writing_block_kind, on_block, no_bricks}
use Rattle.coord_record.specs.SoundParts.{SoundParts}
use Rattle.coord_record.proofs.Laws.SoundPartLaws.{sound_parts, round_high}
use Rattle.coord_record.specs.declared.Coordinator.{Coordinator}
use Rattle.coord_record.specs.declared.Op.{Op}
use Rattle.coord_record.specs.declared.Tally.{Tally}
use Rattle.coord_tally.specs.Counting.{target_flags}
use Rattle.coord_decide.specs.Deciding.{answers, tallied, decided}
use Rattle.coord_decide.specs.declared.Decision.{Decision}
use Rattle.coord_decide.specs.declared.Decision.TheVariants.{Abort, Give, Look, Store, Modify, Recover, Finish}
use Rattle.coord_refusals.proofs.Laws.RefusedLaws.{number_positive, none_left, record_passes, stripe_passes, block_passes, lengths_fit, start_stops, start_goes, start_late, start_busy, start_passes}
use Rattle.coord_refusals.specs.Checks.{stripe_checks, write_checks, read_checks, block_checks, write_block_checks, read_block_checks, start_checks, lengths_right, stray_checks, take_refusal}
use Rattle.coord_refusals.specs.Checks.{write_refusal, read_refusal, write_block_refusal, read_block_refusal, crash_refusal}
use Rattle.coordinator.specs.Routines.{drawn_then, write_step, read_step, write_block_step, read_block_step, take_step, crashed, crash_step}
use Rattle.coordinator.specs.Routines.{write_call, read_call, write_block_call, read_block_call, take_call, crash_call}
use Rattle.erasure.specs.Code.{with_block}
use Rattle.message.specs.Flags.{members}
use Rattle.message.specs.Kinds.{read_kind, order_kind, order_block_kind, write_kind, block_targets}
use Rattle.message.specs.Messages.{reply_refusal}
use Rattle.message.specs.declared.Reply.{Reply}
use Rattle.settings.specs.Ranges.{CodeRange, max_bricks, max_size}
use Rattle.settings.proofs.Laws.RangeLaws.{code_passed}
use Rattle.byte_lists.proofs.Laws.BoolLaws.{and_left, and_right}
use Rattle.settings.specs.Ranges.{code_refusal, stripe_count_refusal, quorum}
use Rattle.settings.specs.declared.Refusal.{Refusal}
use Rattle.settings.specs.declared.Refusal.TheVariants.{Busy}
use Rattle.settings.specs.Refusal.{passed, number_of_refusal, first_refusal, refuse_unless, bad_length, bad_number, busy, stray_reply}
use Rattle.settings.specs.Times.{time_of, next_count, advanced, draw_refusal, draw_of, number_of}
use Rattle.settings.specs.declared.Clock.{Clock}
use Rattle.settings.specs.Times.{Draw}
use Rattle.settings.specs.Times.{Drawn, Refused}
use Rattle.settings.proofs.Laws.TimeLaws.{draw_number}
use Rattle.settings.proofs.Laws.RefusalLaws.{passed_first, passed_rest, tested}
use Rattle.coordinator.specs.Workers.{kept_answer, start_answer, started, kept_blocks, KeepsReply}

pub checked_stop : (k bad : ℕ) (s : Step) → bad ≡ k → (bad ≡ 0 → ⊥) → after_checks k s ≡ refused bad
unfolding after_checks
checked_stop k bad s e h = rw (← e, lt-leb bad 0 (omega arith))

pub checked_pass : (k bad : ℕ) (s : Step) → bad ≡ k → bad ≡ 0 → after_checks k s ≡ s
unfolding after_checks
checked_pass k bad s e z = rw (← e, z)

-- what `?` passes on
pub passed_on : (x : Result Code.Answer Refusal) (r : Refusal) → IsErrAnd x (λ (f : Refusal). f ≡ r) → x ≡ Err r
passed_on (Ok a) r h = absurd h
passed_on (Err f) r h = ap (λ (g : Refusal). Err g) h

-- a refusal's number is not that of none
nonzero : (r : Refusal) → number_of_refusal r ≡ 0 → ⊥
nonzero r z = let p = number_positive r in omega arith

-- what a reply that is not refused satisfies
pub record Takes (n m size stripes : ℕ) (c : Coordinator) (r : Reply) (block blocks stripe coded : ℕ) : Type 0 where
  pub range : CodeRange n m size
  pub blocks-length : blocks ≡ n * size
  pub stripe-length : stripe ≡ m * size
  pub coded-length : coded ≡ n * size
  pub block-length : r.held ≡ true → block ≡ size
  pub brick-low : r.brick < n
  pub stripe-low : r.stripe < stripes
  pub parts : SoundParts n m size stripes c
  pub reply-right : reply_refusal n r ≡ 0
  pub in-round : answers n m c.op c.tally r ≡ true

held_length_lem : (held : Bool) (block size : ℕ) → not held || eqb block size ≡ true → held ≡ true → block ≡ size
held_length_lem true block size e h = eqb-true block size e
held_length_lem false block size e h = let z : ◌≡◌ {A = ℕ} 0 1 = cc in absurd (omega arith)

pub take_passed : (n m size stripes : ℕ) (c : Coordinator) (r : Reply) (block blocks stripe coded bad : ℕ) → bad ≡ take_refusal n m size stripes c r block blocks stripe coded
    → bad ≡ 0 → Takes n m size stripes c r block blocks stripe coded
unfolding take_refusal stray_checks lengths_right
take_passed n m size stripes c r block blocks stripe coded bad e z =
    let all = sym e ∙ z in
    let code = passed_first (code_refusal n m size) _ all in
    let l = passed_rest (stripe_count_refusal stripes) _ (passed_rest (code_refusal n m size) _ all) in
    let lengths = tested (lengths_right n m size r.held block blocks stripe coded) _ (passed_first (refuse_unless (lengths_right n m size r.held block blocks stripe coded) bad_length) _ l) in
    let b = passed_rest (refuse_unless (lengths_right n m size r.held block blocks stripe coded) bad_length) _ l in
    let brick = tested (ltb r.brick n) _ (passed_first (refuse_unless (ltb r.brick n) bad_number) _ b) in
    let k = stripe_passes n m size stripes c r.stripe _ (passed_rest (refuse_unless (ltb r.brick n) bad_number) _ b) in
    let s = record_passes n m size stripes c _ k.1 in
    let three = and_left (eqb blocks (n * size) && eqb stripe (m * size) && eqb coded (n * size)) (not r.held || eqb block size) lengths in
    let two = and_left (eqb blocks (n * size) && eqb stripe (m * size)) (eqb coded (n * size)) three in
    record {
      range = code_passed n m size code;
      blocks-length = eqb-true blocks (n * size) (and_left (eqb blocks (n * size)) (eqb stripe (m * size)) two);
      stripe-length = eqb-true stripe (m * size) (and_right (eqb blocks (n * size)) (eqb stripe (m * size)) two);
      coded-length = eqb-true coded (n * size) (and_right (eqb blocks (n * size) && eqb stripe (m * size)) (eqb coded (n * size)) three);
      block-length = held_length_lem r.held block size (and_right (eqb blocks (n * size) && eqb stripe (m * size) && eqb coded (n * size)) (not r.held || eqb block size) lengths);
      brick-low = ltb-true r.brick n brick;
      stripe-low = k.0;
      parts = sound_parts n m size stripes c s.0.is-sound;
      reply-right = passed_first (reply_refusal n r) _ s.1;
      in-round = tested (answers n m c.op c.tally r) _ (passed_first (refuse_unless (answers n m c.op c.tally r) stray_reply) [] (passed_rest (reply_refusal n r) _ s.1));
    }

-- a reply's block fits in its place
pub place_fits : (n m size stripes : ℕ) (c : Coordinator) (r : Reply) (block blocks stripe coded : ℕ) → Takes n m size stripes c r block blocks stripe coded
    → r.brick * size + size ≤ blocks
place_fits n m size stripes c r block blocks stripe coded t =
    let q = mul-le-mul_right size t.brick-low in let s = suc-mul r.brick size in omega (arith, t.blocks-length)

-- no decision touches the reply blocks
pub acted_blocks : (n m size : ℕ) (h : Buffered) (d : Decision) → (acted n m size h d).next.blocks ≡ h.blocks
unfolding acted ending sending_first next_round modifying
acted_blocks n m size h Abort = refl
acted_blocks n m size h Give = refl
acted_blocks n m size h (Look max) = refl
acted_blocks n m size h Store = refl
acted_blocks n m size h (Modify time) = refl
acted_blocks n m size h (Recover time) = recover_either n m size h time (λ (w : Went). w.next.blocks ≡ h.blocks) refl refl
acted_blocks n m size h Finish = refl

pub keeps : (n m size stripes : ℕ) (c : Coordinator) (r : Reply) (block blocks stripe coded bad : ℕ) → bad ≡ take_refusal n m size stripes c r block blocks stripe coded
    → bad ≡ 0 → KeepsReply size r block blocks
keeps n m size stripes c r block blocks stripe coded bad e z =
    let t = take_passed n m size stripes c r block blocks stripe coded bad e z in
    record { block-length = t.block-length; within = place_fits n m size stripes c r block blocks stripe coded t }

-- What a reply leads to: the answer and the three buffers.
module _ (n m size stripes : ℕ) (c : Coordinator) (r : Reply) (block blocks stripe coded : List ℕ) where
  abbrev step_here : Step
  step_here = take_step n m size stripes (buffered c blocks stripe) r block (length coded)

  abbrev pub Took : Answer → List ℕ → List ℕ → List ℕ → Type 0
  Took a blocks' stripe' coded' = returned a blocks' stripe' coded' ≡ take_call n m size stripes c blocks stripe coded r block

  pub took_refused : (e : Refusal) → number_of_refusal e ≡ take_refusal n m size stripes c r (length block) (length blocks) (length stripe) (length coded)
      → Took (answer_in c (Err e)) blocks stripe coded
  unfolding take_step buffered returned_by blocks_after stripe_after coded_after answer_of
  took_refused e q =
      let s : step_here ≡ refused (number_of_refusal e) = checked_stop _ _ _ q (nonzero e) in
      ap (returned_by (buffered c blocks stripe) coded) (sym s)

  took_went : (w : Went) (a : Answer) (blocks' stripe' coded' : List ℕ) → step_here ≡ went w → a ≡ answer_of c (went w) → blocks' ≡ w.next.blocks
      → stripe' ≡ w.next.stripe → coded' ≡ sent_blocks w.sent coded → Took a blocks' stripe' coded'
  unfolding buffered returned_by blocks_after stripe_after coded_after
  took_went w a blocks' stripe' coded' s ea eb es ec =
      ap (λ (x : Answer). returned x blocks' stripe' coded') ea
      ∙ ap (λ (x : List ℕ). returned (answer_of c (went w)) x stripe' coded') eb
      ∙ ap (λ (x : List ℕ). returned (answer_of c (went w)) w.next.blocks x coded') es
      ∙ ap (returned (answer_of c (went w)) w.next.blocks w.next.stripe) ec
      ∙ ap (returned_by (buffered c blocks stripe) coded) (sym s)

  -- the reply counted: t is the tally, d the record and blocks' the blocks with it
  module _ (bad : ℕ) (e : bad ≡ take_refusal n m size stripes c r (length block) (length blocks) (length stripe) (length coded)) (z : bad ≡ 0)
      (t : Tally) (et : t ≡ tallied c.tally r) (d : Coordinator) (ed : d ≡ with_tally c t) (blocks' : List ℕ) (eb : blocks' ≡ kept_blocks size r block blocks) where
    counted_is : counting size (buffered c blocks stripe) r block ≡ buffered d blocks' stripe
    unfolding counting buffered kept_blocks
    counted_is =
        sym (ap (λ (b : List ℕ). buffered d b stripe) eb ∙ ap (λ (x : Coordinator). buffered x (kept_blocks size r block blocks) stripe) (ed ∙ ap (with_tally c) et))

    step_is : step_here ≡ went (waiting_or n m size (buffered d blocks' stripe))
    unfolding take_step buffered
    step_is = checked_pass _ bad _ e z ∙ ap (λ (h : Buffered). went (waiting_or n m size h)) counted_is

    pub ready_here : length blocks' ≡ length blocks → DecisionReady n m size d (length blocks') (length stripe)
    unfolding with_tally
    ready_here l =
        let p = take_passed n m size stripes c r (length block) (length blocks) (length stripe) (length coded) bad e z in
        let same : d.op ≡ c.op = ap (λ (x : Coordinator). x.op) ed in
        let f = ap (λ (o : Op). o.first) same in
        let g = ap (λ (o : Op). o.round) same in
        record {
          first-low = omega (arith, f, p.parts.first-low);
          block-low = subst (λ (o : Op). on_block o.kind ≡ true → o.first < m) (sym same) p.parts.block-low;
          round-low = omega (arith, g, round_high c.op p.parts.op-right);
          blocks-length = l ∙ p.blocks-length;
          stripe-length = p.stripe-length;
        }

    pub decided_here : (x : Decision) → x ≡ decided n m c.op t → x ≡ decided n m d.op d.tally
    unfolding with_tally
    decided_here x q = q ∙ ap (λ (y : Coordinator). decided n m y.op y.tally) (sym ed)

    module _ (k q : ℕ) (ek : k ≡ members t.counted n) (eq : q ≡ quorum n m) where
      count_here : k ≡ members d.tally.counted n
      unfolding with_tally
      count_here = ek ∙ ap (λ (y : Coordinator). members y.tally.counted n) (sym ed)

      pub took_waiting : (a : Answer) → k < q → a ≡ kept_answer d → Took a blocks' stripe coded
      unfolding waiting_or buffered kept_answer answer_of sent_count sent_message sent_blocks
      took_waiting a l ea =
          took_went (record { next = buffered d blocks' stripe; sent = []; seen = nothing_seen }) a blocks' stripe coded
          (step_is ∙ ap went (rw (← count_here, ← eq, lt-ltb k q l))) ea refl refl refl

      pub took_acted : (a : Answer) (x : Decision) (stripe' coded' : List ℕ) → q ≤ k → x ≡ decided n m c.op t
          → Acted n m size (buffered d blocks' stripe) x coded a stripe' coded' → Took a blocks' stripe' coded'
      unfolding waiting_or buffered answer_of
      took_acted a x stripe' coded' l ex ac =
          took_went (acted n m size (buffered d blocks' stripe) x) a blocks' stripe' coded'
          (step_is ∙ ap went (rw (← count_here, ← eq, le-ltb k q l) (ap (acted n m size (buffered d blocks' stripe)) (sym (decided_here x ex)))))
          ac.answer (sym (acted_blocks n m size (buffered d blocks' stripe) x)) ac.stripe-left ac.coded-left

-- the same at numbers that are these
module _ (n m size n' m' size' : ℕ) (en : n ≡ n') (em : m ≡ m') (es : size ≡ size') (stripes : ℕ) (c : Coordinator) (r : Reply) where
  pub took_at : (block blocks stripe coded : List ℕ) (a : Answer) (blocks' stripe' coded' : List ℕ) → Took n m size stripes c r block blocks stripe coded a blocks' stripe' coded'
      → Took n' m' size' stripes c r block blocks stripe coded a blocks' stripe' coded'
  took_at block blocks stripe coded a blocks' stripe' coded' t = rw (← en, ← em, ← es) t

  pub refusal_at : (block blocks stripe coded : ℕ) → 0 ≡ take_refusal n' m' size' stripes c r block blocks stripe coded
      → 0 ≡ take_refusal n m size stripes c r block blocks stripe coded
  refusal_at block blocks stripe coded t = rw (en, em, es) t

crashed_idle : (n : ℕ) (h : Buffered) → h.state.op.kind ≡ idle_kind → crashed n h ≡ record { next = h; sent = []; seen = nothing_seen }
unfolding crashed
crashed_idle n h k = rw (eq-eqb h.state.op.kind idle_kind k)

crashed_runs : (n : ℕ) (h : Buffered) → (h.state.op.kind ≡ idle_kind → ⊥) → crashed n h ≡ ending n h h.stripe [] cut_seen no_bricks
unfolding crashed
crashed_runs n h k = rw (ne_eqb h.state.op.kind idle_kind k)

drawn_given : (d : Draw) (f : ℕ → Clock → Went) (time : ℕ) (next : Clock) → d ≡ Drawn time next → drawn_then d f ≡ went (f time next)
unfolding drawn_then
drawn_given d f time next e = rw e

-- a crash
module _ (n m size stripes : ℕ) (c : Coordinator) (blocks stripe coded : List ℕ) where
  pub crash_refused : (r : Refusal) → number_of_refusal r ≡ crash_refusal n m size stripes c
      → returned (answer_in c (Err r)) blocks stripe coded ≡ crash_call n m size stripes c blocks stripe coded
  unfolding crash_step buffered returned_by blocks_after stripe_after coded_after answer_of
  crash_refused r e = ap (returned_by (buffered c blocks stripe) coded) (sym (checked_stop _ _ _ e (nonzero r)))

  pub crash_idle : (a : Answer) → 0 ≡ crash_refusal n m size stripes c → c.op.kind ≡ idle_kind → a ≡ kept_answer c
      → returned a blocks stripe coded ≡ crash_call n m size stripes c blocks stripe coded
  unfolding crash_step buffered kept_answer answer_of sent_count sent_message sent_blocks returned_by blocks_after stripe_after coded_after
  crash_idle a e k q =
      ap (λ (x : Answer). returned x blocks stripe coded) q
      ∙ ap (returned_by (buffered c blocks stripe) coded) (sym (checked_pass _ 0 _ e refl ∙ ap went (crashed_idle n (buffered c blocks stripe) k)))

  pub crash_cut : (a : Answer) → 0 ≡ crash_refusal n m size stripes c → (c.op.kind ≡ idle_kind → ⊥) → a ≡ end_answer c cut_seen letter_c no_bricks 0 no_message
      → returned a blocks stripe coded ≡ crash_call n m size stripes c blocks stripe coded
  unfolding crash_step ending letter_of buffered end_answer answer_of sent_count sent_message sent_blocks returned_by blocks_after stripe_after coded_after
  crash_cut a e k q =
      ap (λ (x : Answer). returned x blocks stripe coded) q
      ∙ ap (returned_by (buffered c blocks stripe) coded) (sym (checked_pass _ 0 _ e refl ∙ ap went (crashed_runs n (buffered c blocks stripe) k)))

-- what a draw's answer says of its refusal
drawn_number : (c : Clock) (reading time : ℕ) (next : Clock) → draw_of c reading ≡ Drawn time next → draw_refusal c reading ≡ 0
unfolding number_of
drawn_number c reading time next e = sym (draw_number c reading) ∙ ap number_of e

refused_nonzero : (c : Clock) (reading number : ℕ) → draw_of c reading ≡ Refused number → number ≡ 0 → ⊥
unfolding draw_of
refused_nonzero c reading number e z = go (leb (draw_refusal c reading) passed) refl e
  where
    go : (b : Bool) → leb (draw_refusal c reading) passed ≡ b
        → cond b (Drawn (time_of (next_count c.last reading) c.coordinator) (advanced c reading)) (Refused (draw_refusal c reading)) ≡ Refused number → ⊥
    go true l q = let y : ◌≡◌ {A = ℕ} 0 1 = cc in absurd (omega arith)
    go false l q = let y : draw_refusal c reading ≡ number = cc in let h = leb-false (draw_refusal c reading) passed l in absurd (omega arith)

-- the answer of a start whose own checks pass, by what the draw gave
module _ (c : Coordinator) (reading kind phase number first : ℕ) (targets : List ℕ) where
  pub started_late : (r : Refusal) → Refused (number_of_refusal r) ≡ draw_of c.clock reading → answer_in c (Err r) ≡ started c reading kind phase number first targets
  unfolding started answer_of number_of
  started_late r e =
      let z : number_of_refusal r ≡ draw_refusal c.clock reading = ap number_of e ∙ draw_number c.clock reading in
      ap (answer_of c) (sym (checked_stop _ _ _ (start_late [] c reading 0 none_left _ refl z (nonzero r)) (nonzero r)))

  pub started_busy : (time : ℕ) (next : Clock) → Drawn time next ≡ draw_of c.clock reading → (c.op.kind ≡ idle_kind → ⊥)
      → answer_in c (Err Busy) ≡ started c reading kind phase number first targets
  unfolding started answer_of
  started_busy time next e h =
      ap (answer_of c) (sym (checked_stop _ busy _ (start_busy [] c reading 0 none_left refl (drawn_number c.clock reading time next (sym e)) h) (λ y. absurd (omega arith))))

  pub started_begun : (time : ℕ) (next : Clock) → Drawn time next ≡ draw_of c.clock reading → c.op.kind ≡ idle_kind
      → start_answer c.geometry next (first_op kind phase number time first) targets ≡ started c reading kind phase number first targets
  unfolding started starting buffered start_answer answer_of sent_count sent_message round_message first_op
  started_begun time next e h =
      ap (answer_of c)
      (sym (checked_pass _ 0 _ (start_passes [] c reading 0 none_left refl (drawn_number c.clock reading time next (sym e)) h) refl
      ∙ drawn_given (draw_of c.clock reading) _ time next (sym e)))

-- any start: l are its checks before its draw; its first round is of this kind and phase, on a stripe from a brick on, with this stripe kept
module _ (l : List ℕ) (c : Coordinator) (reading kind phase number first : ℕ) (blocks stripe coded kept targets : List ℕ) where
  -- what is begun at a time
  abbrev begun : ℕ → Clock → Went
  begun time clock = starting (buffered c blocks stripe) clock (first_op kind phase number time first) kept targets

  abbrev start_call : Returned
  start_call =
      returned_by (buffered c blocks stripe) coded (after_checks (first_refusal (l ++ start_checks c reading)) (drawn_then (draw_of c.clock reading) begun))

  -- a first round that is no Write round sends no blocks
  none_coded : eqb phase write_kind ≡ false → coded ≡ cond (eqb phase write_kind) [] coded
  none_coded p = rw p

  pub start_refused : (r : Refusal) → number_of_refusal r ≡ first_refusal l → returned (answer_in c (Err r)) blocks stripe coded ≡ start_call
  unfolding buffered returned_by blocks_after stripe_after coded_after answer_of
  start_refused r e = ap (returned_by (buffered c blocks stripe) coded) (sym (checked_stop _ _ _ (start_stops l c reading _ e (nonzero r)) (nonzero r)))

  module _ (e : 0 ≡ first_refusal l) where
    passes_here : start_call ≡ returned_by (buffered c blocks stripe) coded (after_checks (first_refusal (start_checks c reading)) (drawn_then (draw_of c.clock reading) begun))
    passes_here =
        ap (λ (k : ℕ). returned_by (buffered c blocks stripe) coded (after_checks k (drawn_then (draw_of c.clock reading) begun))) (start_goes l c reading 0 e refl)

    stopped_step : (r : Refusal) (k : ℕ) (d : Draw) → answer_in c (Err r)
        ≡ answer_of c (after_checks k (drawn_then d (λ (time : ℕ) (clock : Clock). starting (buffered c [] []) clock (first_op kind phase number time first) [] targets)))
        → returned (answer_in c (Err r)) blocks stripe coded ≡ returned_by (buffered c blocks stripe) coded (after_checks k (drawn_then d begun))
    unfolding after_checks drawn_then buffered returned_by blocks_after stripe_after coded_after answer_of
    stopped_step r zero (Drawn time next) h = absurd (nonzero r (ap (λ (a : Answer). a.refusal) h))
    stopped_step r zero (Refused late) h = ap (λ (a : Answer). returned a blocks stripe coded) h
    stopped_step r (suc k) d h =
        ap (λ (a : Answer). returned a blocks stripe coded) (h ∙ ap (answer_of c) (checked_stop (suc k) (suc k) _ refl (λ z. absurd (omega arith))))
        ∙ ap (returned_by (buffered c blocks stripe) coded) (sym (checked_stop (suc k) (suc k) (drawn_then d begun) refl (λ z. absurd (omega arith))))

    pub start_stopped : (r : Refusal) → answer_in c (Err r) ≡ started c reading kind phase number first targets
        → returned (answer_in c (Err r)) blocks stripe coded ≡ start_call
    unfolding started
    start_stopped r q = stopped_step r (first_refusal (start_checks c reading)) (draw_of c.clock reading) q ∙ sym passes_here

    begun_step : (a : Code.Answer) (k : ℕ) (d : Draw) → ((late : ℕ) → d ≡ Refused late → late ≡ 0 → ⊥) → eqb phase write_kind ≡ false
        → answered a ≡ answer_of c (after_checks k (drawn_then d (λ (time : ℕ) (clock : Clock). starting (buffered c [] []) clock (first_op kind phase number time first) [] targets)))
        → returned (answered a) blocks kept coded ≡ returned_by (buffered c blocks stripe) coded (after_checks k (drawn_then d begun))
    unfolding after_checks drawn_then starting buffered returned_by blocks_after stripe_after coded_after answer_of sent_count sent_message sent_blocks round_message first_op
    begun_step a zero (Drawn time next) n p h =
        ap (λ (x : Answer). returned x blocks kept coded) h
        ∙ ap (returned (answer_of c (went (begun time next))) blocks kept) (none_coded p)
    begun_step a zero (Refused late) n p h = absurd (n late refl (sym (ap (λ (x : Answer). x.refusal) h)))
    begun_step a (suc k) d n p h =
        let z : 0 ≡ suc k = ap (λ (x : Answer). x.refusal) (h ∙ ap (answer_of c) (checked_stop (suc k) (suc k) _ refl (λ y. absurd (omega arith)))) in absurd (omega arith)

    pub start_begun : (a : Code.Answer) (stripe' : List ℕ) → answered a ≡ started c reading kind phase number first targets → stripe' ≡ kept
        → eqb phase write_kind ≡ false → returned (answered a) blocks stripe' coded ≡ start_call
    unfolding started
    start_begun a stripe' q es p =
        ap (λ (x : List ℕ). returned (answered a) blocks x coded) es
        ∙ begun_step a (first_refusal (start_checks c reading)) (draw_of c.clock reading) (refused_nonzero c.clock reading) p q
        ∙ sym passes_here

    -- where nothing is written, whatever was answered
    pub start_answered : (x : Result Code.Answer Refusal) → answer_in c x ≡ started c reading kind phase number first targets → stripe ≡ kept
        → eqb phase write_kind ≡ false → returned (answer_in c x) blocks stripe coded ≡ start_call
    start_answered (Ok a) q es p = start_begun a stripe q es p
    start_answered (Err r) q es p = start_stopped r q

    -- where the stripe is written only after a start that was not refused
    pub start_denied : (x : Result Code.Answer Refusal) → is_err x ≡ true → answer_in c x ≡ started c reading kind phase number first targets
        → returned (answer_in c x) blocks stripe coded ≡ start_call
    start_denied (Ok a) e q = absurd (true≢false (sym e))
    start_denied (Err r) e q = start_stopped r q

    pub start_written : (x : Result Code.Answer Refusal) (stripe' : List ℕ) → is_err x ≡ false → answer_in c x ≡ started c reading kind phase number first targets
        → stripe' ≡ kept → eqb phase write_kind ≡ false → returned (answer_in c x) blocks stripe' coded ≡ start_call
    start_written (Ok a) stripe' e q es p = start_begun a stripe' q es p
    start_written (Err r) stripe' e q es p = absurd (true≢false e)

-- each of the four is such a start
module _ (n m size stripes : ℕ) (c : Coordinator) (number reading : ℕ) (blocks stripe coded : List ℕ) (x : Returned) where
  pub write_call_lem : (bytes : List ℕ)
      → x ≡ start_call (write_checks n m size stripes c number (length bytes) (length stripe) []) c reading writing_kind order_kind number 0 blocks stripe coded bytes no_bricks
      → x ≡ write_call n m size stripes c blocks stripe coded number reading bytes
  unfolding write_step write_refusal write_checks stripe_checks buffered
  write_call_lem bytes q = q

  pub read_call_lem : (first : ℕ)
      → x ≡ start_call (read_checks n m size stripes c number first []) c reading reading_kind read_kind number first blocks stripe coded stripe (target_flags n m first)
      → x ≡ read_call n m size stripes c blocks stripe coded number reading first
  unfolding read_step read_refusal read_checks stripe_checks buffered
  read_call_lem first q = q

  pub write_block_call_lem : (block : ℕ) (bytes : List ℕ)
      → x ≡ start_call (write_block_checks n m size stripes c number block (length bytes) (length stripe) []) c reading writing_block_kind order_block_kind number block
      blocks stripe coded (with_block size stripe block bytes) no_bricks
      → x ≡ write_block_call n m size stripes c blocks stripe coded number reading block bytes
  unfolding write_block_step write_block_refusal write_block_checks block_checks buffered
  write_block_call_lem block bytes q = q

  pub read_block_call_lem : (block : ℕ)
      → x ≡ start_call (read_block_checks n m size stripes c number block []) c reading reading_block_kind read_kind number block blocks stripe coded stripe
      (target_flags n block_targets block)
      → x ≡ read_block_call n m size stripes c blocks stripe coded number reading block
  unfolding read_block_step read_block_refusal read_block_checks block_checks buffered
  read_block_call_lem block q = q

-- what the bytes and the first brick of a start that passes satisfy, whatever is asked after them
pub lengths_same : (n m size stripes : ℕ) (c : Coordinator) (number bytes stripe bad : ℕ) (more : List ℕ)
    → bad ≡ first_refusal (write_checks n m size stripes c number bytes stripe more) → bad ≡ 0 → bytes ≡ stripe
unfolding write_checks
lengths_same n m size stripes c number bytes stripe bad more e z =
    let l = passed_rest (stripe_count_refusal stripes) _ (passed_rest (code_refusal n m size) _ (sym e ∙ z)) in
    let t = tested (eqb bytes (m * size) && eqb stripe (m * size)) _ (passed_first (refuse_unless (eqb bytes (m * size) && eqb stripe (m * size)) bad_length) _ l) in
    eqb-true bytes (m * size) (and_left (eqb bytes (m * size)) (eqb stripe (m * size)) t)
    ∙ sym (eqb-true stripe (m * size) (and_right (eqb bytes (m * size)) (eqb stripe (m * size)) t))

pub first_below : (n m size stripes : ℕ) (c : Coordinator) (number first bad : ℕ) (more : List ℕ) → bad ≡ first_refusal (read_checks n m size stripes c number first more) → bad ≡ 0 → first < n
unfolding read_checks
first_below n m size stripes c number first bad more e z =
    let l = passed_rest (stripe_count_refusal stripes) _ (passed_rest (code_refusal n m size) _ (sym e ∙ z)) in
    ltb-true first n (tested (ltb first n) _ (passed_first (refuse_unless (ltb first n) bad_number) _ l))

-- what a start that is not refused satisfies
pub write_lengths : (n m size stripes : ℕ) (c : Coordinator) (number reading bytes stripe bad : ℕ) → bad ≡ write_refusal n m size stripes c number reading bytes stripe → bad ≡ 0 → bytes ≡ stripe
unfolding write_refusal
write_lengths n m size stripes c number reading bytes stripe bad e z = lengths_same n m size stripes c number bytes stripe bad (start_checks c reading) e z

pub first_low : (n m size stripes : ℕ) (c : Coordinator) (number reading first bad : ℕ) → bad ≡ read_refusal n m size stripes c number reading first → bad ≡ 0 → first < n
unfolding read_refusal
first_low n m size stripes c number reading first bad e z = first_below n m size stripes c number first bad (start_checks c reading) e z

-- an operation on one block that is not refused: its block is below m, and a write's bytes are one block and its stripe m
pub record ReadsBlock (n m size stripes : ℕ) (c : Coordinator) (number block : ℕ) (more : List ℕ) : Type 0 where
  pub range : CodeRange n m size
  pub block-low : block < m
  pub checked : first_refusal (stripe_checks n m size stripes c number more) ≡ 0

pub read_block_passed : (n m size stripes : ℕ) (c : Coordinator) (number block bad : ℕ) (more : List ℕ) → bad ≡ first_refusal (read_block_checks n m size stripes c number block more)
    → bad ≡ 0 → ReadsBlock n m size stripes c number block more
unfolding read_block_checks
read_block_passed n m size stripes c number block bad more e z =
    let all = sym e ∙ z in
    let k = block_passes n m size stripes c number block more (passed_rest (stripe_count_refusal stripes) _ (passed_rest (code_refusal n m size) _ all)) in
    record { range = code_passed n m size (passed_first (code_refusal n m size) _ all); block-low = k.0; checked = k.1 }

pub record WritesBlock (n m size stripes : ℕ) (c : Coordinator) (number block bytes stripe : ℕ) (more : List ℕ) : Type 0 where
  pub range : CodeRange n m size
  pub bytes-length : bytes ≡ size
  pub stripe-length : stripe ≡ m * size
  pub block-low : block < m
  pub checked : first_refusal (stripe_checks n m size stripes c number more) ≡ 0

pub write_block_passed : (n m size stripes : ℕ) (c : Coordinator) (number block bytes stripe bad : ℕ) (more : List ℕ)
    → bad ≡ first_refusal (write_block_checks n m size stripes c number block bytes stripe more) → bad ≡ 0 → WritesBlock n m size stripes c number block bytes stripe more
unfolding write_block_checks
write_block_passed n m size stripes c number block bytes stripe bad more e z =
    let all = sym e ∙ z in
    let l = passed_rest (stripe_count_refusal stripes) _ (passed_rest (code_refusal n m size) _ all) in
    let t = tested (eqb bytes size && eqb stripe (m * size)) _ (passed_first (refuse_unless (eqb bytes size && eqb stripe (m * size)) bad_length) _ l) in
    let k = block_passes n m size stripes c number block more (passed_rest (refuse_unless (eqb bytes size && eqb stripe (m * size)) bad_length) _ l) in
    record {
      range = code_passed n m size (passed_first (code_refusal n m size) _ all);
      bytes-length = eqb-true bytes size (and_left (eqb bytes size) (eqb stripe (m * size)) t);
      stripe-length = eqb-true stripe (m * size) (and_right (eqb bytes size) (eqb stripe (m * size)) t);
      block-low = k.0;
      checked = k.1;
    }

-- the block is within the stripe, and that is not long
pub block_fits : (n m size stripes : ℕ) (c : Coordinator) (number block bytes stripe bad : ℕ) → bad ≡ first_refusal (write_block_checks n m size stripes c number block bytes stripe [])
    → bad ≡ 0 → (block * size + bytes ≤ stripe) × (stripe ≤ max_bricks * max_size)
block_fits n m size stripes c number block bytes stripe bad e z =
    let p = write_block_passed n m size stripes c number block bytes stripe bad [] e z in
    let q = mul-le-mul_right size p.block-low in let s = suc-mul block size in
    (omega (arith, p.bytes-length, p.stripe-length), omega (arith, p.stripe-length, lengths_fit n m size p.range))

-- and its brick is below n
pub block_brick : (n m size stripes : ℕ) (c : Coordinator) (number block bad : ℕ) → bad ≡ first_refusal (read_block_checks n m size stripes c number block []) → bad ≡ 0 → block < n
block_brick n m size stripes c number block bad e z =
    let p = read_block_passed n m size stripes c number block bad [] e z in omega (arith, p.block-low, p.range.m-high)

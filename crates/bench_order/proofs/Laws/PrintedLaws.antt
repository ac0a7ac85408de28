-- What is printed is what is seen.
use mathlib.Core.Path.{◌≡◌, refl, sym, ap, subst, ◌∙◌}
use mathlib.Core.Logic.{◌⊎◌, inl, inr}
use mathlib.Core.Bool.{Bool, true, false, cond, ◌||◌}
use mathlib.Core.List.{List, [], ◌∷◌, append-nil}
use Prim.Native.Nat.{ℕ, zero, suc, ◌≤◌, ◌<◌}
use native.Mathlib.Omega.{arith}
use lib.Dec.{eqb, ltb}
use borrow.Author.Tests.{eqb-true, eqb-false, eq-eqb, ne_eqb, le-ltb, lt-leb}
use Rattle.settings.specs.declared.Settings.{Settings}
use Rattle.coord_record.specs.Records.{reading_kind, no_bricks, idle_kind, writing_kind, reading_block_kind, writing_block_kind, is_reading, on_block}
use Rattle.coord_record.specs.Sound.{op_right}
use Rattle.coord_record.proofs.Laws.SoundPartLaws.{sound_parts}
use Rattle.coord_record.specs.SoundParts.{SoundParts}
use Rattle.coord_record.specs.declared.Op.{Op}
use Rattle.coord_decide.specs.Deciding.{decided}
use Rattle.coord_decide.specs.Decisions.{DecisionSays}
use Rattle.coord_decide.proofs.Laws.SaysLaws.{decided_says}
use Rattle.coord_decide.specs.declared.Decision.{Decision}
use Rattle.coord_decide.specs.declared.Decision.TheVariants.{Abort, Give, Look, Store, Modify, Recover, Finish}
use Rattle.coord_apply.proofs.Laws.ActLaws.{recover_either}
use Rattle.coord_apply.specs.Acts.{acted, ending, sending_first, next_round, modifying, notice_of, finished_seen, waiting_or, counting, with_tally}
use Rattle.coord_apply.specs.Answers.{Buffered, Went, went, nothing_seen, began_seen, ok_seen, read_seen, cut_seen, none_seen, aborted_seen}
use Rattle.coord_apply.specs.declared.Notice.{Notice}
use Rattle.coord_refusals.specs.Checks.{crash_refusal}
use Rattle.coordinator.specs.Routines.{take_step, crashed, crash_step, write_step, read_step}
use Rattle.coord_laws.specs.OpCases.{can_recover}
use Rattle.coord_laws.proofs.Laws.OpCaseLaws.{clash, in_read, Fit, reading, looking, restoring, ordering, storing, block_ordering, modifying as modify-sent, fit, reading_recovers}
use Rattle.coord_laws.proofs.Laws.StepRunLaws.{took, write_begins, read_begins}
use Rattle.coord_laws.proofs.Laws.StripeLaws.{write_starts, read_starts}
use Rattle.coord_laws.proofs.Laws.SoundnessLaws.{passes, same_went}
use Rattle.message.specs.Flags.{members}
use Rattle.message.specs.declared.Reply.{Reply}
use Rattle.settings.specs.Ranges.{code_refusal, stripe_count_refusal, quorum}
use Rattle.settings.proofs.Laws.RefusalLaws.{passed_rest}
use Rattle.coord_refusals.proofs.Laws.RefusedLaws.{record_passes}
use Rattle.order.specs.Claim.{Ending, Seen, began, ended}
use Rattle.register.specs.Runs.{plain, read_given, seen_of}
use Rattle.bench_print.specs.Printing.{kind_word, end_word, line_text, is_end, ended_text}
use Rattle.bench_limits.specs.Limits.{bench_stripes, bench_stripe}
use Rattle.bench_order.proofs.Laws.Parts.{Ran}
use Rattle.bench_order.specs.Told.{end_line, told_end}
use Rattle.bench_order.proofs.Laws.ToldLaws.{told}
use Rattle.bench_order.proofs.Laws.WholeStripeLaws.{Whole}

-- ok is the end of a write, and the stripe is the end of a read; what ends is the operation that ran; and it is seen on the bench's stripe
pub record Agrees (op : Op) (e : Notice) : Type 0 where
  pub ok-writes : e.what ≡ ok_seen → eqb e.kind reading_kind ≡ false
  pub bytes_read : e.what ≡ read_seen → eqb e.kind reading_kind ≡ true
  pub ends-own : (e.what ≡ none_seen → ⊥) → (e.what ≡ began_seen → ⊥) → Ran op e.kind e.time
  pub on-stripe : e.stripe ≡ bench_stripe

-- a read of the stripe is none of one block
read_whole : (kind : ℕ) → eqb kind reading_kind ≡ true → on_block kind ≡ false
unfolding on_block
read_whole kind e = rw (eqb-true kind reading_kind e) refl

told_by_what : (s : Settings) (op : Op) (c what kind stripe time block letter : ℕ) (bricks : List ℕ) (h : Buffered)
    → Agrees op (record { what = what; kind = kind; stripe = stripe; time = time; block = block; bricks = bricks; letter = letter })
    → told s c kind letter (seen_of s (record { what = what; kind = kind; stripe = stripe; time = time; block = block; bricks = bricks; letter = letter }) h)
    ≡ ended_text c (record { what = what; kind = kind; stripe = stripe; time = time; block = block; bricks = bricks; letter = letter }) h.stripe
unfolding told told_end end_line seen_of read_given ended_text is_end line_text kind_word end_word
told_by_what s op c zero kind stripe time block letter bricks h a = refl
told_by_what s op c (suc zero) kind stripe time block letter bricks h a = refl
told_by_what s op c (suc (suc zero)) kind stripe time block letter bricks h a = rw (a.ok-writes refl) (append-nil _)
told_by_what s op c (suc (suc (suc zero))) kind stripe time block letter bricks h a = rw (read_whole kind (a.bytes_read refl), a.bytes_read refl) (append-nil _)
told_by_what s op c (suc (suc (suc (suc zero)))) kind stripe time block letter bricks h a = append-nil _
told_by_what s op c (suc (suc (suc (suc (suc zero))))) kind stripe time block letter bricks h a = append-nil _
told_by_what s op c (suc (suc (suc (suc (suc (suc k)))))) kind stripe time block letter bricks h a =
    rw (
      ne_eqb (suc (suc (suc (suc (suc (suc k)))))) began_seen (λ q. omega (arith, q)),
      ne_eqb (suc (suc (suc (suc (suc (suc k)))))) ok_seen (λ q. omega (arith, q)),
      ne_eqb (suc (suc (suc (suc (suc (suc k)))))) read_seen (λ q. omega (arith, q)),
      ne_eqb (suc (suc (suc (suc (suc (suc k)))))) aborted_seen (λ q. omega (arith, q)),
      ne_eqb (suc (suc (suc (suc (suc (suc k)))))) cut_seen (λ q. omega (arith, q)),
      le-ltb (suc (suc (suc (suc (suc (suc k)))))) ok_seen (omega arith),
      lt-leb (suc (suc (suc (suc (suc (suc k)))))) cut_seen (omega arith),
    )
    refl

-- what is printed at an event of coordinator c is the line of what is seen there
pub printed_is_seen : (s : Settings) (op : Op) (c : ℕ) (e : Notice) (h : Buffered) → Agrees op e
    → told s c e.kind e.letter (seen_of s e h) ≡ ended_text c e h.stripe
printed_is_seen s op c e h a = told_by_what s op c e.what e.kind e.stripe e.time e.block e.letter e.bricks h a

-- what ended is what was shown to end, at its time
unfoldable end_time : (s : Settings) → List (Seen (plain s)) → ℕ
end_time s [] = 0
end_time s (began time action ∷ l) = 0
end_time s (ended time how ∷ l) = suc time

-- nothing and a beginning are no end
shown_end : (s : Settings) (what time : ℕ) (p q r x y : Seen (plain s)) → end_time s (p ∷ []) ≡ 0 → end_time s (q ∷ []) ≡ suc time → end_time s (r ∷ []) ≡ suc time
    → end_time s (x ∷ []) ≡ suc time → end_time s (y ∷ []) ≡ suc time → (t : ℕ)
    → end_time s
    (cond (eqb what began_seen) (p ∷ [])
    (cond (eqb what ok_seen) (q ∷ []) (cond (eqb what read_seen) (r ∷ []) (cond (eqb what aborted_seen) (x ∷ []) (cond (eqb what cut_seen) (y ∷ []) [])))))
    ≡ suc t
    → (what ≡ none_seen → ⊥) × (what ≡ began_seen → ⊥) × (time ≡ t)
unfolding end_time
shown_end s what time p q r x y ep eq er ex ey t e =
    go (eqb what began_seen) (eqb what ok_seen) (eqb what read_seen) (eqb what aborted_seen) (eqb what cut_seen) refl refl refl refl refl e
  where
    at : (k : ℕ) → what ≡ suc (suc k) → suc time ≡ suc t → (what ≡ none_seen → ⊥) × (what ≡ began_seen → ⊥) × (time ≡ t)
    at k w h = ((λ z. omega (arith, w, z)), (λ z. omega (arith, w, z)), omega (arith, h))

    go : (a b c d f : Bool) → eqb what began_seen ≡ a → eqb what ok_seen ≡ b → eqb what read_seen ≡ c → eqb what aborted_seen ≡ d → eqb what cut_seen ≡ f
        → end_time s (cond a (p ∷ []) (cond b (q ∷ []) (cond c (r ∷ []) (cond d (x ∷ []) (cond f (y ∷ []) []))))) ≡ suc t
        → (what ≡ none_seen → ⊥) × (what ≡ began_seen → ⊥) × (time ≡ t)
    go true b c d f ea eb ec ed ef h = absurd (omega (arith, ep, h))
    go false true c d f ea eb ec ed ef h = at 0 (eqb-true what ok_seen eb) (sym eq ∙ h)
    go false false true d f ea eb ec ed ef h = at 1 (eqb-true what read_seen ec) (sym er ∙ h)
    go false false false true f ea eb ec ed ef h = at 2 (eqb-true what aborted_seen ed) (sym ex ∙ h)
    go false false false false true ea eb ec ed ef h = at 3 (eqb-true what cut_seen ef) (sym ey ∙ h)
    go false false false false false ea eb ec ed ef h = absurd (omega (arith, h))

pub end_ran : (s : Settings) (op : Op) (e : Notice) (h : Buffered) (time : ℕ) (how : Ending (plain s)) → Agrees op e
    → seen_of s e h ≡ ended time how ∷ [] → Ran op e.kind time
unfolding seen_of end_time
end_ran s op e h time how a q =
    let w = shown_end s e.what e.time _ _ _ _ _ refl refl refl refl refl time (ap (end_time s) q) in
    subst (Ran op e.kind) w.2 (a.ends-own w.0 w.1)

-- Every routine of a coordinator shows what agrees. Nothing and a beginning agree by themselves:
nothing_agrees : (op : Op) → Agrees op nothing_seen
unfolding nothing_seen
nothing_agrees op =
    record { ok-writes = λ q. absurd (omega (arith, q)); bytes_read = λ q. absurd (omega (arith, q)); ends-own = λ a b. absurd (a refl); on-stripe = refl }

began_agrees : (op : Op) (e : Notice) → e.what ≡ began_seen → e.stripe ≡ bench_stripe → Agrees op e
began_agrees op e w z =
    record { ok-writes = λ q. absurd (omega (arith, w, q)); bytes_read = λ q. absurd (omega (arith, w, q)); ends-own = λ a b. absurd (b w); on-stripe = z }

-- an operation that runs, and ends aborted or cut, or finishes
running : (op : Op) → op.stripe ≡ bench_stripe → (op.kind ≡ reading_kind) ⊎ (op.kind ≡ writing_kind) → Ran op op.kind op.time
running op z k = record { time-is = refl; kind-is = refl; stripe-is = z; known = k }

short_agrees : (op : Op) (what letter : ℕ) (bricks : List ℕ) → op.stripe ≡ bench_stripe → (op.kind ≡ reading_kind) ⊎ (op.kind ≡ writing_kind) → aborted_seen ≤ what
    → Agrees op (notice_of op what letter bricks)
short_agrees op what letter bricks z k h =
    record { ok-writes = λ q. absurd (omega (arith, h, q)); bytes_read = λ q. absurd (omega (arith, h, q)); ends-own = λ a b. running op z k; on-stripe = z }

finish_agrees : (op : Op) (letter : ℕ) (bricks : List ℕ) → op.stripe ≡ bench_stripe → (op.kind ≡ reading_kind) ⊎ (op.kind ≡ writing_kind)
    → Agrees op (notice_of op (finished_seen op) letter bricks)
unfolding finished_seen is_reading
finish_agrees op letter bricks z k = go k
  where
    go : (op.kind ≡ reading_kind) ⊎ (op.kind ≡ writing_kind) → Agrees op (notice_of op (cond (is_reading op.kind) read_seen ok_seen) letter bricks)
    go (inl e) =
        let r : is_reading op.kind ≡ true = rw e refl in
        rw r
        (record { ok-writes = λ q. absurd (omega (arith, q)); bytes_read = λ q. eq-eqb op.kind reading_kind e; ends-own = λ a b. running op z k; on-stripe = z })
    go (inr e) =
        let r : is_reading op.kind ≡ false = rw e refl in
        rw r
        (record { ok-writes = λ q. rw e refl; bytes_read = λ q. absurd (omega (arith, q)); ends-own = λ a b. running op z k; on-stripe = z })

-- a read, of those that run on the whole stripe
reading_is : (kind : ℕ) → (kind ≡ reading_kind) ⊎ (kind ≡ writing_kind) → is_reading kind ≡ true → eqb kind reading_kind ≡ true
unfolding is_reading
reading_is kind (inl k) e = eq-eqb kind reading_kind k
reading_is kind (inr k) e = clash (rw k at e)

acted_agrees : (n m size : ℕ) (h : Buffered) → op_right h.state.op ≡ true → h.state.op.stripe ≡ bench_stripe → (h.state.op.kind ≡ reading_kind) ⊎ (h.state.op.kind ≡ writing_kind) →
    (d : Decision)
    → DecisionSays n m h.state.op h.state.tally d → Agrees h.state.op (acted n m size h d).seen
unfolding acted ending sending_first next_round modifying DecisionSays
acted_agrees n m size h r z k Abort s = short_agrees h.state.op aborted_seen _ no_bricks z k (omega arith)
acted_agrees n m size h r z k Give s =
    record {
      ok-writes = λ q. absurd (omega (arith, q));
      bytes_read = λ q. reading_is h.state.op.kind k (in_read h.state.op r s.phase-is).kind-is;
      ends-own = λ a b. running h.state.op z k;
      on-stripe = z;
    }
acted_agrees n m size h r z k (Look max) s = nothing_agrees h.state.op
acted_agrees n m size h r z k Store s = nothing_agrees h.state.op
acted_agrees n m size h r z k (Modify time) s = nothing_agrees h.state.op
acted_agrees n m size h r z k (Recover time) s =
    recover_either n m size h time (λ (w : Went). Agrees h.state.op w.seen) (nothing_agrees h.state.op)
    (short_agrees h.state.op aborted_seen _ no_bricks z k (omega arith))
acted_agrees n m size h r z k Finish s = finish_agrees h.state.op _ h.state.bricks z k

waiting_agrees : (n m size : ℕ) (h : Buffered) → op_right h.state.op ≡ true → h.state.op.stripe ≡ bench_stripe → (h.state.op.kind ≡ reading_kind) ⊎ (h.state.op.kind ≡ writing_kind)
    → Agrees h.state.op (waiting_or n m size h).seen
unfolding waiting_or
waiting_agrees n m size h r z k = go (ltb (members h.state.tally.counted n) (quorum n m))
  where
    go : (b : Bool)
        → Agrees h.state.op
        (cond b (record { next = h; sent = []; seen = nothing_seen }) (acted n m size h (decided n m h.state.op h.state.tally))).seen
    go true = nothing_agrees h.state.op
    go false =
        acted_agrees n m size h r z k (decided n m h.state.op h.state.tally) (decided_says n m h.state.op h.state.tally)

-- the kinds of a sound record that runs nothing on one block
recovering_is : (kind : ℕ) → on_block kind ≡ false → can_recover kind ≡ true → kind ≡ reading_kind
unfolding on_block can_recover is_reading
recovering_is kind w e = go (eqb kind reading_kind) (eqb kind reading_block_kind) (eqb kind writing_block_kind) refl w e
  where
    go : (a b c : Bool) → eqb kind reading_kind ≡ a → b || c ≡ false → (a || b) || c ≡ true → kind ≡ reading_kind
    go true b c ea w e = eqb-true kind reading_kind ea
    go false true c ea w e = clash (sym w)
    go false false true ea w e = clash (sym w)
    go false false false ea w e = clash e

not_writing_block : (kind : ℕ) → on_block kind ≡ false → kind ≡ writing_block_kind → ⊥
unfolding on_block
not_writing_block kind w e = clash (sym (rw e at w))

fit_known : (op : Op) → on_block op.kind ≡ false → Fit op → (op.kind ≡ reading_kind) ⊎ (op.kind ≡ writing_kind)
fit_known op w (reading k p _) = inl (recovering_is op.kind w (reading_recovers op.kind k))
fit_known op w (looking k p _ _) = inl (recovering_is op.kind w k)
fit_known op w (restoring k p _) = inl (recovering_is op.kind w k)
fit_known op w (ordering k p _ _) = inr k
fit_known op w (storing k p _) = inr k
fit_known op w (block_ordering k p _) = absurd (not_writing_block op.kind w k)
fit_known op w (modify-sent k p _) = absurd (not_writing_block op.kind w k)

-- the stripe of a volume of one
only_stripe : (stripes stripe : ℕ) → stripes ≡ bench_stripes → stripe < stripes → stripe ≡ bench_stripe
only_stripe stripes stripe one h = omega (arith, one, h)

-- a reply,
module _ (n m size stripes : ℕ) (one : stripes ≡ bench_stripes) (h : Buffered) (whole : Whole h) where
  pub take_agrees : (r : Reply) (block : List ℕ) (coded : ℕ) (g : Went) → take_step n m size stripes h r block coded ≡ went g
      → Agrees h.state.op g.seen
  unfolding counting with_tally
  take_agrees r block coded g e =
      let t = took n m size stripes h r block coded g e in
      let o = t.takes.parts.op-right in
      subst (λ (v : Went). Agrees h.state.op v.seen) t.is
      (waiting_agrees n m size (counting size h r block) o (only_stripe stripes h.state.op.stripe one t.takes.parts.stripe-low)
      (fit_known h.state.op whole (fit h.state.op o (λ _ z. omega (arith, t.answer.of-phase, t.reply.kind-low, z)))))

  -- a crash,
  crash_sound : crash_refusal n m size stripes h.state ≡ 0 → SoundParts n m size stripes h.state
  unfolding crash_refusal
  crash_sound e =
      sound_parts n m size stripes h.state
      (record_passes n m size stripes h.state [] (passed_rest (stripe_count_refusal stripes) _ (passed_rest (code_refusal n m size) _ e))).0.is-sound

  pub crash_agrees : (g : Went) → crash_step n m size stripes h ≡ went g → Agrees h.state.op g.seen
  unfolding crash_step crashed ending
  crash_agrees g e =
      let p = passes (crash_refusal n m size stripes h.state) (went (crashed n h)) g e in
      subst (λ (v : Went). Agrees h.state.op v.seen) (same_went (crashed n h) g p.1)
      (go (crash_sound p.0) (eqb h.state.op.kind idle_kind) refl)
    where
      go : SoundParts n m size stripes h.state → (b : Bool) → eqb h.state.op.kind idle_kind ≡ b
          → Agrees h.state.op (cond b (record { next = h; sent = []; seen = nothing_seen }) (ending n h h.stripe [] cut_seen no_bricks)).seen
      go r true q = nothing_agrees h.state.op
      go r false q =
          short_agrees h.state.op cut_seen _ no_bricks (only_stripe stripes h.state.op.stripe one r.stripe-low)
          (fit_known h.state.op whole (fit h.state.op r.op-right (λ i _. eqb-false h.state.op.kind idle_kind q i))) (omega arith)

-- the start of a write, and of a read
module _ (n m size stripes : ℕ) (h : Buffered) where
  pub write_agrees : (clock : ℕ) (bytes : List ℕ) (g : Went) → write_step n m size stripes h bench_stripe clock bytes ≡ went g → Agrees h.state.op g.seen
  write_agrees clock bytes g e =
      began_agrees h.state.op g.seen (ap (λ (v : Notice). v.what) (write_begins n m size stripes h bench_stripe clock bytes g e).0.seen-is)
      (write_starts n m size stripes h bench_stripe clock bytes g e).shows

  pub read_agrees : (clock first : ℕ) (g : Went) → read_step n m size stripes h bench_stripe clock first ≡ went g → Agrees h.state.op g.seen
  read_agrees clock first g e =
      began_agrees h.state.op g.seen (ap (λ (v : Notice). v.what) (read_begins n m size stripes h bench_stripe clock first g e).0.seen-is)
      (read_starts n m size stripes h bench_stripe clock first g e).shows

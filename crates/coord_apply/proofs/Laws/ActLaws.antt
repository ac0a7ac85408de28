-- The answer and the buffers of each decision, by what the callees gave.
use mathlib.Core.Path.{◌≡◌, refl, sym, ap, ap₂, subst, ◌∙◌}
use mathlib.Core.Bool.{Bool, true, false, cond}
use mathlib.Core.List.{List, []}
use Prim.Native.Nat.{ℕ, ◌*◌, ◌≤◌, ◌<◌}
use native.Mathlib.Omega.{arith}
use lib.Dec.{eqb}
use Rattle.coord_apply.specs.Acts.{round_message, clear_message, clearing, drops_first, trims_first, sending_first, next_op, next_round, modifying, ending, finished_seen, named_bricks}
use Rattle.coord_apply.specs.Acts.{givers_at, picked_at, recovered_stripe, storing, aborting, acted}
use Rattle.coord_apply.specs.Answers.{Buffered, Went, went, no_message, ok_seen, read_seen, aborted_seen, cut_seen, letter_of, sent_count, sent_message, sent_blocks, answer_of}
use Rattle.coord_apply.specs.Answers.{Answer}
use Rattle.coord_letters.specs.Letters.{no_letter, letter_s, letter_c, read_letter, abort_letter}
use Rattle.coord_record.specs.Records.{is_reading, target_count, no_bricks}
use Rattle.coord_record.specs.declared.Coordinator.{Coordinator}
use Rattle.coord_tally.specs.Counting.{givers, first_givers, picked, target_row, at_times}
use Rattle.coord_record.specs.declared.Op.{Op}
use Rattle.coord_record.specs.declared.Tally.{Tally}
use Rattle.coord_decide.specs.Deciding.{decided}
use Rattle.coord_decide.specs.Decisions.{DecisionSays, holders}
use Rattle.coord_decide.proofs.Laws.SaysLaws.{says_of}
use Rattle.coord_decide.specs.declared.Decision.{Decision}
use Rattle.coord_decide.specs.declared.Decision.TheVariants.{Abort, Give, Look, Store, Modify, Recover, Finish}
use Rattle.erasure.specs.Code.{coded_of}
use Rattle.message.specs.Kinds.{order_read_kind, write_kind, modify_kind, trim_kind}
use Rattle.settings.specs.Ranges.{CodeRange}
use Rattle.settings.specs.Count.{count}
use lib.ListN.{get_or, length, take}
use Rattle.std.proofs.lemmas.List.{get_or-take}
use Rattle.coord_tally.proofs.Laws.RowSets.{passing_long, passing_below, givers_cut, giver_below, givers_differ}
use Rattle.settings.proofs.Laws.CountLaws.{count_at_most}
use Rattle.coord_blocks.specs.Blocks.{stripe_from, agreeing, given_stripe, stored_stripe}
use Rattle.coord_blocks.specs.Workers.{HandedOn}
use Rattle.coord_blocks.proofs.Laws.BufferLaws.{in_place, first_decoded}
use Rattle.coord_apply.proofs.Laws.FirstLaws.{drops_ahead, trims_ahead}
use Rattle.coord_blocks.proofs.Laws.OneBlockLaws.{left_as_it_was}
use Rattle.coord_apply.specs.Acts.{buffered}
use Rattle.coord_apply.specs.Workers.{open_answer, ahead_answer, end_answer, finished_letter, Acted}

-- a recovery stores, or, where blocks of the chosen time disagree, ends aborted
module _ (n m size : ℕ) (h : Buffered) (time : ℕ) where
  pub recover_agreed : agreeing m size (givers_at n h time) h.blocks ≡ true → acted n m size h (Recover time) ≡ storing n m size h time
  unfolding acted
  recover_agreed e = ap (λ (b : Bool). cond b (storing n m size h time) (aborting n h)) e

  pub recover_disagreed : agreeing m size (givers_at n h time) h.blocks ≡ false → acted n m size h (Recover time) ≡ aborting n h
  unfolding acted
  recover_disagreed e = ap (λ (b : Bool). cond b (storing n m size h time) (aborting n h)) e

  pub recover_either : (P : Went → Type 0) → P (storing n m size h time) → P (aborting n h) → P (acted n m size h (Recover time))
  unfolding acted
  recover_either P s a = go (agreeing m size (givers_at n h time) h.blocks)
    where
      go : (b : Bool) → P (cond b (storing n m size h time) (aborting n h))
      go true = s
      go false = a

-- the letter of an end, by how it ended
module _ (n : ℕ) (op : Op) (t : Tally) where
  pub aborted_letter : abort_letter n op t ≡ letter_of n op t aborted_seen
  unfolding letter_of
  aborted_letter = refl

  pub given_letter : read_letter op ≡ letter_of n op t read_seen
  unfolding letter_of
  given_letter = refl

  pub finished_letter_lem : finished_letter op ≡ letter_of n op t (finished_seen op)
  unfolding letter_of finished_letter finished_seen
  finished_letter_lem = go (is_reading op.kind)
    where
      go : (b : Bool)
          → cond b (read_letter op) letter_s
          ≡ cond (eqb (cond b read_seen ok_seen) ok_seen) letter_s
          (cond (eqb (cond b read_seen ok_seen) read_seen) (read_letter op)
          (cond (eqb (cond b read_seen ok_seen) aborted_seen) (abort_letter n op t) (cond (eqb (cond b read_seen ok_seen) cut_seen) letter_c no_letter)))
      go true = refl
      go false = refl

-- the letter of a finished round
pub finished_read_letter : (op : Op) (b : Bool) (v : ℕ) → b ≡ is_reading op.kind → b ≡ true → v ≡ read_letter op → v ≡ finished_letter op
unfolding finished_letter
finished_read_letter op b v e z f = f ∙ sym (rw (← e, z) refl)

pub finished_write_letter : (op : Op) (b : Bool) → b ≡ is_reading op.kind → b ≡ false → letter_s ≡ finished_letter op
unfolding finished_letter
finished_write_letter op b e z = sym (rw (← e, z) refl)

module _ (n m size : ℕ) (c : Coordinator) (blocks stripe coded : List ℕ) where
  pub acted_abort : (r : Answer) → r ≡ end_answer c aborted_seen (letter_of n c.op c.tally aborted_seen) no_bricks 0 no_message → Acted n m size (buffered c blocks stripe) Abort coded r stripe coded
  unfolding acted ending answer_of sent_count sent_message sent_blocks end_answer buffered
  acted_abort r e = record { answer = e; stripe-left = refl; coded-left = refl }

  pub acted_give : (r : Answer) (stripe' : List ℕ) → stripe' ≡ given_stripe n m size c.op blocks stripe
      → r ≡ end_answer c read_seen (letter_of n c.op c.tally read_seen) (target_row n (target_count m c.op.kind) c.op.first) 0 no_message
      → Acted n m size (buffered c blocks stripe) Give coded r stripe' coded
  unfolding acted ending answer_of sent_count sent_message sent_blocks end_answer buffered
  acted_give r stripe' es e = record { answer = e; stripe-left = es; coded-left = refl }

  pub acted_look : (r : Answer) (max : ℕ) → r ≡ ahead_answer (drops_first c.op max) (open_answer c order_read_kind max 0 no_bricks)
      → Acted n m size (buffered c blocks stripe) (Look max) coded r stripe coded
  unfolding acted sending_first next_round round_message next_op sent_blocks buffered
  acted_look r max e =
      let d = drops_ahead (buffered c blocks stripe) order_read_kind max no_bricks stripe [] max in
      record { answer = e ∙ d.answer; stripe-left = refl; coded-left = sym (d.coded-left coded) }

  pub acted_store : (r : Answer) (coded' : List ℕ) → coded' ≡ coded_of n m size stripe → r ≡ open_answer c write_kind 0 0 no_bricks
      → Acted n m size (buffered c blocks stripe) Store coded r stripe coded'
  unfolding acted next_round round_message next_op answer_of sent_count sent_message sent_blocks open_answer buffered
  acted_store r coded' ec e = record { answer = e; stripe-left = refl; coded-left = ec }

  pub acted_modify : (r : Answer) (old : ℕ) → r ≡ open_answer c modify_kind 0 old no_bricks → Acted n m size (buffered c blocks stripe) (Modify old) coded r stripe coded
  unfolding acted modifying round_message next_op answer_of sent_count sent_message sent_blocks open_answer buffered
  acted_modify r old e = record { answer = e; stripe-left = refl; coded-left = refl }

  -- a recovery whose blocks agree, by what the callees gave,
  pub acted_recover : (r : Answer) (time : ℕ) (b : Bool) (stripe' coded' : List ℕ)
      → b ≡ agreeing m size (givers c.tally.held c.tally.found time n) blocks → b ≡ true
      → stripe' ≡ cond b (stored_stripe size c.op stripe (stripe_from m size (first_givers c.tally.held c.tally.found time n m) blocks)) stripe
      → coded' ≡ coded_of n m size stripe'
      → r ≡ ahead_answer (trims_first n m c.op c.tally time) (open_answer c write_kind 0 0 (named_bricks c.op (picked c.tally.held c.tally.found time n m)))
      → Acted n m size (buffered c blocks stripe) (Recover time) coded r stripe' coded'
  unfolding sending_first next_round round_message next_op sent_blocks buffered
  acted_recover r time b stripe' coded' eb et es ec e =
      let h = buffered c blocks stripe in
      let q = recover_agreed n m size h time (sym eb ∙ et) in
      let d = trims_ahead h write_kind 0 (named_bricks c.op (picked_at n m h time)) (recovered_stripe n m size h time) (coded_of n m size (recovered_stripe n m size h time)) n m c.tally time in
      let es' = es ∙ ap (λ (a : Bool). cond a (stored_stripe size c.op stripe (stripe_from m size (first_givers c.tally.held c.tally.found time n m) blocks)) stripe) et in
      record {
        answer = e ∙ d.answer ∙ ap (λ (w : Went). answer_of c (went w)) (sym q);
        stripe-left = es' ∙ ap (λ (w : Went). w.next.stripe) (sym q);
        coded-left = ec ∙ ap (coded_of n m size) es' ∙ sym (d.coded-left coded) ∙ ap (λ (w : Went). sent_blocks w.sent coded) (sym q);
      }

  -- and one whose blocks disagree
  pub acted_disagreed : (r : Answer) (time : ℕ) (b : Bool) (stripe' : List ℕ)
      → b ≡ agreeing m size (givers c.tally.held c.tally.found time n) blocks → b ≡ false
      → stripe' ≡ cond b (stored_stripe size c.op stripe (stripe_from m size (first_givers c.tally.held c.tally.found time n m) blocks)) stripe
      → r ≡ end_answer c aborted_seen (letter_of n c.op c.tally aborted_seen) no_bricks 0 no_message → Acted n m size (buffered c blocks stripe) (Recover time) coded r stripe' coded
  unfolding ending answer_of sent_count sent_message sent_blocks end_answer buffered
  acted_disagreed r time b stripe' eb et es e =
      let q = recover_disagreed n m size (buffered c blocks stripe) time (sym eb ∙ et) in
      record {
        answer = e ∙ ap (λ (w : Went). answer_of c (went w)) (sym q);
        stripe-left = left_as_it_was b _ stripe stripe' et es ∙ ap (λ (w : Went). w.next.stripe) (sym q);
        coded-left = ap (λ (w : Went). sent_blocks w.sent coded) (sym q);
      }

  pub acted_finish : (r : Answer) → r ≡ end_answer c (finished_seen c.op) (finished_letter c.op) c.bricks 1 (clear_message trim_kind c.op c.op.time)
      → Acted n m size (buffered c blocks stripe) Finish coded r stripe coded
  unfolding acted ending answer_of sent_count sent_message sent_blocks end_answer buffered clearing clear_message
  acted_finish r e =
      record {
        answer = e ∙ ap (λ (l : ℕ). end_answer c (finished_seen c.op) l c.bricks 1 (clear_message trim_kind c.op c.op.time)) (finished_letter_lem n c.op c.tally);
        stripe-left = refl;
        coded-left = refl;
      }

-- the same at a decision that is one of these
pub acted_at : (n m size : ℕ) (h : Buffered) (d d' : Decision) (coded : List ℕ) (r : Answer) (stripe' coded' : List ℕ)
    → d ≡ d' → Acted n m size h d' coded r stripe' coded' → Acted n m size h d coded r stripe' coded'
acted_at n m size h d d' coded r stripe' coded' e a = subst (λ (x : Decision). Acted n m size h x coded r stripe' coded') (sym e) a

-- all bricks that gave a time can be decoded from, by a row of them
module _ (n m size time : ℕ) (held found row : List ℕ) (k : ℕ) (range : CodeRange n m size) (ek : k ≡ count (at_times held found time) n)
    (er : row ≡ picked held found time n n) where
  pub givers_by : take k row ≡ givers held found time n
  givers_by = ap₂ (λ (j : ℕ) (l : List ℕ). take j l) ek er ∙ givers_cut held found time n range.n-high

  -- and what is decoded from them is decoded from the first m
  pub givers_first : (blocks : List ℕ) → m ≤ k → length blocks ≡ n * size → stripe_from m size (take k row) blocks ≡ stripe_from m size (first_givers held found time n m) blocks
  givers_first blocks enough e =
      ap (λ (l : List ℕ). stripe_from m size l blocks) givers_by
      ∙ first_decoded n m size (givers held found time n) blocks range.n-low range.size_low
      (let l = passing_long (at_times held found time) n in omega (arith, l, ek, enough)) e (passing_below (at_times held found time) n)

  pub givers_count : length (take k row) ≡ k
  givers_count = ap length givers_by ∙ passing_long (at_times held found time) n ∙ sym ek

  -- they are handed on
  pub givers_handed : (blocks : List ℕ) → m ≤ k → length blocks ≡ n * size → HandedOn m size (length (take k row)) (take k row) blocks
  givers_handed blocks enough e =
      let most = count_at_most (at_times held found time) n in
      let at : (i : ℕ) → i < k → get_or (take k row) i 0 ≡ get_or (picked held found time n n) i 0 =
      λ i h. get_or-take k row i 0 h ∙ ap (λ (l : List ℕ). get_or l i 0) er in
      subst (λ (j : ℕ). HandedOn m size j (take k row) blocks) (sym givers_count)
      (record {
        size_low = range.size_low;
        size-high = range.size-high;
        few = omega (arith, ek, most, range.n-high);
        enough = enough;
        differ = λ i j u w q. givers_differ held found time n range.n-high i j (omega arith) (omega arith) (sym (at i u) ∙ q ∙ at j w);
        in_place = in_place n k size (take k row) blocks e (λ i h. let b = giver_below held found time n range.n-high i (omega arith) in omega (arith, at i h));
      })

-- a recovery is decided only with enough blocks
pub recover_enough : (n m time : ℕ) (op : Op) (t : Tally) (d : Decision) → d ≡ Recover time → d ≡ decided n m op t
    → m ≤ count (at_times t.held t.found time) n
unfolding holders DecisionSays
recover_enough n m time op t d e q = (says_of n m op t (Recover time) (sym e ∙ q)).enough

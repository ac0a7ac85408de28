-- What a no said makes no difference but to the letter.
use mathlib.Core.Path.{◌≡◌, refl, sym, ap, ap₂, ◌∙◌}
use mathlib.Core.Bool.{Bool, true, false, cond}
use mathlib.Core.List.{List, [], ◌∷◌}
use Prim.Native.Nat.{ℕ}
use lib.Dec.{leb, ltb}
use lib.ListN.{length}
use Rattle.settings.specs.Ranges.{quorum, code_refusal, stripe_count_refusal, stripe_refusal}
use Rattle.settings.specs.Refusal.{first_refusal, refuse_unless, bad_length, bad_number, bad_record, bad_message, stray_reply}
use Rattle.settings.specs.Times.{last_coordinator}
use Rattle.message.specs.Flags.{members}
use Rattle.message.specs.Messages.{reply_right, reply_refusal}
use Rattle.message.specs.declared.Reply.{Reply}
use Rattle.coord_record.specs.Sound.{sound_record}
use Rattle.coord_record.specs.Records.{idle_with, nothing_counted}
use Rattle.coord_decide.specs.Deciding.{answers, tallied, apart, decided_read, decided_block_order, decided_at, decided_recovery, decided}
use Rattle.coord_decide.specs.declared.Decision.{Decision}
use Rattle.coord_decide.specs.declared.Decision.TheVariants.{Abort, Give, Look, Store, Modify, Recover, Finish}
use Rattle.coord_blocks.specs.Blocks.{agreeing}
use Rattle.coord_apply.specs.Acts.{acted, ending, opened, trims_first, all_hold, sending_first, next_round, modifying, storing, aborting, givers_at, with_tally, counting, waiting_or}
use Rattle.coord_apply.specs.Answers.{Buffered, nothing_seen}
use Rattle.coord_refusals.specs.Checks.{stripe_checks, lengths_right, stray_checks, take_refusal}
use Rattle.coord_laws.proofs.Laws.StepRunLaws.{took}
use Rattle.coord_laws.specs.LetterTheorem.{unsaid_tally, unsaid, unsaid_reply, unlettered, SameRepliesCount, LettersChangeNothingElse}

-- the checks of a reply, by the outcomes of the two that look at what a no said
checked_with : (n m size stripes : ℕ) (block coded : ℕ) → Buffered → Reply → (sound right : Bool) → ℕ
checked_with n m size stripes block coded k q sound right =
    first_refusal
    (code_refusal n m size
    ∷ stripe_count_refusal stripes
    ∷ refuse_unless (lengths_right n m size q.held block (length k.blocks) (length k.stripe) coded) bad_length
    ∷ refuse_unless (ltb q.brick n) bad_number
    ∷ refuse_unless (leb k.state.clock.coordinator last_coordinator) bad_number
    ∷ stripe_refusal stripes q.stripe
    ∷ refuse_unless sound bad_record
    ∷ first_refusal (refuse_unless (ltb q.brick n) bad_number ∷ refuse_unless right bad_message ∷ [])
    ∷ refuse_unless (answers n m k.state.op k.state.tally q) stray_reply
    ∷ [])

taken_unsaid : (n m size stripes : ℕ) (h : Buffered) (r : Reply) (block : List ℕ) (coded : ℕ)
    → take_refusal n m size stripes h.state r (length block) (length h.blocks) (length h.stripe) coded
    ≡ checked_with n m size stripes (length block) coded (unsaid h) (unsaid_reply r) (sound_record n m size stripes h.state) (reply_right r)
unfolding checked_with take_refusal stray_checks stripe_checks reply_refusal answers unsaid with_tally unsaid_tally unsaid_reply
taken_unsaid n m size stripes h r block coded = refl

pub same_replies_count : SameRepliesCount
same_replies_count n m size stripes h h' r r' block coded a =
    let f = checked_with n m size stripes (length block) coded in
    taken_unsaid n m size stripes h r block coded
    ∙ ap₂ (λ (k : Buffered) (q : Reply). f k q (sound_record n m size stripes h.state) (reply_right r)) a.same-coordinator a.same-reply
    ∙ ap₂ (f (unsaid h') (unsaid_reply r')) a.alike-sound a.alike_right
    ∙ sym (taken_unsaid n m size stripes h' r' block coded)

-- what a decision does
acted_unlettered : (n m size : ℕ) (h : Buffered) (d : Decision) → unlettered (acted n m size h d) ≡ unlettered (acted n m size (unsaid h) d)
unfolding unlettered unsaid unsaid_tally with_tally acted ending opened trims_first all_hold sending_first next_round modifying idle_with nothing_counted nothing_seen
acted_unlettered n m size h Abort = refl
acted_unlettered n m size h Give = refl
acted_unlettered n m size h (Look max) = refl
acted_unlettered n m size h Store = refl
acted_unlettered n m size h (Modify time) = refl
acted_unlettered n m size h (Recover time) = go (agreeing m size (givers_at n h time) h.blocks)
  where
    go : (b : Bool) → unlettered (cond b (storing n m size h time) (aborting n h)) ≡ unlettered (cond b (storing n m size (unsaid h) time) (aborting n (unsaid h)))
    go true = refl
    go false = refl
acted_unlettered n m size h Finish = refl

-- a reply counted
counting_unsaid : (size : ℕ) (h : Buffered) (r : Reply) (block : List ℕ) → unsaid (counting size h r block) ≡ unsaid (counting size (unsaid h) (unsaid_reply r) block)
unfolding counting with_tally tallied unsaid unsaid_tally unsaid_reply
counting_unsaid size h r block = refl

same_count : (n m size : ℕ) (h : Buffered) (r : Reply) (block : List ℕ)
    → ltb (members (counting size h r block).state.tally.counted n) (quorum n m)
    ≡ ltb (members (counting size (unsaid h) (unsaid_reply r) block).state.tally.counted n) (quorum n m)
unfolding counting with_tally tallied unsaid unsaid_tally unsaid_reply
same_count n m size h r block = refl

same_decision : (n m size : ℕ) (h : Buffered) (r : Reply) (block : List ℕ)
    → decided n m (counting size h r block).state.op (counting size h r block).state.tally
    ≡ decided n m (counting size (unsaid h) (unsaid_reply r) block).state.op (counting size (unsaid h) (unsaid_reply r) block).state.tally
unfolding counting with_tally tallied unsaid unsaid_tally unsaid_reply decided decided_read decided_block_order decided_recovery decided_at apart
same_decision n m size h r block = refl

-- whatever it leads to, where both count and decide alike
waiting_unlettered : (n m size : ℕ) (k k' : Buffered) (b : Bool) (d : Decision) → unsaid k ≡ unsaid k'
    → unlettered (cond b (record { next = k; sent = []; seen = nothing_seen }) (acted n m size k d))
    ≡ unlettered (cond b (record { next = k'; sent = []; seen = nothing_seen }) (acted n m size k' d))
unfolding nothing_seen unlettered
waiting_unlettered n m size k k' true d e = ap (λ (x : Buffered). record { next = x; sent = []; seen = nothing_seen }) e
waiting_unlettered n m size k k' false d e =
    acted_unlettered n m size k d ∙ ap (λ (x : Buffered). unlettered (acted n m size x d)) e ∙ sym (acted_unlettered n m size k' d)

counted_unlettered : (n m size : ℕ) (h : Buffered) (r : Reply) (block : List ℕ)
    → unlettered (waiting_or n m size (counting size h r block)) ≡ unlettered (waiting_or n m size (counting size (unsaid h) (unsaid_reply r) block))
unfolding waiting_or
counted_unlettered n m size h r block =
    waiting_unlettered n m size k k' (ltb (members k.state.tally.counted n) (quorum n m)) (decided n m k.state.op k.state.tally) (counting_unsaid size h r block) ∙ rest
  where
    k : Buffered
    k = counting size h r block

    k' : Buffered
    k' = counting size (unsaid h) (unsaid_reply r) block

    rest : unlettered (cond (ltb (members k.state.tally.counted n) (quorum n m)) (record { next = k'; sent = []; seen = nothing_seen })
        (acted n m size k' (decided n m k.state.op k.state.tally)))
        ≡ unlettered (cond (ltb (members k'.state.tally.counted n) (quorum n m)) (record { next = k'; sent = []; seen = nothing_seen })
        (acted n m size k' (decided n m k'.state.op k'.state.tally)))
    rest = ap₂ (λ (b : Bool) (d : Decision). unlettered (cond b (record { next = k'; sent = []; seen = nothing_seen }) (acted n m size k' d)))
        (same_count n m size h r block) (same_decision n m size h r block)

pub letters_change_nothing_else : LettersChangeNothingElse
letters_change_nothing_else n m size stripes h h' r r' block coded w w' eh er e e' =
    ap unlettered (sym (took n m size stripes h r block coded w e).is)
    ∙ counted_unlettered n m size h r block
    ∙ ap₂ (λ (k : Buffered) (q : Reply). unlettered (waiting_or n m size (counting size k q block))) eh er
    ∙ sym (counted_unlettered n m size h' r' block)
    ∙ ap unlettered (took n m size stripes h' r' block coded w' e').is

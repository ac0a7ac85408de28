-- What a letter tells of the replies that an operation met.
use mathlib.Core.Path.{◌≡◌, refl, sym, ap, subst, ◌∙◌}
use mathlib.Core.Logic.{◌≢◌, inl, inr}
use mathlib.Core.Bool.{Bool, true, false, cond, not, ◌&&◌, true≢false}
use mathlib.Core.List.{List}
use Prim.Native.Nat.{ℕ, ◌*◌, ◌≤◌, ◌<◌}
use native.Mathlib.Decide.{ℕ_discrete}
use native.Mathlib.Omega.{arith}
use lib.Dec.{T, eqb, ltb}
use lib.ListN.{get_or}
use borrow.Author.Tests.{eqb-true, eq-eqb, ltb-false, not-true}
use Rattle.byte_lists.specs.Each.{some}
use Rattle.byte_lists.proofs.Laws.BoolLaws.{and_left, and_right}
use Rattle.byte_lists.proofs.Laws.EachLaws.{some_at, some_witness}
use Rattle.settings.proofs.Laws.CountLaws.{count_mono, count_none}
use Rattle.settings.specs.Ranges.{SettingsRange, in_range, quorum}
use Rattle.settings.specs.Times.{coordinator_of}
use Rattle.settings.specs.declared.Settings.{Settings}
use Rattle.image.proofs.Laws.ParseLaws.{range_of}
use Rattle.message.specs.Flags.{member, members}
use Rattle.message.specs.Kinds.{read_kind, order_read_kind, write_kind, second_round, third_round, full_log}
use Rattle.message.specs.Messages.{stores_entry}
use Rattle.message.specs.declared.Message.{Message}
use Rattle.message.specs.declared.Reply.{Reply}
use Rattle.coord_record.specs.Records.{idle_kind, is_reading}
use Rattle.coord_record.specs.Sound.{op_right}
use Rattle.coord_record.specs.declared.Op.{Op}
use Rattle.coord_record.specs.declared.Tally.{Tally}
use Rattle.coord_tally.specs.Counting.{said_no, highest, at_time, at_times}
use Rattle.coord_letters.specs.Letters.{no_letter, letter_o, letter_g, letter_w, letter_x, read_letter, said_other, abort_letter}
use Rattle.coord_letters.proofs.Laws.LetterLaws.{letter_f_lem, letter_h_lem, letter_l_lem, letter_x_lem}
use Rattle.coord_decide.specs.Deciding.{decided}
use Rattle.coord_decide.specs.Decisions.{AllYes, found_time, holders, Aborts, told_no, none_held, zero_on_few, rounds_spent, DecidesGive, Finishes, DecisionSays}
use Rattle.coord_decide.proofs.Laws.SaysLaws.{decided_says}
use Rattle.coord_decide.specs.declared.Decision.{Decision}
use Rattle.coord_decide.specs.declared.Decision.TheVariants.{Abort, Give, Look, Store, Modify, Recover, Finish}
use Rattle.coord_apply.specs.Acts.{acted, ending, sending_first, next_round, modifying, counting, with_tally, waiting_or}
use Rattle.coord_apply.specs.Answers.{Buffered, Went, went, nothing_seen}
use Rattle.coord_apply.specs.Workers.{finished_letter}
use Rattle.coord_apply.proofs.Laws.ActLaws.{aborted_letter, given_letter, finished_letter_lem, finished_read_letter, finished_write_letter}
use Rattle.coordinator.specs.Routines.{take_step}
use Rattle.coord_laws.proofs.Laws.OpCaseLaws.{in_read, Fit, reading, looking, restoring, ordering, storing as write-storing, block_ordering, modifying as modify-sent, fit}
use Rattle.coord_laws.proofs.Laws.SoundnessLaws.{passes}
use Rattle.coord_laws.proofs.Laws.StepRunLaws.{ReplyTaken, took}
use Rattle.coord_laws.proofs.Laws.StripeLaws.{taken_stripe, taken_runs}
use Rattle.order.specs.Claim.{◌∈◌}
use Rattle.register.specs.RunLetters.{Counted, kept_reply, Met, AllSaidYes, SaidNo, Tells, read_at_once, first_time, lower_time, written, order_told_no, full_logs, other_no, nothing_found}
use Rattle.register.specs.RunLetters.{LettersTellTheReplies}
use Rattle.register.specs.Recoveries.{addressee}
use Rattle.register.specs.Runs.{Item, message, reply, Event, run}
use Rattle.register.proofs.Laws.AgreementLaws.{no_recovery_disagrees}
use Rattle.register.proofs.Laws.CountedLaws.{qth_exactly, counting_keeps}
use Rattle.register.proofs.Laws.DecideLaws.{true_T, T_true}
use Rattle.register.proofs.Laws.Invariant.{Hist, Running, CoordinatorInv, item_on, items_on, view, Inv}
use Rattle.register.proofs.Laws.MetLaws.{and_not, met_by, met_yes, one_newest, targets_counted}
use Rattle.register.proofs.Laws.RecoverLaws.{highest_most}
use Rattle.register.proofs.Laws.StripeViewLaws.{in_items, of_items, viewed_here}
use Rattle.register.proofs.Laws.TheoremProof.{run_holds}

-- A coordinator that has counted its q-th reply, on the stripe that it runs on: `all` is what was sent, on any stripe.
module _ (s : Settings) (g : SettingsRange s) (h : Hist s) (all : List Item) (c : ℕ) (k : Buffered)
    (i : CoordinatorInv s g h (items_on k.state.op.stripe all) c k) (runs : k.state.op.kind ≡ idle_kind → ⊥)
    (right : op_right k.state.op ≡ true) (fits : Fit k.state.op) where
  abbrev op : Op
  op = k.state.op

  abbrev t : Tally
  t = k.state.tally

  now : Running s g h (items_on k.state.op.stripe all) c k
  now = i.runs runs

  low : (b : ℕ) → Counted k b → b < s.n
  low b e = (now.counts b e).low

  -- what is counted is what was said
  all_yes : AllYes s.n t → AllSaidYes k
  unfolding AllYes
  all_yes y = met_yes s k low y

  no_from : (b : ℕ) → said_no t.counted t.granted b ≡ true → SaidNo k b
  unfolding said_no
  no_from b q =
      (and_left (member t.counted b) (not (member t.granted b)) q, not-true (member t.granted b) (and_right (member t.counted b) (not (member t.granted b)) q))

  no_counted : (b : ℕ) → SaidNo k b → said_no t.counted t.granted b ≡ true
  unfolding said_no
  no_counted b n = rw (n.0, n.1) refl

  -- a no that was not that of a full log, and where there is none
  other_from : (b : ℕ) → said_other t.counted t.granted t.said b ≡ true → SaidNo k b × ((kept_reply k b).comparison ≢ full_log)
  unfolding said_other
  other_from b q = (
    no_from b (and_left (said_no t.counted t.granted b) (not (eqb (get_or t.said b 0) full_log)) q),
    λ z. true≢false (sym (and_right (said_no t.counted t.granted b) (not (eqb (get_or t.said b 0) full_log)) q) ∙ ap not (eq-eqb (get_or t.said b 0) full_log z)),
  )

  full_from : some (said_other t.counted t.granted t.said) s.n ≡ false → (b : ℕ) → SaidNo k b → (kept_reply k b).comparison ≡ full_log
  unfolding said_other
  full_from e b said =
      eqb-true (get_or t.said b 0) full_log
      (and_not (said_no t.counted t.granted b) (eqb (get_or t.said b 0) full_log) (no_counted b said)
      (some_at (said_other t.counted t.granted t.said) s.n b e (low b said.0)))

  -- ABORTED. A counted brick said no:
  refused_letter : (op.phase ≡ read_kind → ⊥) → some (said_no t.counted t.granted) s.n ≡ true → Tells s all k (abort_letter s.n op t)
  unfolding abort_letter
  refused_letter p e = rw e (go (stores_entry op.phase) refl (some (said_other t.counted t.granted t.said) s.n) refl)
    where
      told : (b : ℕ) × (b < s.n) × (said_no t.counted t.granted b ≡ true)
      told = some_witness (said_no t.counted t.granted) s.n e

      go : (x : Bool) → stores_entry op.phase ≡ x → (y : Bool) → some (said_other t.counted t.granted t.said) s.n ≡ y
          → Tells s all k (cond x (cond y letter_w letter_g) letter_o)
      go false ex y ey = order_told_no ex p told.0 (no_from told.0 told.2)
      go true ex true ey =
          let w = some_witness (said_other t.counted t.granted t.said) s.n ey in
          let o = other_from w.0 w.2 in
          other_no ex w.0 o.0 o.1
      go true ex false ey = full_logs ex told.0 (no_from told.0 told.2) (full_from ey)

  -- or all said yes to an Order-and-read:
  spent_letter : AllYes s.n t → letter_x ≡ abort_letter s.n op t
  unfolding AllYes
  spent_letter y = letter_x_lem s.n op t _ refl y

  -- the blocks that were given
  found_low : (b : ℕ) → Counted k b → found_time s.n t ≡ 0 → (kept_reply k b).held ≡ true → (kept_reply k b).found ≡ 0
  unfolding found_time
  found_low b e z q =
      let l = highest_most t.held t.found s.n b (low b e) q in
      omega (arith, l, z)

  few_held : found_time s.n t ≡ 0 → holders s.n t 0 < s.m → members t.held s.n < s.m
  unfolding holders members at_times at_time found_time member
  few_held z f =
      let l = count_mono (λ (b : ℕ). eqb (get_or t.held b 0) 1) (λ (b : ℕ). eqb (get_or t.held b 0) 1 && eqb (get_or t.found b 0) 0) s.n at in omega (arith, l, f)
    where
      at : (b : ℕ) → b < s.n → T (eqb (get_or t.held b 0) 1) → T (eqb (get_or t.held b 0) 1 && eqb (get_or t.found b 0) 0)
      at b l q =
          let e = T_true (eqb (get_or t.held b 0) 1) q in
          let u = highest_most t.held t.found s.n b l (unfold member in e) in
          true_T (eqb (get_or t.held b 0) 1 && eqb (get_or t.found b 0) 0) (rw (e, eq-eqb (get_or t.found b 0) 0 (omega (arith, u, z))) refl)

  aborts_letter : Aborts s.n s.m op t → Tells s all k (abort_letter s.n op t)
  aborts_letter (told_no p e) = refused_letter p e
  aborts_letter (none_held p y z) =
      subst (Tells s all k) (spent_letter y)
      (nothing_found p (all_yes y) (inl (λ b e. unfold members in count_none (member t.held) s.n b z (low b e))))
  aborts_letter (zero_on_few p y z f) =
      subst (Tells s all k) (spent_letter y) (nothing_found p (all_yes y) (inr (inl (few_held z f, λ b e q. found_low b e z q))))
  aborts_letter (rounds_spent p y l) = subst (Tells s all k) (spent_letter y) (nothing_found p (all_yes y) (inr (inr l)))

  -- A READ OF ONE ROUND
  gives_letter : DecidesGive s.n s.m op t → Tells s all k (read_letter op)
  gives_letter d =
      subst (Tells s all k) (letter_f_lem op d.phase-is)
      (read_at_once (in_read op right d.phase-is).kind-is d.phase-is (all_yes d.all_yes) (highest t.counted t.found s.n) (one_newest s k low d) (targets_counted s k d))

  -- A FINISHED STORE
  read_stored : is_reading op.kind ≡ true → op.phase ≡ write_kind → third_round ≤ op.round → AllYes s.n t → Tells s all k (read_letter op)
  read_stored q p l y = go (ℕ_discrete op.round third_round)
    where
      not-read : op.phase ≡ read_kind → ⊥
      not-read z = omega (arith, p, z)

      asked : op.round ≡ third_round → (b : ℕ) (msg : Message) (block old : List ℕ) → message b msg block old ∈ all → msg.kind ≡ order_read_kind → msg.stripe ≡ op.stripe
          → msg.time ≡ op.time → msg.round ≤ second_round
      asked e b msg block old m kind stripe time =
          let w = now.asked b msg block old (in_items k.state.op.stripe all (message b msg block old) m (unfold item_on in eq-eqb msg.stripe k.state.op.stripe stripe)) kind time in
          below w.0 w.1 (ℕ_discrete msg.round op.round)
        where
          below : msg.round ≤ op.round → (msg.round ≡ op.round → (op.phase ≡ order_read_kind) × (msg.max ≡ op.max)) → Dec (msg.round ≡ op.round) → msg.round ≤ second_round
          below u f (yes d) = let z = (f d).0 in absurd (omega (arith, z, p))
          below u f (no d) = omega (arith, u, d, e)

      go : Dec (op.round ≡ third_round) → Tells s all k (read_letter op)
      go (yes e) = subst (Tells s all k) (letter_h_lem op not-read e) (first_time q p (all_yes y) e (asked e))
      go (no e) =
          let late : third_round < op.round = omega (arith, l, e) in
          let x = now.stored-lower p late in
          let w = of_items k.state.op.stripe all (message x.brick x.asked x.block x.old) x.was-sent in
          subst (Tells s all k) (letter_l_lem op not-read e)
          (lower_time q p (all_yes y) late x.brick x.asked x.block x.old w.0 x.kind-is
          (unfold item_on in eqb-true x.asked.stripe k.state.op.stripe w.1) x.time-is x.late)

  finishes_letter : Finishes s.n s.m op t → Tells s all k (finished_letter op)
  finishes_letter f = go fits
    where
      wrote : is_reading k.state.op.kind ≡ false → stores_entry k.state.op.phase ≡ true → Tells s all k (finished_letter k.state.op)
      wrote q e = subst (Tells s all k) (finished_write_letter k.state.op _ refl q) (written q e (all_yes f.all_yes))

      stores_write : k.state.op.phase ≡ write_kind → stores_entry k.state.op.phase ≡ true
      stores_write p = unfold stores_entry in rw p refl

      either : (b : Bool) → is_reading k.state.op.kind ≡ b → k.state.op.phase ≡ write_kind → third_round ≤ k.state.op.round
          → Tells s all k (finished_letter k.state.op)
      either true q p l =
          subst (Tells s all k) (finished_read_letter k.state.op _ (read_letter k.state.op) refl q refl) (read_stored q p l f.all_yes)
      either false q p l = wrote q (stores_write p)

      go : Fit k.state.op → Tells s all k (finished_letter k.state.op)
      go (reading q p _) = absurd (f.not-read p)
      go (looking q p _ _) = absurd (f.not-recovery p)
      go (restoring q p l) = either (is_reading k.state.op.kind) refl p l
      go (ordering q p _ _) = absurd (f.not-order p)
      go (write-storing q p _) = wrote (unfold is_reading in rw q refl) (stores_write p)
      go (block_ordering q p _) = absurd (f.not-block-order p)
      go (modify-sent q p _) = wrote (unfold is_reading in rw q refl) (unfold stores_entry in rw p refl)

  -- WHAT THE DECISION SHOWS
  decides_letter : (d : Decision) → DecisionSays s.n s.m op t d → ((time : ℕ) → d ≡ Recover time → (acted s.n s.m s.size k d).seen.letter ≡ no_letter)
      → (acted s.n s.m s.size k d).seen.letter ≢ no_letter → Tells s all k (acted s.n s.m s.size k d).seen.letter
  unfolding acted ending sending_first next_round modifying DecisionSays nothing_seen
  decides_letter Abort x f n = subst (Tells s all k) (aborted_letter s.n op t) (aborts_letter x)
  decides_letter Give x f n = subst (Tells s all k) (given_letter s.n op t) (gives_letter x)
  decides_letter (Look max) x f n = absurd (n refl)
  decides_letter Store x f n = absurd (n refl)
  decides_letter (Modify time) x f n = absurd (n refl)
  decides_letter (Recover time) x f n = absurd (n (f time refl))
  decides_letter Finish x f n = subst (Tells s all k) (finished_letter_lem s.n op t) (finishes_letter x)

-- A reply that ends an operation of a run.
module _ (s : Settings) (e : in_range s ≡ true) (events : List Event) (a : Reply) (block : List ℕ) (w : Went) (was : reply a block ∈ (run s events).world.sent)
    (steps : take_step s.n s.m s.size s.stripes (addressee (run s events).world a) a block (s.n * s.size) ≡ went w) where
  abbrev pub g : SettingsRange s
  g = range_of s e

  abbrev pub k : Buffered
  k = addressee (run s events).world a

  abbrev pub after : Buffered
  after = counting s.size k a block

  pub taken : ReplyTaken s.n s.m s.size s.stripes k a block (s.n * s.size) w
  taken = took s.n s.m s.size s.stripes k a block (s.n * s.size) w steps

  pub busy : k.state.op.kind ≡ idle_kind → ⊥
  busy = taken_runs s.n s.m s.size s.stripes k a block (s.n * s.size) w steps

  pub held_by : (h : Hist s) × Inv s g k.state.op.stripe h (run s events)
  held_by = run_holds s g k.state.op.stripe taken.takes.parts.stripe-low events

  before : CoordinatorInv s g held_by.0 (items_on k.state.op.stripe (run s events).world.sent) (coordinator_of a.time) k
  before =
      unfold view in
      subst (CoordinatorInv s g held_by.0 (items_on k.state.op.stripe (run s events).world.sent) (coordinator_of a.time))
      (viewed_here k.state.op.stripe k busy refl) (held_by.1.coordinators (coordinator_of a.time))

  pub counted : CoordinatorInv s g held_by.0 (items_on k.state.op.stripe (run s events).world.sent) (coordinator_of a.time) after
  unfolding item_on
  counted =
      counting_keeps s g held_by.0 _ (coordinator_of a.time) k a block (s.n * s.size) w before taken
      (in_items k.state.op.stripe (run s events).world.sent (reply a block) was
      (eq-eqb a.stripe k.state.op.stripe (taken_stripe s.n s.m s.size s.stripes k a block (s.n * s.size) w steps)))

  -- a recovery goes on to its store
  pub stores_on : quorum s.n s.m ≤ members after.state.tally.counted s.n → (time : ℕ) → decided s.n s.m after.state.op after.state.tally ≡ Recover time
      → (waiting_or s.n s.m s.size after).seen.letter ≡ no_letter
  unfolding sending_first next_round nothing_seen take_step
  stores_on l time d =
      ap (λ (v : Went). v.seen.letter)
      (no_recovery_disagrees s e events a block time (record { qth = record { was-sent = was; taken = (passes _ _ w steps).0; is-qth = l }; decides = d })).1

  -- what the q-th reply decides
  abbrev pub decision : Decision
  decision = decided s.n s.m after.state.op after.state.tally

  pub acts : ltb (members after.state.tally.counted s.n) (quorum s.n s.m) ≡ false
      → waiting_or s.n s.m s.size after ≡ acted s.n s.m s.size after decision
  unfolding waiting_or
  acts q = rw q refl

  abbrev all : List Item
  all = (run s events).world.sent

  -- the kind, phase and round of the operation go together
  pub fits : Fit k.state.op
  fits = fit k.state.op taken.takes.parts.op-right (λ _ z. omega (arith, taken.answer.of-phase, taken.reply.kind-low, z))

  abbrev Told : ℕ → Type 0
  Told letter = Met s all after × Tells s all after letter

  -- what the round met, once a quorum is counted
  pub met_now : quorum s.n s.m ≤ members after.state.tally.counted s.n → Met s all after
  unfolding counting with_tally
  met_now l = met_by s all after (counted.runs busy).counts (qth_exactly s k a block (s.n * s.size) w taken l)

  qth : quorum s.n s.m ≤ members after.state.tally.counted s.n
      → ((time : ℕ) → decision ≡ Recover time → (acted s.n s.m s.size after decision).seen.letter ≡ no_letter)
      → (acted s.n s.m s.size after decision).seen.letter ≢ no_letter → Told (acted s.n s.m s.size after decision).seen.letter
  unfolding counting with_tally
  qth l f n = (
    met_now l,
    decides_letter s g held_by.0 all (coordinator_of a.time) after counted busy taken.takes.parts.op-right fits decision
        (decided_says s.n s.m after.state.op after.state.tally) f n,
  )

  pub waited : ltb (members after.state.tally.counted s.n) (quorum s.n s.m) ≡ true → (waiting_or s.n s.m s.size after).seen.letter ≡ no_letter
  unfolding waiting_or nothing_seen
  waited q = rw q refl

  tells : (b : Bool) → ltb (members after.state.tally.counted s.n) (quorum s.n s.m) ≡ b → (waiting_or s.n s.m s.size after).seen.letter ≢ no_letter
      → Told (waiting_or s.n s.m s.size after).seen.letter
  tells true q n = absurd (n (waited q))
  tells false q n =
      let l = ltb-false (members after.state.tally.counted s.n) (quorum s.n s.m) q in
      let shown : (waiting_or s.n s.m s.size after).seen.letter ≡ (acted s.n s.m s.size after decision).seen.letter
      = ap (λ (v : Went). v.seen.letter) (acts q) in
      subst Told (sym shown) (qth l (λ time z. sym shown ∙ stores_on l time z) (λ z. n (shown ∙ z)))

pub letters_tell_the_replies : LettersTellTheReplies
letters_tell_the_replies s e events a block w was steps n =
    let is = ap (λ (v : Went). v.seen.letter) (taken s e events a block w was steps).is in
    subst (Told s e events a block w was steps) is (tells s e events a block w was steps _ refl (λ z. n (sym is ∙ z)))

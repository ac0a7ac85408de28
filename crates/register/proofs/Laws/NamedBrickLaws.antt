-- Which bricks a finished read names, and what it gives: its targets in one round; recovered, the first m by number among those that gave the
-- chosen time.
use mathlib.Core.Path.{◌≡◌, refl, sym, ap, subst, ◌∙◌}
use mathlib.Core.Logic.{◌⊎◌, inl, inr}
use mathlib.Core.Bool.{Bool, true, false, cond, not, true≢false, ◌&&◌}
use mathlib.Core.List.{List, [], ◌∷◌}
use Prim.Native.Nat.{ℕ, zero, suc, ◌+◌, ◌*◌, ◌≤◌, ◌<◌}
use native.Mathlib.Decide.{ℕ_discrete}
use native.Mathlib.Omega.{arith}
use lib.Dec.{eqb, ltb}
use lib.ListN.{length, get_or, take}
use lib.Seq.{ext_get_or, get_or-take, length-take-le}
use borrow.Author.Tests.{eqb-true, eq-eqb, ne_eqb, lt-ltb, ltb-false}
use Rattle.byte_lists.specs.Each.{some}
use Rattle.byte_lists.specs.Lists.{tabulate}
use Rattle.byte_lists.proofs.Laws.BoolLaws.{and_left, and_right}
use Rattle.byte_lists.proofs.Laws.TabulateLaws.{get_d_tabulate, length_tabulate}
use Rattle.settings.specs.Count.{count}
use Rattle.settings.specs.Ranges.{SettingsRange, in_range, max_bricks, quorum}
use Rattle.settings.specs.Times.{coordinator_of}
use Rattle.settings.specs.declared.Settings.{Settings}
use Rattle.image.proofs.Laws.ParseLaws.{range_of}
use Rattle.message.specs.Flags.{member, members}
use Rattle.message.specs.Kinds.{read_kind, write_kind, third_round, block_targets}
use Rattle.message.specs.Messages.{stores_entry}
use Rattle.message.specs.declared.Reply.{Reply}
use Rattle.erasure.specs.Code.{coded_of, decoded_of, block_of, blocks_of, with_block}
use Rattle.erasure.proofs.Laws.BlockOfLaws.{block_within, block_length, block_with}
use Rattle.coord_record.specs.CountedRules.{is_target}
use Rattle.coord_record.specs.Records.{writing_block_kind, is_reading, on_block, target_count}
use Rattle.coord_record.specs.declared.Op.{Op}
use Rattle.coord_record.specs.declared.Tally.{Tally}
use Rattle.coord_tally.specs.Counting.{said_no, highest, at_time, at_times, in_row, picked, first_givers, upward, target_row}
use Rattle.coord_tally.specs.FirstTheorem.{FirstOf, Passing}
use Rattle.coord_tally.proofs.Laws.FirstMemberLaws.{first_members_are_first, first_same, first_is_one}
use Rattle.coord_tally.proofs.Laws.RowSets.{target_at}
use Rattle.coord_letters.specs.Letters.{no_letter, letter_f, letter_h, letter_l, letter_s, letter_o, letter_g, letter_w, letter_x, read_letter, said_other, abort_letter}
use Rattle.coord_letters.proofs.Laws.LetterLaws.{letter_f_lem, letter_h_lem, letter_l_lem}
use Rattle.coord_blocks.specs.Blocks.{stripe_from, given_stripe, stored_stripe}
use Rattle.coord_blocks.proofs.Laws.BufferLaws.{stacked_ext}
use Rattle.coord_decide.specs.Deciding.{decided}
use Rattle.coord_decide.specs.Decisions.{AllYes, found_time, holders, DecidesGive, Recovers, Finishes, DecisionSays}
use Rattle.coord_decide.proofs.Laws.SaysLaws.{decided_says, says_of}
use Rattle.coord_decide.specs.declared.Decision.{Decision}
use Rattle.coord_decide.specs.declared.Decision.TheVariants.{Abort, Give, Look, Store, Modify, Recover, Finish}
use Rattle.coord_apply.specs.Acts.{acted, ending, finished_seen, sending_first, next_op, next_round, modifying, named_bricks, recovered_stripe, counting, with_tally, waiting_or}
use Rattle.coord_apply.specs.Answers.{Buffered, Went, went, nothing_seen, read_seen, how_many_named, named_in}
use Rattle.coord_apply.specs.declared.Notice.{Notice}
use Rattle.coord_apply.specs.Workers.{finished_letter}
use Rattle.coord_apply.proofs.Laws.ActLaws.{aborted_letter, given_letter, finished_letter_lem, finished_read_letter}
use Rattle.coordinator.specs.Routines.{take_step}
use Rattle.coord_laws.proofs.Laws.OpCaseLaws.{Fit, reading, looking, restoring, ordering, storing as write-storing, block_ordering, modifying as modify-sent}
use Rattle.order.specs.Claim.{◌∈◌}
use Rattle.register.specs.NamedBricks.{Gave, OneRoundRead, OneRoundReadsNameTheirTargets, Recovery, recovered_at, RecoveredRead, RecoveredReadsNameTheFirst}
use Rattle.register.specs.NamedBricks.{SameReplies, SameRepliesSameAnswer}
use Rattle.register.specs.Recoveries.{addressee, counted_at}
use Rattle.register.specs.RunLetters.{Counted, Met, AllSaidYes}
use Rattle.register.specs.Runs.{Item, reply, Event, Moved, run}
use Rattle.register.proofs.Laws.AgreementLaws
use Rattle.register.proofs.Laws.CountedLaws.{qth_exactly}
use Rattle.register.proofs.Laws.DecodeLaws.{targets_long, target_bricks, target_is}
use Rattle.register.proofs.Laws.GiveLaws.{targets_block, target_holds}
use Rattle.register.proofs.Laws.Invariant.{Hist, CountedInv, top_of, Running, items_on, view, Inv}
use Rattle.register.proofs.Laws.MetLaws.{met_by, met_yes, one_newest, targets_counted}
use Rattle.register.proofs.Laws.NeverRefusedLaws.{Long, counting_long}
use Rattle.register.proofs.Laws.RecoverLaws.{highest_most, top_coded}
use Rattle.register.proofs.Laws.RecoveryLaws.{Restored, read_restored}
use Rattle.register.proofs.Laws.RunLetterLaws.{taken, busy, held_by, counted, fits, met_now, stores_on, acts, waited}
use Rattle.register.proofs.Laws.TheoremProof.{run_holds}

-- HOW MANY A NOTICE NAMES
-- as many as there were targets, of a read in one round; m, of one that recovered
named_targets : (m : ℕ) (e : Notice) → e.what ≡ read_seen → e.letter ≡ letter_f → named_in m e ≡ take (target_count m e.kind) e.bricks
unfolding named_in how_many_named target_count
named_targets m e w l = rw (eq-eqb e.what read_seen w, eq-eqb e.letter letter_f l) (go (on_block e.kind))
  where
    go : (b : Bool) → take (cond (true && b) 1 m) e.bricks ≡ take (cond b block_targets m) e.bricks
    go true = refl
    go false = refl

named_first : (m : ℕ) (e : Notice) → e.what ≡ read_seen → (e.letter ≡ letter_f → ⊥) → named_in m e ≡ take m e.bricks
unfolding named_in how_many_named
named_first m e w l = rw (eq-eqb e.what read_seen w, ne_eqb e.letter letter_f l) refl

-- the front of a row
row_front : (l : List ℕ) (m : ℕ) → length l ≡ m → m ≤ max_bricks → take m (in_row l) ≡ l
unfolding in_row
row_front l m e h =
    let long = length_tabulate max_bricks (λ (i : ℕ). get_or l i 0) in
    let w = length-take-le m (tabulate max_bricks (λ (i : ℕ). get_or l i 0)) (omega (arith, long, h)) in
    ext_get_or 0 (take m (tabulate max_bricks (λ (i : ℕ). get_or l i 0))) l (w ∙ sym e)
    (λ i u. get_or-take m (tabulate max_bricks (λ (j : ℕ). get_or l j 0)) i 0 (omega (arith, u, w)) ∙ get_d_tabulate max_bricks (λ (j : ℕ). get_or l j 0) i (omega (arith, u, w, h)))

-- one target is the first
one_target : (n first : ℕ) → n ≤ max_bricks → first < n → take block_targets (target_row n block_targets first) ≡ first ∷ []
one_target n first high low =
    ext_get_or 0 (take block_targets (target_row n block_targets first)) (first ∷ []) (long ∙ refl) (λ i u. at i (omega (arith, u, long)))
  where
    long : length (take block_targets (target_row n block_targets first)) ≡ 1
    long = targets_long n block_targets first high (omega (arith, low)) low

    at : (i : ℕ) → i < 1 → get_or (take block_targets (target_row n block_targets first)) i 0 ≡ get_or (first ∷ []) i 0
    at zero u =
        get_or-take block_targets (target_row n block_targets first) 0 0 (omega arith) ∙ target_at n block_targets first high (omega (arith, low)) low 0 (omega arith)
        ∙ (unfold upward in rw (lt-ltb (first + 0) n (omega (arith, low))) (omega arith))
    at (suc i) u = absurd (omega (arith, u))

-- THE LETTERS OF A READ'S ANSWER
abbrev OfRead : ℕ → Type 0
OfRead letter = (letter ≡ letter_f) ⊎ ((letter ≡ letter_h) ⊎ (letter ≡ letter_l))

other_letter : (letter other : ℕ) → letter ≡ other → (other ≡ letter_f → ⊥) → (other ≡ letter_h → ⊥) → (other ≡ letter_l → ⊥) → OfRead letter → ⊥
other_letter letter other e f h l (inl z) = f (sym e ∙ z)
other_letter letter other e f h l (inr (inl z)) = h (sym e ∙ z)
other_letter letter other e f h l (inr (inr z)) = l (sym e ∙ z)

abort_other : (n : ℕ) (op : Op) (t : Tally) → OfRead (abort_letter n op t) → ⊥
unfolding abort_letter
abort_other n op t = go (some (said_no t.counted t.granted) n) (stores_entry op.phase) (some (said_other t.counted t.granted t.said) n)
  where
    go : (a b c : Bool) → OfRead (cond (not a) letter_x (cond b (cond c letter_w letter_g) letter_o)) → ⊥
    go false b c = other_letter letter_x letter_x refl (λ z. omega (arith, z)) (λ z. omega (arith, z)) (λ z. omega (arith, z))
    go true true true = other_letter letter_w letter_w refl (λ z. omega (arith, z)) (λ z. omega (arith, z)) (λ z. omega (arith, z))
    go true true false = other_letter letter_g letter_g refl (λ z. omega (arith, z)) (λ z. omega (arith, z)) (λ z. omega (arith, z))
    go true false c = other_letter letter_o letter_o refl (λ z. omega (arith, z)) (λ z. omega (arith, z)) (λ z. omega (arith, z))

-- a read that recovered does not end with F
not_at_once : (op : Op) → (op.phase ≡ read_kind → ⊥) → read_letter op ≡ letter_f → ⊥
not_at_once op n z = go (ℕ_discrete op.round third_round)
  where
    go : Dec (op.round ≡ third_round) → ⊥
    go (yes e) = let w = letter_h_lem op n e in omega (arith, w, z)
    go (no e) = let w = letter_l_lem op n e in omega (arith, w, z)

-- How a read ends by a decision: in one round, or with the store of what it recovered.
data ReadEnd (s : Settings) (k : Buffered) : Decision → Type 0 where
  at_once : DecidesGive s.n s.m k.state.op k.state.tally → ReadEnd s k Give
  restored : is_reading k.state.op.kind ≡ true → k.state.op.phase ≡ write_kind → ReadEnd s k Finish

-- WHAT THE COORDINATOR OF A RUN HAD COUNTED WHEN A RECOVERY WAS DECIDED
module _ (s : Settings) (e : in_range s ≡ true) (events : List Event) (k : Buffered) (x : Restored s events k) where
  abbrev before : Moved s
  before = run s x.from.earlier

  abbrev at : Buffered
  at = recovered_at s events k.state.op x.from

  abbrev t : Tally
  t = at.state.tally

  abbrev top : ℕ
  top = top_of s at

  abbrev stripe : ℕ
  stripe = (addressee before.world x.from.last).state.op.stripe

  g : SettingsRange s
  g = range_of s e

  says : Recovers s.n s.m at.state.op t x.time
  unfolding DecisionSays
  says = says_of s.n s.m at.state.op t (Recover x.time) (sym x.decides)

  holds : (h : Hist s) × Inv s g stripe h before
  holds = run_holds s g stripe (AgreementLaws.t s g before x.from.last x.from.block x.from.qth).takes.parts.stripe-low x.from.earlier

  runs : Running s g holds.0 (view stripe before).sent (coordinator_of x.from.last.time) at
  unfolding counting with_tally
  runs =
      (AgreementLaws.counted_holds s g before x.from.last x.from.block x.from.qth holds.0 holds.1
      ).runs (AgreementLaws.busy s g before x.from.last x.from.block x.from.qth)

  was_met : Met s before.world.sent at
  unfolding counting with_tally view
  was_met =
      met_by s before.world.sent at runs.counts
      (qth_exactly s (addressee before.world x.from.last) x.from.last x.from.block (s.n * s.size)
      (AgreementLaws.w s g before x.from.last x.from.block x.from.qth) (AgreementLaws.t s g before x.from.last x.from.block x.from.qth)
      x.from.qth.is-qth)

  low : (b : ℕ) → Counted at b → b < s.n
  low = was_met.low

  time_top : x.time ≡ top
  unfolding found_time
  time_top = says.time-is

  many : s.m ≤ count (at_times t.held t.found top) s.n
  unfolding holders
  many = subst (λ (u : ℕ). s.m ≤ count (at_times t.held t.found u) s.n) time_top says.enough

  -- a brick gave the chosen time: as it is told, and as it is counted
  gave_counted : (b : ℕ) → Gave at top b → Passing (at_times t.held t.found top) s.n b
  unfolding at_times at_time member
  gave_counted b w = (low b w.0, rw (w.1, eq-eqb (get_or t.found b 0) top w.2) refl)

  counted_gave : (b : ℕ) → Passing (at_times t.held t.found top) s.n b → Gave at top b
  unfolding at_times at_time member
  counted_gave b w =
      let held = and_left (eqb (get_or t.held b 0) 1) _ w.1 in
      (runs.holds b held, held, eqb-true (get_or t.found b 0) top (and_right (eqb (get_or t.held b 0) 1) _ w.1))

  abbrev chosen : List ℕ
  chosen = first_givers t.held t.found top s.n s.m

  chosen_first : FirstOf (Gave at top) s.m chosen
  chosen_first = first_same counted_gave gave_counted (first_members_are_first (at_times t.held t.found top) s.n s.m many)

  coded : (b : ℕ) → at_times t.held t.found top b ≡ true
      → block_of s.size at.blocks b ≡ block_of s.size (coded_of s.n s.m s.size (stripe_from s.m s.size chosen at.blocks)) b
  unfolding AllYes counting with_tally
  coded =
      top_coded s g holds.0 (view stripe before).sent (coordinator_of x.from.last.time) at holds.1.valid
      (AgreementLaws.counted_holds s g before x.from.last x.from.block x.from.qth holds.0 holds.1) holds.1.items
      (AgreementLaws.busy s g before x.from.last x.from.block x.from.qth) says.phase-is says.all_yes x.from.qth.is-qth many

  -- a read's store has what was decoded from these bricks, and their row
  module _ (q : is_reading k.state.op.kind ≡ true) where
    same_kind : is_reading at.state.op.kind ≡ true
    unfolding next_op
    same_kind = sym (ap (λ (o : Op). is_reading o.kind) x.from.store_is) ∙ q

    row_is : k.state.bricks ≡ in_row chosen
    unfolding named_bricks picked
    row_is =
        x.bricks-is ∙ rw same_kind refl ∙ ap (λ (u : ℕ). in_row (first_givers t.held t.found u s.n s.m)) time_top

    stripe_is : k.stripe ≡ stripe_from s.m s.size chosen at.blocks
    unfolding stored_stripe
    stripe_is =
        let stored : recovered_stripe s.n s.m s.size at x.time ≡ stripe_from s.m s.size (first_givers t.held t.found x.time s.n s.m) at.blocks
        = rw (ne_eqb at.state.op.kind writing_block_kind (λ z. true≢false (sym same_kind ∙ (unfold is_reading in rw z refl)))) refl in
        x.stripe-is ∙ stored
        ∙ ap (λ (u : ℕ). stripe_from s.m s.size (first_givers t.held t.found u s.n s.m) at.blocks) time_top

    pub read_recovered : (n : Notice) → n.what ≡ read_seen → (n.letter ≡ letter_f → ⊥) → n.bricks ≡ k.state.bricks → RecoveredRead s at n k.stripe
    read_recovered n w l b =
        record {
          all_yes = unfold AllYes in met_yes s at low says.all_yes;
          chosen = top;
          highest = λ b c h. highest_most t.held t.found s.n b (low b c) h;
          first = subst (FirstOf (Gave at top) s.m) (sym names) chosen_first;
          row_is = b ∙ row_is ∙ ap in_row (sym names);
          decoded = stripe_is ∙ ap (λ (l : List ℕ). stripe_from s.m s.size l at.blocks) (sym names);
          checked = λ b w. coded b (gave_counted b w).1 ∙ ap (λ (y : List ℕ). block_of s.size (coded_of s.n s.m s.size y) b) (sym stripe_is);
        }
      where
        names : named_in s.m n ≡ chosen
        names =
            named_first s.m n w l ∙ ap (take s.m) (b ∙ row_is)
            ∙ row_front chosen s.m chosen_first.as_many (omega (arith, g.code.m-high, g.code.n-high))

-- A REPLY OF A RUN
module _ (s : Settings) (e : in_range s ≡ true) (events : List Event) (a : Reply) (block : List ℕ) (w : Went) (was : reply a block ∈ (run s events).world.sent)
    (steps : take_step s.n s.m s.size s.stripes (addressee (run s events).world a) a block (s.n * s.size) ≡ went w) where
  abbrev own : Buffered
  own = addressee (run s events).world a

  abbrev after : Buffered
  after = counted_at s (run s events).world a block

  abbrev all : List Item
  all = (run s events).world.sent

  finished : Fit own.state.op → Finishes s.n s.m own.state.op after.state.tally → is_reading own.state.op.kind ≡ true → own.state.op.phase ≡ write_kind
  finished (reading q p _) f r = absurd (f.not-read p)
  finished (looking q p _ _) f r = absurd (f.not-recovery p)
  finished (restoring q p l) f r = p
  finished (ordering q p _ _) f r = absurd (f.not-order p)
  finished (write-storing q p _) f r = p
  finished (block_ordering q p _) f r = absurd (f.not-block-order p)
  finished (modify-sent q p _) f r = absurd (true≢false (sym r ∙ (unfold is_reading in rw q refl)))

  -- a decision that ends a read
  decides : (d : Decision) → DecisionSays s.n s.m after.state.op after.state.tally d
      → ((time : ℕ) → d ≡ Recover time → (acted s.n s.m s.size after d).seen.letter ≡ no_letter)
      → OfRead (acted s.n s.m s.size after d).seen.letter → ReadEnd s after d
  unfolding acted ending sending_first next_round modifying DecisionSays nothing_seen counting with_tally
  decides Abort x f r = absurd (abort_other s.n own.state.op after.state.tally (subst OfRead (sym (aborted_letter s.n own.state.op after.state.tally)) r))
  decides Give x f r = at_once x
  decides (Look max) x f r = absurd (other_letter _ no_letter refl (λ z. omega (arith, z)) (λ z. omega (arith, z)) (λ z. omega (arith, z)) r)
  decides Store x f r = absurd (other_letter _ no_letter refl (λ z. omega (arith, z)) (λ z. omega (arith, z)) (λ z. omega (arith, z)) r)
  decides (Modify time) x f r = absurd (other_letter _ no_letter refl (λ z. omega (arith, z)) (λ z. omega (arith, z)) (λ z. omega (arith, z)) r)
  decides (Recover time) x f r = absurd (other_letter _ no_letter (f time refl) (λ z. omega (arith, z)) (λ z. omega (arith, z)) (λ z. omega (arith, z)) r)
  decides Finish x f r = go (is_reading own.state.op.kind) refl (subst OfRead (sym (finished_letter_lem s.n own.state.op after.state.tally)) r)
    where
      go : (b : Bool) → is_reading own.state.op.kind ≡ b → OfRead (finished_letter own.state.op) → ReadEnd s after Finish
      go true q z = restored q (finished (fits s e events a block w was steps) x q)
      go false q z =
          absurd
          (other_letter (finished_letter own.state.op) letter_s (unfold finished_letter in rw q refl) (λ z. omega (arith, z)) (λ z. omega (arith, z)) (λ z. omega (arith, z)) z)

  -- so the q-th reply ended it, by such a decision
  abbrev decision : Decision
  decision = decided s.n s.m after.state.op after.state.tally

  abbrev Ends : Type 0
  Ends = (quorum s.n s.m ≤ members after.state.tally.counted s.n) × (waiting_or s.n s.m s.size after ≡ acted s.n s.m s.size after decision) × ReadEnd s after decision

  waits : (b : Bool) → ltb (members after.state.tally.counted s.n) (quorum s.n s.m) ≡ b → OfRead (waiting_or s.n s.m s.size after).seen.letter → Ends
  waits true q r = absurd (other_letter _ no_letter (waited s e events a block w was steps q) (λ z. omega (arith, z)) (λ z. omega (arith, z)) (λ z. omega (arith, z)) r)
  waits false q r =
      let l = ltb-false (members after.state.tally.counted s.n) (quorum s.n s.m) q in
      let is = acts s e events a block w was steps q in
      let shown = ap (λ (v : Went). v.seen.letter) is in (
        l,
        is,
        decides decision (decided_says s.n s.m after.state.op after.state.tally) (λ time z. sym shown ∙ stores_on s e events a block w was steps l time z)
            (subst OfRead shown r),
      )

  abbrev is : waiting_or s.n s.m s.size after ≡ w
  is = (taken s e events a block w was steps).is

  ended : OfRead w.seen.letter → Ends
  ended r = waits _ refl (subst (λ (v : Went). OfRead v.seen.letter) (sym is) r)

  -- READ IN ONE ROUND
  module _ (d : DecidesGive s.n s.m after.state.op after.state.tally) where
    abbrev asked : ℕ
    asked = target_count s.m after.state.op.kind

    first_low : after.state.op.first < s.n
    unfolding counting with_tally
    first_low = (taken s e events a block w was steps).takes.parts.first-low

    asked_fit : target_count s.m after.state.op.kind ≤ s.n
    unfolding target_count
    asked_fit = go (on_block after.state.op.kind)
      where
        go : (b : Bool) → cond b block_targets s.m ≤ s.n
        go true = omega (arith, first_low)
        go false = (range_of s e).code.m-high

    abbrev row : List ℕ
    row = target_row s.n asked after.state.op.first

    high : s.n ≤ max_bricks
    high = (range_of s e).code.n-high

    -- each target gave a block of the newest time
    target_gave : (b : ℕ) → b < s.n → is_target s.n asked after.state.op.first b ≡ true
        → Gave after (highest after.state.tally.counted after.state.tally.found s.n) b
    unfolding counting with_tally
    target_gave b l q = (
      c,
      sym x.held-is ∙ target_holds after.state.op.phase _ x.from.yes x.from.held x.from.found d.phase-is q (x.yes-is ∙ all_yes b c) x.right,
      one_newest s after low d b c,
    )
      where
        now : Running s (range_of s e) (held_by s e events a block w was steps).0 (items_on own.state.op.stripe all) (coordinator_of a.time) after
        now = (counted s e events a block w was steps).runs (busy s e events a block w was steps)

        low : (b : ℕ) → Counted after b → b < s.n
        low b c = (now.counts b c).low

        all_yes : AllSaidYes after
        all_yes = unfold AllYes in met_yes s after low d.all_yes

        c : Counted after b
        c = targets_counted s after d b l q

        x : CountedInv s (items_on own.state.op.stripe all) after b
        x = now.counts b c

    -- they are named
    names : named_in s.m (acted s.n s.m s.size after Give).seen ≡ take asked row
    unfolding acted ending
    names =
        named_targets s.m (acted s.n s.m s.size after Give).seen refl
        (sym (given_letter s.n after.state.op after.state.tally) ∙ sym (letter_f_lem after.state.op d.phase-is))

    one_round : OneRoundRead s after (acted s.n s.m s.size after Give).seen (acted s.n s.m s.size after Give).next.stripe
    one_round =
        record {
          newest = highest after.state.tally.counted after.state.tally.found s.n;
          gave = subst (λ (l : List ℕ). (i : ℕ) → i < length l → Gave after (highest after.state.tally.counted after.state.tally.found s.n) (get_or l i 0)) (sym names)
              (λ i h. target_gave (get_or (take asked row) i 0) ((target_bricks s.n asked after.state.op.first high asked_fit first_low).below i h)
              (target_is s.n asked after.state.op.first high asked_fit first_low i h));
          targets = λ q. names ∙ whole q;
          decoded = λ q. given-whole q ∙ ap (λ (l : List ℕ). stripe_from s.m s.size l after.blocks) (sym (names ∙ whole q));
          alone = λ q. names ∙ single q;
          given = given-block;
        }
      where
        whole : on_block after.state.op.kind ≡ false → take asked row ≡ take s.m (target_row s.n s.m after.state.op.first)
        whole q = unfold target_count in rw q refl

        single : on_block after.state.op.kind ≡ true → take asked row ≡ after.state.op.first ∷ []
        single q =
            ap (λ (j : ℕ). take j (target_row s.n j after.state.op.first)) (targets_block s.m after.state.op.kind q)
            ∙ one_target s.n after.state.op.first high first_low

        given-whole : on_block after.state.op.kind ≡ false
            → (acted s.n s.m s.size after Give).next.stripe ≡ stripe_from s.m s.size (take s.m (target_row s.n s.m after.state.op.first)) after.blocks
        given-whole q = unfold acted ending given_stripe in rw q refl

        long : Long s after
        long = counting_long s own a block (s.n * s.size) w (taken s e events a block w was steps)

        block-low : on_block after.state.op.kind ≡ true → after.state.op.first < s.m
        block-low = unfold counting with_tally in (taken s e events a block w was steps).takes.parts.block-low

        given-block : on_block after.state.op.kind ≡ true
            → block_of s.size (acted s.n s.m s.size after Give).next.stripe after.state.op.first ≡ block_of s.size after.blocks after.state.op.first
        given-block q =
            let put : (acted s.n s.m s.size after Give).next.stripe
            ≡ with_block s.size after.stripe after.state.op.first (block_of s.size after.blocks after.state.op.first)
            = unfold acted ending given_stripe in rw q refl in
            ap (λ (l : List ℕ). block_of s.size l after.state.op.first) put
            ∙ block_with s.size after.stripe after.state.op.first (block_of s.size after.blocks after.state.op.first)
            (block_length s.size after.blocks after.state.op.first (block_within s.n s.size after.state.op.first after.blocks long.0 first_low))
            (block_within s.m s.size after.state.op.first after.stripe long.1 (block-low q))

  one_round_end : w.seen.letter ≡ letter_f → (d : Decision) → acted s.n s.m s.size after d ≡ w → ReadEnd s after d → OneRoundRead s after w.seen w.next.stripe
  unfolding acted ending
  one_round_end r Abort q x = elim x [ ]
  one_round_end r (Look _) q x = elim x [ ]
  one_round_end r Store q x = elim x [ ]
  one_round_end r (Modify _) q x = elim x [ ]
  one_round_end r (Recover _) q x = elim x [ ]
  one_round_end r Give q (at_once d) = subst (λ (v : Went). OneRoundRead s after v.seen v.next.stripe) q (one_round d)
  one_round_end r Finish q (restored k p) =
      absurd
      (not_at_once after.state.op (λ z. omega (arith, p, z))
      (finished_read_letter after.state.op _ (read_letter after.state.op) refl k refl ∙ finished_letter_lem s.n after.state.op after.state.tally
      ∙ ap (λ (v : Went). v.seen.letter) q ∙ r))

  -- RECOVERED
  abbrev NamesFirst : Went → Type 0
  NamesFirst v =
      (x : Recovery s events own.state.op) × Met s (run s x.earlier).world.sent (recovered_at s events own.state.op x)
      × RecoveredRead s (recovered_at s events own.state.op x) v.seen v.next.stripe

  recovered_end : (w.seen.letter ≡ letter_f → ⊥) → (d : Decision) → acted s.n s.m s.size after d ≡ w → ReadEnd s after d → NamesFirst w
  unfolding acted ending counting with_tally
  recovered_end n Abort q x = elim x [ ]
  recovered_end n (Look _) q x = elim x [ ]
  recovered_end n Store q x = elim x [ ]
  recovered_end n (Modify _) q x = elim x [ ]
  recovered_end n (Recover _) q x = elim x [ ]
  recovered_end n Give q (at_once d) =
      absurd (n (ap (λ (v : Went). v.seen.letter) (sym q) ∙ sym (given_letter s.n own.state.op after.state.tally) ∙ sym (letter_f_lem own.state.op d.phase-is)))
  recovered_end n Finish q (restored k p) = subst NamesFirst q (x.from, was_met s e events own x, read_recovered s e events own x k _ read-seen other refl)
    where
      x : Restored s events own
      x = read_restored s events (coordinator_of a.time) k p

      read-seen : finished_seen own.state.op ≡ read_seen
      read-seen = unfold finished_seen in rw k refl

      other : (acted s.n s.m s.size after Finish).seen.letter ≡ letter_f → ⊥
      other z = n (ap (λ (v : Went). v.seen.letter) (sym q) ∙ z)

pub one_round_reads_name_their_targets : OneRoundReadsNameTheirTargets
one_round_reads_name_their_targets s e events a block w was steps r =
    let x = ended s e events a block w was steps (inl r) in (
      met_now s e events a block w was steps x.0,
      one_round_end s e events a block w was steps r _ (sym x.1 ∙ is s e events a block w was steps) x.2,
    )

pub recovered_reads_name_the_first : RecoveredReadsNameTheFirst
recovered_reads_name_the_first s e events a block w was steps r =
    let x = ended s e events a block w was steps (inr r) in
    recovered_end s e events a block w was steps (not_f r) _ (sym x.1 ∙ is s e events a block w was steps) x.2
  where
    not_f : (w.seen.letter ≡ letter_h) ⊎ (w.seen.letter ≡ letter_l) → w.seen.letter ≡ letter_f → ⊥
    not_f (inl h) z = omega (arith, h, z)
    not_f (inr l) z = omega (arith, l, z)

-- THE SAME REPLIES
-- whoever gave a time in the one round gave it in the other
module _ {s : Settings} {k k' : Buffered} (same : SameReplies s k k') where
  gave_there : (time b : ℕ) → Gave k time b → Gave k' time b
  gave_there time b w = (sym (same.counted b) ∙ w.0, sym (same.held b w.0) ∙ w.1, sym (same.found b w.0 w.1) ∙ w.2)

  gave_here : (time b : ℕ) → Gave k' time b → Gave k time b
  gave_here time b w =
      let e = same.counted b ∙ w.0 in
      let h = same.held b e ∙ w.1 in
      (e, h, same.found b e h ∙ w.2)

-- so the chosen time is no higher there
no_higher : (s : Settings) (g : SettingsRange s) (k k' : Buffered) (n n' : Notice) (stripe stripe' : List ℕ) (x : RecoveredRead s k n stripe) (y : RecoveredRead s k' n' stripe')
    → ((time b : ℕ) → Gave k time b → Gave k' time b) → x.chosen ≤ y.chosen
no_higher s g k k' n n' stripe stripe' x y there =
    let w = there x.chosen (get_or (named_in s.m n) 0 0) (x.first.of-the-set 0 g.code.m-low) in
    let l = y.highest (get_or (named_in s.m n) 0 0) w.0 w.1 in
    omega (arith, l, w.2)

pub same_replies_same_answer : SameRepliesSameAnswer
same_replies_same_answer s e k k' n n' stripe stripe' x y same = (names, x.row_is ∙ ap in_row names ∙ sym y.row_is, x.decoded ∙ decoded ∙ sym y.decoded)
  where
    g : SettingsRange s
    g = range_of s e

    chosen : x.chosen ≡ y.chosen
    chosen =
        let a = no_higher s g k k' n n' stripe stripe' x y (gave_there same) in
        let b = no_higher s g k' k n' n stripe' stripe y x (gave_here same) in
        omega (arith, a, b)

    names : named_in s.m n ≡ named_in s.m n'
    names =
        first_is_one (Gave k x.chosen) (Gave k' x.chosen) (gave_there same x.chosen) (gave_here same x.chosen) s.m (named_in s.m n) (named_in s.m n') x.first
        (subst (λ (time : ℕ). FirstOf (Gave k' time) s.m (named_in s.m n')) (sym chosen) y.first)

    alike : (i : ℕ) → i < length (named_in s.m n) → block_of s.size k.blocks (get_or (named_in s.m n) i 0) ≡ block_of s.size k'.blocks (get_or (named_in s.m n) i 0)
    alike i h =
        let w = x.first.of-the-set i (omega (arith, h, x.first.as_many)) in
        same.block (get_or (named_in s.m n) i 0) w.0 w.1

    decoded : stripe_from s.m s.size (named_in s.m n) k.blocks ≡ stripe_from s.m s.size (named_in s.m n') k'.blocks
    decoded =
        unfold stripe_from blocks_of in
        (ap (decoded_of s.m s.size (named_in s.m n)) (stacked_ext (length (named_in s.m n)) _ _ alike)
        ∙ ap (λ (l : List ℕ). stripe_from s.m s.size l k'.blocks) names)

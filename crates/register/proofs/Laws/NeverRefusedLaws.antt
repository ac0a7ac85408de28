-- Laws of `specs/NeverRefused`.
use mathlib.Core.Path.{◌≡◌, refl, sym, ap, subst, ◌∙◌}
use mathlib.Core.Bool.{Bool, true, false, cond, ◌&&◌}
use mathlib.Core.List.{List, [], ◌∷◌}
use Prim.Native.Nat.{ℕ, zero, suc, ◌*◌, ◌≤◌, ◌<◌}
use native.Mathlib.Omega.{arith}
use lib.Dec.{ltb, eqb}
use lib.ListN.{length, take, length-replicate}
use borrow.Author.Tests.{eq-eqb, eqb-true, eqb-false, le-leb}
use Rattle.message.specs.Kinds.{read_kind, order_kind, order_block_kind, block_targets}
use Rattle.settings.specs.Ranges.{bricks_in_range, size_in_range, capacity_in_range, stripes_in_range, in_range, code_refusal, stripe_count_refusal, quorum}
use Rattle.byte_lists.proofs.Laws.BoolLaws.{and_left, and_right}
use Rattle.settings.specs.Refusal.{passed, first_refusal}
use Rattle.settings.specs.Times.{max_count, last_coordinator, draw_of, coordinator_of}
use Rattle.settings.specs.declared.Clock.{Clock}
use Rattle.settings.specs.declared.Settings.{Settings}
use Rattle.byte_lists.specs.Little.{are_bytes}
use Rattle.message.specs.Flags.{members}
use Rattle.message.specs.declared.Message.{Message}
use Rattle.message.specs.declared.Reply.{Reply}
use Rattle.interpolate.proofs.Laws.BlockLaws.{length_blocks_at}
use Rattle.erasure.specs.Code.{decoded_of, block_of, blocks_of, with_block}
use Rattle.erasure.proofs.Laws.BlockOfLaws.{block_within, block_length, with_block_length}
use Rattle.image.proofs.Laws.LogPlaceLaws.{lowest_held_lem}
use Rattle.image.specs.Parse.{parse}
use Rattle.image.proofs.Laws.ParseLaws.{parse_image, range_of}
use Rattle.volume.specs.Rows.{row_size, row_outcome}
use Rattle.volume.proofs.Laws.RowLaws.{fresh_row_length}
use Rattle.volume.proofs.Laws.RowTheoremLaws.{row_keeps_its_length}
use Rattle.coord_record.specs.Records.{no_bricks, geometry_of, idle_kind, reading_kind, writing_kind, reading_block_kind, writing_block_kind, on_block, idle_with}
use Rattle.coord_record.specs.declared.Op.{Op}
use Rattle.coord_record.specs.declared.Coordinator.{Coordinator}
use Rattle.coord_record.specs.Sound.{same_geometry}
use Rattle.coord_record.proofs.Laws.SoundPartLaws.{sound_parts}
use Rattle.coord_tally.specs.Counting.{target_row, target_flags}
use Rattle.coord_decide.specs.Deciding.{decided}
use Rattle.coord_decide.specs.declared.Decision.{Decision}
use Rattle.coord_decide.specs.declared.Decision.TheVariants.{Abort, Give, Look, Store, Modify, Recover, Finish}
use Rattle.coord_apply.proofs.Laws.ActLaws.{recover_either}
use Rattle.coord_blocks.specs.Blocks.{stripe_from, given_stripe, stored_stripe}
use Rattle.coord_apply.specs.Acts.{sending_first, next_op, opened, next_round, modifying, ending, acted}
use Rattle.coord_apply.specs.Acts.{with_tally, counting, waiting_or, first_op, starting}
use Rattle.coord_blocks.proofs.Laws.OneBlockLaws.{write_within}
use Rattle.coord_apply.specs.Answers.{Buffered, Went, Step, refused, went, after_checks, nothing_seen, cut_seen, answer_of}
use Rattle.coord_refusals.specs.Checks.{record_checks, start_checks, write_refusal, read_refusal, write_block_refusal, read_block_refusal, crash_refusal}
use Rattle.coordinator.specs.Routines.{take_step, crashed, crash_step, drawn_then, write_step, read_step, write_block_step, read_block_step}
use Rattle.coordinator.proofs.Laws.RoutineLaws.{place_fits, write_lengths, write_block_passed}
use Rattle.erasure.proofs.Laws.BlockOfLaws.{with_block_length}
use Rattle.coord_laws.proofs.Laws.StepRunLaws.{ReplyTaken, took}
use Rattle.coord_laws.proofs.Laws.StripeLaws.{write_starts, read_starts, write_block_starts, read_block_starts, take_keeps_stripe, taken_runs, crash_keeps_stripe}
use Rattle.coord_laws.specs.Soundness.{Good}
use Rattle.coord_laws.proofs.Laws.SoundnessLaws.{idle_good, passes, same_went, drawn_went, write_good, read_good, write_block_good, read_block_good, take_good}
use Rattle.coord_laws.proofs.Laws.SoundnessLaws.{crash_good, good_sound}
use Rattle.register.specs.Runs.{Item, message, reply, World, idle, fresh_set, Left, Event, start_write, start_read, start_write_block, start_read_block}
use Rattle.register.specs.Runs.{arrives, crashes, goes_down, comes_up, Moved, unmoved, put_at, coordinated, received, arriving, arriving_at, standing}
use Rattle.register.specs.Runs.{leaving, left_by, step, next_moved, run_from, run}
use Rattle.register.proofs.Laws.Invariant.{view}
use Rattle.register.proofs.Laws.BrickEvent.{either, put_here, put_there}
use Rattle.register.proofs.Laws.CrashEvent.{left_by_lem}
use Rattle.register.proofs.Laws.TheoremProof.{run_holds}
use Rattle.register.specs.NeverRefused.{Fine, ImagesOpen, RowsLong, RecordsOpen, CrashesAccepted}

-- its buffers
abbrev pub Long : Settings → Buffered → Type 0
Long s k = (length k.blocks ≡ s.n * s.size) × (length k.stripe ≡ s.m * s.size)

-- without an operation, a record is that of its clock alone
abbrev pub Rests : Coordinator → Type 0
Rests c = c.op.kind ≡ idle_kind → c ≡ idle_with c.geometry c.clock

-- What a run keeps of coordinator c, whatever stripe it is at.
pub record Known (s : Settings) (c : ℕ) (k : Buffered) : Type 0 where
  pub number : k.state.clock.coordinator ≡ c
  pub good : Good s.n s.m s.size s.stripes k.state
  pub long : Long s k
  pub rests : Rests k.state

fine : (s : Settings) (c : ℕ) (k : Buffered) → Known s c k → Fine s k
fine s c k h =
    record { sound-is = good_sound s.n s.m s.size s.stripes k.state h.good; blocks-long = h.long.0; stripe-long = h.long.1 }

-- what a decision leaves in the buffers
decoded_long : (m size : ℕ) (row blocks : List ℕ) → length (stripe_from m size row blocks) ≡ m * size
unfolding stripe_from decoded_of
decoded_long m size row blocks = length_blocks_at _ size (blocks_of size blocks row) m

-- block j of an operation on one block is one of m
abbrev OneOfThem : Settings → Op → Type 0
OneOfThem s op = on_block op.kind ≡ true → op.first < s.m

given_long : (s : Settings) (op : Op) (blocks stripe : List ℕ) → s.m ≤ s.n → OneOfThem s op → length blocks ≡ s.n * s.size → length stripe ≡ s.m * s.size
    → length (given_stripe s.n s.m s.size op blocks stripe) ≡ s.m * s.size
unfolding given_stripe
given_long s op blocks stripe few low eb es = go (on_block op.kind) refl
  where
    go : (a : Bool) → on_block op.kind ≡ a
        → length
        (cond a (with_block s.size stripe op.first (block_of s.size blocks op.first)) (stripe_from s.m s.size (take s.m (target_row s.n s.m op.first)) blocks))
        ≡ s.m * s.size
    go true e =
        let j = low e in
        with_block_length s.size stripe op.first (block_of s.size blocks op.first)
        (block_length s.size blocks op.first (block_within s.n s.size op.first blocks eb (omega (arith, j, few))))
        (block_within s.m s.size op.first stripe es j)
        ∙ es
    go false e = decoded_long s.m s.size _ blocks

stored_long : (s : Settings) (op : Op) (stripe decoded : List ℕ) → OneOfThem s op → length stripe ≡ s.m * s.size → length decoded ≡ s.m * s.size
    → length (stored_stripe s.size op stripe decoded) ≡ s.m * s.size
unfolding stored_stripe
stored_long s op stripe decoded low es ed = go (eqb op.kind writing_block_kind) refl
  where
    go : (a : Bool) → eqb op.kind writing_block_kind ≡ a
        → length (cond a (with_block s.size decoded op.first (block_of s.size stripe op.first)) decoded) ≡ s.m * s.size
    go true e =
        let k = eqb-true op.kind writing_block_kind e in
        with_block_length s.size decoded op.first (block_of s.size stripe op.first)
        (block_length s.size stripe op.first (write_within s.m s.size (length stripe) op low es k))
        (write_within s.m s.size (length decoded) op low ed k)
        ∙ ed
    go false e = ed

module _ (s : Settings) (k : Buffered) (few : s.m ≤ s.n) (low : OneOfThem s k.state.op) (l : Long s k) where
  acted_long : (d : Decision) → Long s (acted s.n s.m s.size k d).next
  unfolding acted ending sending_first next_round modifying
  acted_long Abort = l
  acted_long Give = (l.0, given_long s k.state.op k.blocks k.stripe few low l.0 l.1)
  acted_long (Look max) = l
  acted_long Store = l
  acted_long (Modify time) = l
  acted_long (Recover time) =
      recover_either s.n s.m s.size k time (λ (w : Went). Long s w.next)
      (l.0, stored_long s k.state.op k.stripe _ low l.1 (decoded_long s.m s.size _ k.blocks)) l
  acted_long Finish = l

  waiting_long : Long s (waiting_or s.n s.m s.size k).next
  unfolding waiting_or
  waiting_long = go (ltb (members k.state.tally.counted s.n) (quorum s.n s.m))
    where
      go : (a : Bool)
          → Long s
          (cond a (record { next = k; sent = []; seen = nothing_seen }) (acted s.n s.m s.size k (decided s.n s.m k.state.op k.state.tally))).next
      go true = l
      go false = acted_long (decided s.n s.m k.state.op k.state.tally)

-- a reply's block in its place
pub counting_long : (s : Settings) (k : Buffered) (r : Reply) (block : List ℕ) (coded : ℕ) (w : Went) → ReplyTaken s.n s.m s.size s.stripes k r block coded w
    → Long s (counting s.size k r block)
unfolding counting
counting_long s k r block coded w t = (go r.held refl, t.takes.stripe-length)
  where
    go : (a : Bool) → r.held ≡ a → length (cond a (with_block s.size k.blocks r.brick block) k.blocks) ≡ s.n * s.size
    go true e =
        with_block_length s.size k.blocks r.brick block (t.takes.block-length e) (place_fits _ _ _ _ _ _ _ _ _ _ t.takes) ∙ t.takes.blocks-length
    go false e = t.takes.blocks-length

-- what a decision leaves where an operation ran
acted_rests : (n m size : ℕ) (k : Buffered) → (k.state.op.kind ≡ idle_kind → ⊥) → (d : Decision) → Rests (acted n m size k d).next.state
unfolding acted ending sending_first next_round modifying opened next_op idle_with
acted_rests n m size k h Abort = λ e. refl
acted_rests n m size k h Give = λ e. refl
acted_rests n m size k h (Look max) = λ e. absurd (h e)
acted_rests n m size k h Store = λ e. absurd (h e)
acted_rests n m size k h (Modify time) = λ e. absurd (h e)
acted_rests n m size k h (Recover time) =
    recover_either n m size k time (λ (w : Went). Rests w.next.state) (λ e. absurd (h e)) (λ e. refl)
acted_rests n m size k h Finish = λ e. refl

waiting_rests : (n m size : ℕ) (k : Buffered) → (k.state.op.kind ≡ idle_kind → ⊥) → Rests (waiting_or n m size k).next.state
unfolding waiting_or
waiting_rests n m size k h = go (ltb (members k.state.tally.counted n) (quorum n m))
  where
    go : (a : Bool)
        → Rests (cond a (record { next = k; sent = []; seen = nothing_seen }) (acted n m size k (decided n m k.state.op k.state.tally))).next.state
    go true = λ e. absurd (h e)
    go false = acted_rests n m size k h (decided n m k.state.op k.state.tally)

-- a step that keeps what is known of its coordinator
abbrev Keeps : Settings → ℕ → Step → Type 0
Keeps s c p = (w : Went) → p ≡ went w → Known s c w.next

module _ (s : Settings) (c : ℕ) (k : Buffered) (h : Known s c k) where
  write_keeps : (number reading : ℕ) (content : List ℕ) → Keeps s c (write_step s.n s.m s.size s.stripes k number reading content)
  unfolding write_step starting
  write_keeps number reading content w e =
      let begin : ℕ → Clock → Went = λ time clock. starting k clock (first_op writing_kind order_kind number time 0) content no_bricks in
      let refusal = write_refusal s.n s.m s.size s.stripes k.state number reading (length content) (length k.stripe) in
      let p = passes refusal (drawn_then (draw_of k.state.clock reading) begin) w e in
      let o = write_starts s.n s.m s.size s.stripes k number reading content w e in
      record {
        number = o.same_number ∙ h.number;
        good = write_good s.n s.m s.size s.stripes k number reading content w e;
        long =
            subst (λ (v : Went). Long s v.next) (drawn_went (draw_of k.state.clock reading) begin w p.1).3 (
              h.long.0,
              write_lengths s.n s.m s.size s.stripes k.state number reading (length content) (length k.stripe) refusal refl p.0 ∙ h.long.1,
            );
        rests = λ q. absurd (o.now-runs q);
      }

  read_keeps : (number reading first : ℕ) → Keeps s c (read_step s.n s.m s.size s.stripes k number reading first)
  unfolding read_step starting
  read_keeps number reading first w e =
      let begin : ℕ → Clock → Went =
      λ time clock. starting k clock (first_op reading_kind read_kind number time first) k.stripe (target_flags s.n s.m first) in
      let p = passes (read_refusal s.n s.m s.size s.stripes k.state number reading first) (drawn_then (draw_of k.state.clock reading) begin) w e in
      let o = read_starts s.n s.m s.size s.stripes k number reading first w e in
      record {
        number = o.same_number ∙ h.number;
        good = read_good s.n s.m s.size s.stripes k number reading first w e;
        long = subst (λ (v : Went). Long s v.next) (drawn_went (draw_of k.state.clock reading) begin w p.1).3 h.long;
        rests = λ q. absurd (o.now-runs q);
      }

  write_block_keeps : (number reading block : ℕ) (content : List ℕ)
      → Keeps s c (write_block_step s.n s.m s.size s.stripes k number reading block content)
  unfolding write_block_step write_block_refusal starting
  write_block_keeps number reading block content w e =
      let stripe' = with_block s.size k.stripe block content in
      let begin : ℕ → Clock → Went = λ time clock. starting k clock (first_op writing_block_kind order_block_kind number time block) stripe' no_bricks in
      let refusal = write_block_refusal s.n s.m s.size s.stripes k.state number reading block (length content) (length k.stripe) in
      let p = passes refusal (drawn_then (draw_of k.state.clock reading) begin) w e in
      let q = write_block_passed s.n s.m s.size s.stripes k.state number block _ _ refusal (start_checks k.state reading) refl p.0 in
      let o = write_block_starts s.n s.m s.size s.stripes k number reading block content w e in
      record {
        number = o.same_number ∙ h.number;
        good = write_block_good s.n s.m s.size s.stripes k number reading block content w e;
        long =
            subst (λ (v : Went). Long s v.next) (drawn_went (draw_of k.state.clock reading) begin w p.1).3 (
              h.long.0,
              with_block_length s.size k.stripe block content q.bytes-length
                  (block_within s.m s.size block k.stripe q.stripe-length q.block-low)
                  ∙ h.long.1,
            );
        rests = λ q. absurd (o.now-runs q);
      }

  read_block_keeps : (number reading block : ℕ) → Keeps s c (read_block_step s.n s.m s.size s.stripes k number reading block)
  unfolding read_block_step starting
  read_block_keeps number reading block w e =
      let targets = target_flags s.n block_targets block in
      let begin : ℕ → Clock → Went = λ time clock. starting k clock (first_op reading_block_kind read_kind number time block) k.stripe targets in
      let refusal = read_block_refusal s.n s.m s.size s.stripes k.state number reading block in
      let p = passes refusal (drawn_then (draw_of k.state.clock reading) begin) w e in
      let o = read_block_starts s.n s.m s.size s.stripes k number reading block w e in
      record {
        number = o.same_number ∙ h.number;
        good = read_block_good s.n s.m s.size s.stripes k number reading block w e;
        long = subst (λ (v : Went). Long s v.next) (drawn_went (draw_of k.state.clock reading) begin w p.1).3 h.long;
        rests = λ q. absurd (o.now-runs q);
      }

  take_keeps : (r : Reply) (block : List ℕ) (coded : ℕ) → Keeps s c (take_step s.n s.m s.size s.stripes k r block coded)
  unfolding counting with_tally
  take_keeps r block coded w e =
      let t = took s.n s.m s.size s.stripes k r block coded w e in
      let o = take_keeps_stripe s.n s.m s.size s.stripes k r block coded w e in
      record {
        number = ap (λ (x : Clock). x.coordinator) o.same-clock ∙ h.number;
        good = take_good s.n s.m s.size s.stripes k r block coded w h.good e;
        long =
            subst (λ (v : Went). Long s v.next) t.is
            (waiting_long s (counting s.size k r block) t.takes.range.m-high t.takes.parts.block-low (counting_long s k r block coded w t));
        rests =
            subst (λ (v : Went). Rests v.next.state) t.is
            (waiting_rests s.n s.m s.size (counting s.size k r block) (taken_runs s.n s.m s.size s.stripes k r block coded w e));
      }

  crash_keeps : Keeps s c (crash_step s.n s.m s.size s.stripes k)
  unfolding crash_step crashed ending idle_with
  crash_keeps w e =
      let o = crash_keeps_stripe s.n s.m s.size s.stripes k w e in
      let is = same_went (crashed s.n k) w (passes (crash_refusal s.n s.m s.size s.stripes k.state) (went (crashed s.n k)) w e).1 in
      record {
        number = ap (λ (x : Clock). x.coordinator) o.same-clock ∙ h.number;
        good = crash_good s.n s.m s.size s.stripes k w h.good e;
        long = subst (λ (v : Went). Long s v.next) is (go-long (eqb k.state.op.kind idle_kind));
        rests = subst (λ (v : Went). Rests v.next.state) is (go-rests (eqb k.state.op.kind idle_kind));
      }
    where
      go-long : (a : Bool) → Long s (cond a (record { next = k; sent = []; seen = nothing_seen }) (ending s.n k k.stripe [] cut_seen no_bricks)).next
      go-long true = h.long
      go-long false = h.long

      go-rests : (a : Bool) → Rests (cond a (record { next = k; sent = []; seen = nothing_seen }) (ending s.n k k.stripe [] cut_seen no_bricks)).next.state
      go-rests true = h.rests
      go-rests false = λ e. refl

-- a crash: the buffers keep their lengths
left_known : (s : Settings) (left : Left) (c : ℕ) (k : Buffered) → Known s c k → Known s c (leaving s left k)
left_known s left c k f =
    left_by_lem s left k (Known s c) f (λ blocks stripe eb es. record { number = f.number; good = f.good; long = (eb, es); rests = f.rests })

left_keeps : (s : Settings) (left : Left) (c : ℕ) (p : Step) → Keeps s c p → Keeps s c (left_by s left p)
unfolding left_by
left_keeps s left c (refused number) h w e = absurd (let z : ◌≡◌ {A = ℕ} 0 1 = cc in omega arith)
left_keeps s left c (went q) h w e = subst (λ (v : Went). Known s c v.next) (same_went _ w e) (left_known s left c q.next (h q refl))

-- each coordinator of the world
abbrev pub AllKnown : (s : Settings) → World → Type 0
AllKnown s w = (c : ℕ) → c ≤ last_coordinator → Known s c (w.coordinators c)

module _ (s : Settings) where
  coordinated_known : (w : World) (c : ℕ) (p : Step) → AllKnown s w → (c ≤ last_coordinator → Keeps s c p) → AllKnown s (coordinated s w c p).world
  unfolding coordinated unmoved
  coordinated_known w c (refused number) f h = f
  coordinated_known w c (went q) f h = λ c' l. at c' l (eqb c' c) refl
    where
      at : (c' : ℕ) → c' ≤ last_coordinator → (a : Bool) → eqb c' c ≡ a → Known s c' (put_at w.coordinators c q.next c')
      at c' l true e =
          let z = eqb-true c' c e in
          subst (λ (j : ℕ). Known s j (put_at w.coordinators c q.next j)) (sym z)
          (subst (Known s c) (sym (put_here w.coordinators c q.next)) (h (omega (arith, z)) q refl))
      at c' l false e = subst (Known s c') (sym (put_there w.coordinators c q.next c' (eqb-false c' c e))) (f c' l)

  module _ (w : World) (f : AllKnown s w) where
    item_known : (z : Item) → AllKnown s (arriving s w z).world
    unfolding arriving received unmoved
    item_known (message b msg block old) = either (λ (m : Moved s). AllKnown s m.world) (w.up b) _ _ f f
    item_known (reply a block) =
        let c = coordinator_of a.time in coordinated_known w c _ f (λ l. take_keeps s c (w.coordinators c) (f c l) a block (s.n * s.size))

    place_known : (l : List Item) (k : ℕ) → AllKnown s (arriving_at s w l k).world
    unfolding arriving_at unmoved
    place_known [] k = f
    place_known (z ∷ l) zero = item_known z
    place_known (z ∷ l) (suc k) = place_known l k

    stand_known : (b : ℕ) (how : Bool) → AllKnown s (standing s w b how).world
    unfolding standing unmoved
    stand_known b how = either (λ (m : Moved s). AllKnown s m.world) (ltb b s.n) _ _ f f

    pub step_known : (e : Event) → AllKnown s (step s w e).world
    unfolding step unmoved
    step_known (start_write c number reading content) =
        either (λ (m : Moved s). AllKnown s m.world) (are_bytes content) _ _
        (coordinated_known w c _ f (λ l. write_keeps s c (w.coordinators c) (f c l) number reading content)) f
    step_known (start_read c number reading first) =
        coordinated_known w c _ f (λ l. read_keeps s c (w.coordinators c) (f c l) number reading first)
    step_known (start_write_block c number reading block content) =
        either (λ (m : Moved s). AllKnown s m.world) (are_bytes content) _ _
        (coordinated_known w c _ f (λ l. write_block_keeps s c (w.coordinators c) (f c l) number reading block content)) f
    step_known (start_read_block c number reading block) =
        coordinated_known w c _ f (λ l. read_block_keeps s c (w.coordinators c) (f c l) number reading block)
    step_known (arrives k) = place_known w.sent k
    step_known (crashes c left) =
        coordinated_known w c _ f (λ l. left_keeps s left c _ (crash_keeps s c (w.coordinators c) (f c l)))
    step_known (goes_down b) = stand_known b false
    step_known (comes_up b) = stand_known b true

  from_known : (r : Moved s) → AllKnown s r.world → (events : List Event) → AllKnown s (run_from s r events).world
  unfolding run_from next_moved
  from_known r f [] = f
  from_known r f (e ∷ events) = from_known (next_moved s r e) (step_known r.world f e) events

own_geometry : (s : Settings) → same_geometry s.n s.m s.size s.stripes (geometry_of s) ≡ true
unfolding same_geometry geometry_of
own_geometry s = rw (eq-eqb s.n s.n refl, eq-eqb s.m s.m refl, eq-eqb s.size s.size refl, eq-eqb s.stripes s.stripes refl)

pub run_known : (s : Settings) → in_range s ≡ true → (events : List Event) → AllKnown s (run s events).world
unfolding run fresh_set idle unmoved max_count
run_known s e =
    let g = range_of s e in
    from_known s (unmoved s (fresh_set s))
    (λ c l. record {
      number = unfold idle_with in refl;
      good =
          idle_good s.n s.m s.size s.stripes (geometry_of s) (record { coordinator = c; last = 0 }) g.code g.stripes-low (own_geometry s) l (omega arith);
      long = (length-replicate (s.n * s.size) 0, length-replicate (s.m * s.size) 0);
      rests = λ q. unfold idle_with in refl;
    })

pub records_open : RecordsOpen
records_open s e events c l = fine s c ((run s events).world.coordinators c) (run_known s e events c l)

pub code_accepted : (s : Settings) → in_range s ≡ true → code_refusal s.n s.m s.size ≡ passed
unfolding code_refusal in_range
code_accepted s e =
    rw
    (and_left (bricks_in_range s.n s.m && size_in_range s.size) (capacity_in_range s.capacity)
    (and_left (bricks_in_range s.n s.m && size_in_range s.size && capacity_in_range s.capacity) (stripes_in_range s.stripes) e)) refl

pub stripes_accepted : (s : Settings) → in_range s ≡ true → stripe_count_refusal s.stripes ≡ passed
unfolding stripe_count_refusal in_range
stripes_accepted s e =
    rw (and_right (bricks_in_range s.n s.m && size_in_range s.size && capacity_in_range s.capacity) (stripes_in_range s.stripes) e) refl

crash_accepted : (s : Settings) (k : Buffered) → in_range s ≡ true → Fine s k
    → (answer_of k.state (crash_step s.n s.m s.size s.stripes k)).refusal ≡ passed
unfolding crash_step crash_refusal record_checks first_refusal after_checks answer_of
crash_accepted s k e f =
    let p = sound_parts s.n s.m s.size s.stripes k.state f.sound-is in
    rw (code_accepted s e, stripes_accepted s e, le-leb k.state.clock.coordinator last_coordinator p.number-low, f.sound-is) refl

pub crashes_accepted : CrashesAccepted
crashes_accepted s e events c l = crash_accepted s ((run s events).world.coordinators c) e (records_open s e events c l)

pub images_open : ImagesOpen
unfolding view
images_open s e events stripe b h l =
    let w = (run_holds s (range_of s e) stripe h events).1.bricks b l in
    (w.state, ap (parse s b) w.saved ∙ parse_image s b w.state e l w.sound, lowest_held_lem s w.state w.sound)

-- the row of each brick
abbrev RowsRight : (s : Settings) → World → Type 0
RowsRight s w = (b : ℕ) → b < s.n → length (w.images b) ≡ row_size s

module _ (s : Settings) (w : World) (f : RowsRight s w) where
  coordinated_rows : (c : ℕ) (p : Step) → RowsRight s (coordinated s w c p).world
  unfolding coordinated unmoved
  coordinated_rows c (refused number) = f
  coordinated_rows c (went q) = f

  received_rows : (b : ℕ) (msg : Message) (block old out : List ℕ) → RowsRight s (received s w b (row_outcome s b (w.images b) msg block old out)).world
  unfolding received
  received_rows b msg block old out = λ j l. at j l (eqb j b) refl
    where
      later : List ℕ
      later = (row_outcome s b (w.images b) msg block old out).image

      at : (j : ℕ) → j < s.n → (a : Bool) → eqb j b ≡ a → length (put_at w.images b later j) ≡ row_size s
      at j l true e =
          let z = eqb-true j b e in
          ap (λ (i : ℕ). length (put_at w.images b later i)) z
          ∙ ap (λ (row : List ℕ). length row) (put_here w.images b later)
          ∙ row_keeps_its_length s b (w.images b) msg block old out
          ∙ f b (omega (arith, z, l))
      at j l false e = ap (λ (row : List ℕ). length row) (put_there w.images b later j (eqb-false j b e)) ∙ f j l

  item_rows : (z : Item) → RowsRight s (arriving s w z).world
  unfolding arriving unmoved
  item_rows (message b msg block old) = either (λ (m : Moved s). RowsRight s m.world) (w.up b) _ _ (received_rows b msg block old _) f
  item_rows (reply a block) = coordinated_rows (coordinator_of a.time) _

  place_rows : (l : List Item) (k : ℕ) → RowsRight s (arriving_at s w l k).world
  unfolding arriving_at unmoved
  place_rows [] k = f
  place_rows (z ∷ l) zero = item_rows z
  place_rows (z ∷ l) (suc k) = place_rows l k

  stand_rows : (b : ℕ) (how : Bool) → RowsRight s (standing s w b how).world
  unfolding standing unmoved
  stand_rows b how = either (λ (m : Moved s). RowsRight s m.world) (ltb b s.n) _ _ f f

  step_rows : (e : Event) → RowsRight s (step s w e).world
  unfolding step unmoved
  step_rows (start_write c number reading content) = either (λ (m : Moved s). RowsRight s m.world) (are_bytes content) _ _ (coordinated_rows c _) f
  step_rows (start_read c number reading first) = coordinated_rows c _
  step_rows (start_write_block c number reading block content) = either (λ (m : Moved s). RowsRight s m.world) (are_bytes content) _ _ (coordinated_rows c _) f
  step_rows (start_read_block c number reading block) = coordinated_rows c _
  step_rows (arrives k) = place_rows w.sent k
  step_rows (crashes c left) = coordinated_rows c _
  step_rows (goes_down b) = stand_rows b false
  step_rows (comes_up b) = stand_rows b true

from_rows : (s : Settings) (r : Moved s) → RowsRight s r.world → (events : List Event) → RowsRight s (run_from s r events).world
unfolding run_from next_moved
from_rows s r f [] = f
from_rows s r f (e ∷ events) = from_rows s (next_moved s r e) (step_rows s r.world f e) events

pub rows_long : RowsLong
unfolding run fresh_set unmoved
rows_long s e events = from_rows s (unmoved s (fresh_set s)) (λ b l. fresh_row_length s (range_of s e) b) events

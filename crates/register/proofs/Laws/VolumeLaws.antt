-- Stripes do not touch each other; a coordinator has one clock and one operation for all of them.
use mathlib.Core.Path.{◌≡◌, refl, sym, ap, subst, ◌∙◌}
use mathlib.Core.Bool.{Bool, true, false, cond}
use mathlib.Core.Logic.{◌≢◌, ◌⊎◌, inl, inr}
use mathlib.Core.List.Memᴰ
use mathlib.Core.List.{List, [], ◌∷◌, ◌++◌, append-nil}
use Prim.Native.Nat.{ℕ, zero, suc, ◌*◌, ◌≤◌, ◌<◌}
use native.Mathlib.Omega.{arith}
use lib.Dec.{eqb, ltb}
use lib.ListN.{length, replicate}
use borrow.Author.Tests.{eqb-true, eqb-false, eq-eqb, ne_eqb, ltb-true, ltb-false}
use Rattle.settings.specs.Refusal.{passed, refuse_unless, first_refusal, busy}
use Rattle.settings.proofs.Laws.RefusalLaws.{first_pass, first_alone, passed_first, passed_rest}
use Rattle.coord_record.specs.declared.Coordinator.{Coordinator}
use Rattle.settings.specs.Ranges.{SettingsRange, code_refusal, stripe_count_refusal}
use Rattle.settings.specs.Times.{coordinator_of, draw_of}
use Rattle.settings.specs.declared.Clock.{Clock}
use Rattle.settings.specs.declared.Settings.{Settings}
use Rattle.byte_lists.specs.Little.{are_bytes}
use Rattle.message.specs.Kinds.{read_kind, order_kind, order_block_kind}
use Rattle.message.specs.declared.Message.{Message}
use Rattle.brick.specs.Receive.{Outcome}
use Rattle.image.proofs.Laws.ParseLaws.{range_of}
use Rattle.coord_record.specs.Records.{idle_kind, reading_kind, writing_kind, reading_block_kind, writing_block_kind, no_bricks}
use Rattle.coord_record.specs.declared.Op.{Op}
use Rattle.coord_apply.specs.Acts.{first_op, starting}
use Rattle.coord_apply.specs.Answers.{Buffered, Broadcast, Went, Step, refused, went, after_checks, answer_of, nothing_seen, began_seen}
use Rattle.coord_apply.specs.declared.Notice.{Notice}
use Rattle.coord_refusals.specs.Checks.{stripe_checks, write_checks, read_checks, block_checks, write_block_checks, read_block_checks, start_checks}
use Rattle.coord_refusals.specs.Checks.{write_refusal, read_refusal, write_block_refusal, read_block_refusal, crash_refusal}
use Rattle.coord_refusals.proofs.Laws.RefusedLaws.{record_passes}
use Rattle.coord_record.proofs.Laws.SoundPartLaws.{sound_parts}
use Rattle.coordinator.specs.Routines.{drawn_then, take_step, crashed, crash_step, write_step, read_step, write_block_step, read_block_step}
use Rattle.coord_laws.proofs.Laws.SoundnessLaws.{passes, same_went, drawn_went}
use Rattle.coord_laws.proofs.Laws.StripeLaws.{KeepsStripe, StartsOn, take_keeps_stripe, crash_keeps_stripe, write_starts, read_starts, write_block_starts}
use Rattle.coord_laws.proofs.Laws.StripeLaws.{read_block_starts}
use Rattle.coord_laws.proofs.Laws.StepRunLaws.{took}
use Rattle.volume.specs.Rows.{image_at, row_outcome}
use Rattle.volume.proofs.Laws.RowTheoremLaws.{other_stripes_stay}
use Rattle.order.specs.Claim.{Seen, ◌∈◌}
use Rattle.settings.specs.Times.{Drawn}
use Rattle.order.specs.Valid.{Began}
use Rattle.order.proofs.Laws.SeenLaws.{seen_began_in}
use Rattle.register.specs.Runs.{plain, Item, message, reply, World, Event, start_write, start_read, start_write_block, start_read_block, arrives}
use Rattle.register.specs.Runs.{crashes, goes_down, comes_up, Left, Moved, unmoved, fresh_set}
use Rattle.register.specs.Runs.{put_at, on_stripe, seen_of, broadcasts, replied_with, coordinated, received, arriving, arriving_at, standing, leaving, left_by, step, next_moved, run_from, run}
use Rattle.register.specs.Volumes.{message_on, changes_image, StripesApart, item_stripe, arrival_stripe, sent_at, SentOnItsStripe}
use Rattle.register.specs.Volumes.{NothingSeenPastTheStripes, OneClock, write_below_busy, read_below_busy}
use Rattle.register.specs.Volumes.{write_block_below_busy, read_block_below_busy, OneOperationAtATime}
use Rattle.register.specs.RefusedEvents.{event_number}
use Rattle.register.proofs.Laws.BeganLaws.{shown_told, crash_begins_none, crash_sends_none}
use Rattle.register.proofs.Laws.BrickEvent.{either}
use Rattle.register.proofs.Laws.BrickViewLaws.{row_replies_on}
use Rattle.register.proofs.Laws.Invariant.{Hist, item_on, view, Inv}
use Rattle.register.proofs.Laws.StartEvent.{higher_time}
use Rattle.register.proofs.Laws.StripeEvent.{own_clock}
use Rattle.register.proofs.Laws.StripeViewLaws.{broadcast_stripe, shown_there, shown_none, nothing_shown}
use Rattle.register.proofs.Laws.TheoremProof.{run_holds}

-- AN EVENT ON ONE STRIPE CHANGES NO BYTE OF ANOTHER'S IMAGES.
module _ (s : Settings) (w : World) (k b : ℕ) where
  -- the image of stripe k at brick b is as it was
  Same : Moved s → Type 0
  Same m = image_at s k (m.world.images b) ≡ image_at s k (w.images b)

  same_unmoved : Same (unmoved s w)
  unfolding Same unmoved
  same_unmoved = refl

  same_coordinated : (c : ℕ) (p : Step) → Same (coordinated s w c p)
  unfolding Same coordinated unmoved
  same_coordinated c (refused number) = refl
  same_coordinated c (went g) = refl

  same_arriving : (i : Item) (is : List Item) → message_on (i ∷ is) zero k ≡ false → Same (arriving s w i)
  unfolding arriving message_on
  same_arriving (reply r block) is e = same_coordinated (coordinator_of r.time) _
  same_arriving (message d msg block old) is e = either Same (w.up d) _ _ moved same_unmoved
    where
      out : List ℕ
      out = replicate s.size 0

      moved : Same (received s w d (row_outcome s d (w.images d) msg block old out))
      moved = unfold Same received put_at in go (eqb b d) refl
        where
          go : (a : Bool) → eqb b d ≡ a
              → image_at s k (cond a (row_outcome s d (w.images d) msg block old out).image (w.images b)) ≡ image_at s k (w.images b)
          go true q =
              other_stripes_stay s d (w.images d) msg block old out k (λ z. eqb-false msg.stripe k e (sym z))
              ∙ ap (λ (j : ℕ). image_at s k (w.images j)) (sym (eqb-true b d q))
          go false q = refl

  same_at : (l : List Item) (p : ℕ) → message_on l p k ≡ false → Same (arriving_at s w l p)
  unfolding arriving_at message_on
  same_at [] p e = same_unmoved
  same_at (i ∷ l) zero e = same_arriving i l (unfold message_on in e)
  same_at (message d msg block old ∷ l) (suc p) e = same_at l p e
  same_at (reply r block ∷ l) (suc p) e = same_at l p e

  same_standing : (d : ℕ) (how : Bool) → Same (standing s w d how)
  unfolding standing
  same_standing d how = either Same (ltb d s.n) _ _ (unfold Same in refl) same_unmoved

  same_step : (e : Event) → changes_image w e k ≡ false → Same (step s w e)
  unfolding step changes_image
  same_step (start_write c number reading content) e = either Same (are_bytes content) _ _ (same_coordinated c _) same_unmoved
  same_step (start_read c number reading first) e = same_coordinated c _
  same_step (start_write_block c number reading block content) e = either Same (are_bytes content) _ _ (same_coordinated c _) same_unmoved
  same_step (start_read_block c number reading block) e = same_coordinated c _
  same_step (arrives p) e = same_at w.sent p e
  same_step (crashes c left) e = same_coordinated c _
  same_step (goes_down d) e = same_standing d false
  same_step (comes_up d) e = same_standing d true

pub stripes_apart : StripesApart
stripes_apart s w e k b h = unfold Same in same_step s w k b e h

-- WHAT AN EVENT SENDS NAMES ITS STRIPE.
on_stripe_lem : (k : ℕ) (i : Item) → item_on k i ≡ true → eqb (item_stripe i) k ≡ true
unfolding item_on item_stripe
on_stripe_lem k (message b msg block old) e = e
on_stripe_lem k (reply r block) e = e

module _ (s : Settings) (w : World) where
  -- what is sent beside what was sent before is so
  SentSo : (Item → Bool) → Moved s → Type 0
  SentSo p m = (new : List Item) × (m.world.sent ≡ w.sent ++ new) × ((i : Item) → i ∈ new → p i ≡ true)

  -- of stripe k
  SentOn : ℕ → Moved s → Type 0
  SentOn k m = SentSo (λ (i : Item). eqb (item_stripe i) k) m

  none_sent : (p : Item → Bool) (m : Moved s) → m.world.sent ≡ w.sent → SentSo p m
  unfolding SentSo
  none_sent p m e = ([], e ∙ sym (append-nil w.sent), λ i n. absurd (Memᴰ.not-nil n))

  sent_unmoved : (p : Item → Bool) → SentSo p (unmoved s w)
  sent_unmoved p = none_sent p (unmoved s w) (unfold unmoved in refl)

  sent_step : (k c : ℕ) (q : Step) → ((g : Went) → q ≡ went g → (z : Broadcast) → z ∈ g.sent → z.message.stripe ≡ k) → SentOn k (coordinated s w c q)
  unfolding SentOn SentSo coordinated
  sent_step k c (refused number) f = unfold SentSo in sent_unmoved (λ (i : Item). eqb (item_stripe i) k)
  sent_step k c (went g) f = (
    broadcasts s g.sent,
    refl,
    λ i m. on_stripe_lem k i (broadcast_stripe s k true g.sent (λ z n. eq-eqb z.message.stripe k (f g refl z n)) i m),
  )

  sent_message_lem : (b : ℕ) (msg : Message) (block old : List ℕ) → SentOn msg.stripe (arriving s w (message b msg block old))
  unfolding arriving SentOn
  sent_message_lem b msg block old =
      either (SentOn msg.stripe) (w.up b) _ _ moved (sent_unmoved (λ (i : Item). eqb (item_stripe i) msg.stripe))
    where
      o : Outcome
      o = row_outcome s b (w.images b) msg block old (replicate s.size 0)

      moved : SentOn msg.stripe (received s w b o)
      moved = unfold SentOn SentSo received in (
        replied_with o.given o.out,
        refl,
        λ i m.
            on_stripe_lem msg.stripe i
            (row_replies_on s b msg msg.stripe (w.images b) block old (replicate s.size 0) i m ∙ eq-eqb msg.stripe msg.stripe refl),
      )

  sent_at_lem : (l : List Item) (place : ℕ) → SentOn (arrival_stripe w l place) (arriving_at s w l place)
  unfolding arriving_at arrival_stripe
  sent_at_lem [] place = unfold SentOn in sent_unmoved (λ (i : Item). eqb (item_stripe i) 0)
  sent_at_lem (message b msg block old ∷ l) zero = sent_message_lem b msg block old
  sent_at_lem (reply r block ∷ l) zero =
      unfold arriving in sent_step _ (coordinator_of r.time) _ (λ g e. (take_keeps_stripe _ _ _ _ _ _ _ _ g e).sends)
  sent_at_lem (message b msg block old ∷ l) (suc place) = sent_at_lem l place
  sent_at_lem (reply r block ∷ l) (suc place) = sent_at_lem l place

  -- a crash sends nothing
  crash_sends : (c : ℕ) (q : Step) → ((g : Went) → q ≡ went g → g.sent ≡ []) → (coordinated s w c q).world.sent ≡ w.sent
  unfolding coordinated unmoved broadcasts
  crash_sends c (refused number) f = refl
  crash_sends c (went g) f = ap (λ (l : List Broadcast). w.sent ++ broadcasts s l) (f g refl) ∙ append-nil w.sent

  standing_sends_none : (b : ℕ) (how : Bool) → (standing s w b how).world.sent ≡ w.sent
  unfolding standing unmoved
  standing_sends_none b how = either (λ (m : Moved s). m.world.sent ≡ w.sent) (ltb b s.n) _ _ refl refl

  sent_start : (number c : ℕ) (q : Step) → ((g : Went) → q ≡ went g → StartsOn s.stripes number (w.coordinators c) g) → SentOn number (coordinated s w c q)
  sent_start number c q f = sent_step number c q (λ g e. (f g e).sends)

  sent_event : (e : Event) → SentSo (sent_at w e) (step s w e)
  unfolding step sent_at SentOn
  sent_event (start_write c number reading content) =
      either (SentOn number) (are_bytes content) _ _
      (sent_start number c _ (write_starts s.n s.m s.size s.stripes (w.coordinators c) number reading content)) (sent_unmoved _)
  sent_event (start_read c number reading first) =
      sent_start number c _ (read_starts s.n s.m s.size s.stripes (w.coordinators c) number reading first)
  sent_event (start_write_block c number reading block content) =
      either (SentOn number) (are_bytes content) _ _
      (sent_start number c _ (write_block_starts s.n s.m s.size s.stripes (w.coordinators c) number reading block content)) (sent_unmoved _)
  sent_event (start_read_block c number reading block) =
      sent_start number c _ (read_block_starts s.n s.m s.size s.stripes (w.coordinators c) number reading block)
  sent_event (arrives place) = sent_at_lem w.sent place
  sent_event (crashes c left) = none_sent _ _ (crash_sends c _ (crash_sends_none s (w.coordinators c) left))
  sent_event (goes_down b) = none_sent _ _ (standing_sends_none b false)
  sent_event (comes_up b) = none_sent _ _ (standing_sends_none b true)

pub sent_on_its_stripe : SentOnItsStripe
sent_on_its_stripe s w e = unfold SentSo in sent_event s w e

-- ONE CLOCK.
module _ (s : Settings) (g : SettingsRange s) (k : ℕ) (h : Hist s) (r : Moved s) (i : Inv s g k h r) (j u : ℕ) (used : Began h u) where
  -- what begins at an event has a higher time, if it is of the same coordinator
  New : Moved s → Type 0
  New m = (t : ℕ) (x : (plain s).Kind) → Seen.began t x ∈ m.seen j → coordinator_of u ≡ coordinator_of t → u < t

  new_unmoved : New (unmoved s r.world)
  unfolding New unmoved
  new_unmoved t x m = absurd (Memᴰ.not-nil m)

  new_step : (c : ℕ) (p : Step) → ((w : Went) → p ≡ went w → w.seen.what ≡ began_seen → coordinator_of u ≡ coordinator_of w.seen.time → u < w.seen.time) → New (coordinated s r.world c p)
  unfolding New coordinated unmoved
  new_step c (refused number) f t x m = absurd (Memᴰ.not-nil m)
  new_step c (went w) f t x m =
      let z = shown_told s w j t x m in subst (λ (a : ℕ). coordinator_of u ≡ coordinator_of a → u < a) z.1 (f w refl z.0)

  module _ (c : ℕ) where
    raw : Buffered
    raw = r.world.coordinators c

    -- a time that is drawn now is above those used on stripe k
    drawn_higher : (reading t : ℕ) (next : Clock) → draw_of raw.state.clock reading ≡ Drawn t next → coordinator_of u ≡ coordinator_of t → u < t
    unfolding raw
    drawn_higher reading t next d =
        higher_time s g h (view k r).sent c (r.world.coordinators c) i.valid (own_clock s g k h r i c) i.items reading t next d u used

    -- an operation that starts now has such a time
    new_start : (number reading : ℕ) (op : ℕ → Op) (stripe targets : List ℕ) → ((t : ℕ) → (op t).time ≡ t)
        → New
        (coordinated s r.world c
        (after_checks number
        (drawn_then (draw_of (r.world.coordinators c).state.clock reading)
        (λ time clock. starting (r.world.coordinators c) clock (op time) stripe targets))))
    unfolding raw starting
    new_start number reading op stripe targets same = new_step c _ (λ w e _.
        let f : ℕ → Clock → Went = λ time clock. starting raw clock (op time) stripe targets in
        let p = passes number (drawn_then (draw_of raw.state.clock reading) f) w e in
        let d = drawn_went (draw_of raw.state.clock reading) f w p.1 in
        subst (λ (a : ℕ). coordinator_of u ≡ coordinator_of a → u < a) (sym (same d.0) ∙ ap (λ (z : Went). z.seen.time) d.3)
        (drawn_higher reading d.0 d.1 d.2))

    new_write : (number reading : ℕ) (content : List ℕ)
        → New (coordinated s r.world c (write_step s.n s.m s.size s.stripes (r.world.coordinators c) number reading content))
    unfolding write_step first_op
    new_write number reading content = new_start _ reading (λ time. first_op writing_kind order_kind number time 0) content no_bricks (λ t. refl)

    new_read : (number reading first : ℕ)
        → New (coordinated s r.world c (read_step s.n s.m s.size s.stripes (r.world.coordinators c) number reading first))
    unfolding read_step first_op
    new_read number reading first = new_start _ reading (λ time. first_op reading_kind read_kind number time first) _ _ (λ t. refl)

    new_write_block : (number reading block : ℕ) (content : List ℕ)
        → New (coordinated s r.world c (write_block_step s.n s.m s.size s.stripes (r.world.coordinators c) number reading block content))
    unfolding write_block_step first_op
    new_write_block number reading block content = new_start _ reading (λ time. first_op writing_block_kind order_block_kind number time block) _ _ (λ t. refl)

    new_read_block : (number reading block : ℕ)
        → New (coordinated s r.world c (read_block_step s.n s.m s.size s.stripes (r.world.coordinators c) number reading block))
    unfolding read_block_step first_op
    new_read_block number reading block = new_start _ reading (λ time. first_op reading_block_kind read_kind number time block) _ _ (λ t. refl)

    new_crash : (left : Left) → New (coordinated s r.world c (left_by s left (crash_step s.n s.m s.size s.stripes (r.world.coordinators c))))
    new_crash left = new_step c _ (λ w e q. absurd (crash_begins_none s (r.world.coordinators c) left w e q))

  new_reply : (i : Item) → New (arriving s r.world i)
  unfolding arriving
  new_reply (message b msg block old) = either New (r.world.up b) _ _ (unfold New received in λ t x m. absurd (Memᴰ.not-nil m)) new_unmoved
  new_reply (reply a block) = new_step (coordinator_of a.time) _ (λ w e q. absurd ((take_keeps_stripe _ _ _ _ _ _ _ _ w e).no_start q))

  new_at : (l : List Item) (p : ℕ) → New (arriving_at s r.world l p)
  unfolding arriving_at
  new_at [] p = new_unmoved
  new_at (z ∷ l) zero = new_reply z
  new_at (z ∷ l) (suc p) = new_at l p

  new_standing : (b : ℕ) (how : Bool) → New (standing s r.world b how)
  unfolding standing
  new_standing b how = either New (ltb b s.n) _ _ (unfold New in λ t x m. absurd (Memᴰ.not-nil m)) new_unmoved

  new_event : (e : Event) → New (step s r.world e)
  unfolding step
  new_event (start_write c number reading content) = either New (are_bytes content) _ _ (new_write c number reading content) new_unmoved
  new_event (start_read c number reading first) = new_read c number reading first
  new_event (start_write_block c number reading block content) = either New (are_bytes content) _ _ (new_write_block c number reading block content) new_unmoved
  new_event (start_read_block c number reading block) = new_read_block c number reading block
  new_event (arrives p) = new_at r.world.sent p
  new_event (crashes c left) = new_crash c left
  new_event (goes_down b) = new_standing b false
  new_event (comes_up b) = new_standing b true

-- NOTHING IS SEEN PAST THE STRIPES.
module _ (s : Settings) (w : World) (k : ℕ) (high : s.stripes ≤ k) where
  None : Moved s → Type 0
  None m = m.seen k ≡ []

  none_unmoved : None (unmoved s w)
  unfolding None unmoved
  none_unmoved = refl

  -- a step that shows something of a stripe below S, or nothing
  none_step : (c : ℕ) (p : Step) → ((g : Went) → p ≡ went g → (g.seen.stripe < s.stripes) ⊎ (g.seen ≡ nothing_seen)) → None (coordinated s w c p)
  unfolding None coordinated unmoved
  none_step c (refused number) f = refl
  none_step c (went g) f = go (f g refl)
    where
      go : (g.seen.stripe < s.stripes) ⊎ (g.seen ≡ nothing_seen) → on_stripe g.seen.stripe (seen_of s g.seen g.next) k ≡ []
      go (inl l) = shown_there g.seen.stripe k (seen_of s g.seen g.next) (λ e. omega (arith, l, high, e))
      go (inr e) =
          let z : seen_of s g.seen g.next ≡ [] = ap (λ (x : Notice). seen_of s x g.next) e ∙ nothing_shown s g.next in
          ap (λ (l : List (Seen (plain s))). on_stripe g.seen.stripe l k) z ∙ shown_none g.seen.stripe k

  -- what an operation that goes on or ends shows is of its stripe
  of_stripe : (h : Buffered) (g : Went) → KeepsStripe h g → h.state.op.stripe < s.stripes → (g.seen.stripe < s.stripes) ⊎ (g.seen ≡ nothing_seen)
  of_stripe h g keeps low = go keeps.shows
    where
      go : (g.seen.stripe ≡ h.state.op.stripe) ⊎ (g.seen ≡ nothing_seen) → (g.seen.stripe < s.stripes) ⊎ (g.seen ≡ nothing_seen)
      go (inl e) = inl (omega (arith, e, low))
      go (inr e) = inr e

  none_crash : (c : ℕ) (left : Left) → None (coordinated s w c (left_by s left (crash_step s.n s.m s.size s.stripes (w.coordinators c))))
  none_crash c left = go (crash_step s.n s.m s.size s.stripes (w.coordinators c)) refl
    where
      sound-stripe : (g : Went) → crash_step s.n s.m s.size s.stripes (w.coordinators c) ≡ went g → (w.coordinators c).state.op.stripe < s.stripes
      sound-stripe g e =
          unfold crash_step crash_refusal in
          (let p = passes (crash_refusal s.n s.m s.size s.stripes (w.coordinators c).state) (went (crashed s.n (w.coordinators c))) g e in
          let q = passed_rest (stripe_count_refusal s.stripes) _ (passed_rest (code_refusal s.n s.m s.size) _ p.0) in
          (sound_parts s.n s.m s.size s.stripes (w.coordinators c).state
          (record_passes s.n s.m s.size s.stripes (w.coordinators c).state [] q).0.is-sound).stripe-low)

      go : (p : Step) → crash_step s.n s.m s.size s.stripes (w.coordinators c) ≡ p → None (coordinated s w c (left_by s left p))
      go (refused number) e = unfold left_by coordinated in none_unmoved
      go (went g) e =
          unfold left_by in
          none_step c (went (record { next = leaving s left g.next; sent = g.sent; seen = g.seen }))
          (λ g' q.
          subst (λ (x : Went). (x.seen.stripe < s.stripes) ⊎ (x.seen ≡ nothing_seen))
          (same_went (record { next = leaving s left g.next; sent = g.sent; seen = g.seen }) g' q)
          (of_stripe (w.coordinators c) g (crash_keeps_stripe s.n s.m s.size s.stripes (w.coordinators c) g e) (sound-stripe g e)))

  none_arriving : (i : Item) → None (arriving s w i)
  unfolding arriving
  none_arriving (message b msg block old) = either None (w.up b) _ _ (unfold None received in refl) none_unmoved
  none_arriving (reply r block) = none_step (coordinator_of r.time) _ (λ g e. shows g e)
    where
      c : Buffered
      c = w.coordinators (coordinator_of r.time)

      shows : (g : Went) → take_step s.n s.m s.size s.stripes c r block (s.n * s.size) ≡ went g → (g.seen.stripe < s.stripes) ⊎ (g.seen ≡ nothing_seen)
      shows g e =
          let t = took s.n s.m s.size s.stripes c r block (s.n * s.size) g e in
          of_stripe c g (take_keeps_stripe s.n s.m s.size s.stripes c r block (s.n * s.size) g e) t.takes.parts.stripe-low

  none_at : (l : List Item) (p : ℕ) → None (arriving_at s w l p)
  unfolding arriving_at
  none_at [] p = none_unmoved
  none_at (i ∷ l) zero = none_arriving i
  none_at (i ∷ l) (suc p) = none_at l p

  none_standing : (b : ℕ) (how : Bool) → None (standing s w b how)
  unfolding standing
  none_standing b how = either None (ltb b s.n) _ _ (unfold None in refl) none_unmoved

  -- a start shows its stripe
  none_start : (c number : ℕ) (p : Step) → ((g : Went) → p ≡ went g → StartsOn s.stripes number (w.coordinators c) g) → None (coordinated s w c p)
  none_start c number p f = none_step c p (λ g e. let on = f g e in inl (omega (arith, on.shows, on.stripe-low)))

  none_event : (e : Event) → None (step s w e)
  unfolding step
  none_event (start_write c number reading content) =
      either None (are_bytes content) _ _
      (none_start c number _ (write_starts s.n s.m s.size s.stripes (w.coordinators c) number reading content)) none_unmoved
  none_event (start_read c number reading first) =
      none_start c number _ (read_starts s.n s.m s.size s.stripes (w.coordinators c) number reading first)
  none_event (start_write_block c number reading block content) =
      either None (are_bytes content) _ _
      (none_start c number _ (write_block_starts s.n s.m s.size s.stripes (w.coordinators c) number reading block content)) none_unmoved
  none_event (start_read_block c number reading block) =
      none_start c number _ (read_block_starts s.n s.m s.size s.stripes (w.coordinators c) number reading block)
  none_event (arrives p) = none_at w.sent p
  none_event (crashes c left) = none_crash c left
  none_event (goes_down b) = none_standing b false
  none_event (comes_up b) = none_standing b true

none_from : (s : Settings) (k : ℕ) → s.stripes ≤ k → (r : Moved s) → r.seen k ≡ [] → (events : List Event) → (run_from s r events).seen k ≡ []
unfolding run_from next_moved None
none_from s k high r e [] = e
none_from s k high r e (x ∷ events) =
    none_from s k high (next_moved s r x)
    (ap (λ (l : List (Seen (plain s))). l ++ (step s r.world x).seen k) e ∙ none_event s r.world k high x) events

pub nothing_seen_past_the_stripes : NothingSeenPastTheStripes
unfolding run unmoved
nothing_seen_past_the_stripes s events k high = none_from s k high (unmoved s (fresh_set s)) refl events

pub one_clock : OneClock
unfolding view New
one_clock s e events event j t x m k u y n = (above, λ q. omega (arith, above (ap coordinator_of q), q))
  where
    go : (b : Bool) → ltb k s.stripes ≡ b → coordinator_of u ≡ coordinator_of t → u < t
    go true q =
        let w = run_holds s (range_of s e) k (ltb-true k s.stripes q) events in
        let b : Began w.0 u = (y, seen_began_in w.0 (subst (λ (l : List (Seen (plain s))). Seen.began u y ∈ l) (sym w.1.seen-is) n)) in
        new_event s (range_of s e) k w.0 (run s events) w.1 j u b event t x m
    go false q =
        absurd
        (Memᴰ.not-nil
        (subst (λ (l : List (Seen (plain s))). Seen.began u y ∈ l) (nothing_seen_past_the_stripes s events k (ltb-false k s.stripes q)) n))

    above : coordinator_of u ≡ coordinator_of t → u < t
    above = go (ltb k s.stripes) refl

-- ONE OPERATION AT A TIME
last_check : (l : List ℕ) (d x : ℕ) → first_refusal (l ++ d ∷ []) ≡ 0 → first_refusal (l ++ d ∷ x ∷ []) ≡ x
last_check [] d x e = first_pass d (x ∷ []) (passed_first d [] e) ∙ first_alone x
last_check (a ∷ l) d x e = first_pass a (l ++ d ∷ x ∷ []) (passed_first a (l ++ d ∷ []) e) ∙ last_check l d x (passed_rest a (l ++ d ∷ []) e)

module _ (s : Settings) (w : World) (c stripe reading : ℕ) (n : (w.coordinators c).state.op.kind ≢ idle_kind) where
  state : Coordinator
  state = (w.coordinators c).state

  is_busy : refuse_unless (eqb state.op.kind idle_kind) busy ≡ busy
  unfolding state
  is_busy = rw (ne_eqb (w.coordinators c).state.op.kind idle_kind n) refl

  write_busy : (content : List ℕ) → write_below_busy s w c stripe reading content ≡ passed
      → write_refusal s.n s.m s.size s.stripes (w.coordinators c).state stripe reading (length content) (length (w.coordinators c).stripe) ≡ busy
  unfolding write_refusal write_checks stripe_checks start_checks state
  write_busy content e =
      last_check (write_checks s.n s.m s.size s.stripes state stripe (length content) (length (w.coordinators c).stripe) []) _ _ e ∙ is_busy

  read_busy : (first : ℕ) → read_below_busy s w c stripe reading first ≡ passed
      → read_refusal s.n s.m s.size s.stripes (w.coordinators c).state stripe reading first ≡ busy
  unfolding read_refusal read_checks stripe_checks start_checks state
  read_busy first e = last_check (read_checks s.n s.m s.size s.stripes state stripe first []) _ _ e ∙ is_busy

  write_block_busy : (block : ℕ) (content : List ℕ) → write_block_below_busy s w c stripe reading block content ≡ passed
      → write_block_refusal s.n s.m s.size s.stripes (w.coordinators c).state stripe reading block (length content)
      (length (w.coordinators c).stripe)
      ≡ busy
  unfolding write_block_refusal write_block_checks block_checks start_checks state
  write_block_busy block content e =
      last_check (write_block_checks s.n s.m s.size s.stripes state stripe block (length content) (length (w.coordinators c).stripe) []) _ _ e ∙ is_busy

  read_block_busy : (block : ℕ) → read_block_below_busy s w c stripe reading block ≡ passed
      → read_block_refusal s.n s.m s.size s.stripes (w.coordinators c).state stripe reading block ≡ busy
  unfolding read_block_refusal read_block_checks block_checks start_checks state
  read_block_busy block e = last_check (read_block_checks s.n s.m s.size s.stripes state stripe block []) _ _ e ∙ is_busy

pub one_operation_at_a_time : OneOperationAtATime
unfolding event_number write_step read_step write_block_step read_block_step after_checks answer_of
one_operation_at_a_time s w c stripe reading n = (
  λ content b e. rw (b, write_busy s w c stripe reading n content e) refl,
  λ first e. rw (read_busy s w c stripe reading n first e) refl,
  λ block content b e. rw (b, write_block_busy s w c stripe reading n block content e) refl,
  λ block e. rw (read_block_busy s w c stripe reading n block e) refl,
)

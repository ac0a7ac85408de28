-- What begins is told as such, with its time, kind and bytes; and what is written has the lengths that the settings ask for.
use mathlib.Core.Path.{◌≡◌, refl, sym, ap, subst, ◌∙◌}
use mathlib.Core.Logic.{◌⊎◌, inl, inr}
use mathlib.Core.Bool.{Bool, true, false, cond}
use mathlib.Core.List.Memᴰ
use mathlib.Core.List.{List, [], ◌∷◌}
use Prim.Native.Nat.{ℕ, zero, suc, ◌*◌, ◌<◌}
use native.Mathlib.Omega.{arith}
use lib.Dec.{eqb, leb, ltb}
use lib.ListN.{length}
use borrow.Author.Tests.{eqb-true}
use Rattle.settings.specs.Times.{coordinator_of, draw_of}
use Rattle.settings.specs.declared.Clock.{Clock}
use Rattle.settings.specs.declared.Settings.{Settings}
use Rattle.byte_lists.specs.Little.{are_bytes}
use Rattle.message.specs.Kinds.{read_kind, order_kind, order_block_kind}
use Rattle.coord_record.specs.Records.{idle_kind, reading_kind, writing_kind, reading_block_kind, writing_block_kind, no_bricks}
use Rattle.coord_record.specs.declared.Op.{Op}
use Rattle.coord_apply.specs.Acts.{ending, first_op, starting}
use Rattle.coord_apply.specs.Answers.{Buffered, Went, Step, refused, went, after_checks, nothing_seen, began_seen, ok_seen, read_seen, aborted_seen, cut_seen}
use Rattle.coord_apply.specs.declared.Notice.{Notice}
use Rattle.coord_refusals.specs.Checks.{crash_refusal}
use Rattle.coordinator.specs.Routines.{drawn_then, crashed, crash_step, write_step, read_step, write_block_step, read_block_step}
use Rattle.erasure.proofs.Laws.BlockOfLaws.{block_within, block_with}
use Rattle.coord_laws.proofs.Laws.SoundnessLaws.{passes, same_went, drawn_went}
use Rattle.coord_laws.proofs.Laws.StripeLaws.{take_keeps_stripe, crash_keeps_stripe}
use Rattle.order.specs.Claim.{read, write, read_block, write_block, Ending, Seen, ◌∈◌, aborted, cut, finished, ok}
use Rattle.register.specs.Runs.{plain, Item, message, reply, World, Event, start_write, start_read, start_write_block, start_read_block, arrives}
use Rattle.register.specs.Runs.{crashes, goes_down, comes_up, Left, Moved, unmoved, fresh_set, on_stripe, begun_kind, read_given, seen_of, coordinated, received, arriving}
use Rattle.register.specs.Runs.{arriving_at, standing, leaving, left_by, step, next_moved, run_from, run}
use Rattle.register.proofs.Laws.BegunLaws.{begun_read, begun_write, begun_read_block, begun_write_block}
use Rattle.register.proofs.Laws.BrickEvent.{either}
use Rattle.register.proofs.Laws.StartEvent.{content_fits, block_content_fits}

-- an end is no beginning
no_end : (s : Settings) (t u : ℕ) (x : (plain s).Kind) (r : Ending (plain s)) (a : Bool) (rest : List (Seen (plain s))) → (Seen.began t x ∈ rest → ⊥)
    → Seen.began t x ∈ cond a (Seen.ended u r ∷ []) rest → ⊥
no_end s t u x r true rest f m =
    let z : ◌≡◌ {A = Seen (plain s)} (Seen.began t x) (Seen.ended u r) = Memᴰ.eq_of_singleton m in let y : ◌≡◌ {A = ℕ} 0 1 = cc in omega arith
no_end s t u x r false rest f m = f m

began_first : (s : Settings) (what t u : ℕ) (x y : (plain s).Kind) (a : Bool) (rest : List (Seen (plain s))) → eqb what began_seen ≡ a → (Seen.began t x ∈ rest → ⊥)
    → Seen.began t x ∈ cond a (Seen.began u y ∷ []) rest → (what ≡ began_seen) × (u ≡ t) × (y ≡ x)
began_first s what t u x y true rest q f m =
    let z : ◌≡◌ {A = Seen (plain s)} (Seen.began t x) (Seen.began u y) = Memᴰ.eq_of_singleton m in
    let e : u ≡ t = cc in
    let d : y ≡ x = cc in
    (eqb-true what began_seen q, e, d)
began_first s what t u x y false rest q f m = absurd (f m)

began_told : (s : Settings) (e : Notice) (h : Buffered) (t : ℕ) (x : (plain s).Kind) → Seen.began t x ∈ seen_of s e h
    → (e.what ≡ began_seen) × (e.time ≡ t) × (begun_kind s h ≡ x)
unfolding seen_of
began_told s e h t x m =
    began_first s e.what t e.time x (begun_kind s h) (eqb e.what began_seen) _ refl
    (no_end s t e.time x (finished ok) (eqb e.what ok_seen) _
    (no_end s t e.time x (finished (read_given s e h.stripe)) (eqb e.what read_seen) _
    (no_end s t e.time x aborted (eqb e.what aborted_seen) _ (no_end s t e.time x cut (eqb e.what cut_seen) [] (λ n. Memᴰ.not-nil n)))))
    m

-- What begins at a step, on some stripe, is told with its time, and is what the step leaves.
pub shown_told : (s : Settings) (g : Went) (j t : ℕ) (x : (plain s).Kind) → Seen.began t x ∈ on_stripe g.seen.stripe (seen_of s g.seen g.next) j
    → (g.seen.what ≡ began_seen) × (g.seen.time ≡ t) × (begun_kind s g.next ≡ x)
unfolding on_stripe
shown_told s g j t x = go (eqb j g.seen.stripe)
  where
    go : (a : Bool) → Seen.began t x ∈ cond a (seen_of s g.seen g.next) []
        → (g.seen.what ≡ began_seen) × (g.seen.time ≡ t) × (begun_kind s g.next ≡ x)
    go true m = began_told s g.seen g.next t x m
    go false m = absurd (Memᴰ.not-nil m)

-- nothing is sent at a crash
pub crash_sends_none : (s : Settings) (h : Buffered) (left : Left) (w : Went)
    → left_by s left (crash_step s.n s.m s.size s.stripes h) ≡ went w → w.sent ≡ []
unfolding crash_step after_checks crashed left_by ending
crash_sends_none s h left w = go (leb (crash_refusal s.n s.m s.size s.stripes h.state) 0) (eqb h.state.op.kind idle_kind)
  where
    go : (a b : Bool)
        → left_by s left
        (cond a (went (cond b (record { next = h; sent = []; seen = nothing_seen }) (ending s.n h h.stripe [] cut_seen no_bricks)))
        (refused (crash_refusal s.n s.m s.size s.stripes h.state)))
        ≡ went w
        → w.sent ≡ []
    go true true e = sym (ap (λ (z : Went). z.sent) (same_went _ w e))
    go true false e = sym (ap (λ (z : Went). z.sent) (same_went _ w e))
    go false b e = absurd (let z : ◌≡◌ {A = ℕ} 0 1 = cc in omega arith)

-- nothing begins at a crash
pub crash_begins_none : (s : Settings) (h : Buffered) (left : Left) (w : Went)
    → left_by s left (crash_step s.n s.m s.size s.stripes h) ≡ went w → w.seen.what ≡ began_seen → ⊥
crash_begins_none s h left w = go (crash_step s.n s.m s.size s.stripes h) refl
  where
    go : (p : Step) → crash_step s.n s.m s.size s.stripes h ≡ p → left_by s left p ≡ went w → w.seen.what ≡ began_seen → ⊥
    go (refused number) e q b = unfold left_by in let z : refused number ≡ went w = q in let y : ◌≡◌ {A = ℕ} 0 1 = cc in omega arith
    go (went v) e q b =
        unfold left_by in
        (crash_keeps_stripe s.n s.m s.size s.stripes h v e).no_start
        (ap (λ (z : Went). z.seen.what) (same_went (record { next = leaving s left v.next; sent = v.sent; seen = v.seen }) w q) ∙ b)

-- The lengths of what an operation writes: m blocks, or one of a number below m.
unfoldable pub Measured : (s : Settings) → (plain s).Kind → Type 0
Measured s read = Unit {0}
Measured s (write v) = length v ≡ s.m * s.size
Measured s (read_block j) = Unit {0}
Measured s (write_block j b) = (j < s.m) × (length b ≡ s.size)

module _ (s : Settings) (w : World) where
  -- all that begins at an event is so
  AllMeasured : Moved s → Type 0
  AllMeasured m = (k t : ℕ) (x : (plain s).Kind) → Seen.began t x ∈ m.seen k → Measured s x

  measured_unmoved : AllMeasured (unmoved s w)
  unfolding AllMeasured unmoved
  measured_unmoved k t x m = absurd (Memᴰ.not-nil m)

  -- a refused start begins nothing
  measured_step : (c : ℕ) (p : Step) → ((g : Went) → p ≡ went g → g.seen.what ≡ began_seen → Measured s (begun_kind s g.next))
      → AllMeasured (coordinated s w c p)
  unfolding AllMeasured coordinated unmoved
  measured_step c (refused number) f k t x m = absurd (Memᴰ.not-nil m)
  measured_step c (went g) f k t x m = let z = shown_told s g k t x m in subst (Measured s) z.2 (f g refl z.0)

  -- an operation that starts is what its record and buffers say
  measured_start : (c : ℕ) (k reading : ℕ) (op : ℕ → Op) (stripe targets : List ℕ) (g : Went)
      → after_checks k (drawn_then (draw_of (w.coordinators c).state.clock reading) (λ time clock. starting (w.coordinators c) clock (op time) stripe targets)) ≡ went g
      → ((time : ℕ) (clock : Clock) → Measured s (begun_kind s (starting (w.coordinators c) clock (op time) stripe targets).next))
      → Measured s (begun_kind s g.next)
  measured_start c k reading op stripe targets g e f =
      let begins : ℕ → Clock → Went = λ time clock. starting (w.coordinators c) clock (op time) stripe targets in
      let p = passes k (drawn_then (draw_of (w.coordinators c).state.clock reading) begins) g e in
      let d = drawn_went (draw_of (w.coordinators c).state.clock reading) begins g p.1 in
      subst (λ (z : Went). Measured s (begun_kind s z.next)) d.3 (f d.0 d.1)

  module _ (c number reading : ℕ) (g : Went) where
    measured_write : (content : List ℕ) → write_step s.n s.m s.size s.stripes (w.coordinators c) number reading content ≡ went g
        → Measured s (begun_kind s g.next)
    unfolding write_step starting first_op Measured
    measured_write content e =
        measured_start c _ reading (λ time. first_op writing_kind order_kind number time 0) content no_bricks g e
        (λ time clock. subst (Measured s) (sym (begun_write s _ refl)) (content_fits s (w.coordinators c) number reading content g e))

    measured_read : (first : ℕ) → read_step s.n s.m s.size s.stripes (w.coordinators c) number reading first ≡ went g
        → Measured s (begun_kind s g.next)
    unfolding read_step starting first_op Measured
    measured_read first e =
        measured_start c _ reading (λ time. first_op reading_kind read_kind number time first) _ _ g e
        (λ time clock. subst (Measured s) (sym (begun_read s _ refl)) tt)

    measured_write_block : (block : ℕ) (content : List ℕ)
        → write_block_step s.n s.m s.size s.stripes (w.coordinators c) number reading block content ≡ went g → Measured s (begun_kind s g.next)
    unfolding write_block_step starting first_op Measured
    measured_write_block block content e =
        measured_start c _ reading (λ time. first_op writing_block_kind order_block_kind number time block) _ _ g e
        (λ time clock.
        let h = w.coordinators c in
        let q = block_content_fits s h number reading block content g e in
        let within = block_within s.m s.size block h.stripe q.1 q.2 in
        subst (Measured s) (sym (begun_write_block s _ refl)) (q.2, ap length (block_with s.size h.stripe block content q.0 within) ∙ q.0))

    measured_read_block : (block : ℕ) → read_block_step s.n s.m s.size s.stripes (w.coordinators c) number reading block ≡ went g
        → Measured s (begun_kind s g.next)
    unfolding read_block_step starting first_op Measured
    measured_read_block block e =
        measured_start c _ reading (λ time. first_op reading_block_kind read_kind number time block) _ _ g e
        (λ time clock. subst (Measured s) (sym (begun_read_block s _ refl)) tt)

  measured_arriving : (i : Item) → AllMeasured (arriving s w i)
  unfolding arriving
  measured_arriving (message b msg block old) =
      either AllMeasured (w.up b) _ _ (unfold AllMeasured received in λ k t x m. absurd (Memᴰ.not-nil m)) measured_unmoved
  measured_arriving (reply r block) =
      measured_step (coordinator_of r.time) _ (λ g e q. absurd ((take_keeps_stripe _ _ _ _ _ _ _ _ g e).no_start q))

  measured_at : (l : List Item) (p : ℕ) → AllMeasured (arriving_at s w l p)
  unfolding arriving_at
  measured_at [] p = measured_unmoved
  measured_at (i ∷ l) zero = measured_arriving i
  measured_at (i ∷ l) (suc p) = measured_at l p

  measured_standing : (b : ℕ) (how : Bool) → AllMeasured (standing s w b how)
  unfolding standing
  measured_standing b how =
      either AllMeasured (ltb b s.n) _ _ (unfold AllMeasured in λ k t x m. absurd (Memᴰ.not-nil m)) measured_unmoved

  measured_event : (e : Event) → AllMeasured (step s w e)
  unfolding step
  measured_event (start_write c number reading content) =
      either AllMeasured (are_bytes content) _ _ (measured_step c _ (λ g e _. measured_write c number reading g content e)) measured_unmoved
  measured_event (start_read c number reading first) = measured_step c _ (λ g e _. measured_read c number reading g first e)
  measured_event (start_write_block c number reading block content) =
      either AllMeasured (are_bytes content) _ _ (measured_step c _ (λ g e _. measured_write_block c number reading g block content e)) measured_unmoved
  measured_event (start_read_block c number reading block) = measured_step c _ (λ g e _. measured_read_block c number reading g block e)
  measured_event (arrives p) = measured_at w.sent p
  measured_event (crashes c left) = measured_step c _ (λ g e q. absurd (crash_begins_none s (w.coordinators c) left g e q))
  measured_event (goes_down b) = measured_standing b false
  measured_event (comes_up b) = measured_standing b true

measured_from : (s : Settings) (r : Moved s) → ((k t : ℕ) (x : (plain s).Kind) → Seen.began t x ∈ r.seen k → Measured s x) → (events : List Event)
    → (k t : ℕ) (x : (plain s).Kind) → Seen.began t x ∈ (run_from s r events).seen k → Measured s x
unfolding run_from next_moved AllMeasured
measured_from s r f [] = f
measured_from s r f (e ∷ events) = measured_from s (next_moved s r e) one events
  where
    one : (k t : ℕ) (x : (plain s).Kind) → Seen.began t x ∈ (next_moved s r e).seen k → Measured s x
    one k t x m = go (Memᴰ.append_cases (r.seen k) m)
      where
        go : (Seen.began t x ∈ r.seen k) ⊎ (Seen.began t x ∈ (step s r.world e).seen k) → Measured s x
        go (inl p) = f k t x p
        go (inr p) = measured_event s r.world e k t x p

-- All that began in a run has these lengths.
pub run_measured : (s : Settings) (events : List Event) (k t : ℕ) (x : (plain s).Kind) → Seen.began t x ∈ (run s events).seen k → Measured s x
unfolding run unmoved
run_measured s events = measured_from s (unmoved s (fresh_set s)) (λ k t x m. absurd (Memᴰ.not-nil m)) events

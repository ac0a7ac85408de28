-- An event at a coordinator, on whatever stripe: what holds of stripe k goes on to hold.
use mathlib.Core.Path.{◌≡◌, refl, sym, ap, subst, ◌∙◌}
use mathlib.Core.Logic.{◌⊎◌, inl, inr}
use mathlib.Core.List.Memᴰ
use mathlib.Core.List.{List, []}
use Prim.Native.Nat.{ℕ, ◌*◌, ◌≤◌}
use native.Mathlib.Omega.{arith}
use native.Mathlib.Decide.{ℕ_discrete}
use borrow.Author.Tests.{eq-eqb}
use Rattle.settings.specs.Ranges.{SettingsRange}
use Rattle.settings.specs.Times.{time_of}
use Rattle.settings.specs.declared.Clock.{Clock}
use Rattle.settings.specs.declared.Settings.{Settings}
use Rattle.byte_lists.specs.Little.{Bytes}
use Rattle.message.specs.declared.Reply.{Reply}
use Rattle.coord_record.specs.Records.{idle_kind}
use Rattle.coord_record.specs.declared.Coordinator.{Coordinator}
use Rattle.coord_apply.specs.Answers.{Buffered, Broadcast, Went, Step, refused, went, nothing_seen}
use Rattle.coord_laws.proofs.Laws.SoundnessLaws.{passes, same_went}
use Rattle.coord_refusals.specs.Checks.{crash_refusal}
use Rattle.coordinator.specs.Routines.{take_step, crashed, crash_step, write_step, read_step, write_block_step, read_block_step}
use Rattle.coord_laws.proofs.Laws.StripeLaws
use Rattle.coord_laws.proofs.Laws.StripeLaws.{KeepsStripe, take_keeps_stripe, crash_keeps_stripe, taken_stripe, taken_runs, StartsOn}
use Rattle.order.specs.Claim.{◌∈◌}
use Rattle.register.specs.Runs.{reply, Left, Moved, joined, coordinated, leaving, left_by}
use Rattle.register.proofs.Laws.Invariant.{Hist, ClockInv, CoordinatorInv, Goes, item_on, viewed, view, Inv}
use Rattle.register.proofs.Laws.TurnLaws.{TurnedRound}
use Rattle.register.proofs.Laws.StripeViewLaws.{in_items, viewed_clock, viewed_here, viewed_same, goes_here, goes_there, goes_unmoved}
use Rattle.register.proofs.Laws.StartEvent.{write_turned, read_turned, write_block_turned, read_block_turned}
use Rattle.register.proofs.Laws.CrashEvent.{left_by_lem, crashed_idle, crash_turned}
use Rattle.register.proofs.Laws.ReplyEvent.{reply_turned}

module _ (s : Settings) (g : SettingsRange s) (k : ℕ) (h : Hist s) (r : Moved s) (i : Inv s g k h r) (c : ℕ) where
  raw : Buffered
  raw = r.world.coordinators c

  -- what is left of the view after a step
  After : Step → Type 0
  After p = Goes s g h (view k (joined s r (coordinated s r.world c p)))

  after_refused : (number : ℕ) → After (refused number)
  unfolding After coordinated
  after_refused number = goes_unmoved s g k h r i

  -- a routine's step: refused, or gone on
  after_step : (p : Step) → ((w : Went) → p ≡ went w → After (went w)) → After p
  after_step (refused number) f = after_refused number
  after_step (went w) f = f w refl

  -- the coordinator in the view, where it is the coordinator itself
  same : viewed k raw ≡ raw → CoordinatorInv s g h (view k r).sent c raw
  unfolding view raw
  same e = subst (CoordinatorInv s g h (view k r).sent c) e (i.coordinators c)

  -- AN OPERATION GOES ON
  module _ (w : Went) (keeps : KeepsStripe raw w) where
    -- on this stripe
    here : raw.state.op.stripe ≡ k → TurnedRound s g h (view k r).sent c w → After (went w)
    unfolding After raw
    here e t =
        goes_here s k r c w g h i
        (record {
          next_here = viewed_same k w.next t.keeps.idle-is (λ n. keeps.still n ∙ e);
          sends = λ z m. keeps.sends z m ∙ e;
          shows = shown keeps.shows;
        })
        t
      where
        shown : (w.seen.stripe ≡ raw.state.op.stripe) ⊎ (w.seen ≡ nothing_seen) → (w.seen.stripe ≡ k) ⊎ (w.seen ≡ nothing_seen)
        shown (inl q) = inl (q ∙ e)
        shown (inr q) = inr q

    -- on another
    there : (raw.state.op.stripe ≡ k → ⊥) → After (went w)
    unfolding After raw
    there n =
        goes_there s k r c w g h i
        (record {
          before = λ _ e. n e;
          after = λ b e. n (sym (keeps.still b) ∙ e);
          sends = λ z m e. n (sym (keeps.sends z m) ∙ e);
          shows = shown keeps.shows;
          same_number = ap (λ (x : Clock). x.coordinator) keeps.same-clock;
          rises = let q = ap (λ (x : Clock). x.last) keeps.same-clock in omega (arith, q);
        })
      where
        shown : (w.seen.stripe ≡ raw.state.op.stripe) ⊎ (w.seen ≡ nothing_seen) → (w.seen.stripe ≡ k → ⊥) ⊎ (w.seen ≡ nothing_seen)
        shown (inl q) = inl (λ e. n (sym q ∙ e))
        shown (inr q) = inr q

  -- A reply reaches its coordinator.
  pub reply_goes : (a : Reply) (block : List ℕ) → reply a block ∈ r.world.sent
      → Goes s g h (view k (joined s r (coordinated s r.world c (take_step s.n s.m s.size s.stripes (r.world.coordinators c) a block (s.n * s.size)))))
  unfolding After raw
  reply_goes a block was =
      after_step (take_step s.n s.m s.size s.stripes raw a block (s.n * s.size)) (λ w e. taken w e (ℕ_discrete raw.state.op.stripe k))
    where
      taken : (w : Went) → take_step s.n s.m s.size s.stripes raw a block (s.n * s.size) ≡ went w → Dec (raw.state.op.stripe ≡ k) → After (went w)
      taken w e (yes q) =
          let keeps = take_keeps_stripe s.n s.m s.size s.stripes raw a block (s.n * s.size) w e in
          let busy = taken_runs s.n s.m s.size s.stripes raw a block (s.n * s.size) w e in
          let of = taken_stripe s.n s.m s.size s.stripes raw a block (s.n * s.size) w e in
          here w keeps q
          (reply_turned s g h (view k r).sent c raw i.valid (same (viewed_here k raw busy q)) i.items a block
          (unfold view item_on in in_items k r.world.sent (reply a block) was (eq-eqb a.stripe k (of ∙ q))) w e)
      taken w e (no n) = there w (take_keeps_stripe s.n s.m s.size s.stripes raw a block (s.n * s.size) w e) n

  -- AN OPERATION STARTS
  pub own_clock : ClockInv s h c (r.world.coordinators c)
  own_clock =
      let q = viewed_clock k (r.world.coordinators c) in
      let o = i.coordinators c in
      unfold view in
      record {
        number = ap (λ (x : Clock). x.coordinator) (sym q) ∙ o.number;
        used = λ t b m. let a = o.used t b m in subst (λ (x : Clock). t ≤ time_of x.last c) q a;
      }

  starts : (number : ℕ) (w : Went) → StartsOn s.stripes number raw w → (number ≡ k → TurnedRound s g h (view k r).sent c w) → After (went w)
  unfolding After raw
  starts number w on t = go (ℕ_discrete number k)
    where
      go : Dec (number ≡ k) → Goes s g h (view k (joined s r (coordinated s r.world c (went w))))
      go (yes e) =
          goes_here s k r c w g h i
          (record {
            next_here = viewed_same k w.next (t e).keeps.idle-is (λ _. on.stripe-is ∙ e);
            sends = λ z m. on.sends z m ∙ e;
            shows = inl (on.shows ∙ e);
          })
          (t e)
      go (no n) =
          goes_there s k r c w g h i
          (record {
            before = λ b _. b on.was-idle;
            after = λ _ e. n (sym on.stripe-is ∙ e);
            sends = λ z m e. n (sym (on.sends z m) ∙ e);
            shows = inl (λ e. n (sym on.shows ∙ e));
            same_number = on.same_number;
            rises = omega (arith, on.rises);
          })

  pub write_goes : (number reading : ℕ) (content : List ℕ) → Bytes content
      → Goes s g h (view k (joined s r (coordinated s r.world c (write_step s.n s.m s.size s.stripes (r.world.coordinators c) number reading content))))
  unfolding After raw
  write_goes number reading content small =
      after_step (write_step s.n s.m s.size s.stripes raw number reading content)
      (λ w e. starts number w (StripeLaws.write_starts s.n s.m s.size s.stripes raw number reading content w e)
      (λ _. write_turned s g h (view k r).sent c raw i.valid own_clock i.items number reading w content small e))

  pub read_goes : (number reading first : ℕ)
      → Goes s g h (view k (joined s r (coordinated s r.world c (read_step s.n s.m s.size s.stripes (r.world.coordinators c) number reading first))))
  unfolding After raw
  read_goes number reading first =
      after_step (read_step s.n s.m s.size s.stripes raw number reading first)
      (λ w e. starts number w (StripeLaws.read_starts s.n s.m s.size s.stripes raw number reading first w e)
      (λ _. read_turned s g h (view k r).sent c raw i.valid own_clock i.items number reading w first e))

  pub write_block_goes : (number reading block : ℕ) (content : List ℕ) → Bytes content
      → Goes s g h (view k (joined s r (coordinated s r.world c (write_block_step s.n s.m s.size s.stripes (r.world.coordinators c) number reading block content))))
  unfolding After raw
  write_block_goes number reading block content small =
      after_step (write_block_step s.n s.m s.size s.stripes raw number reading block content)
      (λ w e. starts number w (StripeLaws.write_block_starts s.n s.m s.size s.stripes raw number reading block content w e)
      (λ _. write_block_turned s g h (view k r).sent c raw i.valid own_clock i.items number reading w block content small e))

  pub read_block_goes : (number reading block : ℕ)
      → Goes s g h (view k (joined s r (coordinated s r.world c (read_block_step s.n s.m s.size s.stripes (r.world.coordinators c) number reading block))))
  unfolding After raw
  read_block_goes number reading block =
      after_step (read_block_step s.n s.m s.size s.stripes raw number reading block)
      (λ w e. starts number w (StripeLaws.read_block_starts s.n s.m s.size s.stripes raw number reading block w e)
      (λ _. read_block_turned s g h (view k r).sent c raw i.valid own_clock i.items number reading w block e))

  -- A COORDINATOR CRASHES
  module _ (left : Left) where
    abbrev left_went : Went → Went
    left_went w = record { next = leaving s left w.next; sent = w.sent; seen = w.seen }

    -- the buffers alone may change
    same_state : (b : Buffered) → (leaving s left b).state ≡ b.state
    same_state b = left_by_lem s left b (λ (z : Buffered). z.state ≡ b.state) refl (λ blocks stripe eb es. refl)

    left_keeps : (w : Went) → KeepsStripe raw w → KeepsStripe raw (left_went w)
    left_keeps w keeps =
        let e = same_state w.next in
        record {
          same-clock = ap (λ (x : Coordinator). x.clock) e ∙ keeps.same-clock;
          same-geometry = ap (λ (x : Coordinator). x.geometry) e ∙ keeps.same-geometry;
          still = λ n. ap (λ (x : Coordinator). x.op.stripe) e ∙ keeps.still (λ q. n (ap (λ (x : Coordinator). x.op.kind) e ∙ q));
          sends = keeps.sends;
          shows = keeps.shows;
          no_start = keeps.no_start;
        }

    idle_crash : raw.state.op.kind ≡ idle_kind → crashed s.n raw ≡ record { next = raw; sent = []; seen = nothing_seen }
    unfolding crashed
    idle_crash e = rw (eq-eqb raw.state.op.kind idle_kind e) refl

    pub crash_goes : Goes s g h
        (view k (joined s r (coordinated s r.world c (left_by s left (crash_step s.n s.m s.size s.stripes (r.world.coordinators c))))))
    unfolding After raw left_by
    crash_goes = go (crash_step s.n s.m s.size s.stripes raw) refl
      where
        falls : (w : Went) → KeepsStripe raw (left_went w) → crashed s.n raw ≡ w → Dec (raw.state.op.kind ≡ idle_kind) → Dec (raw.state.op.stripe ≡ k)
            → After (went (left_went w))
        falls w keeps q (no n) (yes e) =
            here (left_went w) keeps e
            (subst (λ (z : Went). TurnedRound s g h (view k r).sent c (record { next = leaving s left z.next; sent = z.sent; seen = z.seen })) q
            (crash_turned s g h (view k r).sent c raw i.valid (same (viewed_here k raw n e)) left))
        falls w keeps q (no n) (no m) = there (left_went w) keeps m
        -- at an idle coordinator nothing is sent or shown
        falls w keeps q (yes e) d =
            let idle = crashed_idle s.n raw in
            let still = sym q ∙ idle_crash e in
            let none : (left_went w).sent ≡ [] = ap (λ (x : Went). x.sent) still in
            let nothing : (left_went w).seen ≡ nothing_seen = ap (λ (x : Went). x.seen) still in
            goes_there s k r c (left_went w) g h i
            (record {
              before = λ b _. b e;
              after = λ b _. b (ap (λ (x : Coordinator). x.op.kind) (same_state w.next) ∙ ap (λ (z : Went). z.next.state.op.kind) (sym q) ∙ idle);
              sends = λ z m. absurd (Memᴰ.not-nil {a = z} (subst (λ (l : List Broadcast). z ∈ l) none m));
              shows = inr nothing;
              same_number = ap (λ (x : Clock). x.coordinator) keeps.same-clock;
              rises = let z = ap (λ (x : Clock). x.last) keeps.same-clock in omega (arith, z);
            })

        go : (p : Step) → crash_step s.n s.m s.size s.stripes raw ≡ p → After (left_by s left p)
        go (refused number) e = after_refused number
        go (went w) e =
            let keeps = left_keeps w (crash_keeps_stripe s.n s.m s.size s.stripes raw w e) in
            falls w keeps (fell w e) (ℕ_discrete raw.state.op.kind idle_kind) (ℕ_discrete raw.state.op.stripe k)
          where
            fell : (w : Went) → crash_step s.n s.m s.size s.stripes raw ≡ went w → crashed s.n raw ≡ w
            fell w e = unfold crash_step in same_went (crashed s.n raw) w (passes (crash_refusal s.n s.m s.size s.stripes raw.state) (went (crashed s.n raw)) w e).1

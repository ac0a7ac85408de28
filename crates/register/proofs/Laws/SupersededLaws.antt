-- What was stored was told, and so which times are superseded and what is never cleared.
use mathlib.Core.Path.{◌≡◌, sym, subst, ◌∙◌}
use mathlib.Core.Logic.{◌⊎◌, inl, inr}
use mathlib.Core.List.{List, ◌++◌}
use Prim.Native.Nat.{ℕ, ◌≤◌, ◌<◌}
use native.Mathlib.Omega.{arith}
use native.Mathlib.Decide.{ℕ_discrete}
use borrow.Author.Tests.{eqb-true, eq-eqb}
use Rattle.settings.specs.Ranges.{SettingsRange}
use Rattle.settings.specs.declared.Settings.{Settings}
use Rattle.message.specs.Kinds.{write_kind, modify_kind}
use Rattle.message.proofs.Laws.MessageLaws.{by_silent}
use Rattle.message.specs.declared.Message.{Message}
use Rattle.image.specs.Brick.{Brick}
use Rattle.image.proofs.Laws.ParseLaws.{range_of}
use Rattle.brick_log.specs.BrickRules.{trimmed_to, dropped_from, brick_after}
use Rattle.brick_log.proofs.Laws.AnsweredLaws.{after_trim, after_drop}
use Rattle.brick_log.proofs.Laws.DropLaws.{drop_keeps}
use Rattle.brick_log.proofs.Laws.TrimLaws.{trim_keeps}
use Rattle.coord_apply.specs.Acts.{with_tally, counting}
use Rattle.coord_apply.specs.Answers.{Buffered}
use Rattle.coord_tally.specs.Counting.{at_times}
use Rattle.settings.specs.Count.{count}
use Rattle.settings.specs.Times.{coordinator_of}
use Rattle.order.specs.Claim.{◌∈◌}
use Rattle.order.specs.Facts.{stored}
use Rattle.order.specs.Places.{whole, In}
use Rattle.order.specs.Valid.{Committed, Passed, Gone}
use Rattle.order.proofs.Laws.StoredLaws.{dead_never}
use Rattle.register.specs.Runs.{message, reply, fresh_set, Event, Moved, unmoved, run_from, run}
use Rattle.register.specs.Superseded.{SaidStored, QuorumStored, Superseded, RecoveryRoundsSupersede, DroppedTimesAreSuperseded, HighestStored, HasTime}
use Rattle.register.specs.Superseded.{TrimmedTimesAreStored, HighestStays, ClearingKeepsTheHighest}
use Rattle.register.specs.Recoveries.{addressee, counted_at}
use Rattle.register.proofs.Laws.AgreeLaws.{run_from_both}
use Rattle.register.proofs.Laws.BrickEvent.{stores_which}
use Rattle.register.proofs.Laws.AgreementLaws.{t, busy, counted_holds}
use Rattle.register.proofs.Laws.EntryLaws.{sound, keeps}
use Rattle.register.proofs.Laws.Invariant.{quorums, Hist, LogHas, BrickInv, MessageInv, ReplyInv, top_of, item_on, view, Inv}
use Rattle.register.proofs.Laws.RecoverLaws.{gone_top}
use Rattle.register.proofs.Laws.StripeViewLaws.{in_items, of_items}
use Rattle.register.proofs.Laws.TheoremProof.{from_holds, run_holds}

module _ (s : Settings) (g : SettingsRange s) (k : ℕ) (h : Hist s) (r : Moved s) (i : Inv s g k h r) where
  -- what a brick stored it has said,
  says : (b t : ℕ) → In (stored b t) h → SaidStored r.world.sent k b t
  unfolding view item_on
  says b t m =
      let w = i.told b t m in
      let q = of_items k r.world.sent (reply w.from w.block) w.was-sent in
      record {
        answer = w.from;
        block = w.block;
        was-sent = q.0;
        of-stripe = eqb-true w.from.stripe k q.1;
        of-brick = w.brick-is;
        of-time = w.time-is;
        stores = w.kind-is;
        said-yes = w.yes-is;
      }

  -- and what it has said it stored
  stored_by : (b t : ℕ) → SaidStored r.world.sent k b t → In (stored b t) h
  unfolding view item_on
  stored_by b t w =
      subst (λ (u : ℕ). In (stored b u) h) w.of-time
      (subst (λ (c : ℕ). In (stored c w.answer.time) h) w.of-brick (by (stores_which w.answer.kind w.stores)))
    where
      z : ReplyInv s g h (view k r).sent w.answer w.block
      z = i.items (reply w.answer w.block) (in_items k r.world.sent (reply w.answer w.block) w.was-sent (eq-eqb w.answer.stripe k w.of-stripe))

      by : (w.answer.kind ≡ write_kind) ⊎ (w.answer.kind ≡ modify_kind) → In (stored w.answer.brick w.answer.time) h
      by (inl e) = z.writes w.said-yes e
      by (inr e) = z.modifies w.said-yes e

  quorum_said : (t : ℕ) → 0 < t → Committed (quorums s g) h t → QuorumStored s r.world.sent k t
  quorum_said t l (inl e) = absurd (omega arith)
  quorum_said t l (inr m) = record { set = m.set; enough = m.enough; each = λ b w y. says b t (m.each b w y) }

  quorum_committed : (t : ℕ) → QuorumStored s r.world.sent k t → Committed (quorums s g) h t
  quorum_committed t m = inr (record { set = m.set; enough = m.enough; each = λ b w y. stored_by b t (m.each b w y) })

  -- the highest time that q bricks stored is not passed,
  highest_first : (t : ℕ) → HighestStored s r.world.sent k t → Passed (quorums s g) h t → ⊥
  highest_first t w (u, l, c) = omega (arith, l, w.highest u (quorum_said u (omega arith) c))

  -- and not gone
  highest_not_gone : (t : ℕ) → 0 < t → HighestStored s r.world.sent k t → Gone (quorums s g) h t → ⊥
  highest_not_gone t pos w (inl p) = highest_first t w p
  highest_not_gone t pos w (inr d) = by w.is-stored
    where
      by : (t ≡ 0) ⊎ QuorumStored s r.world.sent k t → ⊥
      by (inl e) = omega arith
      by (inr q) = dead_never i.valid whole pos d (quorum_committed t q)

-- What is gone is superseded.
pub gone_superseded : (s : Settings) (g : SettingsRange s) (events : List Event) (k : ℕ) (h : Hist s) → Inv s g k h (run s events)
    → (u : ℕ) → 0 < u → Gone (quorums s g) h u → Superseded s events k u
gone_superseded s g events k h i u pos (inl (t, l, c)) = inr (t, l, quorum_said s g k h (run s events) i t (omega arith) c)
gone_superseded s g events k h i u pos (inr d) = inl never
  where
    never : (later : List Event) → QuorumStored s (run s (events ++ later)).world.sent k u → ⊥
    never later q =
        let w = from_holds s g k h (run s events) i later in
        let e : run s (events ++ later) ≡ run_from s (run s events) later = unfold run in run_from_both s (unmoved s (fresh_set s)) events later in
        dead_never w.2.valid w.1 pos d
        (quorum_committed s g k w.0 (run_from s (run s events) later) w.2 u (subst (λ (m : Moved s). QuorumStored s m.world.sent k u) e q))

pub recovery_rounds_supersede : RecoveryRoundsSupersede
unfolding counting with_tally
recovery_rounds_supersede s e events a block time x =
    gone_superseded s g events (addressee (run s events).world a).state.op.stripe w.0 w.1 time (omega (arith, x.not-zero))
    (subst (Gone (quorums s g) w.0) (sym x.is-highest) gone)
  where
    g : SettingsRange s
    g = range_of s e

    after : Buffered
    after = counted_at s (run s events).world a block

    w : (h : Hist s) × Inv s g (addressee (run s events).world a).state.op.stripe h (run s events)
    w = run_holds s g (addressee (run s events).world a).state.op.stripe (t s g (run s events) a block x.qth).takes.parts.stripe-low events

    gone : Gone (quorums s g) w.0 (top_of s after)
    gone =
        gone_top s g w.0 (view (addressee (run s events).world a).state.op.stripe (run s events)).sent (coordinator_of a.time) after w.1.valid
        (counted_holds s g (run s events) a block x.qth w.0 w.1) w.1.items (busy s g (run s events) a block x.qth)
        x.recovers x.all_yes x.qth.is-qth
        (subst (λ (u : ℕ). count (at_times after.state.tally.held after.state.tally.found u) s.n < s.m) x.is-highest x.on-few)

-- what holds of a message of the stripe
sent_holds : (s : Settings) (g : SettingsRange s) (k : ℕ) (h : Hist s) (r : Moved s) → Inv s g k h r → (b : ℕ) (msg : Message) (block old : List ℕ)
    → message b msg block old ∈ r.world.sent → msg.stripe ≡ k → MessageInv s g h b msg block old
unfolding view item_on
sent_holds s g k h r i b msg block old m e = i.items (message b msg block old) (in_items k r.world.sent (message b msg block old) m (eq-eqb msg.stripe k e))

pub dropped_times_are_superseded : DroppedTimesAreSuperseded
dropped_times_are_superseded s e events stripe low b msg block old m q kind =
    let w = run_holds s (range_of s e) stripe low events in
    let d = (sent_holds s (range_of s e) stripe w.0 (run s events) w.1 b msg block old m q).drops kind in
    gone_superseded s (range_of s e) events stripe w.0 w.1 msg.time d.0 d.1

pub trimmed_times_are_stored : TrimmedTimesAreStored
trimmed_times_are_stored s e events stripe low b msg block old m q kind =
    let w = run_holds s (range_of s e) stripe low events in
    let t = (sent_holds s (range_of s e) stripe w.0 (run s events) w.1 b msg block old m q).trims kind in
    quorum_said s (range_of s e) stripe w.0 (run s events) w.1 msg.time t.0 t.1

pub clearing_keeps_the_highest : ClearingKeepsTheHighest
clearing_keeps_the_highest s e events stripe low time top b msg block old m q silent x o has =
    by_silent (HasTime (brick_after s b x msg block old) time) msg.kind silent
    (λ k. subst (λ (y : Brick). HasTime y time) (sym (after_trim s b x msg block old k)) (trimmed (z.trims k).1))
    (λ k. subst (λ (y : Brick). HasTime y time) (sym (after_drop s b x msg block old k)) (dropped (z.drops k)))
  where
    g : SettingsRange s
    g = range_of s e

    w : (h : Hist s) × Inv s g stripe h (run s events)
    w = run_holds s g stripe low events

    z : MessageInv s g w.0 b msg block old
    z = sent_holds s g stripe w.0 (run s events) w.1 b msg block old m q

    -- a Trim's time is at most the highest
    at_most : Committed (quorums s g) w.0 msg.time → Dec (msg.time ≡ 0) → msg.time ≤ time
    at_most c (yes n) = omega arith
    at_most c (no n) = top.highest msg.time (quorum_said s g stripe w.0 (run s events) w.1 msg.time (omega (arith, n)) c)

    trimmed : Committed (quorums s g) w.0 msg.time → HasTime (trimmed_to x msg.time) time
    trimmed c =
        let l = at_most c (ℕ_discrete msg.time 0) in
        let y = trim_keeps s x msg.time has.0 (sound s e events stripe low b z.brick-low x o) has.1 (omega (arith, l, has.2)) in
        (y.0, y.1, y.2 ∙ has.2)

    -- a Drop's time is gone, and so another
    dropped : (0 < msg.time) × Gone (quorums s g) w.0 msg.time → HasTime (dropped_from x msg.time) time
    dropped d =
        let y = drop_keeps x msg.time has.0 has.1 (λ u. other (sym has.2 ∙ u)) in
        (y.0, y.1, y.2 ∙ has.2)
      where
        other : time ≡ msg.time → ⊥
        other u =
            highest_not_gone s g stripe w.0 (run s events) w.1 time (omega (arith, u, d.0)) top
            (subst (Gone (quorums s g) w.0) (sym u) d.1)

pub highest_stays : HighestStays
highest_stays s e events stripe low time top b bl st x o = go (ℕ_discrete time 0) st
  where
    h : Hist s
    h = (run_holds s (range_of s e) stripe low events).0

    i : Inv s (range_of s e) stripe h (run s events)
    i = (run_holds s (range_of s e) stripe low events).1

    brick : BrickInv s (range_of s e) h b x
    brick = keeps s e events stripe low b bl x o

    fresh : time ≡ 0 → LogHas x 0 ⊎ Passed (quorums s (range_of s e)) h 0 → HasTime x time
    fresh z (inl w) = subst (HasTime x) (sym z) w
    fresh z (inr w) = absurd (highest_first s (range_of s e) stripe h (run s events) i time top (subst (Passed (quorums s (range_of s e)) h) (sym z) w))

    kept : (time ≡ 0 → ⊥) → LogHas x time ⊎ Gone (quorums s (range_of s e)) h time → HasTime x time
    kept n (inl w) = w
    kept n (inr w) = absurd (highest_not_gone s (range_of s e) stripe h (run s events) i time (omega (arith, n)) top w)

    go : Dec (time ≡ 0) → (time ≡ 0) ⊎ SaidStored (run s events).world.sent stripe b time → HasTime x time
    go (yes z) _ = fresh z brick.kept-zero
    go (no n) (inl z) = absurd (n z)
    go (no n) (inr w) = kept n (brick.kept time (inr (stored_by s (range_of s e) stripe h (run s events) i b time w)))

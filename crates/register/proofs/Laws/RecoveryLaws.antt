-- A read in its store: the event of the run at which its recovery was decided, and that there is one. This is read off the events, one after
-- another.
use mathlib.Core.Path.{◌≡◌, refl, sym, ap, subst, ◌∙◌}
use mathlib.Core.Logic.{◌⊎◌, inl, inr}
use mathlib.Core.Bool.{Bool, true, false, cond}
use mathlib.Core.List.Memᴰ
use mathlib.Core.List.{List, [], ◌∷◌, ◌++◌, append-nil, append_assoc}
use Prim.Native.Nat.{ℕ, zero, suc, ◌+◌, ◌*◌, ◌≤◌, ◌<◌}
use native.Mathlib.Omega.{arith}
use lib.Dec.{ltb, leb}
use borrow.Author.Tests.{eqb-true, ne_eqb, ltb-false, le-ltb}
use Rattle.byte_lists.proofs.Laws.BoolLaws.{and_right}
use Rattle.settings.specs.Ranges.{SettingsRange, in_range, quorum}
use Rattle.settings.specs.Times.{time_of, coordinator_of}
use Rattle.settings.specs.declared.Clock.{Clock}
use Rattle.settings.specs.declared.Settings.{Settings}
use Rattle.image.proofs.Laws.ParseLaws.{range_of}
use Rattle.message.specs.Flags.{members}
use Rattle.message.specs.Kinds.{order_kind, order_read_kind, write_kind}
use Rattle.message.specs.declared.Reply.{Reply}
use Rattle.coord_record.specs.Records.{idle_kind, idle_with, is_reading, no_op}
use Rattle.coord_record.specs.Sound.{time_right}
use Rattle.coord_record.specs.declared.Op.{Op}
use Rattle.coord_record.specs.declared.Tally.{Tally}
use Rattle.coord_decide.specs.Deciding.{decided}
use Rattle.coord_decide.specs.Decisions.{DecisionSays}
use Rattle.coord_decide.proofs.Laws.SaysLaws.{says_of}
use Rattle.coord_decide.specs.declared.Decision.{Decision}
use Rattle.coord_decide.specs.declared.Decision.TheVariants.{Abort, Give, Look, Store, Modify, Recover, Finish}
use Rattle.coord_apply.specs.Acts.{acted, aborting, counting, ending, modifying, named_bricks, next_op, next_round, opened, picked_at, recovered_stripe, sending_first, storing, waiting_or}
use Rattle.coord_apply.specs.Acts.{with_tally}
use Rattle.coord_apply.specs.Answers.{Buffered, Went, went, nothing_seen}
use Rattle.coord_apply.proofs.Laws.ActLaws.{recover_either}
use Rattle.coordinator.specs.Routines.{take_step}
use Rattle.coord_laws.proofs.Laws.OpCaseLaws.{clash, Fit, reading, looking, restoring, ordering, storing as write-storing, block_ordering, modifying as modify-sent, fit}
use Rattle.coord_laws.proofs.Laws.SoundnessLaws.{passes}
use Rattle.coord_laws.proofs.Laws.StepRunLaws
use Rattle.coord_laws.proofs.Laws.StepRunLaws.{ReplyTaken}
use Rattle.coord_laws.proofs.Laws.StripeLaws.{take_keeps_stripe, taken_runs}
use Rattle.order.specs.Claim.{◌∈◌}
use Rattle.register.specs.NamedBricks.{IsAt, Recovery, recovered_at, RecoveriesAreOne}
use Rattle.register.specs.Recoveries.{addressee, counted_at, QthReply}
use Rattle.register.specs.Runs.{Item, reply, World, idle, fresh_set, Event, arrives, Moved, unmoved, coordinated, arriving, arriving_at, step, next_moved, run_from, run}
use Rattle.register.proofs.Laws.AgreeLaws.{run_from_both, run_more}
use Rattle.register.proofs.Laws.AgreementLaws.{w, steps, t as taken, busy}
use Rattle.register.proofs.Laws.CoordinatorEventLaws.{TurnedBy, same, started, fell, took, turned_by}
use Rattle.register.proofs.Laws.BrickEvent.{put_here}

-- What a coordinator with a read in its store has of the event at which it recovered: that was at this time, and what it names and stores is from
-- there.
pub record Restored (s : Settings) (events : List Event) (k : Buffered) : Type 0 where
  pub from : Recovery s events k.state.op
  pub time : ℕ
  pub decides : decided s.n s.m (recovered_at s events k.state.op from).state.op (recovered_at s events k.state.op from).state.tally ≡ Recover time
  pub bricks-is : k.state.bricks ≡ named_bricks (recovered_at s events k.state.op from).state.op (picked_at s.n s.m (recovered_at s events k.state.op from) time)
  pub stripe-is : k.stripe ≡ recovered_stripe s.n s.m s.size (recovered_at s events k.state.op from) time

abbrev pub Restoring : Settings → List Event → Buffered → Type 0
Restoring s events k = is_reading k.state.op.kind ≡ true → k.state.op.phase ≡ write_kind → Restored s events k

-- an item at a place was sent
at_in : (l : List Item) (p : ℕ) (z : Item) → IsAt l p z → z ∈ l
unfolding IsAt
at_in [] p z e = absurd e
at_in (y ∷ l) zero z e = Memᴰ.head (sym e)
at_in (y ∷ l) (suc p) z e = Memᴰ.tail (at_in l p z e)

-- a coordinator whose operation is no read in its store
not_reading : (s : Settings) (events : List Event) (k : Buffered) → k.state.op.kind ≡ idle_kind → Restoring s events k
unfolding is_reading
not_reading s events k e q p = clash (rw e at q)

not_storing : (s : Settings) (events : List Event) (k : Buffered) → (k.state.op.phase ≡ write_kind → ⊥) → Restoring s events k
not_storing s events k n q p = absurd (n p)

-- one event more, at which operation, bricks and stripe stay
module _ (s : Settings) (events : List Event) (e : Event) where
  abbrev more : List Event
  more = events ++ (e ∷ [])

  stays : (k k' : Buffered) → k.state.op ≡ k'.state.op → k.state.bricks ≡ k'.state.bricks → k.stripe ≡ k'.stripe → Restoring s events k → Restoring s more k'
  stays k k' o b t f q p =
      record {
        from = record {
          earlier = z.from.earlier;
          place = z.from.place;
          later = z.from.later ++ (e ∷ []);
          parts = ap (λ (l : List Event). l ++ (e ∷ [])) z.from.parts ∙ append_assoc z.from.earlier (arrives z.from.place ∷ z.from.later) (e ∷ []);
          last = z.from.last;
          block = z.from.block;
          arrived = z.from.arrived;
          qth = z.from.qth;
          phase-is = z.from.phase-is;
          store_is = sym o ∙ z.from.store_is;
        };
        time = z.time;
        decides = z.decides;
        bricks-is = sym b ∙ z.bricks-is;
        stripe-is = sym t ∙ z.stripe-is;
      }
    where
      z : Restored s events k
      z = f (ap (λ (x : Op). is_reading x.kind) o ∙ q) (ap (λ (x : Op). x.phase) o ∙ p)

-- A REPLY THAT IS TAKEN, at a place of what was sent
module _ (s : Settings) (events : List Event) (place : ℕ) (before : (c : ℕ) → Restoring s events ((run s events).world.coordinators c)) (a : Reply) (block : List ℕ)
    (arrived : IsAt (run s events).world.sent place (reply a block)) where
  abbrev k : Buffered
  k = addressee (run s events).world a

  abbrev after : Buffered
  after = counted_at s (run s events).world a block

  abbrev now : List Event
  now = events ++ (arrives place ∷ [])

  module _ (g : Went) (steps : take_step s.n s.m s.size s.stripes k a block (s.n * s.size) ≡ went g) where
    taken_here : ReplyTaken s.n s.m s.size s.stripes k a block (s.n * s.size) g
    taken_here = StepRunLaws.took s.n s.m s.size s.stripes k a block (s.n * s.size) g steps

    -- no read stores after an Order
    ordered : Fit k.state.op → k.state.op.phase ≡ order_kind → is_reading k.state.op.kind ≡ true → ⊥
    unfolding is_reading
    ordered (reading q p _) o r = omega (arith, p, o)
    ordered (looking q p _ _) o r = omega (arith, p, o)
    ordered (restoring q p l) o r = omega (arith, p, o)
    ordered (ordering q p _ _) o r = clash (rw q at r)
    ordered (write-storing q p _) o r = omega (arith, p, o)
    ordered (block_ordering q p _) o r = omega (arith, p, o)
    ordered (modify-sent q p _) o r = omega (arith, p, o)

    fits : Fit k.state.op
    fits = fit k.state.op taken_here.takes.parts.op-right (λ _ z. omega (arith, taken_here.answer.of-phase, taken_here.reply.kind-low, z))

    -- the q-th reply of a round
    module _ (enough : quorum s.n s.m ≤ members after.state.tally.counted s.n) where
      -- the store of a recovery
      stores : (time : ℕ) → decided s.n s.m after.state.op after.state.tally ≡ Recover time
          → Restoring s now (storing s.n s.m s.size after time).next
      unfolding sending_first next_round opened take_step
      stores time d q p =
          record {
            from = record {
              earlier = events;
              place = place;
              later = [];
              parts = refl;
              last = a;
              block = block;
              arrived = arrived;
              qth = record { was-sent = at_in (run s events).world.sent place (reply a block) arrived; taken = (passes _ _ g steps).0; is-qth = enough };
              phase-is = recovers after.state.op after.state.tally time d;
              store_is = refl;
            };
            time = time;
            decides = d;
            bricks-is = refl;
            stripe-is = refl;
          }
        where
          recovers : (op : Op) (t : Tally) (time : ℕ) → decided s.n s.m op t ≡ Recover time → op.phase ≡ order_read_kind
          recovers op t time d = unfold DecisionSays in (says_of s.n s.m op t (Recover time) (sym d)).phase-is

      decides : (d : Decision) → decided s.n s.m after.state.op after.state.tally ≡ d → Restoring s now (acted s.n s.m s.size after d).next
      unfolding acted ending idle_with no_op sending_first next_round modifying opened next_op counting with_tally DecisionSays
      decides Abort d = not_reading s now _ refl
      decides Give d = not_reading s now _ refl
      decides (Look max) d = not_storing s now _ (λ z. omega (arith, z))
      decides Store d = λ q p. absurd (ordered fits (says_of s.n s.m after.state.op after.state.tally Store (sym d)).phase-is q)
      decides (Modify time) d = not_storing s now _ (λ z. omega (arith, z))
      decides (Recover time) d =
          recover_either s.n s.m s.size after time (λ (v : Went). Restoring s now v.next) (stores time d) (not_reading s now (aborting s.n after).next refl)
      decides Finish d = not_reading s now _ refl

    waits : (b : Bool) → ltb (members after.state.tally.counted s.n) (quorum s.n s.m) ≡ b
        → Restoring s now
        (cond b (record { next = after; sent = []; seen = nothing_seen }) (acted s.n s.m s.size after (decided s.n s.m after.state.op after.state.tally))).next
    waits true q = unfold counting with_tally in stays s events (arrives place) k after refl refl refl (before (coordinator_of a.time))
    waits false q = decides (ltb-false (members after.state.tally.counted s.n) (quorum s.n s.m) q) _ refl

    pub reply_restores : Restoring s now g.next
    unfolding waiting_or
    reply_restores = subst (λ (v : Went). Restoring s now v.next) taken_here.is (waits _ refl)

-- one event more
step_restores : (s : Settings) (events : List Event) → ((c : ℕ) → Restoring s events ((run s events).world.coordinators c)) → (e : Event) (c : ℕ) (k : Buffered)
    → TurnedBy s (run s events).world e c k → Restoring s (events ++ (e ∷ [])) k
step_restores s events before e c k (same q) =
    let p = sym q in
    stays s events e ((run s events).world.coordinators c) k (ap (λ (x : Buffered). x.state.op) p) (ap (λ (x : Buffered). x.state.bricks) p) (ap (λ (x : Buffered). x.stripe) p)
    (before c)
step_restores s events before e c k (started l n) = not_storing s (events ++ (e ∷ [])) k n
step_restores s events before e c k (fell q i) = not_reading s (events ++ (e ∷ [])) k i
step_restores s events before e c k (took place q a block at o g steps p) =
    subst (λ (z : Event). Restoring s (events ++ (z ∷ [])) k) (sym q)
    (subst (Restoring s (events ++ (arrives place ∷ []))) (sym p) (reply_restores s events place before a block at g steps))

-- so at each moment of a run
from_restored : (s : Settings) (done rest : List Event) → ((c : ℕ) → Restoring s done ((run s done).world.coordinators c)) → (c : ℕ)
    → Restoring s (done ++ rest) ((run s (done ++ rest)).world.coordinators c)
from_restored s done [] f c = subst (λ (l : List Event). Restoring s l ((run s l).world.coordinators c)) (sym (append-nil done)) (f c)
from_restored s done (e ∷ rest) f c =
    subst (λ (l : List Event). Restoring s l ((run s l).world.coordinators c)) (append_assoc done (e ∷ []) rest)
    (from_restored s (done ++ (e ∷ [])) rest
    (λ j. subst (λ (m : Moved s). Restoring s (done ++ (e ∷ [])) (m.world.coordinators j)) (sym (run_more s done e))
    (step_restores s done f e j _ (turned_by s (run s done).world e j))) c)

pub read_restored : (s : Settings) (events : List Event) (c : ℕ) → Restoring s events ((run s events).world.coordinators c)
read_restored s events c = from_restored s [] events fresh c
  where
    fresh : (j : ℕ) → Restoring s [] ((run s []).world.coordinators j)
    fresh j = not_reading s [] _ (unfold run run_from unmoved fresh_set idle idle_with no_op in refl)

-- THERE IS ONE. A coordinator whose clock is past a count, or has it with a later round open or none:
record Past (last round : ℕ) (k : Buffered) : Type 0 where
  rises : last ≤ k.state.clock.last
  later : k.state.clock.last ≡ last → (k.state.op.kind ≡ idle_kind → ⊥) → round < k.state.op.round

-- where a decision leads to: an idle coordinator, or the next round
acted_onward : (n m size : ℕ) (h : Buffered) (d : Decision)
    → ((acted n m size h d).next.state.op.kind ≡ idle_kind) ⊎ ((acted n m size h d).next.state.op.round ≡ h.state.op.round + 1)
unfolding acted ending idle_with no_op sending_first next_round modifying opened next_op
acted_onward n m size h Abort = inl refl
acted_onward n m size h Give = inl refl
acted_onward n m size h (Look max) = inr refl
acted_onward n m size h Store = inr refl
acted_onward n m size h (Modify time) = inr refl
acted_onward n m size h (Recover time) =
    recover_either n m size h time (λ (v : Went). (v.next.state.op.kind ≡ idle_kind) ⊎ (v.next.state.op.round ≡ h.state.op.round + 1)) (inr refl) (inl refl)
acted_onward n m size h Finish = inl refl

-- A reply that is taken.
module _ (s : Settings) (h : Buffered) (a : Reply) (block : List ℕ) (g : Went)
    (steps : take_step s.n s.m s.size s.stripes h a block (s.n * s.size) ≡ went g) where
  abbrev counts : Buffered
  counts = counting s.size h a block

  same_last : g.next.state.clock.last ≡ h.state.clock.last
  same_last = ap (λ (x : Clock). x.last) (take_keeps_stripe s.n s.m s.size s.stripes h a block (s.n * s.size) g steps).same-clock

  is : waiting_or s.n s.m s.size counts ≡ g
  is = (StepRunLaws.took s.n s.m s.size s.stripes h a block (s.n * s.size) g steps).is

  -- as the q-th it ends the round
  ends_round : quorum s.n s.m ≤ members counts.state.tally.counted s.n → Past h.state.clock.last h.state.op.round g.next
  unfolding waiting_or counting with_tally
  ends_round l =
      let e : waiting_or s.n s.m s.size counts ≡ acted s.n s.m s.size counts (decided s.n s.m counts.state.op counts.state.tally)
      = rw (le-ltb (members counts.state.tally.counted s.n) (quorum s.n s.m) l) refl in
      record {
        rises = omega (arith, same_last);
        later = λ _ n. by n
            (subst (λ (v : Went). (v.next.state.op.kind ≡ idle_kind) ⊎ (v.next.state.op.round ≡ h.state.op.round + 1)) (sym e ∙ is)
            (acted_onward s.n s.m s.size counts (decided s.n s.m counts.state.op counts.state.tally)));
      }
    where
      by : (g.next.state.op.kind ≡ idle_kind → ⊥) → (g.next.state.op.kind ≡ idle_kind) ⊎ (g.next.state.op.round ≡ h.state.op.round + 1)
          → h.state.op.round < g.next.state.op.round
      by n (inl i) = absurd (n i)
      by n (inr q) = omega (arith, q)

  -- and otherwise it leaves it open
  goes_on_lem : (last round : ℕ) → Past last round h → Past last round g.next
  unfolding waiting_or counting with_tally
  goes_on_lem last round x =
      record {
        rises = omega (arith, same_last, x.rises);
        later = λ q n. by q n (subst (λ (v : Went). (v.next.state.op.kind ≡ idle_kind) ⊎ (h.state.op.round ≤ v.next.state.op.round)) is
            (either (ltb (members counts.state.tally.counted s.n) (quorum s.n s.m))));
      }
    where
      either : (b : Bool)
          → let v = cond b (record { next = counts; sent = []; seen = nothing_seen }) (acted s.n s.m s.size counts (decided s.n s.m counts.state.op counts.state.tally)) in
          (v.next.state.op.kind ≡ idle_kind) ⊎ (h.state.op.round ≤ v.next.state.op.round)
      either true = inr (omega arith)
      either false = next _ _ (acted_onward s.n s.m s.size counts (decided s.n s.m counts.state.op counts.state.tally))
        where
          next : (kind number : ℕ) → (kind ≡ idle_kind) ⊎ (number ≡ h.state.op.round + 1) → (kind ≡ idle_kind) ⊎ (h.state.op.round ≤ number)
          next kind number (inl i) = inl i
          next kind number (inr q) = inr (omega (arith, q))

      runs : h.state.op.kind ≡ idle_kind → ⊥
      runs = taken_runs s.n s.m s.size s.stripes h a block (s.n * s.size) g steps

      by : g.next.state.clock.last ≡ last → (g.next.state.op.kind ≡ idle_kind → ⊥)
          → (g.next.state.op.kind ≡ idle_kind) ⊎ (h.state.op.round ≤ g.next.state.op.round) → round < g.next.state.op.round
      by q n (inl i) = absurd (n i)
      by q n (inr l) = let z = x.later (omega (arith, same_last, q)) runs in omega (arith, z, l)

-- so it stays past
past_turned : (s : Settings) (w : World) (e : Event) (c last round : ℕ) (k : Buffered) → Past last round (w.coordinators c) → TurnedBy s w e c k → Past last round k
past_turned s w e c last round k x (same q) = subst (Past last round) (sym q) x
past_turned s w e c last round k x (started l n) = record { rises = omega (arith, l, x.rises); later = λ q _. absurd (omega (arith, l, x.rises, q)) }
past_turned s w e c last round k x (fell q i) =
    record { rises = (let z = ap (λ (y : Clock). y.last) q in omega (arith, z, x.rises)); later = λ _ n. absurd (n i) }
past_turned s w e c last round k x (took place q a block at o g steps p) =
    subst (Past last round) (sym p) (goes_on_lem s (w.coordinators (coordinator_of a.time)) a block g steps last round (subst (λ (j : ℕ). Past last round (w.coordinators j)) o x))

past_from : (s : Settings) (c last round : ℕ) (r : Moved s) (events : List Event) → Past last round (r.world.coordinators c)
    → Past last round ((run_from s r events).world.coordinators c)
unfolding run_from next_moved
past_from s c last round r [] x = x
past_from s c last round r (e ∷ events) x =
    past_from s c last round (next_moved s r e) events (past_turned s r.world e c last round _ x (turned_by s r.world e c))

-- the time of what runs has its clock's count
time_drawn_lem : (kind time : ℕ) (clock : Clock) → (kind ≡ idle_kind → ⊥) → time_right kind time clock ≡ true → time ≡ time_of clock.last clock.coordinator
unfolding time_right
time_drawn_lem kind time clock n e = eqb-true time (time_of clock.last clock.coordinator) (and_right (leb 1 clock.last) _ (rw (ne_eqb kind idle_kind n) at e))

-- one item stands at a place
at_one : (l : List Item) (p : ℕ) (y z : Item) → IsAt l p y → IsAt l p z → y ≡ z
unfolding IsAt
at_one [] p y z a b = absurd a
at_one (x ∷ l) zero y z a b = sym a ∙ b
at_one (x ∷ l) (suc p) y z a b = at_one l p y z a b

-- the item at a place is the one that arrives
arriving_at_lem : (s : Settings) (w : World) (l : List Item) (p : ℕ) (z : Item) → IsAt l p z → arriving_at s w l p ≡ arriving s w z
unfolding arriving_at IsAt
arriving_at_lem s w [] p z e = absurd e
arriving_at_lem s w (x ∷ l) zero z e = ap (arriving s w) e
arriving_at_lem s w (x ∷ l) (suc p) z e = arriving_at_lem s w l p z e

-- and a reply that is taken leaves its coordinator so
next_taken : (s : Settings) (w : World) (place : ℕ) (a : Reply) (block : List ℕ) → IsAt w.sent place (reply a block) → (g : Went)
    → take_step s.n s.m s.size s.stripes (addressee w a) a block (s.n * s.size) ≡ went g
    → (step s w (arrives place)).world.coordinators (coordinator_of a.time) ≡ g.next
unfolding step arriving coordinated
next_taken s w place a block at g q =
    ap (λ (m : Moved s). m.world.coordinators (coordinator_of a.time))
    (arriving_at_lem s w w.sent place (reply a block) at ∙ ap (coordinated s w (coordinator_of a.time)) q)
    ∙ put_here w.coordinators (coordinator_of a.time) g.next

-- The q-th reply of a round is taken once.
module _ (s : Settings) (range : in_range s ≡ true) (events : List Event) (place : ℕ) (later : List Event) (a b : Reply) (block other : List ℕ)
    (arrived : IsAt (run s events).world.sent place (reply a block)) (x : QthReply s (run s events).world a block)
    (y : QthReply s (run s (events ++ (arrives place ∷ later))).world b other) where
  abbrev first : Buffered
  first = addressee (run s events).world a

  abbrev second : Buffered
  second = addressee (run s (events ++ (arrives place ∷ later))).world b

  g : SettingsRange s
  g = range_of s range

  abbrev c : ℕ
  c = coordinator_of a.time

  -- it leaves its coordinator past that round,
  past_here : Past first.state.clock.last first.state.op.round ((step s (run s events).world (arrives place)).world.coordinators (coordinator_of a.time))
  past_here =
      subst (Past first.state.clock.last first.state.op.round)
      (sym (next_taken s (run s events).world place a block arrived (w s g (run s events) a block x) (steps s g (run s events) a block x)))
      (ends_round s first a block (w s g (run s events) a block x) (steps s g (run s events) a block x) x.is-qth)

  -- where it stays
  past_there : Past first.state.clock.last first.state.op.round ((run s (events ++ (arrives place ∷ later))).world.coordinators (coordinator_of a.time))
  unfolding run_from next_moved
  past_there =
      let e : run s (events ++ (arrives place ∷ later)) ≡ run_from s (run s events) (arrives place ∷ later)
      = unfold run in run_from_both s (unmoved s (fresh_set s)) events (arrives place ∷ later) in
      subst (λ (m : Moved s). Past first.state.clock.last first.state.op.round (m.world.coordinators (coordinator_of a.time))) (sym e)
      (past_from s (coordinator_of a.time) first.state.clock.last first.state.op.round (next_moved s (run s events) (arrives place)) later past_here)

  not_twice : first.state.op.time ≡ second.state.op.time → first.state.op.round ≡ second.state.op.round → ⊥
  unfolding time_of
  not_twice time round =
      let t = taken s g (run s events) a block x in
      let u = taken s g (run s (events ++ (arrives place ∷ later))) b other y in
      let o : coordinator_of a.time ≡ coordinator_of b.time = ap coordinator_of (t.answer.of-operation ∙ time ∙ sym u.answer.of-operation) in
      let n = busy s g (run s (events ++ (arrives place ∷ later))) b other y in
      let d = time_drawn_lem first.state.op.kind first.state.op.time first.state.clock (busy s g (run s events) a block x) t.takes.parts.time-right in
      let f = time_drawn_lem second.state.op.kind second.state.op.time second.state.clock n u.takes.parts.time-right in
      let z : Past first.state.clock.last first.state.op.round second
      = subst (λ (j : ℕ). Past first.state.clock.last first.state.op.round ((run s (events ++ (arrives place ∷ later))).world.coordinators j)) o past_there in
      let l = z.later (omega (arith, d, f, time, t.takes.parts.number-low, u.takes.parts.number-low)) n in
      omega (arith, l, round)

-- two places of one list
parted : (k k' l l' : List Event) (a b : Event) → k ++ (a ∷ k') ≡ l ++ (b ∷ l')
    → ((k ≡ l) × (a ≡ b)) ⊎ (((m : List Event) × (l ≡ k ++ (a ∷ m))) ⊎ ((m : List Event) × (k ≡ l ++ (b ∷ m))))
parted [] k' [] l' a b e = inl (refl, cc)
parted [] k' (y ∷ l) l' a b e = inr (inl (l, cc))
parted (x ∷ k) k' [] l' a b e = inr (inr (k, cc))
parted (x ∷ k) k' (y ∷ l) l' a b e = more (parted k k' l l' a b cc)
  where
    more : ((k ≡ l) × (a ≡ b)) ⊎ (((m : List Event) × (l ≡ k ++ (a ∷ m))) ⊎ ((m : List Event) × (k ≡ l ++ (b ∷ m))))
        → ((x ∷ k ≡ y ∷ l) × (a ≡ b)) ⊎ (((m : List Event) × (y ∷ l ≡ (x ∷ k) ++ (a ∷ m))) ⊎ ((m : List Event) × (x ∷ k ≡ (y ∷ l) ++ (b ∷ m))))
    more (inl (p, q)) = inl (cc, q)
    more (inr (inl (m, p))) = inr (inl (m, cc))
    more (inr (inr (m, p))) = inr (inr (m, cc))

-- the operation's time and round there
module _ (s : Settings) (events : List Event) (op : Op) (x : Recovery s events op) where
  time_there : (addressee (run s x.earlier).world x.last).state.op.time ≡ op.time
  unfolding next_op counting with_tally
  time_there = sym (ap (λ (o : Op). o.time) x.store_is)

  round_there : (addressee (run s x.earlier).world x.last).state.op.round + 1 ≡ op.round
  unfolding next_op counting with_tally
  round_there = sym (ap (λ (o : Op). o.round) x.store_is)

-- no such event is before another
not_before : (s : Settings) → in_range s ≡ true → (events : List Event) (op : Op) (x y : Recovery s events op) (later : List Event)
    → y.earlier ≡ x.earlier ++ (arrives x.place ∷ later) → ⊥
not_before s range events op x y later q =
    let t = subst (λ (l : List Event). (addressee (run s l).world y.last).state.op.time ≡ op.time) q (time_there s events op y) in
    let r = subst (λ (l : List Event). (addressee (run s l).world y.last).state.op.round + 1 ≡ op.round) q (round_there s events op y) in
    let o = round_there s events op x in
    not_twice s range x.earlier x.place later x.last y.last x.block y.block x.arrived x.qth
    (subst (λ (l : List Event). QthReply s (run s l).world y.last y.block) q y.qth) (time_there s events op x ∙ sym t) (omega (arith, r, o))

pub recoveries_are_one : RecoveriesAreOne
recoveries_are_one s range events op x y = by (parted x.earlier x.later y.earlier y.later (arrives x.place) (arrives y.place) (sym x.parts ∙ y.parts))
  where
    alike : x.earlier ≡ y.earlier → arrives x.place ≡ arrives y.place → recovered_at s events op x ≡ recovered_at s events op y
    alike p q =
        let place : x.place ≡ y.place = cc in
        let item : reply x.last x.block ≡ reply y.last y.block
        = at_one (run s y.earlier).world.sent y.place (reply x.last x.block) (reply y.last y.block)
        (subst (λ (l : List Event). IsAt (run s l).world.sent y.place (reply x.last x.block)) p
        (subst (λ (j : ℕ). IsAt (run s x.earlier).world.sent j (reply x.last x.block)) place x.arrived))
        y.arrived in
        let last : x.last ≡ y.last = cc in
        let block : x.block ≡ y.block = cc in
        λ i. counted_at s (run s (p i)).world (last i) (block i)

    by : ((x.earlier ≡ y.earlier) × (arrives x.place ≡ arrives y.place))
        ⊎ (((m : List Event) × (y.earlier ≡ x.earlier ++ (arrives x.place ∷ m))) ⊎ ((m : List Event) × (x.earlier ≡ y.earlier ++ (arrives y.place ∷ m))))
        → recovered_at s events op x ≡ recovered_at s events op y
    by (inl e) = alike e.0 e.1
    by (inr (inl e)) = absurd (not_before s range events op x y e.0 e.1)
    by (inr (inr e)) = absurd (not_before s range events op y x e.0 e.1)

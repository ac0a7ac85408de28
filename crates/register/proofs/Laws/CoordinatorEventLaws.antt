-- What an event does to each coordinator, told once: it stays as it was, it starts an operation, it falls idle, or it takes a reply.
use mathlib.Core.Path.{◌≡◌, refl, sym, subst}
use mathlib.Core.Bool.{Bool, true, false, cond}
use mathlib.Core.List.{List, [], ◌∷◌}
use Prim.Native.Nat.{ℕ, zero, suc, ◌*◌, ◌<◌}
use native.Mathlib.Omega.{arith}
use lib.Dec.{eqb, ltb}
use lib.ListN.{replicate}
use borrow.Author.Tests.{eqb-true}
use Rattle.byte_lists.specs.Little.{are_bytes}
use Rattle.settings.specs.Times.{coordinator_of}
use Rattle.settings.specs.declared.Clock.{Clock}
use Rattle.settings.specs.Times.{Draw}
use Rattle.settings.specs.declared.Settings.{Settings}
use Rattle.message.specs.Kinds.{write_kind}
use Rattle.message.specs.declared.Reply.{Reply}
use Rattle.coord_record.specs.Records.{idle_kind}
use Rattle.coord_apply.specs.Acts.{first_op, starting}
use Rattle.coord_apply.specs.Answers.{Buffered, Went, Step, refused, went}
use Rattle.coordinator.specs.Routines.{crash_step, drawn_then, read_block_step, read_step, take_step, write_block_step, write_step}
use Rattle.coord_laws.proofs.Laws.SoundnessLaws.{passes, same_went, drawn_went}
use Rattle.coord_laws.proofs.Laws.StripeLaws.{crash_keeps_stripe, write_starts, read_starts, write_block_starts, read_block_starts}
use Rattle.volume.specs.Rows.{row_outcome}
use Rattle.register.specs.NamedBricks.{IsAt}
use Rattle.register.specs.Runs.{Item, message, reply, World, Left, Event, start_write, start_read, start_write_block, start_read_block, arrives, crashes, goes_down, comes_up}
use Rattle.register.specs.Runs.{Moved, unmoved, put_at, coordinated, received, arriving, arriving_at, standing, left_by, step}
use Rattle.register.proofs.Laws.CrashEvent.{left_by_lem, crashed_idle}

-- Coordinator c is k after the event e.
pub data TurnedBy (s : Settings) (w : World) (e : Event) (c : ℕ) (k : Buffered) : Type 0 where
  same : k ≡ w.coordinators c → TurnedBy s w e c k
  -- a start draws a later time
  started : (w.coordinators c).state.clock.last < k.state.clock.last → (k.state.op.phase ≡ write_kind → ⊥) → TurnedBy s w e c k
  fell : k.state.clock ≡ (w.coordinators c).state.clock → k.state.op.kind ≡ idle_kind → TurnedBy s w e c k
  took : (place : ℕ) → e ≡ arrives place → (a : Reply) (block : List ℕ) → IsAt w.sent place (reply a block) → c ≡ coordinator_of a.time → (g : Went)
      → take_step s.n s.m s.size s.stripes (w.coordinators (coordinator_of a.time)) a block (s.n * s.size) ≡ went g → k ≡ g.next
      → TurnedBy s w e c k

-- a start that draws is in its first phase
drawn_phase : (d : Draw) (f : ℕ → Clock → Went) → ((time : ℕ) (clock : Clock) → (f time clock).next.state.op.phase ≡ write_kind → ⊥) → (g : Went) → drawn_then d f ≡ went g
    → g.next.state.op.phase ≡ write_kind → ⊥
drawn_phase d f n g q = let x = drawn_went d f g q in subst (λ (v : Went). v.next.state.op.phase ≡ write_kind → ⊥) x.3 (n x.0 x.1)

-- a crash leaves its coordinator idle, with its clock
crash_falls : (s : Settings) (left : Left) (h : Buffered) (p : Step) (g : Went) → p ≡ crash_step s.n s.m s.size s.stripes h → left_by s left p ≡ went g
    → (g.next.state.clock ≡ h.state.clock) × (g.next.state.op.kind ≡ idle_kind)
unfolding left_by crash_step
crash_falls s left h (refused number) g e q = absurd (let z : ◌≡◌ {A = ℕ} 0 1 = cc in omega arith)
crash_falls s left h (went v) g e q =
    subst (λ (x : Went). (x.next.state.clock ≡ h.state.clock) × (x.next.state.op.kind ≡ idle_kind)) (same_went _ g q)
    (left_by_lem s left v.next (λ (z : Buffered). (z.state.clock ≡ h.state.clock) × (z.state.op.kind ≡ idle_kind)) falls (λ blocks stripe eb es. falls))
  where
    falls : (v.next.state.clock ≡ h.state.clock) × (v.next.state.op.kind ≡ idle_kind)
    falls = (
      (crash_keeps_stripe s.n s.m s.size s.stripes h v (sym e)).same-clock,
      subst (λ (x : Went). x.next.state.op.kind ≡ idle_kind) (same_went _ v (passes _ _ v (sym e)).1) (crashed_idle s.n h),
    )

module _ (s : Settings) (w : World) (e : Event) where
  abbrev AllTurned : Moved s → Type 0
  AllTurned m = (c : ℕ) → TurnedBy s w e c (m.world.coordinators c)

  none : AllTurned (unmoved s w)
  unfolding unmoved
  none c = same refl

  -- an event at coordinator c
  at_one : (c : ℕ) (p : Step) → ((g : Went) → p ≡ went g → TurnedBy s w e c g.next) → AllTurned (coordinated s w c p)
  unfolding coordinated put_at
  at_one c (refused number) f j = none j
  at_one c (went g) f j = go (eqb j c) refl
    where
      go : (b : Bool) → eqb j c ≡ b → TurnedBy s w e j (cond b g.next (w.coordinators j))
      go true q = subst (λ (i : ℕ). TurnedBy s w e i g.next) (sym (eqb-true j c q)) (f g refl)
      go false q = same refl

  with_bytes : (content : List ℕ) (m : Moved s) → AllTurned m → AllTurned (cond (are_bytes content) m (unmoved s w))
  with_bytes content m f = go (are_bytes content)
    where
      go : (b : Bool) → AllTurned (cond b m (unmoved s w))
      go true = f
      go false = none

  stands : (b : ℕ) (how : Bool) → AllTurned (standing s w b how)
  unfolding standing
  stands b how = go (ltb b s.n)
    where
      go : (x : Bool)
          → AllTurned
          (cond x (record { world = record { images = w.images; up = put_at w.up b how; coordinators = w.coordinators; sent = w.sent }; seen = λ (j : ℕ). [] }) (unmoved s w))
      go true c = same refl
      go false c = none c

  -- an item arrives
  item : (place : ℕ) → e ≡ arrives place → (z : Item) → IsAt w.sent place z → AllTurned (arriving s w z)
  unfolding arriving received
  item place q (message b msg block old) at = go (w.up b)
    where
      go : (x : Bool) → AllTurned (cond x (received s w b (row_outcome s b (w.images b) msg block old (replicate s.size 0))) (unmoved s w))
      go true c = same refl
      go false c = none c
  item place q (reply a block) at = at_one (coordinator_of a.time) _ (λ g steps. took place q a block at refl g steps refl)

  arrival : (place : ℕ) → e ≡ arrives place → (l : List Item) (p : ℕ) → ((z : Item) → IsAt l p z → IsAt w.sent place z) → AllTurned (arriving_at s w l p)
  unfolding arriving_at IsAt
  arrival place q [] p f = none
  arrival place q (z ∷ l) zero f = item place q z (f z refl)
  arrival place q (z ∷ l) (suc p) f = arrival place q l p f

pub turned_by : (s : Settings) (w : World) (e : Event) (c : ℕ) → TurnedBy s w e c ((step s w e).world.coordinators c)
unfolding step write_step read_step write_block_step read_block_step starting first_op
turned_by s w (start_write c number clock content) =
    with_bytes s w _ content _
    (at_one s w _ c _
    (λ g q. started (write_starts s.n s.m s.size s.stripes (w.coordinators c) number clock content g q).rises
    (drawn_phase _ _ (λ _ _ z. omega (arith, z)) g (passes _ _ g q).1)))
turned_by s w (start_read c number clock first) =
    at_one s w _ c _
    (λ g q. started (read_starts s.n s.m s.size s.stripes (w.coordinators c) number clock first g q).rises
    (drawn_phase _ _ (λ _ _ z. omega (arith, z)) g (passes _ _ g q).1))
turned_by s w (start_write_block c number clock block content) =
    with_bytes s w _ content _
    (at_one s w _ c _
    (λ g q. started (write_block_starts s.n s.m s.size s.stripes (w.coordinators c) number clock block content g q).rises
    (drawn_phase _ _ (λ _ _ z. omega (arith, z)) g (passes _ _ g q).1)))
turned_by s w (start_read_block c number clock block) =
    at_one s w _ c _
    (λ g q. started (read_block_starts s.n s.m s.size s.stripes (w.coordinators c) number clock block g q).rises
    (drawn_phase _ _ (λ _ _ z. omega (arith, z)) g (passes _ _ g q).1))
turned_by s w (arrives p) = arrival s w (arrives p) p refl w.sent p (λ z at. at)
turned_by s w (crashes c left) =
    at_one s w _ c _ (λ g q. let x = crash_falls s left (w.coordinators c) (crash_step s.n s.m s.size s.stripes (w.coordinators c)) g refl q in fell x.0 x.1)
turned_by s w (goes_down b) = stands s w _ b false
turned_by s w (comes_up b) = stands s w _ b true

-- No coordinator runs an operation on one block, and after an event that starts none, none does.
use mathlib.Core.Path.{◌≡◌, refl, sym, subst}
use mathlib.Core.Bool.{Bool, true, false, cond, not}
use mathlib.Core.List.{List, [], ◌∷◌, ◌++◌}
use Prim.Native.Nat.{ℕ, zero, suc, ◌*◌}
use native.Mathlib.Omega.{arith}
use lib.Dec.{eqb, ltb}
use Rattle.settings.specs.Ranges.{quorum}
use Rattle.settings.specs.Times.{coordinator_of}
use Rattle.settings.specs.declared.Settings.{Settings}
use Rattle.byte_lists.specs.Little.{are_bytes}
use Rattle.byte_lists.proofs.Laws.BoolLaws.{and_left, and_right}
use Rattle.message.specs.Flags.{members}
use Rattle.message.specs.declared.Reply.{Reply}
use Rattle.coord_record.specs.Records.{idle_kind, no_bricks, no_op, on_block, idle_with}
use Rattle.coord_decide.specs.Deciding.{decided}
use Rattle.coord_decide.specs.declared.Decision.{Decision}
use Rattle.coord_decide.specs.declared.Decision.TheVariants.{Abort, Give, Look, Store, Modify, Recover, Finish}
use Rattle.coord_apply.proofs.Laws.ActLaws.{recover_either}
use Rattle.coord_apply.specs.Acts.{sending_first, next_op, opened, next_round, modifying, ending, acted, counting, with_tally, waiting_or}
use Rattle.coord_apply.specs.Answers.{Buffered, Went, Step, refused, went, nothing_seen, cut_seen}
use Rattle.coordinator.specs.Routines.{take_step, crashed, crash_step}
use Rattle.coord_laws.proofs.Laws.OpCaseLaws.{clash}
use Rattle.coord_laws.proofs.Laws.SoundnessLaws.{passes, same_went}
use Rattle.coord_laws.proofs.Laws.StepRunLaws.{took, write_begins, read_begins}
use Rattle.register.specs.Runs.{Item, message, reply, World, Left, untouched, lost, Event, start_write, start_read, start_write_block, start_read_block, arrives, crashes}
use Rattle.register.specs.Runs.{goes_down, comes_up, idle, fresh_set, Moved, unmoved, put_at, coordinated, received, arriving, arriving_at, standing, buffers_fit, leaving}
use Rattle.register.specs.Runs.{left_by, step}
use Rattle.bench_rules.specs.Play.{Played, refuses, passes as passing-by, happens, and_then}
use Rattle.bench_order.specs.Report.{Part}
use Rattle.bench_order.specs.ScriptTheorem.{starts_on_block, on_whole_stripes}
use Rattle.bench_order.proofs.Laws.Parts.{Does, refusing, passing, happening, Parts, none, one, both}

-- a coordinator that runs no operation on one block; and all of them
abbrev pub Whole : Buffered → Type 0
Whole k = on_block k.state.op.kind ≡ false

abbrev pub WholeStripes : World → Type 0
WholeStripes w = (c : ℕ) → Whole (w.coordinators c)

pub fresh_whole : (s : Settings) → WholeStripes (fresh_set s)
unfolding fresh_set idle idle_with no_op on_block
fresh_whole s c = refl

put_whole : (f : ℕ → Buffered) (c : ℕ) (k : Buffered) → ((j : ℕ) → Whole (f j)) → Whole k → (j : ℕ) → Whole (put_at f c k j)
unfolding put_at
put_whole f c k h q j = go (eqb j c)
  where
    go : (b : Bool) → Whole (cond b k (f j))
    go true = q
    go false = h j

-- a reply,
module _ (n m size : ℕ) (h : Buffered) (q : Whole h) where
  acted_whole : (d : Decision) → Whole (acted n m size h d).next
  unfolding acted ending sending_first next_round modifying opened next_op idle_with no_op on_block
  acted_whole Abort = refl
  acted_whole Give = refl
  acted_whole (Look max) = q
  acted_whole Store = q
  acted_whole (Modify time) = q
  acted_whole (Recover time) = recover_either n m size h time (λ (w : Went). Whole w.next) q refl
  acted_whole Finish = refl

  waiting_whole : Whole (waiting_or n m size h).next
  unfolding waiting_or
  waiting_whole = go (ltb (members h.state.tally.counted n) (quorum n m))
    where
      go : (b : Bool) → Whole (cond b (record { next = h; sent = []; seen = nothing_seen }) (acted n m size h (decided n m h.state.op h.state.tally))).next
      go true = q
      go false = acted_whole (decided n m h.state.op h.state.tally)

module _ (n m size stripes : ℕ) (h : Buffered) (q : Whole h) where
  take_whole : (r : Reply) (block : List ℕ) (coded : ℕ) (g : Went) → take_step n m size stripes h r block coded ≡ went g → Whole g.next
  unfolding counting with_tally
  take_whole r block coded g e =
      subst (λ (v : Went). Whole v.next) (took n m size stripes h r block coded g e).is (waiting_whole n m size (counting size h r block) q)

  -- a crash,
  crash_whole : (g : Went) → crash_step n m size stripes h ≡ went g → Whole g.next
  unfolding crash_step crashed ending idle_with no_op on_block
  crash_whole g e = subst (λ (v : Went). Whole v.next) (same_went (crashed n h) g (passes _ (went (crashed n h)) g e).1) (go (eqb h.state.op.kind idle_kind))
    where
      go : (b : Bool) → Whole (cond b (record { next = h; sent = []; seen = nothing_seen }) (ending n h h.stripe [] cut_seen no_bricks)).next
      go true = q
      go false = refl

-- whatever it leaves in the buffers
left_whole : (s : Settings) (left : Left) (p : Step) (g : Went) → left_by s left p ≡ went g → ((v : Went) → p ≡ went v → Whole v.next) → Whole g.next
unfolding left_by leaving
left_whole s left (refused k) g e f = absurd (let z : ◌≡◌ {A = ℕ} 0 1 = cc in omega arith)
left_whole s untouched (went v) g e f = subst (λ (x : Went). Whole x.next) (same_went _ g e) (f v refl)
left_whole s (lost blocks stripe) (went v) g e f = subst (λ (x : Went). Whole x.next) (same_went _ g e) (go (buffers_fit s blocks stripe))
  where
    go : (b : Bool) → Whole (cond b (record { state = v.next.state; blocks = blocks; stripe = stripe }) v.next)
    go true = f v refl
    go false = f v refl

module _ (s : Settings) (w : World) (h : WholeStripes w) where
  coordinated_whole : (c : ℕ) (p : Step) → ((g : Went) → p ≡ went g → Whole g.next) → WholeStripes (coordinated s w c p).world
  unfolding coordinated unmoved
  coordinated_whole c (refused k) f = h
  coordinated_whole c (went g) f = put_whole w.coordinators c g.next h (f g refl)

  either_whole : (b : Bool) (x y : Moved s) → WholeStripes x.world → WholeStripes y.world → WholeStripes (cond b x y).world
  either_whole true x y p q = p
  either_whole false x y p q = q

  arriving_whole : (i : Item) → WholeStripes (arriving s w i).world
  unfolding arriving received unmoved
  arriving_whole (message b msg block old) = either_whole (w.up b) _ _ h h
  arriving_whole (reply r block) =
      coordinated_whole (coordinator_of r.time) _
      (λ g e. take_whole s.n s.m s.size s.stripes (w.coordinators (coordinator_of r.time)) (h (coordinator_of r.time)) r block (s.n * s.size) g e)

  arriving_at_whole : (l : List Item) (k : ℕ) → WholeStripes (arriving_at s w l k).world
  unfolding arriving_at unmoved
  arriving_at_whole [] k = h
  arriving_at_whole (i ∷ l) zero = arriving_whole i
  arriving_at_whole (i ∷ l) (suc k) = arriving_at_whole l k

  -- the start of a write and of a read: any event that starts none on one block
  pub step_whole : (e : Event) → starts_on_block e ≡ false → WholeStripes (step s w e).world
  unfolding step starts_on_block standing unmoved on_block
  step_whole (start_write c stripe reading content) q =
      either_whole (are_bytes content) _ _
      (coordinated_whole c _ (λ g e. rw (write_begins s.n s.m s.size s.stripes (w.coordinators c) stripe reading content g e).0.kind-is refl)) h
  step_whole (start_read c stripe reading first) q =
      coordinated_whole c _ (λ g e. rw (read_begins s.n s.m s.size s.stripes (w.coordinators c) stripe reading first g e).0.kind-is refl)
  step_whole (start_write_block c stripe reading block content) q = clash (sym q)
  step_whole (start_read_block c stripe reading block) q = clash (sym q)
  step_whole (arrives k) q = arriving_at_whole w.sent k
  step_whole (crashes c left) q =
      coordinated_whole c _
      (λ g e. left_whole s left _ g e (λ v d. crash_whole s.n s.m s.size s.stripes (w.coordinators c) (h c) v d))
  step_whole (goes_down b) q = either_whole (ltb b s.n) _ _ h h
  step_whole (comes_up b) q = either_whole (ltb b s.n) _ _ h h

-- a part of a line, and all of them
pub does_whole : (s : Settings) (w : World) (p : Played) → Does s w p → WholeStripes w → WholeStripes p.world
unfolding refuses passing-by happens
does_whole s w p (refusing number) h = h
does_whole s w p passing h = h
does_whole s w p (happening e c kind b f o z) h = step_whole s w h e b

pub parts_whole : (s : Settings) (w : World) (ps : List Part) (p : Played) → Parts s w ps p → WholeStripes w → WholeStripes p.world
unfolding passing-by and_then
parts_whole s w ps p (none _) h = h
parts_whole s w ps p (one _ part d) h = does_whole s w p d h
parts_whole s w ps p (both _ xs ys q r a b) h = parts_whole s q.world ys r b (parts_whole s w xs q a h)

-- and none of its events starts an operation on one block
pub whole_both : (es fs : List Event) → on_whole_stripes es ≡ true → on_whole_stripes fs ≡ true → on_whole_stripes (es ++ fs) ≡ true
unfolding on_whole_stripes
whole_both [] fs p q = q
whole_both (e ∷ es) fs p q =
    rw (and_left (not (starts_on_block e)) (on_whole_stripes es) p) (whole_both es fs (and_right (not (starts_on_block e)) (on_whole_stripes es) p) q)

does_starts : (s : Settings) (w : World) (p : Played) → Does s w p → on_whole_stripes p.events ≡ true
unfolding refuses passing-by happens on_whole_stripes
does_starts s w p (refusing number) = refl
does_starts s w p passing = refl
does_starts s w p (happening e c kind b f o z) = rw b refl

pub parts_start : (s : Settings) (w : World) (ps : List Part) (p : Played) → Parts s w ps p → on_whole_stripes p.events ≡ true
unfolding passing-by and_then on_whole_stripes
parts_start s w ps p (none _) = refl
parts_start s w ps p (one _ part d) = does_starts s w p d
parts_start s w ps p (both _ xs ys q r a b) = whole_both q.events r.events (parts_start s w xs q a) (parts_start s q.world ys r b)

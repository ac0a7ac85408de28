-- Laws of `specs/Numbered`.
use mathlib.Core.Path.{◌≡◌, refl, ap, subst, ◌∙◌}
use mathlib.Core.Bool.{Bool, true, false, cond, ◌&&◌}
use mathlib.Core.List.{List, [], ◌∷◌}
use Prim.Native.Nat.{ℕ, zero, suc, ◌*◌, ◌≤◌, ◌<◌}
use native.Mathlib.Omega.{arith}
use lib.Dec.{leb, ltb, eqb}
use lib.ListN.{length}
use borrow.Author.Tests.{leb-true}
use Rattle.settings.specs.Ranges.{code_refusal, stripe_count_refusal}
use Rattle.register.specs.Numbered.{SixteenCoordinators}
use Rattle.settings.specs.Refusal.{passed, refuse_unless, first_refusal, bad_length, bad_number}
use Rattle.settings.specs.Times.{draw_of, coordinator_of, last_coordinator}
use Rattle.settings.specs.declared.Clock.{Clock}
use Rattle.settings.specs.Times.{Draw}
use Rattle.settings.specs.Times.{Drawn, Refused}
use Rattle.settings.specs.declared.Settings.{Settings}
use Rattle.settings.proofs.Laws.RefusalLaws.{passed_rest}
use Rattle.message.specs.declared.Reply.{Reply}
use Rattle.coord_record.specs.Records.{idle_with}
use Rattle.coord_apply.specs.Answers.{Buffered, Went, Step, refused, went, after_checks}
use Rattle.coord_refusals.specs.Checks.{record_checks, stripe_checks, write_checks, read_checks, start_checks, write_refusal, read_refusal}
use Rattle.coord_refusals.specs.Checks.{write_block_refusal, read_block_refusal, take_refusal, crash_refusal}
use Rattle.coord_refusals.proofs.Laws.RefusedLaws.{record_passes, stripe_passes}
use Rattle.coordinator.specs.Routines.{take_step, crashed, crash_step, drawn_then, write_step, read_step, write_block_step, read_block_step}
use Rattle.coordinator.proofs.Laws.RoutineLaws.{take_passed, write_block_passed, read_block_passed}
use Rattle.byte_lists.specs.Little.{are_bytes}
use Rattle.register.specs.Runs.{Item, message, reply, World, idle, fresh_set, Left, Event, start_write, start_read, start_write_block, start_read_block}
use Rattle.register.specs.Runs.{arrives, crashes, goes_down, comes_up, Moved, unmoved, coordinated, received, arriving, arriving_at, standing, left_by}
use Rattle.register.specs.Runs.{step, next_moved, run_from, run}
use Rattle.register.proofs.Laws.BrickEvent.{either, put_there}

-- a step that is refused, or is of a coordinator up to 15
abbrev LowStep : ℕ → Step → Type 0
LowStep c (refused number) = Unit {0}
LowStep c (went g) = c ≤ last_coordinator

checked_low : (c k : ℕ) (p : Step) → (k ≡ passed → LowStep c p) → LowStep c (after_checks k p)
unfolding after_checks
checked_low c k p h = go (leb k passed) refl
  where
    go : (a : Bool) → leb k passed ≡ a → LowStep c (cond a p (refused k))
    go true e = h (let w = leb-true k passed e in omega arith)
    go false e = tt

drawn_low : (c : ℕ) (d : Draw) (f : ℕ → Clock → Went) → c ≤ last_coordinator → LowStep c (drawn_then d f)
unfolding drawn_then
drawn_low c (Drawn t clock) f l = l
drawn_low c (Refused number) f l = tt

module _ (n m size stripes c : ℕ) (k : Buffered) (named : k.state.clock.coordinator ≡ c) where
  -- the checks of a record ask for such a number
  record_low : (more : List ℕ) → first_refusal (record_checks n m size stripes k.state more) ≡ passed → c ≤ last_coordinator
  record_low more e = let l = (record_passes n m size stripes k.state more e).0.number-low in omega arith

  stripe_low : (number : ℕ) (more : List ℕ) → first_refusal (stripe_checks n m size stripes k.state number more) ≡ passed → c ≤ last_coordinator
  stripe_low number more e = record_low more (stripe_passes n m size stripes k.state number more e).1

  write_low : (number reading : ℕ) (content : List ℕ) → LowStep c (write_step n m size stripes k number reading content)
  unfolding write_step write_refusal write_checks
  write_low number reading content =
      checked_low c (write_refusal n m size stripes k.state number reading (length content) (length k.stripe)) _
      (λ e.
      let a = passed_rest (stripe_count_refusal stripes) _ (passed_rest (code_refusal n m size) _ e) in
      let b = passed_rest (refuse_unless (eqb (length content) (m * size) && eqb (length k.stripe) (m * size)) bad_length) _ a in
      drawn_low c (draw_of k.state.clock reading) _ (stripe_low number _ b))

  read_low : (number reading first : ℕ) → LowStep c (read_step n m size stripes k number reading first)
  unfolding read_step read_refusal read_checks
  read_low number reading first =
      checked_low c (read_refusal n m size stripes k.state number reading first) _
      (λ e.
      let a = passed_rest (stripe_count_refusal stripes) _ (passed_rest (code_refusal n m size) _ e) in
      let b = passed_rest (refuse_unless (ltb first n) bad_number) _ a in
      drawn_low c (draw_of k.state.clock reading) _ (stripe_low number _ b))

  write_block_low : (number reading block : ℕ) (content : List ℕ) → LowStep c (write_block_step n m size stripes k number reading block content)
  unfolding write_block_step write_block_refusal
  write_block_low number reading block content =
      checked_low c (write_block_refusal n m size stripes k.state number reading block (length content) (length k.stripe)) _
      (λ e.
      let b = write_block_passed n m size stripes k.state number block _ _ _ (start_checks k.state reading) refl e in
      drawn_low c (draw_of k.state.clock reading) _ (stripe_low number _ b.checked))

  read_block_low : (number reading block : ℕ) → LowStep c (read_block_step n m size stripes k number reading block)
  unfolding read_block_step read_block_refusal
  read_block_low number reading block =
      checked_low c (read_block_refusal n m size stripes k.state number reading block) _
      (λ e.
      let b = read_block_passed n m size stripes k.state number block _ (start_checks k.state reading) refl e in
      drawn_low c (draw_of k.state.clock reading) _ (stripe_low number _ b.checked))

  take_low : (r : Reply) (block : List ℕ) (coded : ℕ) → LowStep c (take_step n m size stripes k r block coded)
  unfolding take_step
  take_low r block coded =
      checked_low c (take_refusal n m size stripes k.state r (length block) (length k.blocks) (length k.stripe) coded) (went _)
      (λ e. let t = take_passed n m size stripes k.state r _ _ _ coded _ refl e in let l = t.parts.number-low in omega arith)

  crash_low : LowStep c (crash_step n m size stripes k)
  unfolding crash_step crash_refusal
  crash_low =
      checked_low c (crash_refusal n m size stripes k.state) (went (crashed n k))
      (λ e. record_low _ (passed_rest (stripe_count_refusal stripes) _ (passed_rest (code_refusal n m size) _ e)))

-- what a crash leaves in the buffers is no matter
left_low : (s : Settings) (left : Left) (c : ℕ) (p : Step) → LowStep c p → LowStep c (left_by s left p)
unfolding left_by
left_low s left c (refused number) l = l
left_low s left c (went g) l = l

-- coordinator c is still as at first
abbrev Still : (s : Settings) → ℕ → World → Type 0
Still s c w = w.coordinators c ≡ idle s c

module _ (s : Settings) (c : ℕ) (high : last_coordinator < c) where
  -- a step at another coordinator, or one that is refused for its number
  coordinated_still : (w : World) (d : ℕ) (p : Step) → ((w.coordinators d).state.clock.coordinator ≡ d → LowStep d p) → Still s c w
      → Still s c (coordinated s w d p).world
  unfolding coordinated unmoved
  coordinated_still w d (refused number) l e = e
  coordinated_still w d (went q) l e = put_there w.coordinators d q.next c other ∙ e
    where
      named : (w.coordinators c).state.clock.coordinator ≡ c
      named = ap (λ (k : Buffered). k.state.clock.coordinator) e ∙ (unfold idle idle_with in refl)

      other : c ≡ d → ⊥
      other z =
          let low = l (subst (λ (j : ℕ). (w.coordinators j).state.clock.coordinator ≡ j) z named) in
          omega (arith, z, low)

  module _ (w : World) (e : Still s c w) where
    item_still : (z : Item) → Still s c (arriving s w z).world
    unfolding arriving received unmoved
    item_still (message b msg block old) = either (λ (m : Moved s). Still s c m.world) (w.up b) _ _ e e
    item_still (reply a block) =
        let d = coordinator_of a.time in
        coordinated_still w d _ (λ n. take_low s.n s.m s.size s.stripes d (w.coordinators d) n a block (s.n * s.size)) e

    place_still : (l : List Item) (k : ℕ) → Still s c (arriving_at s w l k).world
    unfolding arriving_at unmoved
    place_still [] k = e
    place_still (z ∷ l) zero = item_still z
    place_still (z ∷ l) (suc k) = place_still l k

    stand_still : (b : ℕ) (how : Bool) → Still s c (standing s w b how).world
    unfolding standing unmoved
    stand_still b how = either (λ (m : Moved s). Still s c m.world) (ltb b s.n) _ _ e e

    step_still : (v : Event) → Still s c (step s w v).world
    unfolding step unmoved
    step_still (start_write d number reading content) =
        either (λ (m : Moved s). Still s c m.world) (are_bytes content) _ _
        (coordinated_still w d _ (λ n. write_low s.n s.m s.size s.stripes d (w.coordinators d) n number reading content) e) e
    step_still (start_read d number reading first) =
        coordinated_still w d _ (λ n. read_low s.n s.m s.size s.stripes d (w.coordinators d) n number reading first) e
    step_still (start_write_block d number reading block content) =
        either (λ (m : Moved s). Still s c m.world) (are_bytes content) _ _
        (coordinated_still w d _ (λ n. write_block_low s.n s.m s.size s.stripes d (w.coordinators d) n number reading block content) e) e
    step_still (start_read_block d number reading block) =
        coordinated_still w d _ (λ n. read_block_low s.n s.m s.size s.stripes d (w.coordinators d) n number reading block) e
    step_still (arrives k) = place_still w.sent k
    step_still (crashes d left) =
        coordinated_still w d _ (λ n. left_low s left d _ (crash_low s.n s.m s.size s.stripes d (w.coordinators d) n)) e
    step_still (goes_down b) = stand_still b false
    step_still (comes_up b) = stand_still b true

  from_still : (r : Moved s) → Still s c r.world → (events : List Event) → Still s c (run_from s r events).world
  unfolding run_from next_moved
  from_still r e [] = e
  from_still r e (v ∷ events) = from_still (next_moved s r v) (step_still r.world e v) events

pub sixteen_coordinators : SixteenCoordinators
unfolding run fresh_set unmoved
sixteen_coordinators s e events c high = from_still s c high (unmoved s (fresh_set s)) refl events

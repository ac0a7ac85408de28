-- Calls so far, and the events that they make: worlds that agree, one event more.
use mathlib.Core.Path.{◌≡◌, refl, sym, ap, ap₂, subst, ◌∙◌}
use mathlib.Core.Bool.{true}
use mathlib.Core.List.{List, [], ◌∷◌, ◌++◌, append-nil}
use Prim.Native.Nat.{ℕ, ◌<◌}
use Rattle.settings.specs.Ranges.{in_range}
use Rattle.settings.specs.declared.Settings.{Settings}
use Rattle.coord_apply.specs.Answers.{Step, Returned, returned, returned_by}
use Rattle.coord_apply.specs.Answers.{Answer}
use Rattle.order.specs.Claim.{Seen, OneOrder}
use Rattle.register.specs.Runs.{plain, World, fresh_set, Event}
use Rattle.register.specs.Runs.{Moved, unmoved, joined, coordinated}
use Rattle.register.specs.Runs.{step, next_moved, run_from, run}
use Rattle.register.specs.Driver.{driven, Short}
use Rattle.register.specs.CallLoop.{Agrees}
use Rattle.register.proofs.Laws.TheoremProof.{every_run_has_one_order}
use Rattle.register.proofs.Laws.DriverLaws.{coordinated_is_driven}

-- some events, then more
pub run_from_both : (s : Settings) (r : Moved s) (es fs : List Event) → run_from s r (es ++ fs) ≡ run_from s (run_from s r es) fs
unfolding run_from
run_from_both s r [] fs = refl
run_from_both s r (e ∷ es) fs = run_from_both s (next_moved s r e) es fs

-- one event more
pub run_more : (s : Settings) (events : List Event) (e : Event) → run s (events ++ e ∷ []) ≡ joined s (run s events) (step s (run s events).world e)
unfolding run run_from next_moved
run_more s events e = run_from_both s (unmoved s (fresh_set s)) events (e ∷ [])

-- the same is seen, and the worlds agree
pub record Same (s : Settings) (m m' : Moved s) : Type 0 where
  pub same_seen : (k : ℕ) → m.seen k ≡ m'.seen k
  pub agrees : Agrees s m.world m'.world

-- some events lead to this
abbrev pub Made : (s : Settings) → Moved s → Type 0
Made s r = (events : List Event) × ((k : ℕ) → r.seen k ≡ (run s events).seen k) × Agrees s r.world (run s events).world

-- and what is seen of a stripe has one order
pub made_has_one_order : (s : Settings) → in_range s ≡ true → (r : Moved s) → Made s r → (stripe : ℕ) → stripe < s.stripes → OneOrder (plain s) (r.seen stripe)
made_has_one_order s e r made stripe l = subst (OneOrder (plain s)) (sym (made.1 stripe)) (every_run_has_one_order s e made.0 stripe l)

module _ (s : Settings) where
  pub made_more : (r : Moved s) (made : Made s r) (e : Event) (m : Moved s) → Same s m (step s (run s made.0).world e) → Made s (joined s r m)
  made_more r made e m same = (
    made.0 ++ e ∷ [],
    λ k. ap₂ (λ (a b : List (Seen (plain s))). a ++ b) (made.1 k) (same.same_seen k) ∙ ap (λ (x : Moved s). x.seen k) (sym (run_more s made.0 e)),
    subst (λ (x : Moved s). Agrees s m.world x.world) (sym (run_more s made.0 e)) same.agrees,
  )

  -- where nothing changes no event is needed
  pub made_still : (r : Moved s) (made : Made s r) (m : Moved s) → m ≡ unmoved s r.world → Made s (joined s r m)
  unfolding unmoved
  made_still r made m e = (
    made.0,
    λ k. ap (λ (x : Moved s). r.seen k ++ x.seen k) e ∙ append-nil (r.seen k) ∙ made.1 k,
    subst (λ (x : Moved s). Agrees s x.world (run s made.0).world) (sym e) made.2,
  )

  -- what a driver makes of a routine's answer is the routine's step in the world
  pub driven_is : (w : World) (c : ℕ) (p : Step) (a : Answer) (blocks' stripe' coded coded' : List ℕ) → Short s.size p
      → returned a blocks' stripe' coded' ≡ returned_by (w.coordinators c) coded p → driven s w c a blocks' stripe' coded' ≡ coordinated s w c p
  unfolding returned_by
  driven_is w c p a blocks' stripe' coded coded' short e =
      ap (λ (x : Returned). driven s w c x.answer x.blocks x.stripe x.coded) e ∙ sym (coordinated_is_driven s w c p coded short)

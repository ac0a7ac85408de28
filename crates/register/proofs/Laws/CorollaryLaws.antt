-- Laws of `specs/Corollaries`.
use mathlib.Core.Path.{◌≡◌, refl, sym, ap, subst, ◌∙◌}
use mathlib.Core.Logic.{◌≢◌, ◌⊎◌, inl, inr}
use mathlib.Core.Bool.{Bool, true, false, cond}
use mathlib.Core.List.{List, [], ◌∷◌}
use Prim.Native.Nat.{ℕ, zero, suc, ◌≤◌}
use native.Mathlib.Omega.{arith}
use lib.Dec.{eqb, ltb}
use lib.ListN.{length}
use borrow.Author.Tests.{eqb-true, eqb-false, ne_eqb}
use Rattle.settings.specs.Times.{coordinator_of}
use Rattle.settings.specs.declared.Settings.{Settings}
use Rattle.byte_lists.specs.Little.{are_bytes}
use Rattle.coord_apply.specs.Answers.{Buffered, Step, refused, went, began_seen, ok_seen, read_seen, aborted_seen, cut_seen}
use Rattle.coord_apply.specs.declared.Notice.{Notice}
use Rattle.register.specs.Runs.{plain, Item, message, reply, World, Event, start_write, start_read, start_write_block, start_read_block, arrives}
use Rattle.register.specs.Runs.{crashes, goes_down, comes_up, Moved, unmoved, on_stripe, seen_of, coordinated, received, arriving, arriving_at, standing, step}
use Rattle.order.specs.Claim.{Seen}
use Rattle.order.proofs.Laws.OrderCutLaws.{cut_at_two, after_one_list, there_or_away_for_both}
use Rattle.order.proofs.Laws.StripeUseLaws.{whole_zeros_or_written, whole_stays_away, whole_until_another, whole_reads_agree, whole_written_is_read}
use Rattle.register.specs.Corollaries.{OrderCutAtTwo, ReadsSeeOneStripe, StripeWriteIsThereOrAway}
use Rattle.register.specs.Corollaries.{WriteStaysAway, WriteIsThereUntilAnother, ReadGivesOneWrite}
use Rattle.register.specs.Corollaries.{CutWriteIsThereOrAway, WhatWasStoredIsThere, OneThingSeen, SeenOnOneStripe}
use Rattle.register.proofs.Laws.BrickEvent.{either}
use Rattle.register.proofs.Laws.DriverLaws.{seen_nowhere}
use Rattle.register.proofs.Laws.TheoremProof.{every_run_has_one_order}

pub order_cut_at_two : OrderCutAtTwo
order_cut_at_two s e events stripe l t u x y a b v k = cut_at_two (every_run_has_one_order s e events stripe l) v k

pub reads_see_one_stripe : ReadsSeeOneStripe
reads_see_one_stripe s e events stripe l t u x y a b v k = after_one_list (every_run_has_one_order s e events stripe l) v k

pub stripe_write_is_there_or_away : StripeWriteIsThereOrAway
stripe_write_is_there_or_away s e events stripe l w t u c x y a b m f g v k =
    there_or_away_for_both (every_run_has_one_order s e events stripe l) v k w c m f g

pub write_stays_away : WriteStaysAway
write_stays_away s e events stripe l w t u v a b none = whole_stays_away (every_run_has_one_order s e events stripe l) none w t u v a b

pub write_is_there_until_another : WriteIsThereUntilAnother
write_is_there_until_another s e events stripe l w t u v b none = whole_until_another (every_run_has_one_order s e events stripe l) none w t u v b

pub read_gives_one_write : ReadGivesOneWrite
read_gives_one_write s e events stripe l t a none = whole_zeros_or_written (every_run_has_one_order s e events stripe l) none t a

pub cut_write_is_there_or_away : CutWriteIsThereOrAway
cut_write_is_there_or_away s e events stripe l t u a b = whole_reads_agree (every_run_has_one_order s e events stripe l) t u a b

pub what_was_stored_is_there : WhatWasStoredIsThere
what_was_stored_is_there s e events stripe l w t v a = whole_written_is_read (every_run_has_one_order s e events stripe l) w t v a

-- one thing is seen at most
one_of : {A : Type 0} (a b c d f : Bool) (p q r x y : A)
    → length (cond a (p ∷ []) (cond b (q ∷ []) (cond c (r ∷ []) (cond d (x ∷ []) (cond f (y ∷ []) []))))) ≤ 1
one_of true b c d f p q r x y = omega arith
one_of false true c d f p q r x y = omega arith
one_of false false true d f p q r x y = omega arith
one_of false false false true f p q r x y = omega arith
one_of false false false false true p q r x y = omega arith
one_of false false false false false p q r x y = omega arith

seen_one : (s : Settings) (e : Notice) (k : Buffered) → length (seen_of s e k) ≤ 1
unfolding seen_of
seen_one s e k =
    one_of (eqb e.what began_seen) (eqb e.what ok_seen) (eqb e.what read_seen) (eqb e.what aborted_seen) (eqb e.what cut_seen) _ _ _ _ _

-- what is seen is one thing at most, on one stripe
record ShowsOne (s : Settings) (m : Moved s) : Type 0 where
  stripe : ℕ
  shown : List (Seen (plain s))
  one : length shown ≤ 1
  there : (k : ℕ) → m.seen k ≡ on_stripe stripe shown k

module _ (s : Settings) (w : World) where
  none : (m : Moved s) → ((k : ℕ) → m.seen k ≡ []) → ShowsOne s m
  none m e =
      record { stripe = 0; shown = []; one = omega arith; there = λ k. e k ∙ ap (λ (f : ℕ → List (Seen (plain s))). f k) (sym (seen_nowhere 0)) }

  coordinated_one : (c : ℕ) (p : Step) → ShowsOne s (coordinated s w c p)
  unfolding coordinated unmoved
  coordinated_one c (refused number) = none _ (λ k. refl)
  coordinated_one c (went g) =
      record { stripe = g.seen.stripe; shown = seen_of s g.seen g.next; one = seen_one s g.seen g.next; there = λ k. refl }

  arriving_one : (i : Item) → ShowsOne s (arriving s w i)
  unfolding arriving received unmoved
  arriving_one (message b msg block old) = either (ShowsOne s) (w.up b) _ _ (none _ (λ k. refl)) (none _ (λ k. refl))
  arriving_one (reply r block) = coordinated_one (coordinator_of r.time) _

  at_one : (l : List Item) (k : ℕ) → ShowsOne s (arriving_at s w l k)
  unfolding arriving_at unmoved
  at_one [] k = none _ (λ j. refl)
  at_one (i ∷ l) zero = arriving_one i
  at_one (i ∷ l) (suc k) = at_one l k

  standing_one : (b : ℕ) (how : Bool) → ShowsOne s (standing s w b how)
  unfolding standing unmoved
  standing_one b how = either (ShowsOne s) (ltb b s.n) _ _ (none _ (λ k. refl)) (none _ (λ k. refl))

  step_one : (e : Event) → ShowsOne s (step s w e)
  unfolding step unmoved
  step_one (start_write c stripe reading content) = either (ShowsOne s) (are_bytes content) _ _ (coordinated_one c _) (none _ (λ k. refl))
  step_one (start_read c stripe reading first) = coordinated_one c _
  step_one (start_write_block c stripe reading block content) = either (ShowsOne s) (are_bytes content) _ _ (coordinated_one c _) (none _ (λ k. refl))
  step_one (start_read_block c stripe reading block) = coordinated_one c _
  step_one (arrives k) = at_one w.sent k
  step_one (crashes c left) = coordinated_one c _
  step_one (goes_down b) = standing_one b false
  step_one (comes_up b) = standing_one b true

pub one_thing_seen : OneThingSeen
unfolding on_stripe
one_thing_seen s w e k =
    let o = step_one s w e in
    subst (λ (l : List (Seen (plain s))). length l ≤ 1) (sym (o.there k)) (go (eqb k o.stripe) o.shown o.one)
  where
    go : (a : Bool) (l : List (Seen (plain s))) → length l ≤ 1 → length (cond a l []) ≤ 1
    go true l h = h
    go false l h = omega arith

pub seen_on_one_stripe : SeenOnOneStripe
unfolding on_stripe
seen_on_one_stripe s w e j k n = go (eqb j o.stripe) refl
  where
    o : ShowsOne s (step s w e)
    o = step_one s w e

    none-at : (i : ℕ) → i ≢ o.stripe → (step s w e).seen i ≡ []
    none-at i h = o.there i ∙ rw (ne_eqb i o.stripe h) refl

    go : (a : Bool) → eqb j o.stripe ≡ a → ((step s w e).seen j ≡ []) ⊎ ((step s w e).seen k ≡ [])
    go true q = inr (none-at k (λ z. n (eqb-true j o.stripe q ∙ sym z)))
    go false q = inl (none-at j (eqb-false j o.stripe q))

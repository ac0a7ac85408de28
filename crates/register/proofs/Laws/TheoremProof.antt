-- Demand 3: every run has one order, stripe by stripe.
use mathlib.Core.Path.{◌≡◌, refl, subst}
use mathlib.Core.Bool.{Bool, true, false, cond}
use mathlib.Core.List.Memᴰ
use mathlib.Core.List.{List, [], ◌∷◌, append-nil}
use mathlib.Core.Path.{sym, ◌∙◌}
use Prim.Native.Nat.{ℕ, zero, suc, ◌<◌}
use lib.Dec.{ltb}
use Rattle.settings.specs.Ranges.{SettingsRange}
use Rattle.image.proofs.Laws.ParseLaws.{range_of}
use Rattle.settings.specs.declared.Settings.{Settings}
use Rattle.byte_lists.specs.Little.{Bytes, are_bytes}
use Rattle.byte_lists.proofs.Laws.LittleLaws.{are_bytes_lem}
use Rattle.coord_apply.specs.Answers.{Step}
use Rattle.coordinator.specs.Routines.{write_step, write_block_step}
use Rattle.order.specs.Claim.{OneOrder, ◌∈◌}
use Rattle.order.specs.Places.{Suf, whole}
use Rattle.order.proofs.Laws.PlaceLaws.{suf_trans}
use Rattle.settings.specs.Times.{coordinator_of}
use Rattle.order.proofs.Laws.OneOrderTheorem.{one_order}
use Rattle.register.specs.Runs.{plain, Item, message, reply, fresh_set, Event, start_write, start_read, start_write_block, start_read_block, arrives, crashes, goes_down}
use Rattle.register.specs.Runs.{comes_up, Moved, unmoved, joined, put_at, coordinated, arriving, arriving_at, standing, step, next_moved, run_from}
use Rattle.register.specs.Runs.{run}
use Rattle.register.specs.Theorem.{EveryRunHasOneOrder}
use Rattle.register.proofs.Laws.Invariant.{Hist, Goes, view, Inv}
use Rattle.register.proofs.Laws.StripeViewLaws.{goes_unmoved}
use Rattle.register.proofs.Laws.BrickViewLaws.{message_arrives}
use Rattle.register.proofs.Laws.StripeEvent.{reply_goes, write_goes, read_goes, write_block_goes, read_block_goes, crash_goes}
use Rattle.register.proofs.Laws.FreshRunLaws.{fresh_holds}

module _ (s : Settings) (g : SettingsRange s) (k : ℕ) where
  -- an item among those sent arrives
  item_arrives : (h : Hist s) (r : Moved s) → Inv s g k h r → (z : Item) → z ∈ r.world.sent → Goes s g h (view k (joined s r (arriving s r.world z)))
  item_arrives h r i (message b msg block old) m = message_arrives s k r b g h i msg block old m
  item_arrives h r i (reply a block) m = unfold arriving in reply_goes s g k h r i (coordinator_of a.time) a block m

  place_arrives : (h : Hist s) (r : Moved s) → Inv s g k h r → (l : List Item) → ((z : Item) → z ∈ l → z ∈ r.world.sent) → (p : ℕ)
      → Goes s g h (view k (joined s r (arriving_at s r.world l p)))
  unfolding arriving_at
  place_arrives h r i [] f p = goes_unmoved s g k h r i
  place_arrives h r i (z ∷ l) f zero = item_arrives h r i z (f z (Memᴰ.head refl))
  place_arrives h r i (z ∷ l) f (suc p) = place_arrives h r i l (λ y m. f y (Memᴰ.tail m)) p

  stands : (h : Hist s) (r : Moved s) → Inv s g k h r → (b : ℕ) (how : Bool) → Goes s g h (view k (joined s r (standing s r.world b how)))
  unfolding standing view
  stands h r i b how = go (ltb b s.n)
    where
      go : (a : Bool)
          → Goes s g h
          (view k
          (joined s r
          (cond a
          (record {
            world = record { images = r.world.images; up = put_at r.world.up b how; coordinators = r.world.coordinators; sent = r.world.sent };
            seen = λ (j : ℕ). [];
          })
          (unmoved s r.world))))
      go true = (
        h,
        whole,
        record {
          valid = i.valid;
          seen-is = i.seen-is ∙ sym (append-nil (r.seen k));
          bricks = i.bricks;
          items = i.items;
          coordinators = i.coordinators;
          told = i.told;
        },
      )
      go false = goes_unmoved s g k h r i

  -- a start with bytes; with other numbers nothing is changed
  with_bytes : (h : Hist s) (r : Moved s) → Inv s g k h r → (c : ℕ) (content : List ℕ) (p : Step)
      → (Bytes content → Goes s g h (view k (joined s r (coordinated s r.world c p))))
      → Goes s g h (view k (joined s r (cond (are_bytes content) (coordinated s r.world c p) (unmoved s r.world))))
  with_bytes h r i c content p f = go (are_bytes content) refl
    where
      go : (b : Bool) → are_bytes content ≡ b → Goes s g h (view k (joined s r (cond b (coordinated s r.world c p) (unmoved s r.world))))
      go true e = f (are_bytes_lem content e)
      go false e = goes_unmoved s g k h r i

  -- what holds of stripe k goes on to hold after each event,
  pub step_goes : (h : Hist s) (r : Moved s) → Inv s g k h r → (e : Event) → Goes s g h (view k (joined s r (step s r.world e)))
  unfolding step
  step_goes h r i (start_write c number reading content) =
      with_bytes h r i c content (write_step s.n s.m s.size s.stripes (r.world.coordinators c) number reading content)
      (λ small. write_goes s g k h r i c number reading content small)
  step_goes h r i (start_write_block c number reading block content) =
      with_bytes h r i c content (write_block_step s.n s.m s.size s.stripes (r.world.coordinators c) number reading block content)
      (λ small. write_block_goes s g k h r i c number reading block content small)
  step_goes h r i (start_read_block c number reading block) = read_block_goes s g k h r i c number reading block
  step_goes h r i (start_read c number reading first) = read_goes s g k h r i c number reading first
  step_goes h r i (arrives p) = place_arrives h r i r.world.sent (λ z m. m) p
  step_goes h r i (crashes c left) = crash_goes s g k h r i c left
  step_goes h r i (goes_down b) = stands h r i b false
  step_goes h r i (comes_up b) = stands h r i b true

  -- so after all of them, with a history that goes on from that before them
  pub from_holds : (h : Hist s) (r : Moved s) → Inv s g k h r → (events : List Event) → (h' : Hist s) × Suf h h' × Inv s g k h' (run_from s r events)
  unfolding run_from next_moved
  from_holds h r i [] = (h, whole, i)
  from_holds h r i (e ∷ events) =
      let w = step_goes h r i e in
      let z = from_holds w.0 (next_moved s r e) w.2 events in
      (z.0, suf_trans w.1 z.1, z.2)

  pub run_holds : k < s.stripes → (events : List Event) → (h : Hist s) × Inv s g k h (run s events)
  unfolding run
  run_holds low events = let z = from_holds [] (unmoved s (fresh_set s)) (fresh_holds s g k low) events in (z.0, z.2)

pub every_run_has_one_order : EveryRunHasOneOrder
unfolding view
every_run_has_one_order s e events k low =
    let w = run_holds s (range_of s e) k low events in
    subst (OneOrder (plain s)) w.1.seen-is (one_order w.1.valid)

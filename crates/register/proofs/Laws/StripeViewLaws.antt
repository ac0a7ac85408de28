-- What one event changes in a stripe's view of the world: an event on the stripe, one on another stripe, or none.
use mathlib.Core.Path.{◌≡◌, refl, sym, ap, subst, ◌∙◌}
use mathlib.Core.Logic.{◌⊎◌, inl, inr}
use mathlib.Core.Bool.{Bool, true, false, cond, not, ◌&&◌, true≢false}
use mathlib.Core.List.Memᴰ
use mathlib.Core.List.{List, [], ◌∷◌, ◌++◌, append-nil}
use Prim.Native.Nat.{ℕ, ◌≤◌}
use native.Mathlib.Omega.{arith}
use native.Mathlib.Decide.{ℕ_discrete}
use lib.Dec.{eqb}
use borrow.Author.Tests.{eqb-true, eqb-false, eq-eqb, ne_eqb}
use Rattle.settings.specs.Ranges.{SettingsRange}
use Rattle.settings.specs.Times.{time_of}
use Rattle.settings.specs.declared.Settings.{Settings}
use Rattle.coord_record.specs.Records.{idle_kind, idle_with, no_op, nothing_counted, no_bricks}
use Rattle.coord_record.specs.declared.Coordinator.{Coordinator}
use Rattle.coord_apply.specs.Answers.{Buffered, Broadcast, Went, went, nothing_seen}
use Rattle.coord_apply.specs.declared.Notice.{Notice}
use Rattle.settings.specs.declared.Clock.{Clock}
use Rattle.volume.specs.Rows.{image_at}
use Rattle.coord_laws.proofs.Laws.SoundnessLaws.{none_sized}
use Rattle.order.specs.Claim.{Seen, ◌∈◌}
use Rattle.order.specs.Places.{whole}
use Rattle.register.specs.Runs.{plain, Item, Moved, unmoved, joined, put_at, on_stripe, seen_of, to_all, broadcasts, coordinated}
use Rattle.register.proofs.Laws.BrickEvent.{put_here, put_there}
use Rattle.register.proofs.Laws.Invariant.{Hist, CoordinatorInv, View, ViewInv, Goes, item_on, items_on, runs_on, viewed, view, Inv}
use Rattle.register.proofs.Laws.TurnLaws.{TurnedRound, turned_view, goes_turned, in_to_all}

-- The items of a stripe, list by list.
pub items_append : (k : ℕ) (a b : List Item) → items_on k (a ++ b) ≡ items_on k a ++ items_on k b
unfolding items_on
items_append k [] b = refl
items_append k (i ∷ a) b = go (item_on k i) (items_append k a b)
  where
    go : (x : Bool) → items_on k (a ++ b) ≡ items_on k a ++ items_on k b
        → cond x (i ∷ items_on k (a ++ b)) (items_on k (a ++ b)) ≡ cond x (i ∷ items_on k a) (items_on k a) ++ items_on k b
    go true e = ap (λ (l : List Item). i ∷ l) e
    go false e = e

pub items_all : (k : ℕ) (l : List Item) → ((i : Item) → i ∈ l → item_on k i ≡ true) → items_on k l ≡ l
unfolding items_on
items_all k [] f = refl
items_all k (i ∷ l) f =
    rw (f i (Memᴰ.head refl)) (ap (λ (z : List Item). i ∷ z) (items_all k l (λ j m. f j (Memᴰ.tail m))))

pub items_none : (k : ℕ) (l : List Item) → ((i : Item) → i ∈ l → item_on k i ≡ false) → items_on k l ≡ []
unfolding items_on
items_none k [] f = refl
items_none k (i ∷ l) f = rw (f i (Memᴰ.head refl)) (items_none k l (λ j m. f j (Memᴰ.tail m)))

pub in_items : (k : ℕ) (l : List Item) (i : Item) → i ∈ l → item_on k i ≡ true → i ∈ items_on k l
unfolding items_on
in_items k [] i m e = absurd (Memᴰ.not-nil m)
in_items k (j ∷ l) i m e = go (item_on k j) refl (Memᴰ.cases_cons m) (in_items k l i)
  where
    go : (x : Bool) → item_on k j ≡ x → (i ≡ j) ⊎ (i ∈ l) → (i ∈ l → item_on k i ≡ true → i ∈ items_on k l) → i ∈ cond x (j ∷ items_on k l) (items_on k l)
    go true q (inl p) ih = Memᴰ.head p
    go true q (inr p) ih = Memᴰ.tail (ih p e)
    go false q (inl p) ih = absurd (true≢false (sym e ∙ ap (item_on k) p ∙ q))
    go false q (inr p) ih = ih p e

-- an item of a stripe was sent, and is of that stripe
pub of_items : (k : ℕ) (l : List Item) (i : Item) → i ∈ items_on k l → (i ∈ l) × (item_on k i ≡ true)
unfolding items_on
of_items k [] i m = absurd (Memᴰ.not-nil m)
of_items k (j ∷ l) i m = go (item_on k j) refl m (of_items k l i)
  where
    go : (x : Bool) → item_on k j ≡ x → i ∈ cond x (j ∷ items_on k l) (items_on k l) → (i ∈ items_on k l → (i ∈ l) × (item_on k i ≡ true))
        → (i ∈ j ∷ l) × (item_on k i ≡ true)
    go true q m ih = first (Memᴰ.cases_cons m)
      where
        first : (i ≡ j) ⊎ (i ∈ items_on k l) → (i ∈ j ∷ l) × (item_on k i ≡ true)
        first (inl p) = (Memᴰ.head p, ap (item_on k) p ∙ q)
        first (inr p) = let w = ih p in (Memᴰ.tail w.0, w.1)
    go false q m ih = let w = ih m in (Memᴰ.tail w.0, w.1)

-- what broadcasts of one stripe send is of that stripe
pub broadcast_stripe : (s : Settings) (k : ℕ) (a : Bool) (l : List Broadcast) → ((z : Broadcast) → z ∈ l → eqb z.message.stripe k ≡ a)
    → (i : Item) → i ∈ broadcasts s l → item_on k i ≡ a
unfolding broadcasts item_on
broadcast_stripe s k a [] f i m = absurd (Memᴰ.not-nil m)
broadcast_stripe s k a (z ∷ l) f i m = go (Memᴰ.append_cases (to_all s z s.n) m) (broadcast_stripe s k a l (λ y n. f y (Memᴰ.tail n)) i)
  where
    go : (i ∈ to_all s z s.n) ⊎ (i ∈ broadcasts s l) → (i ∈ broadcasts s l → item_on k i ≡ a) → item_on k i ≡ a
    go (inl p) ih = let w = in_to_all s z s.n i p in ap (item_on k) w.2 ∙ f z (Memᴰ.head refl)
    go (inr p) ih = ih p

-- A coordinator in the view: itself where it runs on the stripe, else the idle record of its clock.
module _ (k : ℕ) (h : Buffered) where
  pub viewed_here : (h.state.op.kind ≡ idle_kind → ⊥) → h.state.op.stripe ≡ k → viewed k h ≡ h
  unfolding viewed runs_on
  viewed_here n e = rw (ne_eqb h.state.op.kind idle_kind n, eq-eqb h.state.op.stripe k e) refl

  pub viewed_there : ((h.state.op.kind ≡ idle_kind → ⊥) → h.state.op.stripe ≡ k → ⊥)
      → viewed k h ≡ record { state = idle_with h.state.geometry h.state.clock; blocks = h.blocks; stripe = h.stripe }
  unfolding viewed runs_on
  viewed_there n = go (eqb h.state.op.kind idle_kind) (eqb h.state.op.stripe k) refl refl
    where
      go : (a b : Bool) → eqb h.state.op.kind idle_kind ≡ a → eqb h.state.op.stripe k ≡ b
          → cond (not a && b) h (record { state = idle_with h.state.geometry h.state.clock; blocks = h.blocks; stripe = h.stripe })
          ≡ record { state = idle_with h.state.geometry h.state.clock; blocks = h.blocks; stripe = h.stripe }
      go true b ea eb = refl
      go false true ea eb = absurd (n (eqb-false h.state.op.kind idle_kind ea) (eqb-true h.state.op.stripe k eb))
      go false false ea eb = refl

  -- the same where an idle record is that of its clock
  pub viewed_same : (h.state.op.kind ≡ idle_kind → h.state ≡ idle_with h.state.geometry h.state.clock)
      → ((h.state.op.kind ≡ idle_kind → ⊥) → h.state.op.stripe ≡ k) → viewed k h ≡ h
  viewed_same f g = go (ℕ_discrete h.state.op.kind idle_kind)
    where
      go : Dec (h.state.op.kind ≡ idle_kind) → viewed k h ≡ h
      go (yes e) = viewed_there (λ n _. n e) ∙ ap (λ (z : Coordinator). record { state = z; blocks = h.blocks; stripe = h.stripe }) (sym (f e))
      go (no n) = viewed_here n (g n)

-- a coordinator in the view has its number and its clock
pub viewed_clock : (k : ℕ) (h : Buffered) → (viewed k h).state.clock ≡ h.state.clock
unfolding viewed idle_with
viewed_clock k h = go (runs_on k h)
  where
    go : (a : Bool)
        → (cond a h
        (record {
          state = record { geometry = h.state.geometry; clock = h.state.clock; op = no_op; tally = nothing_counted; bricks = no_bricks };
          blocks = h.blocks;
          stripe = h.stripe;
        })
        ).state.clock
        ≡ h.state.clock
    go true = refl
    go false = refl

-- what is seen of another stripe, or of none
pub shown_there : {A : Type 0} (j k : ℕ) (l : List A) → (k ≡ j → ⊥) → on_stripe j l k ≡ []
unfolding on_stripe
shown_there j k l n = rw (ne_eqb k j n) refl

pub shown_here : {A : Type 0} (j k : ℕ) (l : List A) → k ≡ j → on_stripe j l k ≡ l
unfolding on_stripe
shown_here j k l e = rw (eq-eqb k j e) refl

pub shown_none : {A : Type 0} (j k : ℕ) → ◌≡◌ {A = List A} (on_stripe j [] k) []
unfolding on_stripe
shown_none {A} j k = go (eqb k j)
  where
    go : (b : Bool) → ◌≡◌ {A = List A} (cond b [] []) []
    go true = refl
    go false = refl

pub nothing_shown : (s : Settings) (h : Buffered) → seen_of s nothing_seen h ≡ []
unfolding seen_of nothing_seen
nothing_shown s h = refl

-- AN EVENT AT A COORDINATOR, ON THE STRIPE:
module _ (s : Settings) (k : ℕ) (r : Moved s) (c : ℕ) (w : Went) where
  -- all that it leaves, sends and shows is of stripe k
  pub record Here : Type 0 where
    pub next_here : viewed k w.next ≡ w.next
    pub sends : (z : Broadcast) → z ∈ w.sent → z.message.stripe ≡ k
    pub shows : (w.seen.stripe ≡ k) ⊎ (w.seen ≡ nothing_seen)

  pub view_here : Here → view k (joined s r (coordinated s r.world c (went w))) ≡ turned_view s (view k r) c w
  unfolding view coordinated put_at
  view_here e =
      λ i.
      record {
        images = λ (b : ℕ). image_at s k (r.world.images b);
        coordinators = λ (c' : ℕ). at c' i;
        sent = sent i;
        seen = shown i;
      }
    where
      at : (c' : ℕ) → viewed k (put_at r.world.coordinators c w.next c') ≡ put_at (λ (j : ℕ). viewed k (r.world.coordinators j)) c w.next c'
      at c' = go (eqb c' c)
        where
          go : (a : Bool) → viewed k (cond a w.next (r.world.coordinators c')) ≡ cond a w.next (viewed k (r.world.coordinators c'))
          go true = e.next_here
          go false = refl

      sent : items_on k (r.world.sent ++ broadcasts s w.sent) ≡ items_on k r.world.sent ++ broadcasts s w.sent
      sent =
          items_append k r.world.sent (broadcasts s w.sent)
          ∙ ap (λ (l : List Item). items_on k r.world.sent ++ l)
          (items_all k (broadcasts s w.sent) (broadcast_stripe s k true w.sent (λ z m. eq-eqb z.message.stripe k (e.sends z m))))

      shown : r.seen k ++ on_stripe w.seen.stripe (seen_of s w.seen w.next) k ≡ r.seen k ++ seen_of s w.seen w.next
      shown = ap (λ (l : List (Seen (plain s))). r.seen k ++ l) (go e.shows)
        where
          go : (w.seen.stripe ≡ k) ⊎ (w.seen ≡ nothing_seen) → on_stripe w.seen.stripe (seen_of s w.seen w.next) k ≡ seen_of s w.seen w.next
          go (inl q) = shown_here w.seen.stripe k (seen_of s w.seen w.next) (sym q)
          go (inr q) =
              let z : seen_of s w.seen w.next ≡ [] = ap (λ (x : Notice). seen_of s x w.next) q ∙ nothing_shown s w.next in
              ap (λ (l : List (Seen (plain s))). on_stripe w.seen.stripe l k) z ∙ shown_none w.seen.stripe k ∙ sym z

  -- ON ANOTHER STRIPE: of stripe k a clock moves on.
  pub record There : Type 0 where
    pub before : ((r.world.coordinators c).state.op.kind ≡ idle_kind → ⊥) → (r.world.coordinators c).state.op.stripe ≡ k → ⊥
    pub after : (w.next.state.op.kind ≡ idle_kind → ⊥) → w.next.state.op.stripe ≡ k → ⊥
    pub sends : (z : Broadcast) → z ∈ w.sent → z.message.stripe ≡ k → ⊥
    pub shows : (w.seen.stripe ≡ k → ⊥) ⊎ (w.seen ≡ nothing_seen)
    pub same_number : w.next.state.clock.coordinator ≡ (r.world.coordinators c).state.clock.coordinator
    pub rises : (r.world.coordinators c).state.clock.last ≤ w.next.state.clock.last

  -- the view in which coordinator c is idle with its new clock
  ticked_view : View s
  ticked_view =
      record {
        images = (view k r).images;
        coordinators = put_at (view k r).coordinators c
            (record { state = idle_with w.next.state.geometry w.next.state.clock; blocks = w.next.blocks; stripe = w.next.stripe });
        sent = (view k r).sent;
        seen = (view k r).seen;
      }

  view_there : There → view k (joined s r (coordinated s r.world c (went w))) ≡ ticked_view
  unfolding view coordinated ticked_view put_at
  view_there e =
      λ i.
      record {
        images = λ (b : ℕ). image_at s k (r.world.images b);
        coordinators = λ (c' : ℕ). at c' i;
        sent = sent i;
        seen = shown i;
      }
    where
      idle : Buffered
      idle = record { state = idle_with w.next.state.geometry w.next.state.clock; blocks = w.next.blocks; stripe = w.next.stripe }

      at : (c' : ℕ) → viewed k (put_at r.world.coordinators c w.next c') ≡ put_at (λ (j : ℕ). viewed k (r.world.coordinators j)) c idle c'
      at c' = go (eqb c' c)
        where
          go : (a : Bool) → viewed k (cond a w.next (r.world.coordinators c')) ≡ cond a idle (viewed k (r.world.coordinators c'))
          go true = viewed_there k w.next e.after
          go false = refl

      sent : items_on k (r.world.sent ++ broadcasts s w.sent) ≡ items_on k r.world.sent
      sent =
          items_append k r.world.sent (broadcasts s w.sent)
          ∙ ap (λ (l : List Item). items_on k r.world.sent ++ l)
          (items_none k (broadcasts s w.sent) (broadcast_stripe s k false w.sent (λ z m. ne_eqb z.message.stripe k (e.sends z m))))
          ∙ append-nil (items_on k r.world.sent)

      shown : r.seen k ++ on_stripe w.seen.stripe (seen_of s w.seen w.next) k ≡ r.seen k
      shown = ap (λ (l : List (Seen (plain s))). r.seen k ++ l) (go e.shows) ∙ append-nil (r.seen k)
        where
          go : (w.seen.stripe ≡ k → ⊥) ⊎ (w.seen ≡ nothing_seen) → on_stripe w.seen.stripe (seen_of s w.seen w.next) k ≡ []
          go (inl q) = shown_there w.seen.stripe k (seen_of s w.seen w.next) (λ z. q (sym z))
          go (inr q) =
              let z : seen_of s w.seen w.next ≡ [] = ap (λ (x : Notice). seen_of s x w.next) q ∙ nothing_shown s w.next in
              ap (λ (l : List (Seen (plain s))). on_stripe w.seen.stripe l k) z ∙ shown_none w.seen.stripe k

  module _ (g : SettingsRange s) (h : Hist s) (i : Inv s g k h r) where
    -- what holds of stripe k goes on to hold
    pub goes_here : Here → TurnedRound s g h (view k r).sent c w → Goes s g h (view k (joined s r (coordinated s r.world c (went w))))
    goes_here e t = subst (Goes s g h) (sym (view_here e)) (goes_turned s g h (view k r) i c w t)

    pub goes_there : There → Goes s g h (view k (joined s r (coordinated s r.world c (went w))))
    unfolding idle_with no_op ticked_view time_of
    goes_there e = subst (Goes s g h) (sym (view_there e)) (h, whole, ticked)
      where
        old : CoordinatorInv s g h (view k r).sent c ((view k r).coordinators c)
        old = i.coordinators c

        clock-is : ((view k r).coordinators c).state.clock ≡ (r.world.coordinators c).state.clock
        clock-is = unfold view in viewed_clock k (r.world.coordinators c)

        idle : Buffered
        idle = record { state = idle_with w.next.state.geometry w.next.state.clock; blocks = w.next.blocks; stripe = w.next.stripe }

        here : CoordinatorInv s g h (view k r).sent c idle
        here =
            record {
              number = e.same_number ∙ ap (λ (z : Clock). z.coordinator) (sym clock-is) ∙ old.number;
              used = λ t b m.
                  let a = old.used t b m in
                  let q = ap (λ (z : Clock). z.last) clock-is in
                  let u = e.rises in
                  omega (arith, a, q, u);
              sized = none_sized;
              idle-is = λ _. refl;
              runs = λ n. absurd (n refl);
            }

        at : (c' : ℕ) (a : Bool) → eqb c' c ≡ a → CoordinatorInv s g h (view k r).sent c' (put_at (view k r).coordinators c idle c')
        at c' true q =
            let z = eqb-true c' c q in
            subst (λ (j : ℕ). CoordinatorInv s g h (view k r).sent j (put_at (view k r).coordinators c idle j)) (sym z)
            (subst (CoordinatorInv s g h (view k r).sent c) (sym (put_here (view k r).coordinators c idle)) here)
        at c' false q =
            subst (CoordinatorInv s g h (view k r).sent c') (sym (put_there (view k r).coordinators c idle c' (eqb-false c' c q))) (i.coordinators c')

        ticked : ViewInv s g h ticked_view
        ticked =
            record {
              valid = i.valid;
              seen-is = i.seen-is;
              bricks = i.bricks;
              items = i.items;
              coordinators = λ c'. at c' (eqb c' c) refl;
              told = i.told;
            }

-- AN EVENT THAT CHANGES NOTHING
pub view_unmoved : (s : Settings) (k : ℕ) (r : Moved s) → view k (joined s r (unmoved s r.world)) ≡ view k r
unfolding view unmoved
view_unmoved s k r =
    λ i.
    record {
      images = λ (b : ℕ). image_at s k (r.world.images b);
      coordinators = λ (c : ℕ). viewed k (r.world.coordinators c);
      sent = items_on k r.world.sent;
      seen = append-nil (r.seen k) i;
    }

pub goes_unmoved : (s : Settings) (g : SettingsRange s) (k : ℕ) (h : Hist s) (r : Moved s) → Inv s g k h r → Goes s g h (view k (joined s r (unmoved s r.world)))
goes_unmoved s g k h r i = subst (Goes s g h) (sym (view_unmoved s k r)) (h, whole, i)

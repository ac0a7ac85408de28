-- One event at one coordinator: the history grows by one fact at most, and how the world goes on.
use mathlib.Core.Path.{◌≡◌, refl, sym, ap, subst, ◌∙◌}
use mathlib.Core.Logic.{◌⊎◌, inl, inr}
use mathlib.Core.Bool.{Bool, true, false}
use mathlib.Core.List.Memᴰ
use mathlib.Core.List.{List, [], ◌∷◌, ◌++◌, append-nil}
use Prim.Native.Nat.{ℕ, zero, suc, ◌<◌}
use native.Mathlib.Omega.{arith}
use lib.Dec.{eqb}
use borrow.Author.Tests.{eqb-true, eqb-false}
use Rattle.settings.specs.Times.{coordinator_of}
use Rattle.settings.specs.Ranges.{SettingsRange}
use Rattle.settings.specs.declared.Settings.{Settings}
use Rattle.message.specs.Kinds.{order_read_kind}
use Rattle.message.specs.declared.Message.{Message}
use Rattle.image.specs.Brick.{Brick}
use Rattle.coord_apply.specs.Acts.{sending_first}
use Rattle.coord_apply.specs.Answers.{Buffered, Broadcast, Went}
use Rattle.order.specs.Claim.{Seen, ◌∈◌}
use Rattle.order.specs.Facts.{Source, End, Fact, began, launched, stored, ended, seen, shows}
use Rattle.order.specs.Places.{Suf, whole, above, In}
use Rattle.order.specs.Valid.{OkBegan, OkLaunched, OkEnded, Ok, Valid, next}
use Rattle.register.specs.Runs.{plain, Item, message, reply, put_at, seen_of, block_for, old_for, to_all, broadcasts}
use Rattle.register.proofs.Laws.Invariant.{quorums, Hist, BrickInv, MessageInv, ItemInv, CoordinatorInv, View, ViewInv}
use Rattle.register.proofs.Laws.UpLaws.{Within, in_cons, within_more, item_up, told_sent, AtBrick, AtCoordinator, brick_up, coordinator_up, QuietWorld, coordinator_sent}
use Rattle.register.proofs.Laws.Invariant.{Goes}
use Rattle.register.proofs.Laws.BrickEvent.{put_here, put_there}

-- the fields of a message among the items
unfoldable pub time_of_lem : Item → ℕ
time_of_lem (message b msg block old) = msg.time
time_of_lem (reply r block) = 0

unfoldable pub kind_of_lem : Item → ℕ
kind_of_lem (message b msg block old) = msg.kind
kind_of_lem (reply r block) = 0

unfoldable pub round_of : Item → ℕ
round_of (message b msg block old) = msg.round
round_of (reply r block) = 0

-- The history grows by what concerns coordinator c alone, and this is seen of it.
pub record Turns (s : Settings) (g : SettingsRange s) (c : ℕ) (h h' : Hist s) (shown : List (Seen (plain s))) : Type 0 where
  pub valid : Valid (quorums s g) h'
  pub longer : Suf h h'
  pub seen_more : seen h' ≡ seen h ++ shown
  pub bricks : (b : ℕ) (x : Brick) → BrickInv s g h b x → BrickInv s g h' b x
  pub others : (c' : ℕ) → (c' ≡ c → ⊥) → (sent : List Item) (k : Buffered) → CoordinatorInv s g h sent c' k → CoordinatorInv s g h' sent c' k
  pub stores-none : (b t : ℕ) → In (stored b t) h' → In (stored b t) h

module _ (s : Settings) (g : SettingsRange s) (c : ℕ) (h : Hist s) (v : Valid (quorums s g) h) where
  pub turns_not : (shown : List (Seen (plain s))) → shown ≡ [] → Turns s g c h h shown
  turns_not shown e =
      record {
        valid = v;
        longer = whole;
        seen_more = sym (append-nil (seen h)) ∙ ap (λ (z : List (Seen (plain s))). seen h ++ z) (sym e);
        bricks = λ b x i. i;
        others = λ c' n sent k i. i;
        stores-none = λ b t i. i;
      }

  turns_by : (f : Fact (plain s)) → Ok (quorums s g) f h → ((b : ℕ) → AtBrick b f → ⊥) → ((c' : ℕ) → AtCoordinator c' f → c' ≡ c)
      → (shown : List (Seen (plain s))) → shown ≡ shows f → Turns s g c h (f ∷ h) shown
  unfolding seen
  turns_by f o at co shown e =
      record {
        valid = next v o;
        longer = above whole;
        seen_more = ap (λ (z : List (Seen (plain s))). seen h ++ z) (sym e);
        bricks = λ b x i. brick_up (next v o) (at b) i;
        others = λ c' n sent k i. coordinator_up (next v o) (λ a. n (co c' a)) i;
        stores-none = λ b t i. none b t (in_cons i);
      }
    where
      none : (b t : ℕ) → (stored b t ≡ f) ⊎ In (stored b t) h → In (stored b t) h
      none b t (inl q) = absurd (at b (subst (AtBrick b) q refl))
      none b t (inr i) = i

  pub turns_began : (t : ℕ) (k : (plain s).Kind) → OkBegan h t → coordinator_of t ≡ c → (shown : List (Seen (plain s)))
      → shown ≡ Seen.began t k ∷ [] → Turns s g c h (began t k ∷ h) shown
  unfolding shows
  turns_began t k o e shown q = turns_by (began t k) o (λ b a. a) (λ c' a. sym a ∙ e) shown q

  pub turns_launched : (t : ℕ) (k : Source) → OkLaunched (quorums s g) h t k → coordinator_of t ≡ c → (shown : List (Seen (plain s))) → shown ≡ []
      → Turns s g c h (launched t k ∷ h) shown
  unfolding shows
  turns_launched t k o e shown q = turns_by (launched t k) o (λ b a. a) (λ c' a. sym a ∙ e) shown q

  pub turns_ended : (t : ℕ) (k : End (plain s)) → OkEnded (quorums s g) h t k → coordinator_of t ≡ c → (shown : List (Seen (plain s)))
      → shown ≡ shows {P = plain s} (ended t k) → Turns s g c h (ended t k ∷ h) shown
  turns_ended t k o e shown q = turns_by (ended t k) o (λ b a. a) (λ c' a. sym a ∙ e) shown q

-- what a broadcast sends
pub in_to_all : (s : Settings) (z : Broadcast) (k : ℕ) (i : Item) → i ∈ to_all s z k → (b : ℕ) × (b < k) × (i ≡ message b z.message (block_for s z b) (old_for s z))
unfolding to_all
in_to_all s z zero i m = absurd (Memᴰ.not-nil m)
in_to_all s z (suc k) i m = go (Memᴰ.append_cases (to_all s z k) m) (in_to_all s z k i)
  where
    go : (i ∈ to_all s z k) ⊎ (i ∈ (message k z.message (block_for s z k) (old_for s z) ∷ []))
        → (i ∈ to_all s z k → (b : ℕ) × (b < k) × (i ≡ message b z.message (block_for s z b) (old_for s z)))
        → (b : ℕ) × (b < suc k) × (i ≡ message b z.message (block_for s z b) (old_for s z))
    go (inl p) ih = let w = ih p in (w.0, omega (arith, w.1), w.2)
    go (inr p) ih = (k, omega arith, Memᴰ.eq_of_singleton p)

pub in_broadcast : (s : Settings) (z : Broadcast) (i : Item) → i ∈ broadcasts s (z ∷ [])
    → (b : ℕ) × (b < s.n) × (i ≡ message b z.message (block_for s z b) (old_for s z))
unfolding broadcasts
in_broadcast s z i m = go (Memᴰ.append_cases (to_all s z s.n) m)
  where
    go : (i ∈ to_all s z s.n) ⊎ (i ∈ []) → (b : ℕ) × (b < s.n) × (i ≡ message b z.message (block_for s z b) (old_for s z))
    go (inl p) = in_to_all s z s.n i p
    go (inr p) = absurd (Memᴰ.not-nil p)

-- and where there is a brick, it goes to one
some_to_all : (s : Settings) (z : Broadcast) (k : ℕ) → 0 < k → (b : ℕ) × (message b z.message (block_for s z b) (old_for s z) ∈ to_all s z k)
unfolding to_all
some_to_all s z zero l = absurd (omega (arith, l))
some_to_all s z (suc k) l = (k, Memᴰ.append_right (to_all s z k) (Memᴰ.head refl))

pub some_broadcast : (s : Settings) (z : Broadcast) → 0 < s.n → (b : ℕ) × (message b z.message (block_for s z b) (old_for s z) ∈ broadcasts s (z ∷ []))
unfolding broadcasts
some_broadcast s z l = let w = some_to_all s z s.n l in (w.0, Memᴰ.append_left [] w.1)

-- What an event leaves of coordinator c and what it sends.
pub record TurnedRound (s : Settings) (g : SettingsRange s) (h : Hist s) (sent : List Item) (c : ℕ) (w : Went) : Type 0 where
  pub later : Hist s
  pub turns : Turns s g c h later (seen_of s w.seen w.next)
  pub keeps : CoordinatorInv s g later (sent ++ broadcasts s w.sent) c w.next
  pub items : (i : Item) → i ∈ broadcasts s w.sent → ItemInv s g later (sent ++ broadcasts s w.sent) i
  pub own : (b : ℕ) (msg : Message) (block old : List ℕ) → message b msg block old ∈ broadcasts s w.sent → msg.kind ≡ order_read_kind
      → coordinator_of msg.time ≡ c

-- A broadcast that is no Order-and-read goes out ahead of what a step sends.
pub turned_first : (s : Settings) (g : SettingsRange s) (h : Hist s) (sent : List Item) (c : ℕ) (w : Went) (z : Broadcast)
    → (z.message.kind ≡ order_read_kind → ⊥) → (t : TurnedRound s g h sent c w)
    → ((b : ℕ) → b < s.n → MessageInv s g t.later b z.message (block_for s z b) (old_for s z))
    → TurnedRound s g h sent c (sending_first (z ∷ []) w)
unfolding sending_first broadcasts
turned_first s g h sent c w z other t new =
    record {
      later = t.later;
      turns = t.turns;
      keeps = coordinator_sent within quiet t.keeps;
      items = λ i m. item i (Memᴰ.append_cases first m);
      own = λ b msg block old m e. owns b msg block old e (Memᴰ.append_cases first m);
    }
  where
    first : List Item
    first = to_all s z s.n

    rest : List Item
    rest = broadcasts s w.sent

    within : Within (sent ++ rest) (sent ++ (first ++ rest))
    within i m = go (Memᴰ.append_cases sent m)
      where
        go : (i ∈ sent) ⊎ (i ∈ rest) → i ∈ (sent ++ (first ++ rest))
        go (inl p) = Memᴰ.append_left (first ++ rest) p
        go (inr p) = Memᴰ.append_right sent (Memᴰ.append_right first p)

    -- none of them is an Order-and-read
    no-look : (b : ℕ) (msg : Message) (block old : List ℕ) → msg.kind ≡ order_read_kind → message b msg block old ∈ first → ⊥
    no-look b msg block old e m =
        let q = in_to_all s z s.n (message b msg block old) m in
        let k : msg.kind ≡ z.message.kind = unfold kind_of_lem in ap kind_of_lem q.2 in
        other (sym k ∙ e)

    quiet : QuietWorld c (sent ++ rest) (sent ++ (first ++ rest))
    quiet b msg block old m e _ = go (Memᴰ.append_cases sent m)
      where
        later : (message b msg block old ∈ first) ⊎ (message b msg block old ∈ rest) → message b msg block old ∈ (sent ++ rest)
        later (inl p) = absurd (no-look b msg block old e p)
        later (inr p) = Memᴰ.append_right sent p

        go : (message b msg block old ∈ sent) ⊎ (message b msg block old ∈ (first ++ rest)) → message b msg block old ∈ (sent ++ rest)
        go (inl p) = Memᴰ.append_left rest p
        go (inr p) = later (Memᴰ.append_cases first p)

    item : (i : Item) → (i ∈ first) ⊎ (i ∈ rest) → ItemInv s g t.later (sent ++ (first ++ rest)) i
    item i (inl p) =
        let q = in_to_all s z s.n i p in
        subst (ItemInv s g t.later (sent ++ (first ++ rest))) (sym q.2) (new q.0 q.1)
    item i (inr p) = item_up s g t.turns.valid whole within i (t.items i p)

    owns : (b : ℕ) (msg : Message) (block old : List ℕ) → msg.kind ≡ order_read_kind
        → (message b msg block old ∈ first) ⊎ (message b msg block old ∈ rest) → coordinator_of msg.time ≡ c
    owns b msg block old e (inl p) = absurd (no-look b msg block old e p)
    owns b msg block old e (inr p) = t.own b msg block old p e

-- a view in which coordinator c went on
abbrev pub turned_view : (s : Settings) → View s → ℕ → Went → View s
turned_view s v c w =
    record {
      images = v.images;
      coordinators = put_at v.coordinators c w.next;
      sent = v.sent ++ broadcasts s w.sent;
      seen = v.seen ++ seen_of s w.seen w.next;
    }

pub goes_turned : (s : Settings) (g : SettingsRange s) (h : Hist s) (v : View s) → ViewInv s g h v → (c : ℕ) (w : Went)
    → TurnedRound s g h v.sent c w → Goes s g h (turned_view s v c w)
goes_turned s g h v i c w t = (
  t.later,
  t.turns.longer,
  record {
    valid = t.turns.valid;
    seen-is = t.turns.seen_more ∙ ap (λ (z : List (Seen (plain s))). z ++ seen_of s w.seen w.next) i.seen-is;
    bricks = λ b l. let x = i.bricks b l in
        record { state = x.state; saved = x.saved; sound = x.sound; keeps = t.turns.bricks b x.state x.keeps };
    items = λ k m. item k (Memᴰ.append_cases v.sent m);
    coordinators = λ c'. at c' (eqb c' c) refl;
    told = λ b u m. told_sent (within_more v.sent new) (i.told b u (t.turns.stores-none b u m));
  },
)
  where
    new : List Item
    new = broadcasts s w.sent

    item : (k : Item) → (k ∈ v.sent) ⊎ (k ∈ new) → ItemInv s g t.later (v.sent ++ new) k
    item k (inl m) = item_up s g t.turns.valid t.turns.longer (within_more v.sent new) k (i.items k m)
    item k (inr m) = t.items k m

    quiet : (c' : ℕ) → (c' ≡ c → ⊥) → QuietWorld c' v.sent (v.sent ++ new)
    quiet c' n b msg block old m e q = go (Memᴰ.append_cases v.sent m)
      where
        go : (message b msg block old ∈ v.sent) ⊎ (message b msg block old ∈ new) → message b msg block old ∈ v.sent
        go (inl p) = p
        go (inr p) = absurd (n (sym q ∙ t.own b msg block old p e))

    at : (c' : ℕ) (a : Bool) → eqb c' c ≡ a → CoordinatorInv s g t.later (v.sent ++ new) c' (put_at v.coordinators c w.next c')
    at c' true e =
        let q = eqb-true c' c e in
        subst (λ (z : ℕ). CoordinatorInv s g t.later (v.sent ++ new) z (put_at v.coordinators c w.next z)) (sym q)
        (subst (CoordinatorInv s g t.later (v.sent ++ new) c) (sym (put_here v.coordinators c w.next)) t.keeps)
    at c' false e =
        let n = eqb-false c' c e in
        subst (CoordinatorInv s g t.later (v.sent ++ new) c') (sym (put_there v.coordinators c w.next c' n))
        (coordinator_sent (within_more v.sent new) (quiet c' n)
        (t.turns.others c' n v.sent (v.coordinators c') (i.coordinators c')))

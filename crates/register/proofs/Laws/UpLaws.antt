-- What holds goes on to hold: under more facts, and with more sent.
use mathlib.Core.Path.{◌≡◌, refl, subst, ap, ◌∙◌}
use mathlib.Core.Logic.{◌⊎◌, inl, inr}
use mathlib.Core.Bool.{true}
use mathlib.Core.List.Memᴰ
use mathlib.Core.List.{List, ◌∷◌, ◌++◌}
use Prim.Native.Nat.{ℕ, ◌≤◌, ◌<◌}
use Rattle.settings.specs.Times.{coordinator_of}
use Rattle.settings.specs.Ranges.{SettingsRange}
use Rattle.settings.specs.declared.Settings.{Settings}
use Rattle.message.specs.Kinds.{order_read_kind, write_kind, modify_kind}
use Rattle.message.specs.declared.Message.{Message}
use Rattle.message.specs.declared.Reply.{Reply}
use Rattle.image.specs.Brick.{Brick}
use Rattle.coord_apply.specs.Answers.{Buffered}
use Rattle.order.specs.Claim.{Plain, ◌∈◌}
use Rattle.order.specs.Facts.{Fact, began, promised, launched, stored, showed, ended, History}
use Rattle.order.specs.Places.{Suf, whole, above, In}
use Rattle.order.proofs.Laws.PlaceLaws.{suf_cons, in_suf, in_above}
use Rattle.order.specs.Valid.{Began, Passed, Gone, Valid}
use Rattle.order.proofs.Laws.FactLaws.{committed_up, passed_up}
use Rattle.order.proofs.Laws.StoredLaws.{stored_before}
use Rattle.order.proofs.Laws.GoneLaws.{gone_up}
use Rattle.order.proofs.Laws.ValueLaws.{val_up}
use Rattle.register.specs.Runs.{plain, Item, message, reply}
use Rattle.register.proofs.Laws.Invariant.{quorums, Hist, Means, Stands, BrickInv, Modifies, MessageInv, Looked, Newest, ReplyInv, ItemInv, CountedInv, Lowered}
use Rattle.register.proofs.Laws.Invariant.{Running, CoordinatorInv, LogHas, ToldStored}

-- all that stands in the one list stands in the other
abbrev pub Within : List Item → List Item → Type 0
Within a b = (i : Item) → i ∈ a → i ∈ b

pub within_more : (a b : List Item) → Within a (a ++ b)
within_more a b i m = Memᴰ.append_left b m

-- a fact of a longer history is its newest, or stood there before
pub in_cons : {P : Plain} {f g : Fact P} {h : History P} → In f (g ∷ h) → (f ≡ g) ⊎ In f h
in_cons {P} {f} {g} {h} i = go (suf_cons i.1)
  where
    go : (f ∷ i.0 ≡ g ∷ h) ⊎ Suf (f ∷ i.0) h → (f ≡ g) ⊎ In f h
    go (inl e) = inl (cc)
    go (inr s) = inr (i.0, s)

pub stands_up : {P : Plain} {a h : History P} {b t : ℕ} → Suf a h → Stands a b t → Stands h b t
stands_up q (inl e) = inl e
stands_up q (inr i) = inr (in_suf q i)

module _ {s : Settings} where
  pub means_up : {a h : Hist s} {t b : ℕ} {block : List ℕ} → Suf a h → Means s a t b block → Means s h t b block
  means_up q x = record { full = x.full; value = val_up q x.value; proper = x.proper; coded = x.coded }

  modifies_up : {a h : Hist s} {msg : Message} {block old : List ℕ} → Suf a h → Modifies s a msg block old → Modifies s h msg block old
  modifies_up q x =
      record {
        sent = (x.sent.0, in_suf q x.sent.1);
        full = x.full;
        value = val_up q x.value;
        proper = x.proper;
        piece = x.piece;
        old-is = x.old-is;
        after = val_up q x.after;
      }

module _ {s : Settings} {g : SettingsRange s} {a h : Hist s} (v : Valid (quorums s g) h) (q : Suf a h) where
  pub message_up : {b : ℕ} {msg : Message} {block old : List ℕ} → MessageInv s g a b msg block old → MessageInv s g h b msg block old
  message_up x =
      record {
        brick-low = x.brick-low;
        asks = λ l. let w = x.asks l in (w.0, in_suf q w.1);
        stores = λ e. let w = x.stores e in ((w.0.0, in_suf q w.0.1), means_up q w.1);
        modifies = λ e. modifies_up q (x.modifies e);
        trims = λ e. let w = x.trims e in (w.0, committed_up (quorums s g) q w.1);
        drops = λ e. let w = x.drops e in (w.0, gone_up v q w.1);
      }

  looked_up_lem : {old new : List Item} {r : Reply} → Within old new → In (promised r.brick r.time) a → Looked s g a old r → Looked s g h new r
  looked_up_lem {old} {new} {r} w p x =
      record {
        asked = x.asked;
        with-block = x.with-block;
        with-old = x.with-old;
        was-sent = w _ x.was-sent;
        kind-is = x.kind-is;
        time-is = x.time-is;
        round_is = x.round_is;
        nothing-else = λ u l m n. go u (x.nothing-else u l m (before u l n));
      }
    where
      before : (u : ℕ) → u < r.time → Stands h r.brick u → Stands a r.brick u
      before u l (inl e) = inl e
      before u l (inr i) = inr (stored_before v q l p i)

      go : (u : ℕ) → ((r.held ≡ true) × (u ≤ r.found)) ⊎ Gone (quorums s g) a u
          → ((r.held ≡ true) × (u ≤ r.found)) ⊎ Gone (quorums s g) h u
      go u (inl y) = inl y
      go u (inr y) = inr (gone_up v q y)

  newest_up : {r : Reply} → In (promised r.brick r.time) a → Newest s g a r → Newest s g h r
  newest_up {r} p x =
      record {
        below = x.below;
        stands = stands_up q x.stands;
        nothing-else = λ u l n. go u (x.nothing-else u l (before u l n));
      }
    where
      before : (u : ℕ) → u < r.time → Stands h r.brick u → Stands a r.brick u
      before u l (inl e) = inl e
      before u l (inr i) = inr (stored_before v q l p i)

      go : (u : ℕ) → (u ≤ r.found) ⊎ Gone (quorums s g) a u → (u ≤ r.found) ⊎ Gone (quorums s g) h u
      go u (inl y) = inl y
      go u (inr y) = inr (gone_up v q y)

  pub reply_up : {old new : List Item} {r : Reply} {block : List ℕ} → Within old new → ReplyInv s g a old r block → ReplyInv s g h new r block
  reply_up w x =
      record {
        brick-low = x.brick-low;
        orders = λ y k. in_suf q (x.orders y k);
        writes = λ y k. in_suf q (x.writes y k);
        modifies = λ y k. in_suf q (x.modifies y k);
        reads = λ y k. in_suf q (x.reads y k);
        shows = λ y k d. means_up q (x.shows y k d);
        looks = λ y k. in_suf q (x.looks y k);
        finds = λ y k d. let z = x.finds y k d in (z.0, stands_up q z.1, means_up q z.2);
        looked = λ y k. looked_up_lem w (x.looks y k) (x.looked y k);
        joins = λ y k. in_suf q (x.joins y k);
        newest = λ y k. newest_up (x.joins y k) (x.newest y k);
        lends = λ y k d. means_up q (x.lends y k d);
      }

pub item_up : (s : Settings) (g : SettingsRange s) {a h : Hist s} {old new : List Item} → Valid (quorums s g) h → Suf a h → Within old new
    → (i : Item) → ItemInv s g a old i → ItemInv s g h new i
item_up s g v q w (message b msg block old) x = message_up v q x
item_up s g v q w (reply r block) x = reply_up v q w x

-- The facts that concern what brick b promised and stored.
abbrev pub AtBrick : {P : Plain} → ℕ → Fact P → Type 0
AtBrick b (began t k) = ⊥
AtBrick b (promised b' t) = b ≡ b'
AtBrick b (launched t s) = ⊥
AtBrick b (stored b' t) = b ≡ b'
AtBrick b (showed b' t c) = ⊥
AtBrick b (ended t e) = ⊥

-- The facts that concern the operations of coordinator c.
abbrev pub AtCoordinator : {P : Plain} → ℕ → Fact P → Type 0
AtCoordinator c (began t k) = coordinator_of t ≡ c
AtCoordinator c (promised b t) = ⊥
AtCoordinator c (launched t s) = coordinator_of t ≡ c
AtCoordinator c (stored b t) = ⊥
AtCoordinator c (showed b t x) = ⊥
AtCoordinator c (ended t e) = coordinator_of t ≡ c

module _ {s : Settings} {g : SettingsRange s} {h : Hist s} {f : Fact (plain s)} (v : Valid (quorums s g) (f ∷ h)) where
  -- a brick after a fact that does not concern it
  pub brick_up : {b : ℕ} {x : Brick} → (AtBrick b f → ⊥) → BrickInv s g h b x → BrickInv s g (f ∷ h) b x
  brick_up {b} {x} other i =
      record {
        bounded = λ t p. bound t (in_cons p);
        entries = λ j l. let w = i.entries j l in (stands_up (above whole) w.0, means_up (above whole) w.1);
        kept = λ u w. keep u (i.kept u (before u w));
        kept-zero = fresh i.kept-zero;
      }
    where
      fresh : LogHas x 0 ⊎ Passed (quorums s g) h 0 → LogHas x 0 ⊎ Passed (quorums s g) (f ∷ h) 0
      fresh (inl w) = inl w
      fresh (inr w) = inr (passed_up (quorums s g) (above whole) w)

      bound : (t : ℕ) → (promised b t ≡ f) ⊎ In (promised b t) h → t ≤ x.promise
      bound t (inl e) = absurd (other (subst (AtBrick b) e refl))
      bound t (inr p) = i.bounded t p

      stood : (u : ℕ) → (stored b u ≡ f) ⊎ In (stored b u) h → Stands h b u
      stood u (inl e) = absurd (other (subst (AtBrick b) e refl))
      stood u (inr p) = inr p

      before : (u : ℕ) → Stands (f ∷ h) b u → Stands h b u
      before u (inl e) = inl e
      before u (inr p) = stood u (in_cons p)

      keep : (u : ℕ) → LogHas x u ⊎ Gone (quorums s g) h u → LogHas x u ⊎ Gone (quorums s g) (f ∷ h) u
      keep u (inl w) = inl w
      keep u (inr w) = inr (gone_up v (above whole) w)

  -- a coordinator after a fact that does not concern it
  running_up : {sent : List Item} {c : ℕ} {k : Buffered} → (AtCoordinator c f → ⊥) → Running s g h sent c k → Running s g (f ∷ h) sent c k
  running_up {sent} {c} {k} other i =
      record {
        own = i.own;
        begun = in_above i.begun;
        proper = i.proper;
        piece = i.piece;
        unended = λ w. ended-not w.0 (in_cons w.1);
        unsent = λ p o w. launched-not p o w.0 (in_cons w.1);
        counts = i.counts;
        holds = i.holds;
        asked = i.asked;
        looked-lower = i.looked-lower;
        stored-lower = i.stored-lower;
        cleared = λ p u l m. gone_up v (above whole) (i.cleared p u l m);
        storing = λ p. let w = i.storing p in ((w.0.0, in_above w.0.1), val_up (above whole) w.1, w.2);
        modifying = λ p. let w = i.modifying p in (w.0, in_above w.1);
      }
    where
      ended-not : (e : _) → (ended k.state.op.time e ≡ f) ⊎ In (ended k.state.op.time e) h → ⊥
      ended-not e (inl q) = other (subst (AtCoordinator c) q i.own)
      ended-not e (inr q) = i.unended (e, q)

      launched-not : (k.state.op.phase ≡ write_kind → ⊥) → (k.state.op.phase ≡ modify_kind → ⊥) → (e : _)
          → (launched k.state.op.time e ≡ f) ⊎ In (launched k.state.op.time e) h → ⊥
      launched-not p o e (inl q) = other (subst (AtCoordinator c) q i.own)
      launched-not p o e (inr q) = i.unsent p o (e, q)

  pub coordinator_up : {sent : List Item} {c : ℕ} {k : Buffered} → (AtCoordinator c f → ⊥) → CoordinatorInv s g h sent c k
      → CoordinatorInv s g (f ∷ h) sent c k
  coordinator_up {sent} {c} {k} other i =
      record {
        number = i.number;
        used = λ t w m. i.used t (earlier t m w.0 (in_cons w.1)) m;
        sized = i.sized;
        idle-is = i.idle-is;
        runs = λ n. running_up other (i.runs n);
      }
    where
      earlier : (t : ℕ) → coordinator_of t ≡ c → (o : _) → (began t o ≡ f) ⊎ In (began t o) h → Began h t
      earlier t m o (inl q) = absurd (other (subst (AtCoordinator c) q m))
      earlier t m o (inr q) = (o, q)

-- what is sent anew is no Order-and-read of coordinator c
abbrev pub QuietWorld : ℕ → List Item → List Item → Type 0
QuietWorld c old new =
    (b : ℕ) (msg : Message) (block before : List ℕ) → message b msg block before ∈ new → msg.kind ≡ order_read_kind → coordinator_of msg.time ≡ c
    → message b msg block before ∈ old

pub counted_sent : {s : Settings} {old new : List Item} {k : Buffered} {b : ℕ} → Within old new → CountedInv s old k b → CountedInv s new k b
counted_sent w x =
    record {
      from = x.from;
      block = x.block;
      was-sent = w _ x.was-sent;
      low = x.low;
      brick-is = x.brick-is;
      kind-is = x.kind-is;
      time-is = x.time-is;
      round_is = x.round_is;
      yes-is = x.yes-is;
      held-is = x.held-is;
      found-is = x.found-is;
      said-is = x.said-is;
      block-is = x.block-is;
      right = x.right;
    }

pub told_sent : {old new : List Item} {b t : ℕ} → Within old new → ToldStored old b t → ToldStored new b t
told_sent w x =
    record { from = x.from; block = x.block; was-sent = w _ x.was-sent; brick-is = x.brick-is; time-is = x.time-is; yes-is = x.yes-is; kind-is = x.kind-is }

pub lowered_sent : {old new : List Item} {time : ℕ} → Within old new → Lowered old time → Lowered new time
lowered_sent w x =
    record { brick = x.brick; asked = x.asked; block = x.block; old = x.old; was-sent = w _ x.was-sent; kind-is = x.kind-is; time-is = x.time-is; late = x.late }

pub coordinator_sent : {s : Settings} {g : SettingsRange s} {h : Hist s} {old new : List Item} {c : ℕ} {k : Buffered} → Within old new → QuietWorld c old new
    → CoordinatorInv s g h old c k → CoordinatorInv s g h new c k
coordinator_sent {s} {g} {h} {old} {new} {c} {k} w quiet i = record { number = i.number; used = i.used; sized = i.sized; idle-is = i.idle-is; runs = λ n. go (i.runs n) }
  where
    go : Running s g h old c k → Running s g h new c k
    go r =
        record {
          own = r.own;
          begun = r.begun;
          proper = r.proper;
          piece = r.piece;
          unended = r.unended;
          unsent = r.unsent;
          counts = λ b m. counted_sent w (r.counts b m);
          holds = r.holds;
          asked = λ b msg block before m e t. r.asked b msg block before (quiet b msg block before m e (ap coordinator_of t ∙ r.own)) e t;
          looked-lower = λ p l. lowered_sent w (r.looked-lower p l);
          stored-lower = λ p l. lowered_sent w (r.stored-lower p l);
          cleared = r.cleared;
          storing = r.storing;
          modifying = r.modifying;
        }

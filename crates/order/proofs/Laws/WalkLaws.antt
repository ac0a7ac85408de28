-- The plain stripe, fed the order: when a place is reached, it stands at the value of that place.
use mathlib.Core.Path.{◌≡◌, refl, subst, sym, ap, ◌∙◌}
use mathlib.Core.Logic.{◌⊎◌, inl, inr}
use mathlib.Core.List.Memᴰ
use mathlib.Core.List.{List, [], ◌∷◌}
use Prim.Native.Nat.{ℕ, suc, ◌≤◌, ◌<◌}
use native.Mathlib.Omega.{arith}
use native.Mathlib.Decide.{dec_lt}
use lib.ListN.{length}
use Rattle.order.specs.Claim.{Plain, Seen, finished, ◌∈◌, Right}
use Rattle.order.specs.Places.{In}
use Rattle.order.proofs.Laws.PlaceLaws.{suf_below, in_suf}
use Rattle.order.specs.Facts.{Source, itself, over, began, launched, History, seen}
use Rattle.order.specs.Quorums.{Quorums}
use Rattle.order.specs.Valid.{Launched, Valid, Val, sets, onto}
use Rattle.order.proofs.Laws.FactLaws.{ok_at, one_kind}
use Rattle.order.proofs.Laws.LiveLaws.{live_over}
use Rattle.order.proofs.Laws.SeenLaws.{seen_ended}
use Rattle.order.proofs.Laws.Order.{Live, committed, under, Entry, Lt, ops}
use Rattle.order.proofs.Laws.SortLaws.{Sorted}
use Rattle.order.proofs.Laws.PlacedLaws.{entry, Placed, store, glance}
use Rattle.order.proofs.Laws.ValueLaws.{showed_committed, given_at_store, given_in_one_round}

-- the store of time u is still to come
abbrev pub Coming : {P : Plain} → ℕ → List (Entry P) → Type 0
Coming {P} u l = (x : Entry P) × (x ∈ l) × (x.place ≡ u) × (x.rank ≡ 0)

-- The plain stripe stands at s, having been fed the order but for the list l; c is the last store that it was fed.
pub record Reached (S : Quorums) {P : Plain} (h : History P) (l : List (Entry P)) (c : ℕ) (s : P.Stripe) : Type 0 where
  pub placed : (x : Entry P) → x ∈ l → Placed S h x
  pub sorted : Sorted l
  pub live : Live S h c
  -- s is what c stands for
  pub value : Val h c s
  -- every live time was fed or comes
  pub rest : (u : ℕ) → Live S h u → 0 < u → (u ≤ c) ⊎ Coming u l
  -- and what comes stands after c
  pub ahead : (x : Entry P) → x ∈ l → (c ≤ x.place) × (x.place ≤ c → 0 < x.rank)

module _ {S : Quorums} {P : Plain} {h : History P} (v : Valid S h) where
  -- what is live and below the next entry was fed
  fed_below : {x : Entry P} {l : List (Entry P)} {c : ℕ} {s : P.Stripe} → Reached S h (x ∷ l) c s → (u : ℕ)
      → Live S h u → (u < x.place) ⊎ ((u ≤ x.place) × (0 < x.rank)) → u ≤ c
  fed_below {x} {l} {c} {s} w u d low = go (dec_lt 0 u)
    where
      not-here : (u < x.place) ⊎ ((u ≤ x.place) × (0 < x.rank)) → x.place ≡ u → x.rank ≡ 0 → ⊥
      not-here (inl g) e f = omega arith
      not-here (inr g) e f = omega arith

      not-later : (u < x.place) ⊎ ((u ≤ x.place) × (0 < x.rank)) → (y : Entry P) → Lt x y → y.place ≡ u → y.rank ≡ 0 → ⊥
      not-later (inl g) y p e f = omega (arith, p.0)
      not-later (inr g) y p e f = omega (arith, p.1 (omega arith))

      coming : (y : Entry P) → y ∈ (x ∷ l) → y.place ≡ u → y.rank ≡ 0 → ⊥
      coming y (Memᴰ.head e) a b = not-here low (sym (ap (λ (z : Entry P). z.place) e) ∙ a) (sym (ap (λ (z : Entry P). z.rank) e) ∙ b)
      coming y (Memᴰ.tail i) a b = not-later low y (w.sorted.0 y i) a b

      rest : (u ≤ c) ⊎ Coming u (x ∷ l) → u ≤ c
      rest (inl a) = a
      rest (inr a) = absurd (coming a.0 a.1 a.2 a.3)

      go : Dec (0 < u) → u ≤ c
      go (yes a) = rest (w.rest u d a)
      go (no a) = omega arith

  -- a store that is reached stands for its effect on what the plain stripe holds
  store_value : {t : ℕ} {k : P.Kind} {l : List (Entry P)} {c : ℕ} {s : P.Stripe} → Reached S h (entry t 0 t k ∷ l) c s
      → Live S h t → Launched h t → In (began t k) h → Val h t (P.effect k s)
  store_value {t} {k} {l} {c} {s} w d m b = go m.0 m.1
    where
      after : Dec (c < t) → c < t
      after (yes a) = a
      after (no a) = absurd (omega (arith, (w.ahead (entry t 0 t k) (Memᴰ.head refl)).1 (omega arith)))

      first : c < t
      first = after (dec_lt c t)

      go : (q : Source) → In (launched t q) h → Val h t (P.effect k s)
      go itself i =
          let f = (ok_at i.1 v).source in
          let e = one_kind v b (in_suf (suf_below i.1) f.2) in
          sets {v = P.effect k s} i b (λ z. let a = f.3 z in let a' = f.3 s in cc)
      go (over p) i =
          let low = live_over v w.live d i.1 first in
          let up = fed_below w p (under i d) (inl (ok_at i.1 v).source.below) in
          let e : c ≡ p = omega arith in
          onto i b (subst (λ (z : ℕ). Val h z s) e w.value) refl

  -- one operation more
  abbrev Fed : Entry P → List (Entry P) → P.Stripe → Type 0
  Fed x l s = ((r : P.Given) → Seen.ended x.op.time (finished r) ∈ seen h → r ≡ P.gives x.op.kind s) × (c : ℕ) × Reached S h l c (P.effect x.op.kind s)

  feed : {x : Entry P} {l : List (Entry P)} {c : ℕ} {s : P.Stripe} → Placed S h x → Reached S h (x ∷ l) c s → Fed x l s
  feed {x} {l} {c} {s} (store {t} {k} d m b) w =
      let val = store_value w d m b in (
        (λ r i. given_at_store v m b val (seen_ended h i)),
        t,
        record {
          placed = λ y i. w.placed y (Memᴰ.tail i);
          sorted = w.sorted.1;
          live = d;
          value = val;
          rest = λ u e g. rest u (w.rest u e g);
          ahead = λ y i. w.sorted.0 y i;
        },
      )
    where
      coming : (u : ℕ) (y : Entry P) → y ∈ (entry t 0 t k ∷ l) → y.place ≡ u → y.rank ≡ 0 → (u ≤ t) ⊎ Coming u l
      coming u y (Memᴰ.head e) a f = inl (omega (arith, ap (λ (z : Entry P). z.place) e))
      coming u y (Memᴰ.tail i) a f = inr (y, i, a, f)

      rest : (u : ℕ) → (u ≤ c) ⊎ Coming u (entry t 0 t k ∷ l) → (u ≤ t) ⊎ Coming u l
      rest u (inl a) = inl (omega (arith, (w.ahead (entry t 0 t k) (Memᴰ.head refl)).0))
      rest u (inr a) = coming u a.0 a.1 a.2 a.3
  feed {x} {l} {c} {s} (glance {t} {c = p} {k} {v = y} {b} q i) w =
      let o = (ok_at q v).answer in
      let g = o.2 in
      let low = (w.ahead (entry p (suc (length b)) t k) (Memᴰ.head refl)).0 in
      let up = fed_below w p (committed (showed_committed v (suf_below q) o.1)) (inr (omega arith, omega arith)) in
      let e : c ≡ p = omega arith in
      let val = subst (λ (z : ℕ). Val h z s) e w.value in
      let f = one_kind v i (in_suf (suf_below q) g.asked) in
      let a = g.keeps s in
      let keeps : s ≡ P.effect k s = cc in (
        (λ r j. given_in_one_round v q i val (seen_ended h j)),
        c,
        record {
          placed = λ z j. w.placed z (Memᴰ.tail j);
          sorted = w.sorted.1;
          live = w.live;
          value = subst (λ (z : P.Stripe). Val h c z) keeps w.value;
          rest = λ u m n. rest u (w.rest u m n);
          ahead = λ z j. w.ahead z (Memᴰ.tail j);
        },
      )
    where
      coming : (u : ℕ) (z : Entry P) → z ∈ (entry p (suc (length b)) t k ∷ l) → z.place ≡ u → z.rank ≡ 0 → (u ≤ c) ⊎ Coming u l
      coming u z (Memᴰ.head e) a f = absurd (omega (arith, ap (λ (z : Entry P). z.rank) e))
      coming u z (Memᴰ.tail j) a f = inr (z, j, a, f)

      rest : (u : ℕ) → (u ≤ c) ⊎ Coming u (entry p (suc (length b)) t k ∷ l) → (u ≤ c) ⊎ Coming u l
      rest u (inl a) = inl a
      rest u (inr a) = coming u a.0 a.1 a.2 a.3

  -- every finished read gave what the plain stripe gives at its place
  pub right_from : (l : List (Entry P)) {c : ℕ} {s : P.Stripe} → Reached S h l c s → Right (seen h) s (ops l)
  unfolding ops Right
  right_from [] w = tt
  right_from (x ∷ l) w = let f = feed (w.placed x (Memᴰ.head refl)) w in (f.0, right_from l f.2)

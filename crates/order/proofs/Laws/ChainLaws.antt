-- Chains: the chains of the committed times hold exactly the live times.
use mathlib.Core.Path.{◌≡◌, refl, subst, sym}
use mathlib.Core.Logic.{◌⊎◌, inl, inr}
use mathlib.Core.Bool.{Bool, true, false}
use mathlib.Core.List.Memᴰ
use mathlib.Core.List.{[], ◌∷◌}
use Prim.Native.Nat.{ℕ, ◌<◌}
use native.Mathlib.Omega.{arith}
use native.Mathlib.Nat.{le_trans}
use lib.Dec.{T, eqb, eqb→eq, eqb_refl, leb→le, le→leb}
use Rattle.settings.specs.Count.{count}
use Rattle.settings.proofs.Laws.CountLaws.{count_mono}
use Rattle.order.specs.Claim.{Plain, ◌∈◌}
use Rattle.order.specs.Places.{Suf, whole, above, In}
use Rattle.order.proofs.Laws.PlaceLaws.{suf_trans, suf_below, suf_cons, in_above}
use Rattle.order.specs.Facts.{Source, itself, over, Fact, began, promised, launched, stored, showed, ended, History}
use Rattle.order.specs.Quorums.{Quorums}
use Rattle.order.specs.Valid.{Launched, Committed, Valid, start, next}
use Rattle.order.proofs.Laws.Tests.{stored?}
use Rattle.order.proofs.Laws.TestLaws.{find_stored, test_stored, many}
use Rattle.order.proofs.Laws.FactLaws.{ok_at, launched_once, launched_positive, committed_launched}
use Rattle.order.proofs.Laws.Order.{Live, committed, under, Link, other, stops, goes_on_lem, linked, link, follow, chain, committed?}

-- what the link of a fact says of it
data View {P : Plain} (f : Fact P) (t : ℕ) : Link → Type 0 where
  no_launch : ((s : Source) → f ≡ launched t s → ⊥) → View f t other
  first : f ≡ launched t itself → View f t stops
  next_is : {c : ℕ} → f ≡ launched t (over c) → View f t (goes_on_lem c)

view : {P : Plain} (f : Fact P) (t : ℕ) → View f t (link f t)
unfolding link linked
view (began u k) t = no_launch (λ s e. let z : ◌≡◌ {A = ℕ} 0 1 = cc in omega arith)
view (promised b u) t = no_launch (λ s e. let z : ◌≡◌ {A = ℕ} 0 1 = cc in omega arith)
view {P} (launched u s) t = go (eqb u t) refl s
  where
    go : (b : Bool) → eqb u t ≡ b → (s : Source) → View {P = P} (launched u s) t (linked b s)
    go true e itself = let d = eqb→eq u t (subst T (sym e) tt) in first (cc)
    go true e (over c) = let d = eqb→eq u t (subst T (sym e) tt) in next_is {c = c} (cc)
    go false e s =
        no_launch
        (λ s' d.
        let w : u ≡ t = cc in
        subst T e (subst (λ (z : ℕ). T (eqb u z)) w (eqb_refl u)))
view (stored b u) t = no_launch (λ s e. let z : ◌≡◌ {A = ℕ} 0 1 = cc in omega arith)
view (showed b u c) t = no_launch (λ s e. let z : ◌≡◌ {A = ℕ} 0 1 = cc in omega arith)
view (ended u d) t = no_launch (λ s e. let z : ◌≡◌ {A = ℕ} 0 1 = cc in omega arith)

module _ {P : Plain} where
  -- every time of a chain is launched
  pub chain_launched : (h : History P) (t : ℕ) {x : ℕ} → x ∈ chain h t → Launched h x
  unfolding chain follow
  chain_launched [] t i = absurd (Memᴰ.not-nil i)
  chain_launched (f ∷ h) t {x} i = go (link f t) (view f t) i (λ u j. chain_launched h u j)
    where
      up : Launched h x → Launched (f ∷ h) x
      up w = (w.0, in_above w.1)

      top : {s : Source} → f ≡ launched t s → x ≡ t → Launched (f ∷ h) x
      top {s} e d = let w : f ≡ launched x s = cc in (s, (h, subst (λ (g : Fact P). Suf (g ∷ h) (f ∷ h)) w whole))

      go : (l : Link) → View f t l → x ∈ follow l (λ u. chain h u) t → ((u : ℕ) → x ∈ chain h u → Launched h x) → Launched (f ∷ h) x
      go other (no_launch _) j r = up (r t j)
      go stops (first e) (Memᴰ.head d) r = top e d
      go stops (first e) (Memᴰ.tail j) r = absurd (Memᴰ.not-nil j)
      go (goes_on_lem c) (next_is e) (Memᴰ.head d) r = top e d
      go (goes_on_lem c) (next_is e) (Memᴰ.tail j) r = up (r c j)

  -- the chain of a live time is live
  pub chain_live : {S : Quorums} {g : History P} (h : History P) {t x : ℕ} → Suf h g → Live S g t → x ∈ chain h t → Live S g x
  unfolding chain follow
  chain_live [] s d i = absurd (Memᴰ.not-nil i)
  chain_live {S} {g} (f ∷ h) {t} {x} s d i = go (link f t) (view f t) i (λ u e j. chain_live h (suf_below s) e j)
    where
      go : (l : Link) → View f t l → x ∈ follow l (λ u. chain h u) t → ((u : ℕ) → Live S g u → x ∈ chain h u → Live S g x) → Live S g x
      go other (no_launch _) j r = r t d j
      go stops (first e) (Memᴰ.head q) r = subst (λ (z : ℕ). Live S g z) (sym q) d
      go stops (first e) (Memᴰ.tail j) r = absurd (Memᴰ.not-nil j)
      go (goes_on_lem c) (next_is e) (Memᴰ.head q) r = subst (λ (z : ℕ). Live S g z) (sym q) d
      go (goes_on_lem c) (next_is e) (Memᴰ.tail j) r = r c (under (h, subst (λ (z : Fact P). Suf (z ∷ h) g) e s) d) j

  -- a launched time is in its chain
  pub chain_top : {t : ℕ} {s : Source} {a h : History P} → Suf (launched t s ∷ a) h → t ∈ chain h t
  unfolding chain follow
  chain_top {t} {s} {a} whole = go (link {P = P} (launched t s) t) (view (launched t s) t)
    where
      go : (l : Link) → View {P = P} (launched t s) t l → t ∈ follow l (λ u. chain a u) t
      go other (no_launch f) = absurd (f s refl)
      go stops (first e) = Memᴰ.head refl
      go (goes_on_lem c) (next_is e) = Memᴰ.head refl
  chain_top {t} {s} {a} (above {f} {h} p) = go (link f t) (view f t) (chain_top p)
    where
      go : (l : Link) → View f t l → t ∈ chain h t → t ∈ follow l (λ u. chain h u) t
      go other (no_launch _) i = i
      go stops (first e) i = Memᴰ.head refl
      go (goes_on_lem c) (next_is e) i = Memᴰ.head refl

  -- a chain goes on to what its times were launched over
  pub chain_next : {S : Quorums} {h : History P} → Valid S h → (t : ℕ) {x c : ℕ} → x ∈ chain h t
      → In (launched x (over c)) h → 0 < c → c ∈ chain h t
  unfolding chain follow
  chain_next start t i w l = absurd (Memᴰ.not-nil i)
  chain_next {S} (next {f} {h} v o) t {x} {c} i w l = go (link f t) (view f t) i (λ u j k. chain_next v u j k l)
    where
      all : Valid S (f ∷ h)
      all = next v o

      inside : Launched h x → (launched x (over c) ∷ w.0 ≡ f ∷ h) ⊎ Suf (launched x (over c) ∷ w.0) h → In (launched x (over c)) h
      inside m (inl e) = let d : w.0 ≡ h = cc in absurd ((ok_at w.1 all).new (subst (λ (z : History P). Launched z x) (sym d) m))
      inside m (inr q) = (w.0, q)

      -- the launch is at the top: its source is in the chain of the source
      top : {s : Source} → f ≡ launched t s → x ≡ t → s ≡ over c
      top {s} e d =
          let e' : f ≡ launched x s = cc in
          let k = launched_once all w.1 (subst (λ (z : Fact P). Suf (z ∷ h) (f ∷ h)) e' whole) in
          cc

      found : (c ≡ 0) ⊎ Launched w.0 c → Suf w.0 h → c ∈ chain h c
      found (inl e) q = absurd (omega arith)
      found (inr m) q = chain_top (suf_trans m.1.1 q)

      below : launched x (over c) ∷ w.0 ≡ f ∷ h → Suf w.0 h
      below e = let d : w.0 ≡ h = cc in subst (λ (z : History P). Suf w.0 z) d whole

      under_top : (launched x (over c) ∷ w.0 ≡ f ∷ h) ⊎ Suf (launched x (over c) ∷ w.0) h → Suf w.0 h
      under_top (inl e) = below e
      under_top (inr q) = suf_below q

      go : (k : Link) → View f t k → x ∈ follow k (λ u. chain h u) t
          → ((u : ℕ) → x ∈ chain h u → In (launched x (over c)) h → c ∈ chain h u) → c ∈ follow k (λ u. chain h u) t
      go other (no_launch _) j r = r t j (inside (chain_launched h t j) (suf_cons w.1))
      go stops (first e) (Memᴰ.head d) r = let q = top e d in let z : ◌≡◌ {A = ℕ} 0 1 = cc in absurd (omega arith)
      go stops (first e) (Memᴰ.tail j) r = absurd (Memᴰ.not-nil j)
      go (goes_on_lem b) (next_is e) (Memᴰ.head d) r =
          let q = top e d in
          let q' : c ≡ b = cc in
          Memᴰ.tail (subst (λ (z : ℕ). c ∈ chain h z) q' (found (ok_at w.1 all).source.known (under_top (suf_cons w.1))))
      go (goes_on_lem b) (next_is e) (Memᴰ.tail j) r = Memᴰ.tail (r b j (inside (chain_launched h b j) (suf_cons w.1)))

module _ (S : Quorums) {P : Plain} (h : History P) where
  pub is_committed : (t : ℕ) → T (committed? S h t) → Committed S h t
  unfolding committed?
  is_committed t x = inr (many (stored? h t) (leb→le S.q (count (stored? h t) S.n) x) (λ b i. find_stored h b t i))

  pub test_committed : (t : ℕ) → 0 < t → Committed S h t → T (committed? S h t)
  unfolding committed?
  test_committed t l (inl e) = absurd (omega arith)
  test_committed t l (inr x) =
      le→leb S.q (count (stored? h t) S.n)
      (le_trans x.enough (count_mono x.set (stored? h t) S.n (λ b i y. test_stored (x.each b i y))))

  -- every live time is in the chain of a committed one
  pub live_in_chain : Valid S h → {t : ℕ} → 0 < t → Live S h t → (u : ℕ) × Launched h u × T (committed? S h u) × (t ∈ chain h u)
  live_in_chain v {t} l (committed x) = let w = committed_launched v l x in (t, w, test_committed t l x, chain_top w.1.1)
  live_in_chain v {t} l (under i d) =
      let w = live_in_chain v (launched_positive v i.1) d in
      (w.0, w.1, w.2, chain_next v w.0 w.3 i l)

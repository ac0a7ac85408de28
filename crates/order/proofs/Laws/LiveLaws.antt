-- Live times: none was passed when it was launched, and none lies between a live store and what it was launched over (lemma D).
use mathlib.Core.Path.{◌≡◌, subst}
use mathlib.Core.Logic.{◌⊎◌, inl, inr}
use mathlib.Core.List.{◌∷◌}
use Prim.Native.Nat.{ℕ, zero, suc, ◌+◌, ◌≤◌, ◌<◌}
use native.Mathlib.Omega.{arith}
use native.Mathlib.Decide.{dec_lt, ℕ_discrete}
use Rattle.order.specs.Claim.{Plain}
use Rattle.order.specs.Places.{Suf, In}
use Rattle.order.proofs.Laws.PlaceLaws.{suf_trans, suf_below, in_suf}
use Rattle.order.specs.Facts.{Source, over, launched, History}
use Rattle.order.specs.Quorums.{Quorums}
use Rattle.order.specs.Valid.{Launched, Passed, Valid}
use Rattle.order.proofs.Laws.FactLaws.{ok_at, launched_once, launched_positive, committed_launched}
use Rattle.order.proofs.Laws.StoredLaws.{not_stale, over_committed, source_not_stale}
use Rattle.order.proofs.Laws.Order.{Live, committed, under}

module _ {S : Quorums} {P : Plain} {h : History P} (v : Valid S h) where
  -- a live time other than 0 is launched
  pub live_launched : {t : ℕ} → 0 < t → Live S h t → Launched h t
  live_launched l (committed x) = committed_launched v l x
  live_launched {t} l (under i d) = go (ok_at i.1 v).source.known
    where
      go : (t ≡ 0) ⊎ Launched i.0 t → Launched h t
      go (inl e) = absurd (omega arith)
      go (inr w) = (w.0, in_suf (suf_below i.1) w.1)

  -- and had not been passed then
  pub live_not_stale : {t : ℕ} {s : Source} {a : History P} → Live S h t → Suf (launched t s ∷ a) h → Passed S a t → ⊥
  live_not_stale (committed x) here p = not_stale v here x p
  live_not_stale {t} {s} {a} (under {t = t'} i d) here p = go (ok_at i.1 v).source.known (λ q. live_not_stale d i.1 q)
    where
      go : (t ≡ 0) ⊎ Launched i.0 t → (Passed S i.0 t' → ⊥) → ⊥
      go (inl e) f = omega (arith, launched_positive v here)
      go (inr w) f =
          let e = launched_once v here (suf_trans w.1.1 (suf_below i.1)) in
          let e' : a ≡ w.1.0 = cc in
          source_not_stale v i.1 f w.1.1 (subst (λ (z : History P). Passed S z t) e' p)

  -- how many stores lie between a live time and a committed one
  depth : {t : ℕ} → Live S h t → ℕ
  depth (committed x) = 0
  depth (under i d) = suc (depth d)

  -- w lies under t': t' is below t, or t, or above it
  between : {w t t' c : ℕ} {a : History P} → In (launched t' (over w)) h → Suf (launched t (over c) ∷ a) h → w < t
      → (t' < t → t' ≤ c) → (t < t' → t ≤ w) → Dec (t' < t) → Dec (t' ≡ t) → w ≤ c
  between i here l f g (yes x) _ = omega (arith, f x, (ok_at i.1 v).source.below)
  between {w} {t} {t'} {c} i here l f g (no x) (yes e) =
      let d = launched_once v here (subst (λ (z : ℕ). Suf (launched z (over w) ∷ i.0) h) e i.1) in
      let d' : w ≡ c = cc in
      omega arith
  between i here l f g (no x) (no y) = absurd (omega (arith, g (omega arith)))

  -- by induction on both ways to a committed time; where w is committed it is lemma A
  live_over_upto : (k : ℕ) {w t c : ℕ} {a : History P} (x : Live S h w) (y : Live S h t) → depth x + depth y ≤ k
      → Suf (launched t (over c) ∷ a) h → w < t → w ≤ c
  unfolding depth
  live_over_upto zero {w} (committed x) y m here l = over_committed v here (live_not_stale y here) w l x
  live_over_upto zero (under i d) y m here l = absurd (omega arith)
  live_over_upto (suc k) {w} (committed x) y m here l = over_committed v here (live_not_stale y here) w l x
  live_over_upto (suc k) {w} {t} (under {t = t'} i d) y m here l =
      between i here l (λ b. live_over_upto k d y (omega arith) here b) (λ b. live_over_upto k y d (omega arith) i.1 b) (dec_lt t' t) (ℕ_discrete t' t)

  -- D. A live store is over every live time below it.
  pub live_over : {w t c : ℕ} {a : History P} → Live S h w → Live S h t → Suf (launched t (over c) ∷ a) h → w < t → w ≤ c
  live_over x y here l = live_over_upto (depth x + depth y) x y (omega arith) here l

-- Values: a time stands for one stripe, and a finished operation gave what that of its place gives.
use mathlib.Core.Path.{◌≡◌, refl, subst, sym, ap, ◌∙◌}
use mathlib.Core.Logic.{◌≢◌, ◌⊎◌, inl, inr}
use mathlib.Core.List.{◌∷◌}
use Prim.Native.Nat.{ℕ}
use native.Mathlib.Omega.{arith}
use native.Mathlib.Decide.{ℕ_discrete}
use Rattle.order.specs.Claim.{Plain, finished}
use Rattle.order.specs.Places.{Suf, In}
use Rattle.order.proofs.Laws.PlaceLaws.{suf_trans, suf_below, in_suf}
use Rattle.order.specs.Facts.{itself, over, End, written, recovered, one_round, aborted, cut, began, launched, stored, showed, ended, History, ending_of}
use Rattle.order.specs.Quorums.{Quorums, Many}
use Rattle.order.specs.Valid.{Launched, Committed, Valid, Val, fresh, sets, onto}
use Rattle.order.proofs.Laws.QuorumSetLaws.{many_map}
use Rattle.order.proofs.Laws.FactLaws.{ok_at, one_kind, launched_once, launched_positive, ended_once, launched_before_end}
use Rattle.order.proofs.Laws.SeenLaws.{EndOf}

-- what a time stands for, it stands for in every longer history
pub val_up : {P : Plain} {a h : History P} {t : ℕ} {s : P.Stripe} → Suf a h → Val a t s → Val h t s
val_up q fresh = fresh
val_up q (sets l b e) = sets (in_suf q l) (in_suf q b) e
val_up q (onto l b x e) = onto (in_suf q l) (in_suf q b) (val_up q x) e

module _ {S : Quorums} {P : Plain} {h : History P} (v : Valid S h) where
  -- a time stands for one stripe
  pub one_value : {t u : ℕ} {s r : P.Stripe} → Val h t s → Val h u r → t ≡ u → s ≡ r
  one_value fresh fresh e = refl
  one_value fresh (sets l b f) e = absurd (omega (arith, launched_positive v l.1))
  one_value fresh (onto l b x f) e = absurd (omega (arith, launched_positive v l.1))
  one_value (sets l b f) fresh e = absurd (omega (arith, launched_positive v l.1))
  one_value {t} {u} {s} {r} (sets {k} l b f) (sets {k = k'} l' b' f') e =
      let d = one_kind v b (subst (λ (z : ℕ). In (began z k') h) (sym e) b') in
      sym (f s) ∙ ap (λ (z : P.Kind). P.effect z s) d ∙ f' s
  one_value {t} {u} (sets l b f) (onto {c} l' b' x f') e =
      let d = launched_once v l.1 (subst (λ (z : ℕ). Suf (launched z (over c) ∷ l'.0) h) (sym e) l'.1) in
      let z : ◌≡◌ {A = ℕ} 0 1 = cc in
      absurd (omega arith)
  one_value (onto l b x f) fresh e = absurd (omega (arith, launched_positive v l.1))
  one_value {t} {u} (onto {c} l b x f) (sets l' b' f') e =
      let d = launched_once v l.1 (subst (λ (z : ℕ). Suf (launched z itself ∷ l'.0) h) (sym e) l'.1) in
      let z : ◌≡◌ {A = ℕ} 0 1 = cc in
      absurd (omega arith)
  one_value {t} {u} {s} {r} (onto {c} {k} {s = w} l b x f) (onto {c = c'} {k = k'} {s = w'} l' b' x' f') e =
      let d = one_kind v b (subst (λ (z : ℕ). In (began z k') h) (sym e) b') in
      let q = launched_once v l.1 (subst (λ (z : ℕ). Suf (launched z (over c') ∷ l'.0) h) (sym e) l'.1) in
      let y : c ≡ c' = cc in
      let i = one_value x x' y in
      cc

  -- what a quorum showed is committed
  pub showed_committed : {t c : ℕ} {a : History P} → Suf a h → Many S.n S.q (λ b. In (showed b t c) a) → Committed S h c
  showed_committed {t} {c} {a} q x = go (ℕ_discrete c 0)
    where
      has : (b : ℕ) → c ≢ 0 → (i : In (showed b t c) a) → (c ≡ 0) ⊎ In (stored b c) i.0 → In (stored b c) h
      has b ne i (inl e) = absurd (ne e)
      has b ne i (inr j) = in_suf (suf_trans (suf_below i.1) q) j

      go : Dec (c ≡ 0) → Committed S h c
      go (yes e) = inl e
      go (no ne) = inr (many_map (λ b i. has b ne i (ok_at (suf_trans i.1 q) v).has) x)

  -- what an operation gave at a store
  pub given_at_store : {t : ℕ} {k : P.Kind} {s : P.Stripe} {r : P.Given} → Launched h t → In (began t k) h
      → Val h t (P.effect k s) → EndOf h t (finished r) → r ≡ P.gives k s
  unfolding ending_of
  given_at_store {t} {k} {s} {r} l b x w = go w.0 w.1 w.2
    where
      go : (e : End P) → In (ended t e) h → ending_of e ≡ finished r → r ≡ P.gives k s
      go (written y) i d =
          let g = (ok_at i.1 v).answer.1 in
          let f = one_kind v b (in_suf (suf_below i.1) g.asked) in
          let u = g.blind s in
          cc
      go (recovered y) i d =
          let g = (ok_at i.1 v).answer.1 in
          let f = one_kind v b (in_suf (suf_below i.1) g.asked) in
          let z = one_value (val_up (suf_below i.1) g.value) x refl in
          let u = g.keeps s in
          let j = g.bytes in
          cc
      go (one_round c y) i d = absurd ((ok_at i.1 v).answer.0 (l.0, (l.1.0, launched_before_end v l.1.1 i.1)))
      go aborted i d = cc
      go cut i d = cc

  -- what a read of one round gave
  pub given_in_one_round : {t c : ℕ} {k : P.Kind} {s : P.Stripe} {y r : P.Given} {b : History P}
      → Suf (ended t (one_round c y) ∷ b) h → In (began t k) h → Val h c s → EndOf h t (finished r) → r ≡ P.gives k s
  unfolding ending_of
  given_in_one_round {t} {c} {k} {s} {y} {r} {b} q i x w =
      let e = ended_once v w.1.1 q in
      let d : w.0 ≡ one_round c y = cc in
      let o : finished y ≡ finished r = subst (λ (z : End P). ending_of z ≡ finished r) d w.2 in
      let g = (ok_at q v).answer.2 in
      let f = one_kind v i (in_suf (suf_below q) g.asked) in
      let z = one_value (val_up (suf_below q) g.value) x refl in
      let j = g.bytes in
      cc

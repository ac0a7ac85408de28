-- Stores: which committed times a store can have been launched over (lemmas A, B and C).
use mathlib.Core.Path.{◌≡◌, subst, sym}
use mathlib.Core.Logic.{inl, inr}
use mathlib.Core.List.{◌∷◌}
use Prim.Native.Nat.{ℕ, zero, suc, ◌+◌, ◌≤◌, ◌<◌}
use native.Mathlib.Omega.{arith}
use native.Mathlib.Decide.{dec_le, dec_lt, ℕ_discrete}
use lib.Dec.{T}
use Rattle.settings.specs.Count.{common}
use Rattle.settings.proofs.Laws.CountLaws.{count_mono}
use Rattle.order.specs.Claim.{Plain}
use Rattle.order.specs.Places.{Suf, In}
use Rattle.order.proofs.Laws.PlaceLaws.{suf_trans, suf_below, in_suf, Cmp, earlier, same, later, cmp}
use Rattle.order.specs.Facts.{Source, over, promised, launched, stored, History}
use Rattle.order.specs.Quorums.{Quorums}
use Rattle.order.specs.Valid.{Committed, Passed, Dead, Gone, Valid}
use Rattle.order.proofs.Laws.TestLaws.{and_left, and_right}
use Rattle.order.proofs.Laws.QuorumSetLaws.{quorums_share, common_brick}
use Rattle.order.proofs.Laws.FactLaws.{ok_at, valid_below, committed_up, launched_once, launched_positive, committed_launched}

module _ {S : Quorums} {P : Plain} {h : History P} (v : Valid S h) where
  -- A brick that promised above u stores u no more: what it ever stored of u it stored before.
  pub stored_before : {b u t : ℕ} {a : History P} → Suf a h → u < t → In (promised b t) a → In (stored b u) h → In (stored b u) a
  stored_before {b} {u} {t} {a} s l p x = go (cmp x.1 (suf_trans p.1 s))
    where
      go : Cmp (stored b u) x.0 (promised b t) p.0 → In (stored b u) a
      go (earlier r) = in_suf (suf_below p.1) (x.0, r)
      go (same e) = let z : ◌≡◌ {A = ℕ} 0 1 = cc in absurd (omega arith)
      go (later r) = absurd (omega (arith, (ok_at x.1 v).allowed t (p.0, r)))

  -- What is dead is never committed: of the bricks that promised above u fewer than m ever store u, and any quorum shares m with them.
  pub dead_never : {u : ℕ} {a : History P} → Suf a h → 0 < u → Dead S a u → Committed S h u → ⊥
  unfolding common
  dead_never s l d (inl e) = absurd (omega arith)
  dead_never {u} {a} s l d (inr x) =
      let k = quorums_share S x.set d.bricks x.enough d.quorum in
      omega (arith, d.few.small, count_mono (common x.set d.bricks) d.few.set S.n few)
    where
      few : (b : ℕ) → b < S.n → T (common x.set d.bricks b) → T (d.few.set b)
      few b i t =
          let y = and_right (x.set b) (d.bricks b) t in
          let p = d.promise b i y in
          d.few.all b i (y, stored_before s p.1 p.2 (x.each b i (and_left (x.set b) (d.bricks b) t)))

  module _ {t : ℕ} {s : Source} {a : History P} (here : Suf (launched t s ∷ a) h) where
    -- no time committed before the launch of t is t itself
    not_yet : Committed S a t → ⊥
    not_yet c =
        let w = committed_launched (valid_below (suf_below here) v) (launched_positive v here) c in
        (ok_at here v).new w

    -- B. A time that is committed was not passed when it was launched: a quorum had promised the later time by then, and one
    -- of its bricks stored t afterwards.
    pub not_stale : Committed S h t → Passed S a t → ⊥
    not_stale (inl e) p = absurd (omega (arith, launched_positive v here))
    not_stale (inr x) p =
        let va = valid_below (suf_below here) v in
        let t3 = p.0 in
        let l3 = committed_launched va (omega (arith, p.1)) p.2 in
        let o3 = (ok_at l3.1.1 va).order in
        let w = common_brick S x o3 in
        let b = w.0 in
        let st = w.1 in
        let pr : In (promised b t3) a = in_suf (suf_below l3.1.1) w.2 in
        let lt = (ok_at st.1 v).known in
        let e = launched_once v here (suf_trans lt.1.1 (suf_below st.1)) in
        let e' : a ≡ lt.1.0 = cc in
        let up : Suf a st.0 = subst (λ (z : History P). Suf z st.0) (sym e') (suf_below lt.1.1) in
        absurd (omega (arith, p.1, (ok_at st.1 v).allowed t3 (in_suf up pr)))

  -- A. A store that was not passed when it was launched is over every committed time below it: a time between is gone, so it is
  -- dead, or a later one is committed, nearer to t.
  pub over_committed : {t c : ℕ} {a : History P} → Suf (launched t (over c) ∷ a) h → (Passed S a t → ⊥) → (u : ℕ)
      → u < t → Committed S h u → u ≤ c
  over_committed {t} {c} {a} here ns u l x = rise t u (omega arith) l x
    where
      late : (u : ℕ) → c < u → (t3 : ℕ) → u < t3 → Committed S a t3 → (u < t3 → t3 < t → Committed S h t3 → t3 ≤ c)
          → Dec (t3 < t) → Dec (t3 ≡ t) → ⊥
      late u g t3 l3 x3 again (yes b) _ = omega (arith, again l3 b (committed_up S (suf_below here) x3))
      late u g t3 l3 x3 again (no nb) (yes e) = not_yet here (subst (λ (z : ℕ). Committed S a z) e x3)
      late u g t3 l3 x3 again (no nb) (no ne) = ns (t3, omega arith, x3)

      gone : (u : ℕ) → Committed S h u → c < u → ((t3 : ℕ) → u < t3 → t3 < t → Committed S h t3 → t3 ≤ c) → Gone S a u → ⊥
      gone u x g again (inl p) = late u g p.0 p.1 p.2 (again p.0) (dec_lt p.0 t) (ℕ_discrete p.0 t)
      gone u x g again (inr d) = dead_never (suf_below here) (omega arith) d x

      step : (u : ℕ) → u < t → Committed S h u → ((t3 : ℕ) → u < t3 → t3 < t → Committed S h t3 → t3 ≤ c) → Dec (u ≤ c) → u ≤ c
      step u l x again (yes i) = i
      step u l x again (no i) = absurd (gone u x (omega arith) again ((ok_at here v).source.between u (omega arith) (omega arith)))

      rise : (k u : ℕ) → t ≤ u + k → u < t → Committed S h u → u ≤ c
      rise zero u f l x = absurd (omega arith)
      rise (suc k) u f l x = step u l x (λ t3 l3 b y. rise k t3 (omega arith) b y) (dec_le u c)

  -- C. What such a store was launched over had not been passed either.
  pub source_not_stale : {t c : ℕ} {s : Source} {a b : History P} → Suf (launched t (over c) ∷ a) h → (Passed S a t → ⊥)
      → Suf (launched c s ∷ b) a → Passed S b c → ⊥
  source_not_stale {t} {c} {s} {a} {b} here ns below p = go (dec_lt p.0 t) (ℕ_discrete p.0 t)
    where
      up : Suf b a
      up = suf_below below

      go : Dec (p.0 < t) → Dec (p.0 ≡ t) → ⊥
      go (yes l) _ = omega (arith, p.1, over_committed here ns p.0 l (committed_up S (suf_trans up (suf_below here)) p.2))
      go (no nb) (yes e) = not_yet here (subst (λ (z : ℕ). Committed S a z) e (committed_up S up p.2))
      go (no nb) (no ne) = ns (p.0, omega arith, committed_up S up p.2)

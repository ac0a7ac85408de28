-- Real time: an operation that ended before another began stands before it. Only promises are used.
use mathlib.Core.Path.{◌≡◌, subst}
use mathlib.Core.Logic.{◌≢◌, ◌⊎◌, inl, inr}
use mathlib.Core.List.{◌∷◌}
use Prim.Native.Nat.{ℕ, ◌≤◌, ◌<◌}
use native.Mathlib.Omega.{arith}
use lib.ListN.{length}
use Rattle.order.specs.Claim.{Plain}
use Rattle.order.specs.Places.{Suf, In}
use Rattle.order.proofs.Laws.PlaceLaws.{suf_trans, suf_below, suf_length, in_suf}
use Rattle.order.specs.Facts.{End, one_round, began, promised, stored, showed, ended, History}
use Rattle.order.specs.Quorums.{Quorums, Many}
use Rattle.order.specs.Valid.{Began, Launched, Valid}
use Rattle.order.proofs.Laws.QuorumSetLaws.{many_map, common_brick, some_brick}
use Rattle.order.proofs.Laws.FactLaws.{ok_at, began_once, launched_began, launched_positive, ended_once, launched_before_end}
use Rattle.order.proofs.Laws.Order.{Entry, Lt}
use Rattle.order.proofs.Laws.PlacedLaws.{Placed, store, glance}

module _ {S : Quorums} {P : Plain} {h : History P} (v : Valid S h) where
  -- what lies above the beginning of t has all below it below
  above_beginning : {t : ℕ} {k : P.Kind} {a b : History P} → Suf (began t k ∷ b) h → Suf a h → Began a t → Suf b a
  above_beginning {t} {k} {a} {b} s q w =
      let e = began_once v (suf_trans w.1.1 q) s in
      let d : w.1.0 ≡ b = cc in
      subst (λ (z : History P). Suf z a) d (suf_below w.1.1)

  module _ {b : History P} (low : Suf b h) where
    -- the place of an operation that ended in b is 0 or was launched in b
    ended_place : {x : Entry P} {e : End P} → Placed S h x → In (ended x.op.time e) b → (x.place ≡ 0) ⊎ Launched b x.place
    ended_place (store d l i) w =
        inr (l.0, in_suf (suf_below w.1) (l.1.0, launched_before_end v l.1.1 (suf_trans w.1 low)))
    ended_place {x} {e} (glance {t} {c} {v = r} {b = d} s j) w = go (ok_at (suf_trans m.1.1 (suf_below s)) v).has
      where
        same_end : ended t e ∷ w.0 ≡ ended t (one_round c r) ∷ d
        same_end = ended_once v (suf_trans w.1 low) s

        down : Suf d b
        down = let q : w.0 ≡ d = cc same_end in subst (λ (z : History P). Suf z b) q (suf_below w.1)

        m : (a : ℕ) × In (showed a t c) d
        m = some_brick S (ok_at s v).answer.1

        go : (c ≡ 0) ⊎ In (stored m.0 c) m.1.0 → (c ≡ 0) ⊎ Launched b c
        go (inl z) = inl z
        go (inr z) =
            let u = suf_trans (suf_below m.1.1) down in
            let l = (ok_at (suf_trans z.1 (suf_trans u low)) v).known in
            inr (l.0, in_suf (suf_trans (suf_below z.1) u) l.1)

    -- its rank is at most the number of facts in b
    ended_rank : {x : Entry P} {e : End P} → Placed S h x → In (ended x.op.time e) b → x.rank ≤ length b
    ended_rank (store d l i) w = omega arith
    ended_rank {x} {e} (glance {t} {c} {v = r} {b = d} s j) w =
        let same_end = ended_once v (suf_trans w.1 low) s in
        let q : w.0 ≡ d = cc in
        omega (arith, suf_length (subst (λ (z : History P). Suf (ended t e ∷ z) b) q w.1))

    -- a quorum promised in b what was launched there
    promised_below : {t : ℕ} → Launched b t → Many S.n S.q (λ a. In (promised a t) b)
    promised_below l = many_map (λ a i. in_suf (suf_below l.1.1) i) (ok_at (suf_trans l.1.1 low) v).order

  module _ {t : ℕ} {k : P.Kind} {b : History P} (start : Suf (began t k ∷ b) h) where
    -- what was launched before t began is below t, if t is launched
    below_store : {u : ℕ} → Launched h t → (u ≡ 0) ⊎ Launched b u → u < t
    below_store l (inl e) = omega (arith, launched_positive v l.1.1)
    below_store {u} l (inr w) =
        let low = suf_below start in
        let m = common_brick S (promised_below low w) (ok_at l.1.1 v).order in
        let p = suf_trans m.2.1 (suf_below l.1.1) in
        let o = ok_at p v in
        let q = o.rising u (in_suf (above_beginning start (suf_below p) o.known) m.1) in
        let g = launched_began v (suf_trans w.1.1 low) in
        let g' = in_suf (suf_below w.1.1) g.1 in
        let ne : u ≢ t = λ e. (ok_at start v).new g.0 (subst (λ (z : ℕ). In (began z g.0) b) e g') in
        omega arith

    -- and at most what t saw, if t is a read of one round
    below_seen : {u c : ℕ} {r : P.Given} {d : History P} → Suf (ended t (one_round c r) ∷ d) h → (u ≡ 0) ⊎ Launched b u → u ≤ c
    below_seen s (inl e) = omega arith
    below_seen {u} s (inr w) =
        let m = common_brick S (promised_below (suf_below start) w) (ok_at s v).answer.1 in
        let p = suf_trans m.2.1 (suf_below s) in
        let o = ok_at p v in
        omega (arith, o.settled u (in_suf (above_beginning start (suf_below p) o.known) m.1))

  pub real_time : {x y : Entry P} {k : P.Kind} {e : End P} {b : History P} → Placed S h x → Placed S h y
      → Suf (began y.op.time k ∷ b) h → In (ended x.op.time e) b → Lt x y
  real_time p (store d l i) s w = let q = below_store s l (ended_place (suf_below s) p w) in (omega arith, λ g. absurd (omega arith))
  real_time p (glance r j) s w =
      let q = below_seen s r (ended_place (suf_below s) p w) in
      let u = ended_rank (suf_below s) p w in
      let n = suf_length (above_beginning s (suf_below r) (ok_at r v).known) in
      (omega arith, λ g. omega arith)

-- What stands in the order: live stores at their times and reads of one round after what they saw, and nothing else.
use mathlib.Core.Path.{◌≡◌, refl, subst, sym, ap}
use mathlib.Core.List.Memᴰ
use mathlib.Core.List.{[], ◌∷◌}
use Prim.Native.Nat.{ℕ, suc}
use native.Mathlib.Omega.{arith}
use lib.Dec.{T, eqb, eqb→eq, eqb_refl}
use lib.ListN.{length}
use Rattle.order.specs.Claim.{Plain, ◌∈◌}
use Rattle.order.specs.Places.{Suf, whole, In}
use Rattle.order.proofs.Laws.PlaceLaws.{suf_length, Cmp, earlier, same, later, cmp}
use Rattle.order.specs.Facts.{written, recovered, one_round, aborted, cut, Fact, began, promised, launched, stored, showed, ended, History}
use Rattle.order.specs.Quorums.{Quorums}
use Rattle.order.specs.Valid.{Launched, Valid}
use Rattle.order.proofs.Laws.FactLaws.{ok_at, one_kind, launched_positive, ended_once, launched_before_end}
use Rattle.order.proofs.Laws.Order.{Live, committed, Entry, Level, each, chain, standing, at_rank, committed?, placed, entries, sort}
use Rattle.order.proofs.Laws.SortLaws.{each_in, in_each, in_suffix, suffix_in, only_if_in, in_only_if, sort_in, sort_has}
use Rattle.order.proofs.Laws.ChainLaws.{chain_launched, chain_live, is_committed, live_in_chain}

abbrev pub entry : {P : Plain} → (p r t : ℕ) → P.Kind → Entry P
entry p r t k = record { place = p; rank = r; op = record { time = t; kind = k } }

-- where an operation stands, and why
pub data Placed (S : Quorums) {P : Plain} (h : History P) : Entry P → Type 0 where
  store : {t : ℕ} {k : P.Kind} → Live S h t → Launched h t → In (began t k) h → Placed S h (entry t 0 t k)
  glance : {t c : ℕ} {k : P.Kind} {v : P.Given} {b : History P} → Suf (ended t (one_round c v) ∷ b) h
      → In (began t k) h → Placed S h (entry c (suc (length b)) t k)

module _ {P : Plain} where
  at_rank_in : (h : History P) (t p r : ℕ) {x : Entry P} → x ∈ at_rank t p r h → (k : P.Kind) × In (began t k) h × (x ≡ entry p r t k)
  unfolding at_rank standing
  at_rank_in h t p r {x} i = let w = each_in (standing t p r) h i in go w.0 w.1 w.2 w.3
    where
      go : (f : Fact P) (b : History P) → Suf (f ∷ b) h → x ∈ standing t p r f b → (k : P.Kind) × In (began t k) h × (x ≡ entry p r t k)
      go (began u k) b s j =
          let w = only_if_in (eqb u t) (entry p r u k ∷ []) j in
          let e = eqb→eq u t w.0 in
          let d = Memᴰ.eq_of_singleton w.1 in
          (k, (b, subst (λ (z : ℕ). Suf (began z k ∷ b) h) e s), subst (λ (z : ℕ). x ≡ entry p r z k) e d)
      go (promised a u) b s j = absurd (Memᴰ.not-nil j)
      go (launched u q) b s j = absurd (Memᴰ.not-nil j)
      go (stored a u) b s j = absurd (Memᴰ.not-nil j)
      go (showed a u c) b s j = absurd (Memᴰ.not-nil j)
      go (ended u e) b s j = absurd (Memᴰ.not-nil j)

  in_at_rank : {h : History P} (t p r : ℕ) {k : P.Kind} → In (began t k) h → entry p r t k ∈ at_rank t p r h
  unfolding at_rank standing
  in_at_rank t p r {k} i = in_each (standing t p r) i.1 (in_only_if (eqb t t) (entry p r t k ∷ []) (eqb_refl t) (Memᴰ.head refl))

module _ (S : Quorums) {P : Plain} (h : History P) where
  placed_sound : {x : Entry P} → x ∈ each (placed S h) h → Placed S h x
  unfolding placed
  placed_sound {x} i = let w = each_in (placed S h) h i in go w.0 w.1 w.2 w.3
    where
      put-store : (t u : ℕ) → T (committed? S h t) → u ∈ chain h t → (k : P.Kind) × In (began u k) h × (x ≡ entry u 0 u k) → Placed S h x
      put-store t u c j w = subst (λ (z : Entry P). Placed S h z) (sym w.2) (store (chain_live h whole (committed (is_committed S h t c)) j) (chain_launched h t j) w.1)

      put-read : {t c : ℕ} {v : P.Given} {b : History P} → Suf (ended t (one_round c v) ∷ b) h
          → (k : P.Kind) × In (began t k) h × (x ≡ entry c (suc (length b)) t k) → Placed S h x
      put-read s w = subst (λ (z : Entry P). Placed S h z) (sym w.2) (glance s w.1)

      go : (f : Fact P) (b : History P) → Suf (f ∷ b) h → x ∈ placed S h f b → Placed S h x
      go (began t k) b s j = absurd (Memᴰ.not-nil j)
      go (promised a t) b s j = absurd (Memᴰ.not-nil j)
      go (launched t q) b s j =
          let w = only_if_in (committed? S h t) (each (λ u _. at_rank u u 0 h) (chain h t)) j in
          let m = each_in (λ u _. at_rank u u 0 h) (chain h t) w.1 in
          put-store t m.0 w.0 (suffix_in m.2) (at_rank_in h m.0 m.0 0 m.3)
      go (stored a t) b s j = absurd (Memᴰ.not-nil j)
      go (showed a t c) b s j = absurd (Memᴰ.not-nil j)
      go (ended t (written y)) b s j = absurd (Memᴰ.not-nil j)
      go (ended t (recovered v)) b s j = absurd (Memᴰ.not-nil j)
      go (ended t (one_round c v)) b s j = put-read s (at_rank_in h t c (suc (length b)) j)
      go (ended t aborted) b s j = absurd (Memᴰ.not-nil j)
      go (ended t cut) b s j = absurd (Memᴰ.not-nil j)

  placed_complete : Valid S h → {x : Entry P} → Placed S h x → x ∈ each (placed S h) h
  unfolding placed
  placed_complete v (store {t} {k} d l i) =
      let w = live_in_chain S h v (launched_positive v l.1.1) d in
      let u = w.0 in
      let m = in_suffix w.3 in
      in_each (placed S h) w.1.1.1
      (in_only_if (committed? S h u) (each (λ z _. at_rank z z 0 h) (chain h u)) w.2
      (in_each (λ z _. at_rank z z 0 h) m.1 (in_at_rank t t 0 i)))
  placed_complete v (glance {t} {c} {b} s i) = in_each (placed S h) s (in_at_rank t c (suc (length b)) i)

module _ {S : Quorums} {P : Plain} {h : History P} (v : Valid S h) where
  -- a place is known by the number of facts below it
  same_place : {f g : Fact P} {a b : History P} → Suf (f ∷ a) h → Suf (g ∷ b) h → length a ≡ length b → f ∷ a ≡ g ∷ b
  same_place {f} {g} {a} {b} x y e = go (cmp x y)
    where
      go : Cmp f a g b → f ∷ a ≡ g ∷ b
      go (earlier r) = absurd (omega (arith, suf_length r))
      go (same d) = d
      go (later r) = absurd (omega (arith, suf_length r))

  -- at one place and rank stands one operation
  pub level_same : {x y : Entry P} → Placed S h x → Placed S h y → Level x y → x ≡ y
  level_same (store {t} {k} d l i) (store {t = t'} {k = k'} d' l' i') e =
      let c = one_kind v i (subst (λ (z : ℕ). In (began z k') h) (sym e.0) i') in
      let q = e.0 in
      cc
  level_same (store d l i) (glance s j) e = absurd (omega (arith, e.1))
  level_same (glance s j) (store d l i) e = absurd (omega (arith, e.1))
  level_same (glance {t} {c} {k} s j) (glance {t = t'} {c = c'} {k = k'} s' j') e =
      let p = e.0 in
      let r = e.1 in
      let d = same_place s s' (omega arith) in
      let w : t ≡ t' = cc in
      let u = one_kind v j (subst (λ (z : ℕ). In (began z k') h) (sym w) j') in
      cc

  -- an operation stands at one place and rank
  pub one_place : {x y : Entry P} → Placed S h x → Placed S h y → x.op.time ≡ y.op.time → Level x y
  one_place (store d l i) (store d' l' i') e = (e, refl)
  one_place (store {t} d l i) (glance {t = t'} {c} {v = r} {b} s j) e =
      let s' = subst (λ (z : ℕ). Suf (ended z (one_round c r) ∷ b) h) (sym e) s in
      absurd ((ok_at s' v).answer.0 (l.0, (l.1.0, launched_before_end v l.1.1 s')))
  one_place (glance {t} {c} {v = r} {b} s j) (store {t = t'} d l i) e =
      let s' = subst (λ (z : ℕ). Suf (ended z (one_round c r) ∷ b) h) e s in
      absurd ((ok_at s' v).answer.0 (l.0, (l.1.0, launched_before_end v l.1.1 s')))
  one_place (glance {t} {c} {v = r} {b} s j) (glance {t = t'} {c = c'} {v = r'} {b = b'} s' j') e =
      let d = ended_once v (subst (λ (z : ℕ). Suf (ended z (one_round c r) ∷ b) h) e s) s' in
      let p : c ≡ c' = cc in
      let q : b ≡ b' = cc in
      (p, ap (λ (z : History P). suc (length z)) q)

  -- what is placed is in the order, and nothing else
  pub in_entries : {x : Entry P} → Placed S h x → x ∈ entries S h
  unfolding entries
  in_entries {x} p =
      let w = sort_has (each (placed S h) h) (placed_complete S h v p) in
      let y = w.0 in
      let e = level_same (placed_sound S h (sort_in (each (placed S h) h) w.1)) p w.2 in
      subst (λ (z : Entry P). z ∈ sort (each (placed S h) h)) e w.1

  pub entries_placed : {x : Entry P} → x ∈ entries S h → Placed S h x
  unfolding entries
  entries_placed i = placed_sound S h (sort_in (each (placed S h) h) i)

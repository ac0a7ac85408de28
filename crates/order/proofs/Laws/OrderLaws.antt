-- The order that is computed has each part of the claim.
use mathlib.Core.Path.{◌≡◌, refl, subst, sym, ap, ◌∙◌}
use mathlib.Core.Logic.{◌≢◌, inl, inr}
use mathlib.Core.List.Memᴰ
use mathlib.Core.List.{List, [], ◌∷◌}
use Prim.Native.Nat.{ℕ, ◌≤◌, ◌<◌}
use native.Mathlib.Omega.{arith}
use Rattle.order.specs.Claim.{Plain, Operation, Ending, Seen, finished, ◌∈◌, Before, Once}
use Rattle.order.specs.Places.{Suf, In}
use Rattle.order.proofs.Laws.PlaceLaws.{suf_below, in_suf}
use Rattle.order.specs.Facts.{End, written, recovered, one_round, aborted, cut, began, ended, History, ending_of, seen}
use Rattle.order.specs.Quorums.{Quorums}
use Rattle.order.specs.Valid.{Began, Committed, Valid, fresh}
use Rattle.order.proofs.Laws.FactLaws.{ok_at, committed_up, positive, launched_began, launched_positive}
use Rattle.order.proofs.Laws.LiveLaws.{live_launched}
use Rattle.order.proofs.Laws.SeenLaws.{seen_began, seen_ended, seen_began_after, seen_began_in, EndOf}
use Rattle.order.proofs.Laws.Order.{Live, committed, Entry, each, placed, ops, entries}
use Rattle.order.proofs.Laws.SortLaws.{Sorted, sort_sorted, ops_in, sorted_before}
use Rattle.order.proofs.Laws.PlacedLaws.{entry, Placed, store, glance, one_place, in_entries, entries_placed}
use Rattle.order.proofs.Laws.RealTimeLaws.{real_time}
use Rattle.order.proofs.Laws.WalkLaws.{Reached}

module _ {S : Quorums} {P : Plain} {h : History P} (v : Valid S h) where
  pub entries_sorted : Sorted (entries S h)
  unfolding entries
  entries_sorted = sort_sorted (each (placed S h) h)

  -- what is placed began
  pub placed_began : {x : Entry P} → Placed S h x → In (began x.op.time x.op.kind) h
  placed_began (store d l i) = i
  placed_began (glance s i) = i

  -- a launched live time, as an entry
  live_placed : {t : ℕ} → 0 < t → Live S h t → (k : P.Kind) × Placed S h (entry t 0 t k)
  live_placed l d =
      let w = live_launched v l d in
      let b = launched_began v w.1.1 in
      (b.0, store d w (in_suf (suf_below w.1.1) b.1))

  -- the fresh plain stripe stands at the start of the order
  pub at_start : Reached S h (entries S h) 0 P.zeros
  at_start =
      record {
        placed = λ x i. entries_placed v i;
        sorted = entries_sorted;
        live = committed (inl refl);
        value = fresh;
        rest = λ u d l. let w = live_placed l d in inr (entry u 0 u w.0, in_entries v w.1, refl, refl);
        ahead = λ x i. (omega arith, λ g. first (entries_placed v i) g);
      }
    where
      first : {x : Entry P} → Placed S h x → x.place ≤ 0 → 0 < x.rank
      first (store d l i) g = absurd (omega (arith, launched_positive v l.1.1))
      first (glance s i) g = omega arith

  pub once_from : (l : List (Entry P)) → Sorted l → ((x : Entry P) → x ∈ l → Placed S h x) → Once (ops l)
  unfolding ops Once
  once_from [] s p = tt
  once_from (x ∷ l) s p = ((λ o i. other o (ops_in l i)), once_from l s.1 (λ y i. p y (Memᴰ.tail i)))
    where
      other : (o : Operation P) → (y : Entry P) × (y ∈ l) × (o ≡ y.op) → x.op.time ≢ o.time
      other o w e =
          let y = w.0 in
          let g = s.0 y w.1 in
          let q = one_place v (p x (Memᴰ.head refl)) (p y (Memᴰ.tail w.1)) (e ∙ ap (λ (z : Operation P). z.time) w.2) in
          omega (arith, q.0, q.1, g.1 (omega (arith, q.0)))

  -- an operation that finished is placed
  pub finished_placed : {t : ℕ} {g : P.Given} → EndOf h t (finished g) → (x : Entry P) × (x.op.time ≡ t) × Placed S h x
  unfolding ending_of
  finished_placed {t} {g} w = go w.0 w.1 w.2
    where
      live_at : {b : History P} → Suf b h → Committed S b t → Began b t → (x : Entry P) × (x.op.time ≡ t) × Placed S h x
      live_at s c b =
          let l = positive v (b.0, in_suf s b.1) in
          let p = live_placed l (committed (committed_up S s c)) in
          (entry t 0 t p.0, refl, p.1)

      go : (e : End P) → In (ended t e) h → ending_of e ≡ finished g → (x : Entry P) × (x.op.time ≡ t) × Placed S h x
      go (written r) i d = let o = ok_at i.1 v in live_at (suf_below i.1) o.answer.0 o.known
      go (recovered r) i d = let o = ok_at i.1 v in live_at (suf_below i.1) o.answer.0 o.known
      go (one_round c r) i d = let b = (ok_at i.1 v).known in (_, refl, glance i.1 (in_suf (suf_below i.1) b.1))
      go aborted i d = let z : ◌≡◌ {A = ℕ} 0 1 = cc in absurd (omega arith)
      go cut i d = let z : ◌≡◌ {A = ℕ} 0 1 = cc in absurd (omega arith)

  abbrev pub Stands : Operation P → Type 0
  Stands o = (x : Entry P) × (x ∈ entries S h) × (o ≡ x.op)

  pub real_time_order : (x y : Operation P) (k : P.Kind) (r : Ending P) → Stands x → Stands y
      → (d : History P) × Suf (began y.time k ∷ d) h × (Seen.ended x.time r ∈ seen d)
      → Before x y (ops (entries S h))
  real_time_order x y k r a b q =
      let w = seen_ended q.0 q.2 in
      let s = subst (λ (z : Operation P). Suf (began z.time k ∷ q.0) h) b.2 q.1 in
      let i = subst (λ (z : Operation P). In (ended z.time w.0) q.0) a.2 w.1 in
      let g = real_time v (entries_placed v a.1) (entries_placed v b.1) s i in
      let c = sorted_before (entries S h) entries_sorted a.1 b.1 g in
      let d = subst (λ (z : Operation P). Before z b.0.op (ops (entries S h))) (sym a.2) c in
      subst (λ (z : Operation P). Before x z (ops (entries S h))) (sym b.2) d

  pub stands_began : (o : Operation P) → Stands o → Seen.began o.time o.kind ∈ seen h
  stands_began o w = subst (λ (z : Operation P). Seen.began z.time z.kind ∈ seen h) (sym w.2) (seen_began (placed_began (entries_placed v w.1)))

  pub began_once_seen : (t : ℕ) (k k' : P.Kind) → Before (Seen.began t k) (Seen.began t k') (seen h) → ⊥
  began_once_seen t k k' q = let w = seen_began_after h q in (ok_at w.1 v).new k (seen_began_in w.0 w.2)

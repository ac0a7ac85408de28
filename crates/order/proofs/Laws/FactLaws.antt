-- What a valid history says of each of its facts: what lies below it, and that some facts are there once.
use mathlib.Core.Path.{◌≡◌}
use mathlib.Core.Logic.{inl, inr}
use mathlib.Core.List.{◌∷◌}
use Prim.Native.Nat.{ℕ, ◌<◌}
use native.Mathlib.Omega.{arith}
use Rattle.order.specs.Claim.{Plain}
use Rattle.order.specs.Places.{Suf, whole, above, In}
use Rattle.order.proofs.Laws.PlaceLaws.{suf_trans, suf_below, in_suf, Cmp, earlier, same, later, cmp}
use Rattle.order.specs.Facts.{Source, End, Fact, began, launched, ended, History}
use Rattle.order.specs.Quorums.{Quorums}
use Rattle.order.specs.Valid.{Began, Launched, Committed, Passed, Ok, Valid, next}
use Rattle.order.proofs.Laws.QuorumSetLaws.{many_map, some_brick}

-- every fact meets what it requires of those below it
pub ok_at : {S : Quorums} {P : Plain} {f : Fact P} {b h : History P} → Suf (f ∷ b) h → Valid S h → Ok S f b
ok_at whole (next v o) = o
ok_at (above s) (next v o) = ok_at s v

-- an end of a valid history is valid
pub valid_below : {S : Quorums} {P : Plain} {a h : History P} → Suf a h → Valid S h → Valid S a
valid_below whole v = v
valid_below (above s) (next v o) = valid_below s v

-- what was committed stays committed
pub committed_up : (S : Quorums) {P : Plain} {a h : History P} {u : ℕ} → Suf a h → Committed S a u → Committed S h u
committed_up S s (inl e) = inl e
committed_up S s (inr x) = inr (many_map (λ b i. in_suf s i) x)

pub passed_up : (S : Quorums) {P : Plain} {a h : History P} {u : ℕ} → Suf a h → Passed S a u → Passed S h u
passed_up S s p = (p.0, p.1, committed_up S s p.2)

module _ {S : Quorums} {P : Plain} {h : History P} (v : Valid S h) where
  pub positive : {t : ℕ} → Began h t → 0 < t
  positive w = (ok_at w.1.1 v).positive

  -- an operation begins once
  pub began_once : {t : ℕ} {k k' : P.Kind} {a b : History P} → Suf (began t k ∷ a) h → Suf (began t k' ∷ b) h
      → began t k ∷ a ≡ began t k' ∷ b
  began_once {t} {k} {k'} {a} {b} x y = go (cmp x y)
    where
      go : Cmp (began t k) a (began t k') b → began t k ∷ a ≡ began t k' ∷ b
      go (earlier s) = absurd ((ok_at y v).new k (a, s))
      go (same e) = e
      go (later s) = absurd ((ok_at x v).new k' (b, s))

  pub one_kind : {t : ℕ} {k k' : P.Kind} → In (began t k) h → In (began t k') h → k ≡ k'
  one_kind x y = let e = began_once x.1 y.1 in cc

  -- it is launched once
  pub launched_once : {t : ℕ} {s s' : Source} {a b : History P} → Suf (launched t s ∷ a) h → Suf (launched t s' ∷ b) h
      → launched t s ∷ a ≡ launched t s' ∷ b
  launched_once {t} {s} {s'} {a} {b} x y = go (cmp x y)
    where
      go : Cmp (launched t s) a (launched t s') b → launched t s ∷ a ≡ launched t s' ∷ b
      go (earlier r) = absurd ((ok_at y v).new (s, (a, r)))
      go (same e) = e
      go (later r) = absurd ((ok_at x v).new (s', (b, r)))

  -- it ends once
  pub ended_once : {t : ℕ} {e e' : End P} {a b : History P} → Suf (ended t e ∷ a) h → Suf (ended t e' ∷ b) h
      → ended t e ∷ a ≡ ended t e' ∷ b
  ended_once {t} {e} {e'} {a} {b} x y = go (cmp x y)
    where
      go : Cmp (ended t e) a (ended t e') b → ended t e ∷ a ≡ ended t e' ∷ b
      go (earlier r) = absurd ((ok_at y v).running (e, (a, r)))
      go (same d) = d
      go (later r) = absurd ((ok_at x v).running (e', (b, r)))

  -- what is launched began before, and is positive
  pub launched_began : {t : ℕ} {s : Source} {a : History P} → Suf (launched t s ∷ a) h → Began a t
  launched_began s = (ok_at s v).known

  pub launched_positive : {t : ℕ} {s : Source} {a : History P} → Suf (launched t s ∷ a) h → 0 < t
  launched_positive s =
      let w = launched_began s in
      (ok_at (suf_trans w.1.1 (suf_below s)) v).positive

  -- what a brick stored was launched before
  pub committed_launched : {t : ℕ} → 0 < t → Committed S h t → Launched h t
  committed_launched l (inl e) = absurd (omega arith)
  committed_launched {t} l (inr x) =
      let w = some_brick S x in
      let o = (ok_at w.1.1 v).known in
      (o.0, in_suf (suf_below w.1.1) o.1)

  -- a launch comes before the end of its operation
  pub launched_before_end : {t : ℕ} {s : Source} {e : End P} {a b : History P} → Suf (launched t s ∷ a) h
      → Suf (ended t e ∷ b) h → Suf (launched t s ∷ a) b
  launched_before_end {t} {s} {e} {a} {b} x y = go (cmp x y)
    where
      go : Cmp (launched t s) a (ended t e) b → Suf (launched t s ∷ a) b
      go (earlier r) = r
      go (same d) = let z : ◌≡◌ {A = ℕ} 0 1 = cc in absurd (omega arith)
      go (later r) = absurd ((ok_at x v).running (e, (b, r)))

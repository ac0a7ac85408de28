-- The order (linearization) of a history's operations, as a function of the history.
-- In it stand every live store, at its time, and every finished read of one round, after the store that it saw.
use mathlib.Core.Path.{◌≡◌}
use mathlib.Core.Bool.{Bool, true, false}
use mathlib.Core.List.{List, [], ◌∷◌, ◌++◌}
use Prim.Native.Nat.{ℕ, suc, ◌≤◌, ◌<◌}
use native.Mathlib.Omega.{arith}
use native.Mathlib.Decide.{dec_lt}
use lib.Dec.{leb, eqb}
use lib.ListN.{length}
use Rattle.settings.specs.Count.{count}
use Rattle.order.specs.Claim.{Plain, Operation}
use Rattle.order.specs.Places.{In}
use Rattle.order.specs.Facts.{Source, itself, over, written, recovered, one_round, aborted, cut, Fact, began, promised, launched}
use Rattle.order.specs.Facts.{stored, showed, ended, History}
use Rattle.order.specs.Quorums.{Quorums}
use Rattle.order.specs.Valid.{Committed}
use Rattle.order.proofs.Laws.Tests.{stored?}

-- A time is live if it is committed, or if a live store was launched over it.
pub data Live (S : Quorums) {P : Plain} (h : History P) : ℕ → Type 0 where
  committed : {t : ℕ} → Committed S h t → Live S h t
  under : {t c : ℕ} → In (launched t (over c)) h → Live S h t → Live S h c

-- An operation and where it stands: first by the time of a store, then by rank. The store has rank 0, and a read of one
-- round that saw it has the number of facts up to its end.
pub record Entry (P : Plain) : Type 0 where
  pub place : ℕ
  pub rank : ℕ
  pub op : Operation P

-- x stands before y
abbrev pub Lt : {P : Plain} → Entry P → Entry P → Type 0
Lt x y = (x.place ≤ y.place) × (y.place ≤ x.place → x.rank < y.rank)

-- x and y stand at one place and rank
abbrev pub Level : {P : Plain} → Entry P → Entry P → Type 0
Level x y = (x.place ≡ y.place) × (x.rank ≡ y.rank)

pub data Tri {P : Plain} (x y : Entry P) : Type 0 where
  less : Lt x y → Tri x y
  level : Level x y → Tri x y
  more : Lt y x → Tri x y

unfoldable pub compared : {P : Plain} (x y : Entry P) → Tri x y
compared x y = go (dec_lt x.place y.place) (dec_lt y.place x.place) (dec_lt x.rank y.rank) (dec_lt y.rank x.rank)
  where
    go : Dec (x.place < y.place) → Dec (y.place < x.place) → Dec (x.rank < y.rank) → Dec (y.rank < x.rank) → Tri x y
    go (yes l) _ _ _ = less (omega arith, λ g. absurd (omega arith))
    go (no _) (yes l) _ _ = more (omega arith, λ g. absurd (omega arith))
    go (no a) (no b) (yes l) _ = less (omega arith, λ g. l)
    go (no a) (no b) (no c) (yes l) = more (omega arith, λ g. l)
    go (no a) (no b) (no c) (no d) = level (omega arith, omega arith)

-- Insertion that keeps one entry for a place and rank.
unfoldable pub put : {P : Plain} (x y : Entry P) → Tri x y → List (Entry P) → List (Entry P) → List (Entry P)
put x y (less _) l rest = x ∷ y ∷ l
put x y (level _) l rest = y ∷ l
put x y (more _) l rest = y ∷ rest

unfoldable pub insert : {P : Plain} → Entry P → List (Entry P) → List (Entry P)
insert x [] = x ∷ []
insert x (y ∷ l) = put x y (compared x y) l (insert x l)

unfoldable pub sort : {P : Plain} → List (Entry P) → List (Entry P)
sort [] = []
sort (x ∷ l) = insert x (sort l)

unfoldable pub ops : {P : Plain} → List (Entry P) → List (Operation P)
ops [] = []
ops (x ∷ l) = x.op ∷ ops l

-- What g makes of each element and the list below it.
unfoldable pub each : {A B : Type 0} → (A → List A → List B) → List A → List B
each g [] = []
each g (x ∷ l) = g x l ++ each g l

unfoldable pub only_if : {A : Type 0} → Bool → List A → List A
only_if true l = l
only_if false l = []

-- what a fact says of the launch of t: nothing, that it needs no predecessor, or its predecessor
pub data Link : Type 0 where
  other : Link
  stops : Link
  goes_on_lem : ℕ → Link

unfoldable pub linked : Bool → Source → Link
linked true itself = stops
linked true (over c) = goes_on_lem c
linked false s = other

unfoldable pub follow : Link → (ℕ → List ℕ) → ℕ → List ℕ
follow other below t = below t
follow stops below t = t ∷ []
follow (goes_on_lem c) below t = t ∷ below c

module _ {P : Plain} where
  unfoldable pub link : Fact P → ℕ → Link
  link (began u k) t = other
  link (promised b u) t = other
  link (launched u s) t = linked (eqb u t) s
  link (stored b u) t = other
  link (showed b u c) t = other
  link (ended u e) t = other

  -- t, what it was launched over, and so on
  unfoldable pub chain : History P → ℕ → List ℕ
  chain [] t = []
  chain (f ∷ h) t = follow (link f t) (λ u. chain h u) t

  -- the operation of time t, if this fact begins it, at a place and rank
  unfoldable pub standing : (t p r : ℕ) → Fact P → History P → List (Entry P)
  standing t p r (began u k) b = only_if (eqb u t) (record { place = p; rank = r; op = record { time = u; kind = k } } ∷ [])
  standing t p r (promised a u) b = []
  standing t p r (launched u s) b = []
  standing t p r (stored a u) b = []
  standing t p r (showed a u c) b = []
  standing t p r (ended u e) b = []

  unfoldable pub at_rank : ℕ → ℕ → ℕ → History P → List (Entry P)
  at_rank t p r h = each (standing t p r) h

  module _ (S : Quorums) (h : History P) where
    unfoldable pub committed? : ℕ → Bool
    committed? t = leb S.q (count (stored? h t) S.n)

    -- what a fact puts into the order: a committed store with its chain, or a read of one round
    unfoldable pub placed : Fact P → History P → List (Entry P)
    placed (began t k) b = []
    placed (promised a t) b = []
    placed (launched t s) b = only_if (committed? t) (each (λ u _. at_rank u u 0 h) (chain h t))
    placed (stored a t) b = []
    placed (showed a t c) b = []
    placed (ended t (written v)) b = []
    placed (ended t (recovered v)) b = []
    placed (ended t (one_round c v)) b = at_rank t c (suc (length b)) h
    placed (ended t aborted) b = []
    placed (ended t cut) b = []

    -- the entries of a history, sorted, and its operations in that order
    unfoldable pub entries : List (Entry P)
    entries = sort (each placed h)

    unfoldable pub order_of : List (Operation P)
    order_of = ops entries

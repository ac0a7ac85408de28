-- Sorting: the sorted list has the same entries, one for a place and rank, each before those that follow.
use mathlib.Core.Path.{◌≡◌, refl, ap, subst, sym}
use mathlib.Core.Logic.{◌⊎◌, inl, inr}
use mathlib.Core.Bool.{Bool, true, false}
use mathlib.Core.List.Memᴰ
use mathlib.Core.List.{List, [], ◌∷◌}
use native.Mathlib.Omega.{arith}
use lib.Dec.{T}
use Rattle.order.specs.Claim.{Plain, Operation, ◌∈◌, Before, here, later}
use Rattle.order.specs.Places.{Suf, whole, above}
use Rattle.order.proofs.Laws.Order.{Entry, Lt, Level, Tri, less, level, more, compared, put, insert, sort, ops, each, only_if}

-- what g made of an element, and of which
pub each_in : {A B : Type 0} (g : A → List A → List B) {y : B} (l : List A) → y ∈ each g l
    → (x : A) × (b : List A) × Suf (x ∷ b) l × (y ∈ g x b)
unfolding each
each_in g [] i = absurd (Memᴰ.not-nil i)
each_in {A} g {y} (x ∷ l) i = go (Memᴰ.append_cases (g x l) i) (each_in g l)
  where
    go : (y ∈ g x l) ⊎ (y ∈ each g l) → (y ∈ each g l → (z : A) × (b : List A) × Suf (z ∷ b) l × (y ∈ g z b))
        → (z : A) × (b : List A) × Suf (z ∷ b) (x ∷ l) × (y ∈ g z b)
    go (inl j) f = (x, l, whole, j)
    go (inr j) f = let w = f j in (w.0, w.1, above w.2, w.3)

pub in_each : {A B : Type 0} (g : A → List A → List B) {y : B} {x : A} {b l : List A} → Suf (x ∷ b) l → y ∈ g x b → y ∈ each g l
unfolding each
in_each g {y} {x} {b} whole j = Memᴰ.append_left (each g b) j
in_each g (above {f} {h} s) j = Memᴰ.append_right (g f h) (in_each g s j)

pub in_suffix : {A : Type 0} {x : A} {l : List A} → x ∈ l → (b : List A) × Suf (x ∷ b) l
in_suffix {A} {x} (Memᴰ.head {xs} e) = (xs, subst (λ (z : A). Suf (x ∷ xs) (z ∷ xs)) e whole)
in_suffix (Memᴰ.tail i) = let w = in_suffix i in (w.0, above w.1)

pub suffix_in : {A : Type 0} {x : A} {b l : List A} → Suf (x ∷ b) l → x ∈ l
suffix_in whole = Memᴰ.head refl
suffix_in (above s) = Memᴰ.tail (suffix_in s)

pub only_if_in : {A : Type 0} {x : A} (b : Bool) (l : List A) → x ∈ only_if b l → T b × (x ∈ l)
unfolding only_if
only_if_in true l i = (tt, i)
only_if_in false l i = absurd (Memᴰ.not-nil i)

pub in_only_if : {A : Type 0} {x : A} (b : Bool) (l : List A) → T b → x ∈ l → x ∈ only_if b l
unfolding only_if
in_only_if true l t i = i
in_only_if false l t i = absurd t

module _ {P : Plain} where
  abbrev pub Sorted : List (Entry P) → Type 0
  Sorted [] = Unit {0}
  Sorted (x ∷ l) = ((y : Entry P) → y ∈ l → Lt x y) × Sorted l

  lt_trans : (x y z : Entry P) → Lt x y → Lt y z → Lt x z
  lt_trans x y z p r = (omega arith, λ g. omega (arith, p.1 (omega arith), r.1 (omega arith)))

  -- what insertion gives is the entry or was there
  insert_in : (x : Entry P) {z : Entry P} (l : List (Entry P)) → z ∈ insert x l → (z ≡ x) ⊎ (z ∈ l)
  unfolding insert put
  insert_in x [] (Memᴰ.head e) = inl e
  insert_in x [] (Memᴰ.tail i) = absurd (Memᴰ.not-nil i)
  insert_in x {z} (y ∷ l) i = go (compared x y) i (insert_in x l)
    where
      rest : (z ≡ x) ⊎ (z ∈ l) → (z ≡ x) ⊎ (z ∈ (y ∷ l))
      rest (inl e) = inl e
      rest (inr j) = inr (Memᴰ.tail j)

      go : (c : Tri x y) → z ∈ put x y c l (insert x l) → (z ∈ insert x l → (z ≡ x) ⊎ (z ∈ l)) → (z ≡ x) ⊎ (z ∈ (y ∷ l))
      go (less _) (Memᴰ.head e) f = inl e
      go (less _) (Memᴰ.tail j) f = inr j
      go (level _) j f = inr j
      go (more _) (Memᴰ.head e) f = inr (Memᴰ.head e)
      go (more _) (Memᴰ.tail j) f = rest (f j)

  -- what was there stays
  insert_keeps : (x : Entry P) {z : Entry P} (l : List (Entry P)) → z ∈ l → z ∈ insert x l
  unfolding insert put
  insert_keeps x [] i = absurd (Memᴰ.not-nil i)
  insert_keeps x {z} (y ∷ l) i = go (compared x y) i (insert_keeps x l)
    where
      go : (c : Tri x y) → z ∈ (y ∷ l) → (z ∈ l → z ∈ insert x l) → z ∈ put x y c l (insert x l)
      go (less _) j f = Memᴰ.tail j
      go (level _) j f = j
      go (more _) (Memᴰ.head e) f = Memᴰ.head e
      go (more _) (Memᴰ.tail j) f = Memᴰ.tail (f j)

  -- the entry is there, or one at its place and rank
  insert_puts : (x : Entry P) (l : List (Entry P)) → (y : Entry P) × (y ∈ insert x l) × Level y x
  unfolding insert put
  insert_puts x [] = (x, Memᴰ.head refl, (refl, refl))
  insert_puts x (y ∷ l) = go (compared x y) (insert_puts x l)
    where
      go : (c : Tri x y) → (z : Entry P) × (z ∈ insert x l) × Level z x → (z : Entry P) × (z ∈ put x y c l (insert x l)) × Level z x
      go (less _) w = (x, Memᴰ.head refl, (refl, refl))
      go (level e) w = (y, Memᴰ.head refl, (sym e.0, sym e.1))
      go (more _) w = (w.0, Memᴰ.tail w.1, w.2)

  insert_sorted : (x : Entry P) (l : List (Entry P)) → Sorted l → Sorted (insert x l)
  unfolding insert put
  insert_sorted x [] s = ((λ y i. absurd (Memᴰ.not-nil i)), tt)
  insert_sorted x (y ∷ l) s = go (compared x y) (insert_sorted x l s.1)
    where
      first : Lt x y → (z : Entry P) → z ∈ (y ∷ l) → Lt x z
      first p z (Memᴰ.head e) = subst (λ (w : Entry P). Lt x w) (sym e) p
      first p z (Memᴰ.tail i) = lt_trans x y z p (s.0 z i)

      rest : Lt y x → (z : Entry P) → (z ≡ x) ⊎ (z ∈ l) → Lt y z
      rest p z (inl e) = subst (λ (w : Entry P). Lt y w) (sym e) p
      rest p z (inr i) = s.0 z i

      go : (c : Tri x y) → Sorted (insert x l) → Sorted (put x y c l (insert x l))
      go (less p) t = (first p, s)
      go (level _) t = s
      go (more p) t = ((λ z i. rest p z (insert_in x l i)), t)

  pub sort_in : {z : Entry P} (l : List (Entry P)) → z ∈ sort l → z ∈ l
  unfolding sort
  sort_in [] i = i
  sort_in {z} (x ∷ l) i = go (insert_in x (sort l) i) (sort_in l)
    where
      go : (z ≡ x) ⊎ (z ∈ sort l) → (z ∈ sort l → z ∈ l) → z ∈ (x ∷ l)
      go (inl e) f = Memᴰ.head e
      go (inr j) f = Memᴰ.tail (f j)

  pub sort_has : {z : Entry P} (l : List (Entry P)) → z ∈ l → (y : Entry P) × (y ∈ sort l) × Level y z
  unfolding sort
  sort_has [] i = absurd (Memᴰ.not-nil i)
  sort_has {z} (x ∷ l) (Memᴰ.head e) = subst (λ (w : Entry P). (y : Entry P) × (y ∈ insert x (sort l)) × Level y w) (sym e) (insert_puts x (sort l))
  sort_has (x ∷ l) (Memᴰ.tail i) = let w = sort_has l i in (w.0, insert_keeps x (sort l) w.1, w.2)

  pub sort_sorted : (l : List (Entry P)) → Sorted (sort l)
  unfolding sort
  sort_sorted [] = tt
  sort_sorted (x ∷ l) = insert_sorted x (sort l) (sort_sorted l)

  -- operations and entries
  pub ops_in : {o : Operation P} (l : List (Entry P)) → o ∈ ops l → (x : Entry P) × (x ∈ l) × (o ≡ x.op)
  unfolding ops
  ops_in [] i = absurd (Memᴰ.not-nil i)
  ops_in (x ∷ l) (Memᴰ.head e) = (x, Memᴰ.head refl, e)
  ops_in (x ∷ l) (Memᴰ.tail i) = let w = ops_in l i in (w.0, Memᴰ.tail w.1, w.2)

  pub in_ops : {x : Entry P} {l : List (Entry P)} → x ∈ l → x.op ∈ ops l
  unfolding ops
  in_ops (Memᴰ.head e) = Memᴰ.head (ap (λ (w : Entry P). w.op) e)
  in_ops (Memᴰ.tail i) = Memᴰ.tail (in_ops i)

  -- in a sorted list the lesser of two entries stands before the other
  pub sorted_before : {x y : Entry P} (l : List (Entry P)) → Sorted l → x ∈ l → y ∈ l → Lt x y → Before x.op y.op (ops l)
  unfolding ops
  sorted_before [] s i j p = absurd (Memᴰ.not-nil i)
  sorted_before {x} {y} (z ∷ l) s (Memᴰ.head e) (Memᴰ.head d) p =
      let q = subst (λ (w : Entry P). Lt w y) e p in
      let r = subst (λ (w : Entry P). Lt z w) d q in
      absurd (omega (arith, r.1 (omega arith)))
  sorted_before {x} {y} (z ∷ l) s (Memᴰ.head e) (Memᴰ.tail j) p = here (ap (λ (w : Entry P). w.op) e) (in_ops j)
  sorted_before {x} {y} (z ∷ l) s (Memᴰ.tail i) (Memᴰ.head d) p =
      let q = s.0 x i in
      let r = subst (λ (w : Entry P). Lt x w) d p in
      absurd (omega (arith, r.1 (omega arith), q.1 (omega arith)))
  sorted_before (z ∷ l) s (Memᴰ.tail i) (Memᴰ.tail j) p = later (sorted_before l s.1 i j p)

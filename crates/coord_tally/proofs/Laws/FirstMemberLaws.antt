-- The first m of a set of bricks: `first_members` is it, and no other list is.
use mathlib.Core.Path.{◌≡◌, refl, sym, ap, ◌∙◌, subst}
use mathlib.Core.Logic.{◌≢◌}
use mathlib.Core.Bool.{Bool, true, false, cond}
use mathlib.Core.List.{List, [], ◌∷◌, ◌++◌, append-nil}
use Prim.Native.Nat.{ℕ, zero, suc, ◌≤◌, ◌<◌}
use native.Mathlib.Decide.{dec_lt, ℕ_discrete}
use native.Mathlib.Omega.{arith}
use lib.ListN.{length, get_or, take, length-append}
use lib.Seq.{ext_get_or, get_or_at, get_or-take, length-take-le}
use Rattle.settings.specs.Count.{count}
use Rattle.coord_tally.specs.Counting.{passing}
use Rattle.coord_tally.specs.FirstTheorem.{FirstOf, FirstMembersAreFirst, FirstIsOne}
use Rattle.coord_tally.proofs.Laws.RowSets.{more_below, passing_long, passing_below, passing_rises, passing_holds}

-- each brick below k that passes stands at some place
passing_place : (p : ℕ → Bool) (k b : ℕ) → b < k → p b ≡ true → (i : ℕ) × (i < length (passing p k)) × (get_or (passing p k) i 0 ≡ b)
unfolding passing
passing_place p zero b l e = absurd (omega (arith, l))
passing_place p (suc k) b l e = go (p k) refl (ℕ_discrete b k) (passing_place p k b)
  where
    go : (t : Bool) → p k ≡ t → Dec (b ≡ k) → (b < k → p b ≡ true → (i : ℕ) × (i < length (passing p k)) × (get_or (passing p k) i 0 ≡ b))
        → (i : ℕ) × (i < length (passing p k ++ cond t (k ∷ []) [])) × (get_or (passing p k ++ cond t (k ∷ []) []) i 0 ≡ b)
    go true q (yes z) ih =
        (length (passing p k), let s = length-append (passing p k) (k ∷ []) in omega arith, get_or_at (passing p k) k [] 0 (length (passing p k)) refl ∙ sym z)
    go true q (no z) ih =
        let w = ih (omega arith) e in
        (w.0, let s = length-append (passing p k) (k ∷ []) in omega (arith, s, w.1), more_below (passing p k) k w.0 w.1 ∙ w.2)
    go false q (yes z) ih = let r : false ≡ true = sym q ∙ ap p (sym z) ∙ e in let u : ◌≡◌ {A = ℕ} 0 1 = cc in absurd (omega (arith, u))
    go false q (no z) ih =
        let w = ih (omega arith) e in
        let a = append-nil (passing p k) in
        (w.0, subst (λ (l : List ℕ). w.0 < length l) (sym a) w.1, ap (λ (l : List ℕ). get_or l w.0 0) a ∙ w.2)

pub first_members_are_first : FirstMembersAreFirst
first_members_are_first p n m enough =
    record {
      as_many = length-take-le m (passing p n) within;
      rising = λ i j l h. (
          let e = at i (omega arith) in
          let f = at j h in
          let r = passing_rises p n i j l (omega (arith, h, within)) in
          omega (arith, e, f, r)
          );
      of-the-set = λ i h. (
          let e = at i h in
          (let b = passing_below p n i (omega (arith, h, within)) in omega (arith, e, b), ap p e ∙ passing_holds p n i (omega (arith, h, within)))
          );
      others-above = λ b w out i h. above b out i h (passing_place p n b w.0 w.1);
    }
  where
    long : length (passing p n) ≡ count p n
    long = passing_long p n

    within : m ≤ length (passing p n)
    within = omega (arith, long, enough)

    at : (i : ℕ) → i < m → get_or (take m (passing p n)) i 0 ≡ get_or (passing p n) i 0
    at i h = get_or-take m (passing p n) i 0 h

    above : (b : ℕ) → ((i : ℕ) → i < m → get_or (take m (passing p n)) i 0 ≢ b) → (i : ℕ) → i < m
        → (j : ℕ) × (j < length (passing p n)) × (get_or (passing p n) j 0 ≡ b) → get_or (take m (passing p n)) i 0 < b
    above b out i h w = go (dec_lt w.0 m)
      where
        go : Dec (w.0 < m) → get_or (take m (passing p n)) i 0 < b
        go (yes l) = absurd (out w.0 l (at w.0 l ∙ w.2))
        go (no l) =
            let r = passing_rises p n i w.0 (omega (arith, h, l)) w.1 in
            let e = at i h in
            omega (arith, e, r, w.2)

-- the same of a set described otherwise
pub first_same : {P Q : ℕ → Type 0} {m : ℕ} {l : List ℕ} → ((b : ℕ) → P b → Q b) → ((b : ℕ) → Q b → P b) → FirstOf P m l → FirstOf Q m l
first_same {P} {Q} {m} {l} f g x =
    record {
      as_many = x.as_many;
      rising = x.rising;
      of-the-set = λ i h. f (get_or l i 0) (x.of-the-set i h);
      others-above = λ b w out i h. x.others-above b (g b w) out i h;
    }

-- entry by entry: the least one where they differ would be of both sets, and above itself
module _ (P Q : ℕ → Type 0) (m : ℕ) (k l : List ℕ) (a : FirstOf P m k) (b : FirstOf Q m l) where
  not_below : ((b : ℕ) → P b → Q b) → (i : ℕ) → i < m → ((j : ℕ) → j < i → get_or k j 0 ≡ get_or l j 0) → get_or k i 0 < get_or l i 0 → ⊥
  not_below f i h same less =
      let z = b.others-above (get_or k i 0) (f (get_or k i 0) (a.of-the-set i h)) out i h in
      omega (arith, z, less)
    where
      out : (j : ℕ) → j < m → get_or l j 0 ≢ get_or k i 0
      out j u q = go (dec_lt j i) (dec_lt i j)
        where
          go : Dec (j < i) → Dec (i < j) → ⊥
          go (yes w) d = let r = a.rising j i w h in let e = same j w in omega (arith, r, e, q)
          go (no w) (yes v) = let r = b.rising i j v u in omega (arith, r, less, q)
          go (no w) (no v) =
              let e : i ≡ j = omega (arith, w, v) in
              let r = ap (λ (z : ℕ). get_or l z 0) e in
              omega (arith, less, q, r)

module _ (P Q : ℕ → Type 0) (f : (b : ℕ) → P b → Q b) (g : (b : ℕ) → Q b → P b) (m : ℕ) (k l : List ℕ) (a : FirstOf P m k) (b : FirstOf Q m l) where
  -- all entries below i are the same
  same_below : (i : ℕ) → i ≤ m → (j : ℕ) → j < i → get_or k j 0 ≡ get_or l j 0
  same_below zero h j u = absurd (omega (arith, u))
  same_below (suc i) h j u = go (ℕ_discrete j i) (same_below i (omega arith))
    where
      go : Dec (j ≡ i) → ((j : ℕ) → j < i → get_or k j 0 ≡ get_or l j 0) → get_or k j 0 ≡ get_or l j 0
      go (no n) ih = ih j (omega (arith, u, n))
      go (yes e) ih = ap (λ (z : ℕ). get_or k z 0) e ∙ here ∙ ap (λ (z : ℕ). get_or l z 0) (sym e)
        where
          here : get_or k i 0 ≡ get_or l i 0
          here =
              let x = not_below P Q m k l a b f i (omega arith) ih in
              let y = not_below Q P m l k b a g i (omega arith) (λ j u. sym (ih j u)) in
              omega (arith, x, y)

pub first_is_one : FirstIsOne
first_is_one P Q f g m k l a b =
    ext_get_or 0 k l (a.as_many ∙ sym b.as_many) (λ i h. same_below P Q f g m k l a b m (omega arith) i (let e = a.as_many in omega (arith, h, e)))

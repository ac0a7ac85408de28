-- The tests answer for the facts.
use mathlib.Core.Path.{◌≡◌, refl, subst, sym}
use mathlib.Core.Logic.{◌⊎◌, inl, inr}
use mathlib.Core.Bool.{Bool, true, false, ◌&&◌, ◌||◌}
use mathlib.Core.List.{List, [], ◌∷◌}
use Prim.Native.Nat.{ℕ, ◌≤◌}
use lib.Dec.{T, eqb, eqb→eq, eqb_refl}
use Rattle.settings.specs.Count.{count}
use Rattle.order.specs.Claim.{Plain}
use Rattle.order.specs.Places.{Suf, whole, above, In}
use Rattle.order.specs.Facts.{Source, Fact, began, promised, launched, stored, showed, ended, History}
use Rattle.order.specs.Quorums.{Many}
use Rattle.order.specs.Valid.{Began, Launched, Ended}
use Rattle.order.proofs.Laws.Tests.{any, is_began, is_promised, is_launched, is_stored, is_showed, is_ended, stored?, promised?, showed?}

pub and_left : (a b : Bool) → T (a && b) → T a
and_left true b t = tt
and_left false b t = t

pub and_right : (a b : Bool) → T (a && b) → T b
and_right true b t = t
and_right false b t = absurd t

pub and_both : (a b : Bool) → T a → T b → T (a && b)
and_both true b s t = t
and_both false b s t = s

-- a test's answer, as a case to go by
pub test : (b : Bool) → T b ⊎ (T b → ⊥)
test true = inl tt
test false = inr (λ t. t)

pub any_in : {A : Type 0} (p : A → Bool) (l : List A) → T (any p l) → (x : A) × In x l × T (p x)
unfolding any
any_in p [] t = absurd t
any_in {A} p (x ∷ l) t = go (p x) refl t (any_in p l)
  where
    go : (b : Bool) → p x ≡ b → T (b || any p l) → (T (any p l) → (y : A) × In y l × T (p y)) → (y : A) × In y (x ∷ l) × T (p y)
    go true e t f = (x, (l, whole), subst T (sym e) tt)
    go false e t f = let w = f t in (w.0, (w.1.0, above w.1.1), w.2)

pub in_any : {A : Type 0} (p : A → Bool) {x : A} {b l : List A} → Suf (x ∷ b) l → T (p x) → T (any p l)
unfolding any
in_any p {x} {b} whole t = go (p x) t
  where
    go : (c : Bool) → T c → T (c || any p b)
    go true t = tt
    go false t = absurd t
in_any p {x} {b} (above {f} {h} s) t = go (p f) (in_any p s t)
  where
    go : (c : Bool) → T (any p h) → T (c || any p h)
    go true t = tt
    go false t = t

module _ {P : Plain} where
  pub was_began : (u : ℕ) (f : Fact P) → T (is_began u f) → (k : P.Kind) × (f ≡ began u k)
  unfolding is_began
  was_began u (began t k) x = let e = eqb→eq t u x in (k, cc)
  was_began u (promised b t) x = absurd x
  was_began u (launched t s) x = absurd x
  was_began u (stored b t) x = absurd x
  was_began u (showed b t c) x = absurd x
  was_began u (ended t e) x = absurd x

  pub was_promised : (a u : ℕ) (f : Fact P) → T (is_promised a u f) → f ≡ promised a u
  unfolding is_promised
  was_promised a u (began t k) x = absurd x
  was_promised a u (promised b t) x =
      let e = eqb→eq b a (and_left (eqb b a) (eqb t u) x) in let d = eqb→eq t u (and_right (eqb b a) (eqb t u) x) in cc
  was_promised a u (launched t s) x = absurd x
  was_promised a u (stored b t) x = absurd x
  was_promised a u (showed b t c) x = absurd x
  was_promised a u (ended t e) x = absurd x

  pub was_launched : (u : ℕ) (f : Fact P) → T (is_launched u f) → (s : Source) × (f ≡ launched u s)
  unfolding is_launched
  was_launched u (began t k) x = absurd x
  was_launched u (promised b t) x = absurd x
  was_launched u (launched t s) x = let e = eqb→eq t u x in (s, cc)
  was_launched u (stored b t) x = absurd x
  was_launched u (showed b t c) x = absurd x
  was_launched u (ended t e) x = absurd x

  pub was_stored : (a u : ℕ) (f : Fact P) → T (is_stored a u f) → f ≡ stored a u
  unfolding is_stored
  was_stored a u (began t k) x = absurd x
  was_stored a u (promised b t) x = absurd x
  was_stored a u (launched t s) x = absurd x
  was_stored a u (stored b t) x =
      let e = eqb→eq b a (and_left (eqb b a) (eqb t u) x) in let d = eqb→eq t u (and_right (eqb b a) (eqb t u) x) in cc
  was_stored a u (showed b t c) x = absurd x
  was_stored a u (ended t e) x = absurd x

  pub was_showed : (a u d : ℕ) (f : Fact P) → T (is_showed a u d f) → f ≡ showed a u d
  unfolding is_showed
  was_showed a u d (began t k) x = absurd x
  was_showed a u d (promised b t) x = absurd x
  was_showed a u d (launched t s) x = absurd x
  was_showed a u d (stored b t) x = absurd x
  was_showed a u d (showed b t c) x =
      let y = and_left (eqb b a && eqb t u) (eqb c d) x in
      let e = eqb→eq b a (and_left (eqb b a) (eqb t u) y) in
      let e' = eqb→eq t u (and_right (eqb b a) (eqb t u) y) in
      let e'' = eqb→eq c d (and_right (eqb b a && eqb t u) (eqb c d) x) in
      cc
  was_showed a u d (ended t e) x = absurd x

  pub find_stored : (h : History P) (b u : ℕ) → T (stored? h u b) → In (stored b u) h
  unfolding stored?
  find_stored h b u t = let w = any_in (is_stored b u) h t in subst (λ (f : Fact P). In f h) (was_stored b u w.0 w.2) w.1

  pub test_stored : {h : History P} {b u : ℕ} → In (stored b u) h → T (stored? h u b)
  unfolding stored? is_stored
  test_stored {h} {b} {u} i = in_any (is_stored b u) i.1 (and_both (eqb b b) (eqb u u) (eqb_refl b) (eqb_refl u))

  pub find_promised : (h : History P) (b u : ℕ) → T (promised? h u b) → In (promised b u) h
  unfolding promised?
  find_promised h b u t = let w = any_in (is_promised b u) h t in subst (λ (f : Fact P). In f h) (was_promised b u w.0 w.2) w.1

  pub find_showed : (h : History P) (b u d : ℕ) → T (showed? h u d b) → In (showed b u d) h
  unfolding showed?
  find_showed h b u d t = let w = any_in (is_showed b u d) h t in subst (λ (f : Fact P). In f h) (was_showed b u d w.0 w.2) w.1

  pub find_began : (h : History P) (u : ℕ) → T (any (is_began u) h) → Began h u
  find_began h u t =
      let w = any_in (is_began u) h t in let d = was_began u w.0 w.2 in (d.0, subst (λ (f : Fact P). In f h) d.1 w.1)

  pub find_launched : (h : History P) (u : ℕ) → T (any (is_launched u) h) → Launched h u
  find_launched h u t =
      let w = any_in (is_launched u) h t in let d = was_launched u w.0 w.2 in (d.0, subst (λ (f : Fact P). In f h) d.1 w.1)

  pub test_began : {h : History P} {u : ℕ} → Began h u → T (any (is_began u) h)
  unfolding is_began
  test_began {h} {u} i = in_any (is_began u) i.1.1 (eqb_refl u)

  pub test_launched : {h : History P} {u : ℕ} → Launched h u → T (any (is_launched u) h)
  unfolding is_launched
  test_launched {h} {u} i = in_any (is_launched u) i.1.1 (eqb_refl u)

  pub test_ended : {h : History P} {u : ℕ} → Ended h u → T (any (is_ended u) h)
  unfolding is_ended
  test_ended {h} {u} i = in_any (is_ended u) i.1.1 (eqb_refl u)

  -- whether a brick stored a time is decided
  pub dec_stored : (h : History P) (b u : ℕ) → Dec (In (stored b u) h)
  dec_stored h b u = go (test (stored? h u b))
    where
      go : T (stored? h u b) ⊎ (T (stored? h u b) → ⊥) → Dec (In (stored b u) h)
      go (inl t) = yes (find_stored h b u t)
      go (inr f) = no (λ i. f (test_stored i))

-- a quorum that a test finds
pub many : {n k : ℕ} {Q : ℕ → Type 0} (p : ℕ → Bool) → k ≤ count p n → ((b : ℕ) → T (p b) → Q b) → Many n k Q
many p l f = record { set = p; enough = l; each = λ b _ t. f b t }

-- What is seen of a history, and the facts behind it.
use mathlib.Core.Path.{◌≡◌, refl, subst}
use mathlib.Core.Logic.{◌⊎◌, inl, inr}
use mathlib.Core.List.Memᴰ
use mathlib.Core.List.{List, [], ◌∷◌, ◌++◌}
use Prim.Native.Nat.{ℕ}
use native.Mathlib.Omega.{arith}
use Rattle.order.specs.Claim.{Plain, Ending, Seen, ◌∈◌, Before, here, later}
use Rattle.order.specs.Places.{Suf, whole, above, In}
use Rattle.order.specs.Facts.{End, Fact, began, promised, launched, stored, showed, ended, History, ending_of, shows, seen}

module _ {A : Type 0} where
  pub before_nil : {a b : A} → Before a b [] → ⊥
  before_nil x = elim x [ ]

  -- in two lists end to end: in the first, across, or in the second
  before_append : {a b : A} (l m : List A) → Before a b (l ++ m) → Before a b l ⊎ (((a ∈ l) × (b ∈ m)) ⊎ Before a b m)
  before_append [] m q = inr (inr q)
  before_append {a} {b} (x ∷ l) m (here e i) = go (Memᴰ.append_cases l i)
    where
      go : (b ∈ l) ⊎ (b ∈ m) → Before a b (x ∷ l) ⊎ (((a ∈ (x ∷ l)) × (b ∈ m)) ⊎ Before a b m)
      go (inl j) = inl (here e j)
      go (inr j) = inr (inl (Memᴰ.head e, j))
  before_append {a} {b} (x ∷ l) m (later q) = go (before_append l m q)
    where
      go : Before a b l ⊎ (((a ∈ l) × (b ∈ m)) ⊎ Before a b m) → Before a b (x ∷ l) ⊎ (((a ∈ (x ∷ l)) × (b ∈ m)) ⊎ Before a b m)
      go (inl r) = inl (later r)
      go (inr (inl w)) = inr (inl (Memᴰ.tail w.0, w.1))
      go (inr (inr r)) = inr (inr r)

  before_one : {a b x : A} → Before a b (x ∷ []) → ⊥
  before_one (here e i) = Memᴰ.not-nil i
  before_one (later q) = before_nil q

module _ {P : Plain} where
  -- a fact shows one thing at most
  shows_one : {a b : Seen P} (f : Fact P) → Before a b (shows f) → ⊥
  unfolding shows
  shows_one (began t k) q = before_one q
  shows_one (promised b t) q = before_nil q
  shows_one (launched t s) q = before_nil q
  shows_one (stored b t) q = before_nil q
  shows_one (showed b t c) q = before_nil q
  shows_one (ended t e) q = before_one q

  -- what is seen, a fact shows
  pub in_seen : {a : Seen P} {f : Fact P} {b h : History P} → Suf (f ∷ b) h → a ∈ shows f → a ∈ seen h
  unfolding seen
  in_seen {b} whole i = Memᴰ.append_right (seen b) i
  in_seen (above {f = g} s) i = Memᴰ.append_left (shows g) (in_seen s i)

  abbrev pub Shown : Seen P → History P → Type 0
  Shown a h = (f : Fact P) × (b : History P) × Suf (f ∷ b) h × (a ∈ shows f)

  pub seen_in : {a : Seen P} (h : History P) → a ∈ seen h → Shown a h
  unfolding seen
  seen_in [] i = absurd (Memᴰ.not-nil i)
  seen_in {a} (f ∷ h) i = go (Memᴰ.append_cases (seen h) i) (seen_in h)
    where
      go : (a ∈ seen h) ⊎ (a ∈ shows f) → (a ∈ seen h → Shown a h) → Shown a (f ∷ h)
      go (inl j) r = let w = r j in (w.0, w.1, above w.2, w.3)
      go (inr j) r = (f, h, whole, j)

  -- what is seen before it, is seen of what lies below that fact
  abbrev pub ShownAfter : Seen P → Seen P → History P → Type 0
  ShownAfter a c h = (f : Fact P) × (b : History P) × Suf (f ∷ b) h × (c ∈ shows f) × (a ∈ seen b)

  pub seen_before : {a c : Seen P} (h : History P) → Before a c (seen h) → ShownAfter a c h
  unfolding seen
  seen_before [] q = absurd (before_nil q)
  seen_before {a} {c} (f ∷ h) q = go (before_append (seen h) (shows f) q) (seen_before h)
    where
      go : Before a c (seen h) ⊎ (((a ∈ seen h) × (c ∈ shows f)) ⊎ Before a c (shows f))
          → (Before a c (seen h) → ShownAfter a c h) → ShownAfter a c (f ∷ h)
      go (inl m) r = let w = r m in (w.0, w.1, above w.2, w.3, w.4)
      go (inr (inl m)) r = (f, h, whole, m.1, m.0)
      go (inr (inr m)) r = absurd (shows_one f m)

  -- which facts show a beginning, and which an end
  shows_began : {t : ℕ} {k : P.Kind} (f : Fact P) → Seen.began t k ∈ shows f → f ≡ began t k
  unfolding shows
  shows_began (began u j) i = let e = Memᴰ.eq_of_singleton i in cc
  shows_began (promised b u) i = absurd (Memᴰ.not-nil i)
  shows_began (launched u s) i = absurd (Memᴰ.not-nil i)
  shows_began (stored b u) i = absurd (Memᴰ.not-nil i)
  shows_began (showed b u c) i = absurd (Memᴰ.not-nil i)
  shows_began (ended u d) i = let e = Memᴰ.eq_of_singleton i in cc

  shows_ended : {t : ℕ} {r : Ending P} (f : Fact P) → Seen.ended t r ∈ shows f → (e : End P) × (f ≡ ended t e) × (ending_of e ≡ r)
  unfolding shows
  shows_ended {t} {r} (began u j) i = let e = Memᴰ.eq_of_singleton i in let z : ◌≡◌ {A = ℕ} 0 1 = cc in absurd (omega arith)
  shows_ended (promised b u) i = absurd (Memᴰ.not-nil i)
  shows_ended (launched u s) i = absurd (Memᴰ.not-nil i)
  shows_ended (stored b u) i = absurd (Memᴰ.not-nil i)
  shows_ended (showed b u c) i = absurd (Memᴰ.not-nil i)
  shows_ended (ended u d) i = let e = Memᴰ.eq_of_singleton i in (d, cc, cc)

  pub seen_began : {h : History P} {t : ℕ} {k : P.Kind} → In (began t k) h → Seen.began t k ∈ seen h
  unfolding shows
  seen_began i = in_seen i.1 (Memᴰ.head refl)

  abbrev pub EndOf : History P → ℕ → Ending P → Type 0
  EndOf h t r = (e : End P) × In (ended t e) h × (ending_of e ≡ r)

  pub seen_ended : (h : History P) {t : ℕ} {r : Ending P} → Seen.ended t r ∈ seen h → EndOf h t r
  seen_ended h i =
      let w = seen_in h i in
      let d = shows_ended w.0 w.3 in
      (d.0, (w.1, subst (λ (f : Fact P). Suf (f ∷ w.1) h) d.1 w.2), d.2)

  -- a beginning that is seen after something
  pub seen_began_after : (h : History P) {a : Seen P} {t : ℕ} {k : P.Kind} → Before a (Seen.began t k) (seen h)
      → (b : History P) × Suf (began t k ∷ b) h × (a ∈ seen b)
  seen_began_after h q =
      let w = seen_before h q in
      (w.1, subst (λ (f : Fact P). Suf (f ∷ w.1) h) (shows_began w.0 w.3) w.2, w.4)

  pub seen_began_in : (h : History P) {t : ℕ} {k : P.Kind} → Seen.began t k ∈ seen h → In (began t k) h
  seen_began_in h i =
      let w = seen_in h i in
      (w.1, subst (λ (f : Fact P). Suf (f ∷ w.1) h) (shows_began w.0 w.3) w.2)

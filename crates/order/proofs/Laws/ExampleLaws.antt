-- For histories that are written out: what a fact requires, by tests that compute.
use mathlib.Core.Path.{◌≡◌, refl, subst, sym}
use mathlib.Core.Logic.{◌⊎◌, inl, inr}
use mathlib.Core.Bool.{Bool, true, false, ◌&&◌, ◌||◌, not}
use mathlib.Core.List.{List, [], ◌∷◌}
use Prim.Native.Nat.{ℕ, zero, suc, ◌≤◌, ◌<◌}
use native.Mathlib.Omega.{arith}
use native.Mathlib.Decide.{dec_le, dec_lt, ℕ_discrete}
use lib.Dec.{T, eqb, eqb→eq, ltb, leb, eqb_refl, T_not, leb→le, ltb→lt, lt→ltb}
use Rattle.settings.specs.Count.{count}
use Rattle.order.specs.Claim.{Plain}
use Rattle.order.specs.Places.{Suf, whole, above, In}
use Rattle.order.specs.Facts.{Source, itself, over, End, Fact, began, promised, launched, stored, showed, ended, History}
use Rattle.order.specs.Quorums.{Quorums, Many}
use Rattle.order.specs.Valid.{Dead, PromisedUpTo, Launched, Sets, OkBegan, OkPromised, OkLaunched, OkStored, OkShowed, OkEnded}
use Rattle.order.specs.Valid.{HasAnswered, From, Committed, Ok, Valid, next}
use Rattle.order.proofs.Laws.Tests.{any, is_began, is_promised, is_launched, is_stored, is_showed, is_ended, stored?, promised?, showed?}
use Rattle.order.proofs.Laws.Order.{order_of, entries, each, placed, at_rank, standing, only_if, sort, insert, put, compared, ops}
use Rattle.order.proofs.Laws.Order.{chain, link, linked, follow, committed?}
use Rattle.order.proofs.Laws.TestLaws.{and_left, and_right, and_both, in_any, find_stored, find_promised, find_showed, find_began}
use Rattle.order.proofs.Laws.TestLaws.{find_launched, test_stored, test_began, test_launched, test_ended, many}

-- every u with c < u < t passes
unfoldable pub between? : (ℕ → Bool) → ℕ → ℕ → Bool
between? p c zero = true
between? p c (suc t) = (leb t c || p t) && between? p c t

pub between_at : (p : ℕ → Bool) (c t u : ℕ) → T (between? p c t) → c < u → u < t → T (p u)
unfolding between?
between_at p c zero u x l r = absurd (omega arith)
between_at p c (suc t) u x l r = go (ℕ_discrete u t) (leb t c) refl (and_left (leb t c || p t) (between? p c t) x) (λ r'. between_at p c t u (and_right (leb t c || p t) (between? p c t) x) l r')
  where
    go : Dec (u ≡ t) → (b : Bool) → leb t c ≡ b → T (b || p t) → (u < t → T (p u)) → T (p u)
    go (yes e) true d y f = let z = leb→le t c (subst T (sym d) tt) in absurd (omega arith)
    go (yes e) false d y f = subst (λ (w : ℕ). T (p w)) (sym e) y
    go (no ne) b d y f = f (omega arith)

module _ {P : Plain} where
  -- a promise of brick a above u
  unfoldable pub is_above : ℕ → ℕ → Fact P → Bool
  is_above a u (began t k) = false
  is_above a u (promised b t) = eqb b a && ltb u t
  is_above a u (launched t s) = false
  is_above a u (stored b t) = false
  is_above a u (showed b t c) = false
  is_above a u (ended t e) = false

  pub promises : {h : History P} (b t : ℕ) → T (not (any (is_above b t) h)) → PromisedUpTo h b t
  unfolding is_above
  promises {h} b t x t' i = go (dec_le t' t)
    where
      go : Dec (t' ≤ t) → t' ≤ t
      go (yes l) = l
      go (no g) = absurd (T_not (any (is_above b t) h) x (in_any (is_above b t) i.1 (and_both (eqb b b) (ltb t t') (eqb_refl b) (lt→ltb t t' (omega arith)))))

  pub began_ok : {h : History P} {t : ℕ} → T (ltb 0 t) → T (not (any (is_began t) h)) → OkBegan h t
  began_ok {h} {t} x y = record { positive = ltb→lt 0 t x; new = λ k i. T_not (any (is_began t) h) y (test_began (k, i)) }

  pub promised_ok : {h : History P} {b t : ℕ} → T (any (is_began t) h) → T (not (any (is_above b t) h)) → OkPromised h b t
  promised_ok {h} {b} {t} x y = record { known = find_began h t x; rising = promises b t y }

  pub stored_ok : {h : History P} {b t : ℕ} → T (any (is_launched t) h) → T (not (any (is_above b t) h)) → OkStored h b t
  stored_ok {h} {b} {t} x y = record { known = find_launched h t x; allowed = promises b t y }

  pub showed_ok : {h : History P} {b t c : ℕ} → T (any (is_began t) h) → T (eqb c 0 || stored? h c b)
      → T (not (any (is_above b c) h)) → OkShowed h b t c
  showed_ok {h} {b} {t} {c} x y z = record { known = find_began h t x; has = go (eqb c 0) refl y; settled = promises b c z }
    where
      go : (a : Bool) → eqb c 0 ≡ a → T (a || stored? h c b) → (c ≡ 0) ⊎ In (stored b c) h
      go true e w = inl (eqb→eq c 0 (subst T (sym e) tt))
      go false e w = inr (find_stored h b c w)

  module _ (S : Quorums) where
    -- all that promised t show that u is dead, where fewer than m of them stored it
    unfoldable pub holders : History P → ℕ → ℕ → ℕ → Bool
    holders h t u b = promised? h t b && stored? h u b

    unfoldable pub dead? : History P → ℕ → ℕ → Bool
    dead? h t u = ltb (count (holders h t u) S.n) S.m

    pub dead : {h : History P} {t u : ℕ} → u < t → T (leb S.q (count (promised? h t) S.n)) → T (dead? h t u) → Dead S h u
    unfolding holders dead?
    dead {h} {t} {u} l x y =
        record {
          bricks = promised? h t;
          quorum = leb→le S.q (count (promised? h t) S.n) x;
          promise = λ b _ z. (t, l, find_promised h b t z);
          few = record {
            set = holders h t u;
            small = ltb→lt (count (holders h t u) S.n) S.m y;
            all = λ b _ z. and_both (promised? h t b) (stored? h u b) z.0 (test_stored z.1);
          };
        }

    module _ {h : History P} {t : ℕ} (x : T (any (is_began t) h)) (y : T (not (any (is_ended t) h))) (z : T (not (any (is_launched t) h))) (w : T (leb S.q (count (promised? h t) S.n))) where
      launched_from : {s : Source} → From S h t s → OkLaunched S h t s
      launched_from f =
          record {
            known = find_began h t x;
            running = λ e. T_not (any (is_ended t) h) y (test_ended e);
            new = λ e. T_not (any (is_launched t) h) z (test_launched e);
            order = many (promised? h t) (leb→le S.q (count (promised? h t) S.n) w) (λ b i. find_promised h b t i);
            source = f;
          }

      pub launched_ok : (k : P.Kind) (v : P.Stripe) → In (began t k) h → Sets P k v → OkLaunched S h t itself
      launched_ok k v i s = launched_from (k, v, i, s)

      pub launched_over_ok : {c : ℕ} → T (ltb c t) → T (eqb c 0 || any (is_launched c) h) → T (between? (dead? h t) c t)
          → OkLaunched S h t (over c)
      launched_over_ok {c} l n g =
          launched_from
          (record {
            below = ltb→lt c t l;
            known = go (eqb c 0) refl n;
            between = λ u a b. inr (dead b w (between_at (dead? h t) c t u g a b));
          })
        where
          go : (a : Bool) → eqb c 0 ≡ a → T (a || any (is_launched c) h) → (c ≡ 0) ⊎ Launched h c
          go true e _ = inl (eqb→eq c 0 (subst T (sym e) tt))
          go false e i = inr (find_launched h c i)

    pub committed_ok : {h : History P} {t : ℕ} → T (leb S.q (count (stored? h t) S.n)) → Committed S h t
    committed_ok {h} {t} x = inr (many (stored? h t) (leb→le S.q (count (stored? h t) S.n) x) (λ b i. find_stored h b t i))

    pub showed_many : {h : History P} {t c : ℕ} → T (leb S.q (count (showed? h t c) S.n))
        → Many S.n S.q (λ b. In (showed b t c) h)
    showed_many {h} {t} {c} x = many (showed? h t c) (leb→le S.q (count (showed? h t c) S.n) x) (λ b i. find_showed h b t c i)

    pub not_launched : {h : History P} {t : ℕ} → T (not (any (is_launched t) h)) → ¬ Launched h t
    not_launched {h} {t} x e = T_not (any (is_launched t) h) x (test_launched e)

    pub ended_ok : {h : History P} {t : ℕ} {e : End P} → T (any (is_began t) h) → T (not (any (is_ended t) h))
        → HasAnswered S h t e → OkEnded S h t e
    ended_ok {h} {t} x y a = record { known = find_began h t x; running = λ e. T_not (any (is_ended t) h) y (test_ended e); answer = a }

-- the fact at a place, counted from the newest
abbrev pub below : {A : Type 0} → ℕ → List A → List A
below zero l = l
below (suc i) [] = []
below (suc i) (x ∷ l) = below i l

pub at : {A : Type 0} (i : ℕ) (l : List A) → Suf (below i l) l
at zero l = whole
at (suc i) [] = whole
at (suc i) (x ∷ l) = above (at i l)

infixl 20 ◌▷◌
-- one more fact
pub ◌▷◌ : {S : Quorums} {P : Plain} {f : Fact P} {h : History P} → Valid S h → Ok S f h → Valid S (f ∷ h)
◌▷◌ v o = next v o

-- `unfolding tests`: the tests above compute
unfoldable pub tests : Unit {0}
unfolding any is_began is_promised is_launched is_stored is_showed is_ended stored? promised? showed? between? is_above holders dead? count
tests = tt

-- `unfolding orders`: the order computes
unfoldable pub orders : Unit {0}
unfolding order_of entries each placed at_rank standing only_if sort insert put compared dec_lt ops chain link linked follow committed? stored? any is_stored count
orders = tt

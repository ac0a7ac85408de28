-- Gone: what may be missing stays so, and how a round of recovery shows it.
use mathlib.Core.Path.{◌≡◌, subst, sym}
use mathlib.Core.Logic.{◌⊎◌, inl, inr}
use mathlib.Core.Bool.{Bool}
use Prim.Native.Nat.{ℕ, zero, suc, ◌<◌}
use native.Mathlib.Omega.{arith}
use native.Mathlib.Decide.{ℕ_discrete}
use lib.Dec.{T}
use Rattle.settings.specs.Count.{count}
use Rattle.order.specs.Claim.{Plain}
use Rattle.order.specs.Places.{Suf, In}
use Rattle.order.proofs.Laws.PlaceLaws.{in_suf}
use Rattle.order.specs.Facts.{promised, stored, History}
use Rattle.order.specs.Quorums.{Quorums, Many}
use Rattle.order.specs.Valid.{Dead, Gone, Valid}
use Rattle.order.proofs.Laws.TestLaws.{test, dec_stored}
use Rattle.order.proofs.Laws.FactLaws.{passed_up}
use Rattle.order.proofs.Laws.StoredLaws.{stored_before}

-- what is dead stays dead, and what is gone stays gone
pub dead_up : {S : Quorums} {P : Plain} {a h : History P} {u : ℕ} → Valid S h → Suf a h → Dead S a u → Dead S h u
dead_up v s d =
    record {
      bricks = d.bricks;
      quorum = d.quorum;
      promise = λ b i t. let p = d.promise b i t in (p.0, p.1, in_suf s p.2);
      few = record {
        set = d.few.set;
        small = d.few.small;
        all = λ b i w. let p = d.promise b i w.0 in d.few.all b i (w.0, stored_before v s p.1 p.2 w.1);
      };
    }

pub gone_up : {S : Quorums} {P : Plain} {a h : History P} {u : ℕ} → Valid S h → Suf a h → Gone S a u → Gone S h u
gone_up {S} v s (inl p) = inl (passed_up S s p)
gone_up v s (inr d) = inr (dead_up v s d)

-- A round of recovery: a quorum promised t, above u; each of these bricks that stored u holds it, or u is gone; fewer
-- than m hold it. Then u is gone.
pub round_gone : {S : Quorums} {P : Plain} {h : History P} {t u : ℕ}
    → u < t
    → (r : Many S.n S.q (λ b. In (promised b t) h)) (holds : ℕ → Bool)
    → count holds S.n < S.m
    → ((b : ℕ) → b < S.n → T (r.set b) → In (stored b u) h → T (holds b) ⊎ Gone S h u)
    → Gone S h u
round_gone {S} {P} {h} {t} {u} l r holds few each = all (look S.n (λ b i. i))
  where
    Kept : ℕ → Type 0
    Kept k = (b : ℕ) → b < k → T (r.set b) → In (stored b u) h → T (holds b)

    one_more : (k : ℕ) → Kept k → (T (r.set k) → In (stored k u) h → T (holds k)) → Kept (suc k)
    one_more k f g b i = at (ℕ_discrete b k)
      where
        at : Dec (b ≡ k) → T (r.set b) → In (stored b u) h → T (holds b)
        at (yes e) = subst (λ (z : ℕ). T (r.set z) → In (stored z u) h → T (holds z)) (sym e) g
        at (no ne) = f b (omega arith)

    brick : (k : ℕ) → k < S.n → Kept k → T (r.set k) ⊎ (T (r.set k) → ⊥) → Dec (In (stored k u) h) → Gone S h u ⊎ Kept (suc k)
    brick k i f (inl x) (yes s) = held (each k i x s)
      where
        held : T (holds k) ⊎ Gone S h u → Gone S h u ⊎ Kept (suc k)
        held (inl y) = inr (one_more k f (λ _ _. y))
        held (inr g) = inl g
    brick k i f (inl x) (no ns) = inr (one_more k f (λ _ s. absurd (ns s)))
    brick k i f (inr nx) d = inr (one_more k f (λ x _. absurd (nx x)))

    next : (k : ℕ) → k < S.n → Gone S h u ⊎ Kept k → Gone S h u ⊎ Kept (suc k)
    next k i (inl g) = inl g
    next k i (inr f) = brick k i f (test (r.set k)) (dec_stored h k u)

    look : (k : ℕ) → ((b : ℕ) → b < k → b < S.n) → Gone S h u ⊎ Kept k
    look zero i = inr (λ b j. absurd (omega arith))
    look (suc k) i = next k (i k (omega arith)) (look k (λ b j. i b (omega arith)))

    all : Gone S h u ⊎ Kept S.n → Gone S h u
    all (inl g) = g
    all (inr f) =
        inr
        (record {
          bricks = r.set;
          quorum = r.enough;
          promise = λ b i x. (t, l, r.each b i x);
          few = record { set = holds; small = few; all = λ b i w. f b i w.0 w.1 };
        })

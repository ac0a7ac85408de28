-- A rule for each place, or for some place, below a number.
use mathlib.Core.Path.{◌≡◌, refl, sym, ap, ◌∙◌}
use mathlib.Core.Bool.{Bool, true, false, ◌&&◌, ◌||◌, true≢false}
use mathlib.Core.Logic.{◌⊎◌, inl, inr}
use Prim.Native.Nat.{ℕ, zero, suc, ◌+◌, ◌<◌}
use native.Mathlib.Nat.{le_of_suc-le-suc, not-suc-le-zero, eq-or-lt_of_le, le_refl}
use native.Mathlib.Numerals.{add-one}
use native.Mathlib.Omega.{arith}
use Rattle.byte_lists.specs.Each.{each, some}

pub each_none : (p : ℕ → Bool) → each p 0 ≡ true
unfolding each
each_none p = refl

pub each_more : (p : ℕ → Bool) (k : ℕ) → each p (k + 1) ≡ each p k && p k
unfolding each
each_more p k = rw add-one

pub each_all : (p : ℕ → Bool) (k : ℕ) → ((i : ℕ) → i < k → p i ≡ true) → each p k ≡ true
unfolding each
each_all p zero h = refl
each_all p (suc k) h = rw (each_all p k (λ i l. h i (omega arith)), h k (le_refl _))

pub each_ext : (p q : ℕ → Bool) (k : ℕ) → ((i : ℕ) → p i ≡ q i) → each p k ≡ each q k
unfolding each
each_ext p q zero h = refl
each_ext p q (suc k) h = rw (each_ext p q k h, h k)

pub each_at : (p : ℕ → Bool) (k i : ℕ) → each p k ≡ true → i < k → p i ≡ true
unfolding each
each_at p zero i e h = absurd (not-suc-le-zero h)
each_at p (suc k) i e h = go (each p k) (p k) refl refl e (eq-or-lt_of_le (le_of_suc-le-suc h)) (each_at p k i)
  where
    go : (a b : Bool) → each p k ≡ a → p k ≡ b → a && b ≡ true → (i ≡ k) ⊎ (i < k) → (each p k ≡ true → i < k → p i ≡ true) → p i ≡ true
    go true b ea eb ab (inl q) ih = ap p q ∙ eb ∙ ab
    go true b ea eb ab (inr l) ih = ih ea l
    go false b ea eb ab w ih = let z : ◌≡◌ {A = ℕ} 0 1 = cc in absurd (omega arith)

pub each_not : (p : ℕ → Bool) (k i : ℕ) → i < k → p i ≡ false → each p k ≡ false
each_not p k i l e = go (each p k) refl
  where
    go : (a : Bool) → each p k ≡ a → a ≡ false
    go true ea = sym (each_at p k i ea l) ∙ e
    go false ea = refl

pub some_at : (p : ℕ → Bool) (k i : ℕ) → some p k ≡ false → i < k → p i ≡ false
unfolding some
some_at p zero i e h = absurd (not-suc-le-zero h)
some_at p (suc k) i e h = go (some p k) (p k) refl refl e (eq-or-lt_of_le (le_of_suc-le-suc h)) (some_at p k i)
  where
    go : (a b : Bool) → some p k ≡ a → p k ≡ b → a || b ≡ false → (i ≡ k) ⊎ (i < k) → (some p k ≡ false → i < k → p i ≡ false) → p i ≡ false
    go false b ea eb ab (inl q) ih = ap p q ∙ eb ∙ ab
    go false b ea eb ab (inr l) ih = ih ea l
    go true b ea eb ab w ih = let z : ◌≡◌ {A = ℕ} 0 1 = cc in absurd (omega arith)

-- a search that succeeds finds a number
pub some_witness : (p : ℕ → Bool) (n : ℕ) → some p n ≡ true → (b : ℕ) × (b < n) × (p b ≡ true)
unfolding some
some_witness p zero e = absurd (true≢false (sym e))
some_witness p (suc n) e = go (p n) refl (some p n) refl e (some_witness p n)
  where
    go : (x : Bool) → p n ≡ x → (y : Bool) → some p n ≡ y → y || x ≡ true → (some p n ≡ true → (b : ℕ) × (b < n) × (p b ≡ true))
        → (b : ℕ) × (b < suc n) × (p b ≡ true)
    go true ex y ey h f = (n, omega arith, ex)
    go false ex true ey h f = let w = f ey in (w.0, omega (arith, w.1), w.2)
    go false ex false ey h f = absurd (true≢false (sym h))

-- Laws of `specs/Count`.
use mathlib.Core.Path.{◌≡◌, refl, sym, ap, subst, ◌∙◌}
use mathlib.Core.Bool.{Bool, true, false, ◌&&◌}
use Prim.Native.Nat.{ℕ, zero, suc, ◌+◌, ◌≤◌, ◌<◌}
use mathlib.Core.Logic.{◌≢◌}
use native.Mathlib.Decide.{ℕ_discrete}
use native.Mathlib.Omega.{arith}
use native.Mathlib.Nat.{le_refl}
use lib.Dec.{T, eqb}
use Rattle.settings.specs.Count.{one_if, count, common}

pub one_is : (b : Bool) → eqb (one_if b) 1 ≡ b
one_is true = refl
one_is false = refl

pub count_at_most : (p : ℕ → Bool) (n : ℕ) → count p n ≤ n
unfolding count
count_at_most p zero = le_refl _
count_at_most p (suc n) = go (p n) (count_at_most p n)
  where
    go : (b : Bool) → count p n ≤ n → count p n + one_if b ≤ suc n
    go true h = omega arith
    go false h = omega arith

-- what two sets have beyond n in all, they have in common
pub count_common : (p r : ℕ → Bool) (n : ℕ) → count p n + count r n ≤ n + count (common p r) n
unfolding count common
count_common p r zero = le_refl _
count_common p r (suc n) = go (p n) (r n) (count_common p r n)
  where
    go : (a b : Bool)
        → count p n + count r n ≤ n + count (common p r) n
        → (count p n + one_if a) + (count r n + one_if b) ≤ suc n + (count (common p r) n + one_if (a && b))
    go true true h = omega arith
    go true false h = omega arith
    go false true h = omega arith
    go false false h = omega arith

-- a larger set counts at least as many
pub count_mono : (p r : ℕ → Bool) (n : ℕ) → ((b : ℕ) → b < n → T (p b) → T (r b)) → count p n ≤ count r n
unfolding count
count_mono p r zero h = le_refl _
count_mono p r (suc n) h = go (p n) (r n) (h n (le_refl _)) (count_mono p r n (λ b l. h b (omega arith)))
  where
    go : (a b : Bool) → (T a → T b) → count p n ≤ count r n → count p n + one_if a ≤ count r n + one_if b
    go true true f l = omega arith
    go true false f l = absurd (f tt)
    go false true f l = omega arith
    go false false f l = omega arith

-- a set with a positive count has a brick, and a search finds it
pub count_witness : (p : ℕ → Bool) (n : ℕ) → 0 < count p n → (b : ℕ) × (b < n) × T (p b)
unfolding count
count_witness p zero h = absurd (omega arith)
count_witness p (suc n) h = go (p n) refl h (count_witness p n)
  where
    go : (a : Bool) → p n ≡ a → 0 < count p n + one_if a → (0 < count p n → (b : ℕ) × (b < n) × T (p b)) → (b : ℕ) × (b < suc n) × T (p b)
    go true e l f = (n, le_refl _, subst T (sym e) tt)
    go false e l f = let w = f (omega arith) in (w.0, omega (arith, w.1), w.2)

-- a set that counts none has none
pub count_none : (p : ℕ → Bool) (n b : ℕ) → count p n ≡ 0 → b < n → p b ≡ false
unfolding count
count_none p zero b e l = absurd (omega (arith, l))
count_none p (suc n) b e l = go (ℕ_discrete b n) (p n) refl e (count_none p n b)
  where
    go : Dec (b ≡ n) → (x : Bool) → p n ≡ x → count p n + one_if x ≡ 0 → (count p n ≡ 0 → b < n → p b ≡ false) → p b ≡ false
    go d true ex q ih = absurd (omega (arith, q))
    go (yes d) false ex q ih = ap p d ∙ ex
    go (no d) false ex q ih = ih (omega (arith, q)) (omega (arith, l, d))

-- a set with one brick more has at most one more
pub count_close : (p r : ℕ → Bool) (b n : ℕ) → ((i : ℕ) → i ≢ b → r i ≡ p i) → (n ≤ b → count r n ≤ count p n) × (count r n ≤ count p n + 1)
unfolding count
count_close p r b zero f = ((λ h. le_refl _), omega arith)
count_close p r b (suc n) f = go (ℕ_discrete n b) (r n) (p n) (f n) (count_close p r b n f)
  where
    go : Dec (n ≡ b) → (x y : Bool) → (n ≢ b → x ≡ y) → (n ≤ b → count r n ≤ count p n) × (count r n ≤ count p n + 1)
        → (suc n ≤ b → count r n + one_if x ≤ count p n + one_if y) × (count r n + one_if x ≤ count p n + one_if y + 1)
    go (yes e) x y g ih = ((λ h. absurd (omega (arith, e, h))), (let l = ih.0 (omega (arith, e)) in most x y l))
      where
        most : (x y : Bool) → count r n ≤ count p n → count r n + one_if x ≤ count p n + one_if y + 1
        most true true l = omega arith
        most true false l = omega arith
        most false true l = omega arith
        most false false l = omega arith
    go (no e) x y g ih =
        subst (λ (z : Bool). (suc n ≤ b → count r n + one_if x ≤ count p n + one_if z) × (count r n + one_if x ≤ count p n + one_if z + 1)) (g e)
        ((λ h. (let l = ih.0 (omega (arith, h)) in omega (arith, l))), omega (arith, ih.1))

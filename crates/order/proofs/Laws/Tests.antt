-- Tests on histories that compute: is a fact there, and did a brick store a time.
use mathlib.Core.Bool.{Bool, false, ◌&&◌, ◌||◌}
use mathlib.Core.List.{List, [], ◌∷◌}
use Prim.Native.Nat.{ℕ}
use lib.Dec.{eqb}
use Rattle.order.specs.Claim.{Plain}
use Rattle.order.specs.Facts.{Fact, began, promised, launched, stored, showed, ended, History}

-- some element passes
unfoldable pub any : {A : Type 0} → (A → Bool) → List A → Bool
any p [] = false
any p (x ∷ l) = p x || any p l

module _ {P : Plain} where
  unfoldable pub is_began : ℕ → Fact P → Bool
  is_began u (began t k) = eqb t u
  is_began u (promised b t) = false
  is_began u (launched t s) = false
  is_began u (stored b t) = false
  is_began u (showed b t c) = false
  is_began u (ended t e) = false

  unfoldable pub is_promised : ℕ → ℕ → Fact P → Bool
  is_promised a u (began t k) = false
  is_promised a u (promised b t) = eqb b a && eqb t u
  is_promised a u (launched t s) = false
  is_promised a u (stored b t) = false
  is_promised a u (showed b t c) = false
  is_promised a u (ended t e) = false

  unfoldable pub is_launched : ℕ → Fact P → Bool
  is_launched u (began t k) = false
  is_launched u (promised b t) = false
  is_launched u (launched t s) = eqb t u
  is_launched u (stored b t) = false
  is_launched u (showed b t c) = false
  is_launched u (ended t e) = false

  unfoldable pub is_stored : ℕ → ℕ → Fact P → Bool
  is_stored a u (began t k) = false
  is_stored a u (promised b t) = false
  is_stored a u (launched t s) = false
  is_stored a u (stored b t) = eqb b a && eqb t u
  is_stored a u (showed b t c) = false
  is_stored a u (ended t e) = false

  unfoldable pub is_showed : ℕ → ℕ → ℕ → Fact P → Bool
  is_showed a u d (began t k) = false
  is_showed a u d (promised b t) = false
  is_showed a u d (launched t s) = false
  is_showed a u d (stored b t) = false
  is_showed a u d (showed b t c) = eqb b a && eqb t u && eqb c d
  is_showed a u d (ended t e) = false

  unfoldable pub is_ended : ℕ → Fact P → Bool
  is_ended u (began t k) = false
  is_ended u (promised b t) = false
  is_ended u (launched t s) = false
  is_ended u (stored b t) = false
  is_ended u (showed b t c) = false
  is_ended u (ended t e) = eqb t u

  unfoldable pub stored? : History P → ℕ → ℕ → Bool
  stored? h u b = any (is_stored b u) h

  unfoldable pub promised? : History P → ℕ → ℕ → Bool
  promised? h u b = any (is_promised b u) h

  unfoldable pub showed? : History P → ℕ → ℕ → ℕ → Bool
  showed? h u d b = any (is_showed b u d) h

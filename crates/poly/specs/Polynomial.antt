-- Polynomials over a field, as lists of coefficients, and Lagrange's interpolation.
-- Assumes nothing.
use Rattle.std.specs.Prelude.{◌≡◌, Bool, true, false, List, [], ◌∷◌, ℕ, suc, ◌<◌, eqb}
use Rattle.poly.specs.Field.{Field}

-- The first of two values if the test holds, and else the second.
unfoldable pub pick : {A : Type 0} → Bool → A → A → A
pick true a b = a
pick false a b = b

module _ (F : Field) where
  open F use {carrier, zero, one, add, mul, neg, inv}

  -- a − b.
  unfoldable pub sub : carrier → carrier → carrier
  sub a b = add a (neg b)

  -- The value at x of the polynomial with these coefficients, lowest first: c₀ + c₁·x + c₂·x² + ..
  unfoldable pub eval : List carrier → carrier → carrier
  eval [] x = zero
  eval (c ∷ cs) x = add c (mul x (eval cs x))

  -- The first m points are different from each other.
  unfoldable pub Different : ℕ → (ℕ → carrier) → Type 0
  Different m pts = (i j : ℕ) → i < m → j < m → pts i ≡ pts j → i ≡ j

  -- f 0 + .. + f (k − 1).
  unfoldable pub sum : ℕ → (ℕ → carrier) → carrier
  sum ℕ.zero f = zero
  sum (suc k) f = add (sum k f) (f k)

  -- (x − pts k) / (pts i − pts k).
  unfoldable pub factor : (ℕ → carrier) → ℕ → ℕ → carrier → carrier
  factor pts i k x = mul (sub x (pts k)) (inv (sub (pts i) (pts k)))

  -- The product of these factors for each number below k but i.
  unfoldable pub basis_to : ℕ → (ℕ → carrier) → ℕ → carrier → carrier
  basis_to ℕ.zero pts i x = one
  basis_to (suc k) pts i x = pick (eqb k i) (basis_to k pts i x) (mul (basis_to k pts i x) (factor pts i k x))

  -- The product of x − pts j for each number j below k.
  unfoldable pub roots_to : ℕ → (ℕ → carrier) → carrier → carrier
  roots_to ℕ.zero pts x = one
  roots_to (suc k) pts x = mul (roots_to k pts x) (sub x (pts k))

  -- The same for each number below k but i.
  unfoldable pub others_to : ℕ → (ℕ → carrier) → ℕ → carrier → carrier
  others_to ℕ.zero pts i x = one
  others_to (suc k) pts i x = pick (eqb k i) (others_to k pts i x) (mul (others_to k pts i x) (sub x (pts k)))

  -- Lagrange's basis polynomial number i of m points, at x: 1 at point i, and 0 at the others.
  unfoldable pub basis : ℕ → (ℕ → carrier) → ℕ → carrier → carrier
  basis m pts i x = basis_to m pts i x

  -- Lagrange's value at x of the polynomial that has the value vals i at pts i, for each i below m.
  unfoldable pub interpolated : ℕ → (ℕ → carrier) → (ℕ → carrier) → carrier → carrier
  interpolated m pts vals x = sum m (λ i. mul (basis m pts i x) (vals i))

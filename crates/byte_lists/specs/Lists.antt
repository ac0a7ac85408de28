-- Lists made by a rule, one after the other, put into another, all zeros, compared.
use Rattle.std.specs.Prelude.{List, [], ◌∷◌, ◌++◌, ℕ, zero, suc, ◌+◌, Bool, true, false, ◌&&◌, eqb, length, take, drop, replicate}

-- f 0, f 1, .. f (k − 1)
unfoldable pub tabulate : ℕ → (ℕ → ℕ) → List ℕ
tabulate zero f = []
tabulate (suc k) f = tabulate k f ++ (f k ∷ [])

-- the lists f 0, f 1, .. f (k − 1), one after the other
unfoldable pub stacked : ℕ → (ℕ → List ℕ) → List ℕ
stacked zero f = []
stacked (suc k) f = stacked k f ++ f k

-- a list with other bytes placed into it from a place on
unfoldable pub put : ℕ → List ℕ → List ℕ → List ℕ
put at bytes l = take at l ++ bytes ++ drop (at + length bytes) l

-- k zeros
unfoldable pub zeros : ℕ → List ℕ
zeros k = replicate k 0

-- whether two lists of bytes are the same
unfoldable pub same : List ℕ → List ℕ → Bool
same [] [] = true
same [] (y ∷ ys) = false
same (x ∷ xs) [] = false
same (x ∷ xs) (y ∷ ys) = eqb x y && same xs ys

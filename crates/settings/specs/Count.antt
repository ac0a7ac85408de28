-- Sets of bricks, and how many of them: a set is a test on brick numbers, counted over 0 to n − 1.
use Rattle.std.specs.Prelude.{Bool, true, false, ◌&&◌, ℕ, zero, suc, ◌+◌}

abbrev pub one_if : Bool → ℕ
one_if true = 1
one_if false = 0

-- how many bricks b < n pass the test
unfoldable pub count : (ℕ → Bool) → ℕ → ℕ
count p zero = 0
count p (suc n) = count p n + one_if (p n)

-- the bricks in both sets
unfoldable pub common : (ℕ → Bool) → (ℕ → Bool) → ℕ → Bool
common p r b = p b && r b

-- A set of bricks as flags, a place for each possible brick: 1 for a brick of the set, 0 for any other.
use Rattle.std.specs.Prelude.{Bool, true, ◌&&◌, List, ℕ, zero, suc, eqb, leb, ltb, get_or}
use Rattle.settings.specs.Count.{count, one_if}
use Rattle.settings.specs.Ranges.{max_bricks}

-- brick b is in the set
unfoldable pub member : List ℕ → ℕ → Bool
member flags b = eqb (get_or flags b 0) 1

-- how many bricks below n are in the set
unfoldable pub members : List ℕ → ℕ → ℕ
members flags n = count (member flags) n

-- the first k flags are 0 or 1, and 0 for what is no brick below n
unfoldable pub flags_within : List ℕ → ℕ → ℕ → Bool
flags_within flags n zero = true
flags_within flags n (suc k) = flags_within flags n k && leb (get_or flags k 0) (one_if (ltb k n))

-- "m different bricks"
unfoldable pub brick_set : List ℕ → ℕ → ℕ → Bool
brick_set flags n m = flags_within flags n max_bricks && eqb (members flags n) m

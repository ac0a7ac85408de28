-- What a code computes (document 01, "Settings and the code"): blocks as values of polynomials, byte position by byte position.
use Rattle.std.specs.Prelude.{Bool, List, ℕ, ◌+◌, ◌*◌, ◌≤◌, ◌<◌, length, get_or, take, drop, ◌≡◌}
use Rattle.interpolate.specs.Bytes.{byte_field, byte}
use Rattle.byte_lists.specs.Each.{each}
use Rattle.byte_lists.specs.Lists.{tabulate, stacked, same}
use Rattle.poly.specs.Polynomial.{interpolated}
use Rattle.settings.specs.Ranges.{max_bricks}

-- byte p of block i, in a row of blocks of `size` bytes
unfoldable pub byte_at : ℕ → List ℕ → ℕ → ℕ → ℕ
byte_at size blocks i p = get_or blocks (i * size + p) 0

-- At byte position p, the value at point x of the polynomial that has, at each point of the list, that point's byte.
-- `interpolated` is Lagrange's value; that it is the value of the one polynomial of degree below m is proved in Polynomials.
unfoldable pub value_at : List ℕ → ℕ → List ℕ → ℕ → ℕ → ℕ
value_at points size blocks x p =
    (interpolated byte_field (length points) (λ (i : ℕ). byte (get_or points i 0)) (λ (i : ℕ). byte (byte_at size blocks i p)) (byte x)).0

-- the block at point x
unfoldable pub block_at : List ℕ → ℕ → List ℕ → ℕ → List ℕ
block_at points size blocks x = tabulate size (value_at points size blocks x)

-- the blocks at points 0 to count − 1, one after the other
unfoldable pub blocks_at : List ℕ → ℕ → List ℕ → ℕ → List ℕ
blocks_at points size blocks count = stacked count (block_at points size blocks)

-- E3: whether each of the blocks given at further points, one after the other, is the block there
unfoldable pub blocks_fit : (points : List ℕ) → (size : ℕ) → (blocks further given : List ℕ) → Bool
blocks_fit points size blocks further given =
    each (λ (i : ℕ). same (take size (drop (i * size) given)) (block_at points size blocks (get_or further i 0))) (length further)

-- at most as many points as there are bricks, all different
pub record PointSet (points : List ℕ) : Type 0 where
  pub few : length points ≤ max_bricks
  pub differ : (i j : ℕ) → i < length points → j < length points → get_or points i 0 ≡ get_or points j 0 → i ≡ j

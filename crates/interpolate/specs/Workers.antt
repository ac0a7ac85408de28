-- What the inner functions give.
use Rattle.std.specs.Prelude.{List, ◌≡◌, ℕ, ◌≤◌, ◌<◌, length, get_or}
use Rattle.byte_lists.specs.Lists.{tabulate}
use Rattle.gf256.specs.Product.{plus, product, inverse}
use Rattle.interpolate.specs.Bytes.{Byte, byte, byte_field}
use Rattle.interpolate.specs.Values.{PointSet}
use Rattle.poly.specs.Polynomial.{roots_to, others_to, basis}

-- a block and another one times w, added byte by byte
unfoldable pub scaled : ℕ → List ℕ → List ℕ → List ℕ
scaled w from to = tabulate (length to) (λ (p : ℕ). plus (get_or to p 0) (product w (get_or from p 0)))

-- a list of bytes as points of the field
abbrev pub points_of : List ℕ → ℕ → Byte
points_of points k = byte (get_or points k 0)

-- the product of x − b over the first k points b
unfoldable pub numerator : List ℕ → ℕ → ℕ → ℕ
numerator points x k = (roots_to byte_field k (points_of points) (byte x)).0

-- the product of b − c over the first k points c but b, which is point i
unfoldable pub denominator : List ℕ → ℕ → ℕ → ℕ
denominator points i k = (others_to byte_field k (points_of points) i (points_of points i)).0

-- Lagrange's weight of point i at x
unfoldable pub weight : List ℕ → ℕ → ℕ → ℕ
weight points i x = (basis byte_field (length points) (points_of points) i (byte x)).0

-- for each point, the product of its differences to the first k points but itself
pub record Differences (points : List ℕ) (k : ℕ) (products : List ℕ) : Type 0 where
  pub entry : (i : ℕ) → i < length points → get_or products i 0 ≡ denominator points i k

-- for each point, its share in its weights: the inverse of its denominator
pub record Shares (points shares : List ℕ) : Type 0 where
  pub entry : (i : ℕ) → i < length points → get_or shares i 0 ≡ inverse (denominator points i (length points))

-- the weight of each point at x
pub record Weights (points : List ℕ) (x : ℕ) (weights : List ℕ) : Type 0 where
  pub entry : (i : ℕ) → i < length points → get_or weights i 0 ≡ weight points i x

-- none of the further points is among the points
pub record Apart (points further : List ℕ) : Type 0 where
  pub none : (i k : ℕ) → i < length further → k < length points → get_or points k 0 ≡ get_or further i 0 → ⊥

-- What a block is worked out from: the points, and the share of each.
pub record PointsReady (points shares : List ℕ) : Type 0 where
  pub set : PointSet points
  pub bytes : (k : ℕ) → get_or points k 0 < 256
  pub size : length points ≤ length shares
  pub shares-right : Shares points shares

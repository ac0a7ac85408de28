-- What the inner workers of this crate ask and give.
use Rattle.std.specs.Prelude.{List, ℕ, ◌*◌, ◌≤◌, ◌<◌, length, get_or, ◌≡◌}
use Rattle.settings.specs.Ranges.{CodeRange, max_bricks, max_size}

-- an encoding that is not refused
pub record Encodes (n m size stripe coded : ℕ) : Type 0 where
  pub range : CodeRange n m size
  pub stripe-length : stripe ≡ m * size
  pub coded-length : coded ≡ n * size

-- a decoding whose list and lengths are not refused: m or more different bricks, a block for each
pub record Decodes (m size : ℕ) (bricks : List ℕ) (blocks stripe : ℕ) : Type 0 where
  pub m-high : m ≤ max_bricks
  pub size_low : 0 < size
  pub size-high : size ≤ max_size
  pub enough : m ≤ length bricks
  pub differ : (i j : ℕ) → i < length bricks → j < length bricks → get_or bricks i 0 ≡ get_or bricks j 0 → i ≡ j
  pub blocks-length : blocks ≡ length bricks * size
  pub stripe-length : stripe ≡ m * size

-- a brick of n and a data block of m
pub record RecodeRange (n m brick j : ℕ) : Type 0 where
  pub n-high : n ≤ max_bricks
  pub m-high : m ≤ n
  pub brick-below : brick < n
  pub block-below : j < m

-- three blocks to recode from, and one to fill
pub record OneLength (own old new out : ℕ) : Type 0 where
  pub old-length : old ≡ own
  pub new-length : new ≡ own
  pub out-length : out ≡ own

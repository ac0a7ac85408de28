-- What the inner workers of this crate ask.
use Rattle.std.specs.Prelude.{true, List, ◌≡◌, ℕ, ◌+◌, ◌*◌, ◌≤◌, ◌<◌, get_or, length}
use Rattle.coord_record.specs.Records.{on_block}
use Rattle.coord_record.specs.declared.Op.{Op}
use Rattle.settings.specs.Ranges.{max_bricks, max_size}

-- the block of each of the first k bricks of a row is within the blocks
pub record InPlace (k size : ℕ) (bricks blocks : List ℕ) : Type 0 where
  pub within : (i : ℕ) → i < k → get_or bricks i 0 * size + size ≤ length blocks

-- the first k bricks of a row are m or more to decode from, all different, each with its block in place
pub record HandedOn (m size k : ℕ) (row blocks : List ℕ) : Type 0 where
  pub size_low : 0 < size
  pub size-high : size ≤ max_size
  pub few : k ≤ max_bricks
  pub enough : m ≤ k
  pub differ : (i j : ℕ) → i < k → j < k → get_or row i 0 ≡ get_or row j 0 → i ≡ j
  pub in_place : InPlace k size row blocks

-- what holds where the blocks that an operation asked for are taken: the numbers are the lengths of the reply blocks and of the stripe
pub record BlocksReady (n m size : ℕ) (op : Op) (blocks stripe : ℕ) : Type 0 where
  pub first-low : op.first < n
  pub block-low : on_block op.kind ≡ true → op.first < m
  pub blocks-length : blocks ≡ n * size
  pub stripe-length : stripe ≡ m * size

-- How many bricks a read of one round names.
use mathlib.Core.Bool.{Bool, true, false, cond}
use Prim.Native.Nat.{ℕ, ◌≤◌}
use Rattle.coord_record.specs.Records.{on_block, target_count}
use Rattle.message.specs.Kinds.{block_targets}

-- a row of targets has at most n
pub few_targets : (n m kind : ℕ) → 1 ≤ n → m ≤ n → target_count m kind ≤ n
unfolding target_count
few_targets n m kind low high = go (on_block kind)
  where
    go : (b : Bool) → cond b block_targets m ≤ n
    go true = low
    go false = high

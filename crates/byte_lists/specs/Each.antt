-- A rule for each number, or for some number, below another: places, bricks, bytes.
use Rattle.std.specs.Prelude.{Bool, true, false, ◌&&◌, ◌||◌, ℕ, zero, suc}

-- the rule holds for each b below k
unfoldable pub each : (ℕ → Bool) → ℕ → Bool
each p zero = true
each p (suc k) = each p k && p k

-- the rule holds for some b below k
unfoldable pub some : (ℕ → Bool) → ℕ → Bool
some p zero = false
some p (suc k) = some p k || p k

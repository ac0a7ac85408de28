-- Quorums of bricks, and what it is that many of the bricks, or few, are so.
use Rattle.std.specs.Prelude.{Bool, ℕ, ◌+◌, ◌≤◌, ◌<◌, T}
use Rattle.settings.specs.Count.{count}

-- A set of n bricks, of which q are a quorum and m are enough to decode.
pub record Quorums : Type 0 where
  pub n : ℕ
  pub m : ℕ
  pub q : ℕ
  -- two quorums share at least m bricks
  pub share : n + m ≤ q + q
  -- and so at least one
  pub some : 1 ≤ m

-- At least k of the n bricks are so: those of a set that is large enough.
pub record Many (n k : ℕ) (Q : ℕ → Type 0) : Type 0 where
  pub set : ℕ → Bool
  pub enough : k ≤ count set n
  pub each : (b : ℕ) → b < n → T (set b) → Q b

-- Fewer than k of the n bricks are so: all that are so are in a set that is too small.
pub record Few (n k : ℕ) (Q : ℕ → Type 0) : Type 0 where
  pub set : ℕ → Bool
  pub small : count set n < k
  pub all : (b : ℕ) → b < n → Q b → T (set b)

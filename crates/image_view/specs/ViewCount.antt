-- The answer to "the count", by the paper's number.
use Rattle.std.specs.Prelude.{ℕ}

pub data Counted : Type 0 where
  Entries : ℕ → Counted
  Refused : ℕ → Counted

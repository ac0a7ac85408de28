-- What the inner workers of this crate give.
use Rattle.std.specs.Prelude.{◌≡◌, true, false, List, ℕ, ◌+◌, ◌<◌, length, take, Option, Some, None}
use Rattle.byte_lists.specs.Lists.{put}
use Rattle.bench_lines.specs.Cutting.{before_newline, has_newline, fitting}

-- Bytes more of a line, as many as there is room for: how many bytes are held, and the line's buffer.
pub record Kept (line : List ℕ) (held : ℕ) (bytes : List ℕ) (r : ℕ) (line' : List ℕ) : Type 0 where
  pub held-is : r ≡ held + length (fitting (length line) held bytes)
  pub line-is : line' ≡ put held (fitting (length line) held bytes) line

-- the place of the first newline, if there is one
abbrev pub NewlineIn : List ℕ → Option ℕ → Type 0
NewlineIn bytes None = (before_newline bytes ≡ bytes) × (has_newline bytes ≡ false)
NewlineIn bytes (Some k) = (before_newline bytes ≡ take k bytes) × (has_newline bytes ≡ true) × (k < length bytes)

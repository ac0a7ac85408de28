-- What the inner workers of this crate ask and give.
use Rattle.std.specs.Prelude.{List, [], ◌∷◌, ℕ, ◌+◌, ◌-◌, ◌*◌}
use Rattle.image_block.specs.Block.{body_bytes}

-- the bytes before the check is placed in front
unfoldable pub unchecked : List ℕ → List ℕ
unchecked body = 0 ∷ 0 ∷ body

-- the sum of the bytes
unfoldable pub total : List ℕ → ℕ
total [] = 0
total (b ∷ bs) = b + total bs

-- the check is summed in rows
abbrev pub sum_row_bytes : ℕ
sum_row_bytes = 64

-- the most that the bytes of a row add up to, each counted once,
abbrev pub plain_most : ℕ
plain_most = sum_row_bytes * 255

-- each counted by its place in the row,
abbrev pub rising_most : ℕ
rising_most = sum_row_bytes * plain_most

-- and each by its place in the body; the first byte of the last row counts once more than this
abbrev pub row_most : ℕ
row_most = body_bytes * plain_most

abbrev pub past_most : ℕ
past_most = body_bytes - sum_row_bytes

-- Document 02, E2: "Brick j stores the new block, parity bricks their recoded one": a parity brick's own block plus its weight of block j
-- times the sum of block j's old and new bytes.
use Rattle.std.specs.Prelude.{List, ℕ, eqb, length, get_or}
use Rattle.byte_lists.specs.Lists.{tabulate}
use Rattle.erasure.specs.Code.{coded_of}
use Rattle.gf256.specs.Product.{plus, product}
use Rattle.interpolate.specs.Values.{byte_at}
use Rattle.settings.specs.Count.{one_if}

-- the stripe of m blocks of one byte that is 1 at j and 0 elsewhere
unfoldable pub unit_stripe : (m j : ℕ) → List ℕ
unit_stripe m j = tabulate m (λ (i : ℕ). one_if (eqb i j))

-- the weight of data block j at a brick: that stripe's coded value there
unfoldable pub weight_at : (n m brick j : ℕ) → ℕ
weight_at n m brick j = byte_at 1 (coded_of n m 1 (unit_stripe m j)) brick 0

-- a block plus w times the sum of two others, byte by byte
unfoldable pub with_change : (w : ℕ) → (own old new : List ℕ) → List ℕ
with_change w own old new = tabulate (length own) (λ (p : ℕ). plus (get_or own p 0) (product w (plus (get_or old p 0) (get_or new p 0))))

-- a brick's own block recoded after data block j changed from old to new
unfoldable pub recoded_block : (n m brick j : ℕ) → (own old new : List ℕ) → List ℕ
recoded_block n m brick j own old new = with_change (weight_at n m brick j) own old new

-- Document 01, "What a coordinator does": the stripe that reply blocks decode to, what a read gives and what a recovery stores.
use Rattle.std.specs.Prelude.{Bool, cond, List, ℕ, eqb, take}
use Rattle.coord_record.specs.Records.{writing_block_kind, on_block}
use Rattle.coord_record.specs.declared.Op.{Op}
use Rattle.coord_tally.specs.Counting.{target_row}
use Rattle.erasure.specs.Code.{decoded_of, agree, block_of, blocks_of, with_block}

-- the stripe that the blocks of a list of bricks decode to, out of the reply blocks
unfoldable pub stripe_from : (m size : ℕ) → (bricks blocks : List ℕ) → List ℕ
stripe_from m size bricks blocks = decoded_of m size bricks (blocks_of size blocks bricks)

-- E3: whether they lie on one polynomial
unfoldable pub agreeing : (m size : ℕ) → (bricks blocks : List ℕ) → Bool
agreeing m size bricks blocks = agree m size bricks (blocks_of size blocks bricks)

-- what a read of one round gives: "it decodes"; E2: of a read of block j, that block, from brick j
unfoldable pub given_stripe : (n m size : ℕ) → Op → (blocks stripe : List ℕ) → List ℕ
given_stripe n m size op blocks stripe =
    cond (on_block op.kind) (with_block size stripe op.first (block_of size blocks op.first))
    (stripe_from m size (take m (target_row n m op.first)) blocks)

-- what a recovery stores: the stripe decoded; E2: of a write of block j, "with block j replaced"
unfoldable pub stored_stripe : (size : ℕ) → Op → (stripe decoded : List ℕ) → List ℕ
stored_stripe size op stripe decoded =
    cond (eqb op.kind writing_block_kind) (with_block size decoded op.first (block_of size stripe op.first)) decoded

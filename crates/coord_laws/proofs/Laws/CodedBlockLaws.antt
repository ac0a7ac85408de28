-- The reply blocks and the stripe: m or more right blocks agree, and give the stripe.
use mathlib.Core.Path.{◌≡◌, ap, ◌∙◌}
use mathlib.Core.Bool.{true}
use mathlib.Core.List.{List}
use Prim.Native.Nat.{ℕ, ◌<◌}
use lib.ListN.{length, get_or}
use Rattle.coord_blocks.proofs.Laws.BufferLaws.{stacked_ext}
use Rattle.coord_blocks.specs.Blocks.{stripe_from, agreeing}
use Rattle.erasure.specs.Code.{coded_of, decoded_of, agree, block_of, blocks_of, Stripe, Bricks}
use Rattle.erasure.proofs.Laws.CodeTheoremLaws.{decode_after_encode, coded_blocks_agree}

-- Bricks whose blocks are those of a coded stripe, m or more and all different:
module _ (n m size : ℕ) (bricks blocks stripe : List ℕ) (proper : Stripe m size stripe) (b : Bricks n m bricks)
    (coded : (i : ℕ) → i < length bricks → block_of size blocks (get_or bricks i 0) ≡ block_of size (coded_of n m size stripe) (get_or bricks i 0)) where
  coded_blocks : blocks_of size blocks bricks ≡ blocks_of size (coded_of n m size stripe) bricks
  unfolding blocks_of
  coded_blocks = stacked_ext (length bricks) _ _ coded

  -- THE STRIPE IS READ BACK,
  pub stripe_read : stripe_from m size bricks blocks ≡ stripe
  unfolding stripe_from
  stripe_read = ap (decoded_of m size bricks) coded_blocks ∙ decode_after_encode n m size stripe bricks proper b

  -- AND THEY AGREE.
  pub blocks_agree : agreeing m size bricks blocks ≡ true
  unfolding agreeing
  blocks_agree = ap (agree m size bricks) coded_blocks ∙ coded_blocks_agree n m size stripe bricks proper b

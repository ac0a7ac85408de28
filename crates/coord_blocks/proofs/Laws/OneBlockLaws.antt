-- Operations on one block: what they give and store (E2).
use mathlib.Core.Path.{◌≡◌, ap, ◌∙◌}
use mathlib.Core.Bool.{Bool, true, false, cond}
use mathlib.Core.List.{List}
use Prim.Native.Nat.{ℕ, ◌+◌, ◌*◌, ◌≤◌, ◌<◌}
use native.Mathlib.Omega.{arith}
use Rattle.coord_blocks.proofs.Laws.BufferLaws.{block_within}
use Rattle.coord_blocks.specs.Blocks.{agreeing, stored_stripe}
use Rattle.coord_record.specs.Records.{writing_block_kind, on_block}
use Rattle.coord_record.specs.declared.Op.{Op}

-- block j of a block write lies within the stripe
pub write_within : (m size stripe : ℕ) (op : Op) → (on_block op.kind ≡ true → op.first < m) → stripe ≡ m * size → op.kind ≡ writing_block_kind
    → op.first * size + size ≤ stripe
unfolding on_block
write_within m size stripe op h e k = let q = block_within m size op.first (h (rw k)) in omega arith

-- what a recovery stores, if the blocks agree
pub stored_by : (size : ℕ) (op : Op) (b : Bool) (decoded decoded' stripe s : List ℕ) → s ≡ cond b (stored_stripe size op stripe decoded) stripe → decoded ≡ decoded'
    → s ≡ cond b (stored_stripe size op stripe decoded') stripe
stored_by size op b decoded decoded' stripe s e q = e ∙ ap (λ (l : List ℕ). cond b (stored_stripe size op stripe l) stripe) q

pub agreeing_by : (m size : ℕ) (b : Bool) (row row' blocks : List ℕ) → b ≡ agreeing m size row blocks → row ≡ row' → b ≡ agreeing m size row' blocks
agreeing_by m size b row row' blocks e er = e ∙ ap (λ (l : List ℕ). agreeing m size l blocks) er

-- left, where the blocks disagree
pub left_as_it_was : (b : Bool) (decoded stripe stripe' : List ℕ) → b ≡ false → stripe' ≡ cond b decoded stripe → stripe' ≡ stripe
left_as_it_was b decoded stripe stripe' eb es = es ∙ ap (λ (a : Bool). cond a decoded stripe) eb

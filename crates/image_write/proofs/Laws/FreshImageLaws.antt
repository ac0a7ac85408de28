-- A fresh image, block by block.
use mathlib.Core.Path.{◌≡◌, refl, sym, subst, ◌∙◌}
use mathlib.Core.List.{List}
use Prim.Native.Nat.{ℕ, zero, suc, ◌+◌, ◌-◌, ◌<◌}
use native.Mathlib.Omega.{arith}
use lib.ListN.{length}
use borrow.Author.Tests.{lt-ltb, le-ltb, le-leb, eq-eqb, ne_eqb}
use Rattle.settings.specs.Ranges.{SettingsRange}
use Rattle.settings.specs.declared.Settings.{Settings}
use Rattle.image_block.specs.Block.{head_block, entry_block}
use Rattle.byte_lists.specs.Lists.{put, zeros}
use Rattle.image_block.proofs.Laws.LayoutLaws.{head_length, entry_length}
use Rattle.byte_lists.proofs.Laws.ZeroLaws.{zeros_length}
use Rattle.image.specs.Brick.{entry_count, time_at, means_at, mark_at, fresh_brick}
use Rattle.image.specs.Image.{slot_block, image_block, image_of, image_size}
use Rattle.image.specs.Opening.{lending_refusal}
use Rattle.image.specs.Parse.{image_block_at}
use Rattle.image_write.specs.Workers.{cleared}
use Rattle.image_write.proofs.Laws.BlocksLaws.{Blocks, blocks_of_lem, blocks_put, blocks_ext, blocks_is, placed, cleared_of, cleared_blocks}
use Rattle.image_write.specs.Saving.{fresh_after}
use Rattle.image_block.specs.Block.{block_bytes}

fresh_block : (s : Settings) (brick : ℕ) (g : ℕ → List ℕ) (k : ℕ) → k < s.capacity + 1
    → cleared_of (placed (placed g 0 (head_block s brick 1 0)) 1 (entry_block 0 (zeros s.size))) 2 (s.capacity + 1) k ≡ image_block s brick (fresh_brick s) k
unfolding cleared_of placed image_block slot_block fresh_brick entry_count time_at means_at mark_at
fresh_block s brick g zero h = refl
fresh_block s brick g (suc zero) h = refl
fresh_block s brick g (suc (suc i)) h =
    rw (le-leb 2 (suc (suc i)) (omega arith), lt-ltb (suc (suc i)) (s.capacity + 1) h, le-ltb (suc i) 1 (omega arith)) refl

pub fresh_made : (s : Settings) (brick : ℕ) (l l₁ l₂ l₃ : List ℕ) → SettingsRange s → length l ≡ image_size s
    → l₁ ≡ put 0 (head_block s brick 1 0) l → l₂ ≡ put block_bytes (entry_block 0 (zeros s.size)) l₁
    → l₃ ≡ cleared 2 (s.capacity + 1 - 2) l₂
    → l₃ ≡ image_of s brick (fresh_brick s)
unfolding image_size image_of
fresh_made s brick l l₁ l₂ l₃ range long e₁ e₂ e₃ =
    let n : ℕ = s.capacity + 1 in
    let h : List ℕ = head_block s brick 1 0 in
    let e : List ℕ = entry_block 0 (zeros s.size) in
    let b₁ : Blocks (placed (image_block_at l) 0 h) (s.capacity + 1) l₁ =
    subst (λ (x : List ℕ). Blocks (placed (image_block_at l) 0 h) (s.capacity + 1) x) (sym e₁)
    (blocks_put (image_block_at l) (s.capacity + 1) 0 h l (omega arith) (head_length s brick 1 0) (blocks_of_lem l (s.capacity + 1) long)) in
    let b₂ : Blocks (placed (placed (image_block_at l) 0 h) 1 e) (s.capacity + 1) l₂ =
    subst (λ (x : List ℕ). Blocks (placed (placed (image_block_at l) 0 h) 1 e) (s.capacity + 1) x) (sym e₂)
    (blocks_put (placed (image_block_at l) 0 h) (s.capacity + 1) 1 e l₁ (omega (arith, range.capacity-low))
    (entry_length 0 (zeros s.size) (omega (arith, zeros_length s.size, range.code.size-high))) b₁) in
    blocks_is (image_block s brick (fresh_brick s)) (s.capacity + 1) l₃
    (blocks_ext (cleared_of (placed (placed (image_block_at l) 0 h) 1 e) 2 (s.capacity + 1)) (image_block s brick (fresh_brick s)) (s.capacity + 1) l₃
    (fresh_block s brick (image_block_at l))
    (cleared_blocks (placed (placed (image_block_at l) 0 h) 1 e) (s.capacity + 1) 2 (s.capacity + 1) l₂ l₃ (omega (arith, range.capacity-low)) (omega arith) e₃ b₂))

-- the ways of the writer
pub fresh_refused : (s : Settings) (brick : ℕ) (l : List ℕ) (k : ℕ) → k ≡ lending_refusal s brick (length l) → (k ≡ 0 → ⊥) → l ≡ fresh_after s brick l
unfolding fresh_after
fresh_refused s brick l k e z = rw (← e, ne_eqb k 0 z) refl

pub fresh_written : (s : Settings) (brick : ℕ) (l after : List ℕ) (k : ℕ) → k ≡ lending_refusal s brick (length l) → k ≡ 0 → after ≡ image_of s brick (fresh_brick s)
    → after ≡ fresh_after s brick l
unfolding fresh_after
fresh_written s brick l after k e z w = w ∙ sym (rw (← e, eq-eqb k 0 z) refl)

-- The ways of giving an entry its block in its own place.
use mathlib.Core.Path.{◌≡◌, refl, sym, ap, ◌∙◌}
use mathlib.Core.List.{List}
use Prim.Native.Nat.{ℕ, ◌+◌, ◌-◌, ◌*◌}
use lib.ListN.{take, drop}
use borrow.Author.Tests.{eq-eqb, ne_eqb}
use Rattle.byte_lists.specs.Lists.{put}
use Rattle.image_block.specs.Block.{block_bytes, held_from, entry_block}
use Rattle.image.specs.Parse.{held_in}
use Rattle.image.proofs.Laws.FitLaws.{held_part}
use Rattle.image.proofs.Laws.ScanLaws.{part_is}
use Rattle.image_write.specs.Workers.{held_own}

pub held_here : (size own holder time : ℕ) (l : List ℕ) → holder ≡ own → l ≡ held_own size own holder time l
unfolding held_own
held_here size own holder time l e = rw (eq-eqb holder own e) refl

pub held_there : (size own holder time : ℕ) (l b after : List ℕ) → (holder ≡ own → ⊥)
    → b ≡ take (block_bytes * holder + block_bytes - block_bytes * holder) (drop (block_bytes * holder) l)
    → after ≡ put (block_bytes * own) (entry_block time (take (held_from + size - held_from) (drop held_from b))) l
    → after ≡ held_own size own holder time l
unfolding held_own
held_there size own holder time l b after n e f =
    f
    ∙ ap (λ (x : List ℕ). put (block_bytes * own) (entry_block time x) l)
    (held_part size b ∙ ap (held_in size) (e ∙ part_is l (block_bytes * holder) holder refl))
    ∙ sym (rw (ne_eqb holder own n) refl)

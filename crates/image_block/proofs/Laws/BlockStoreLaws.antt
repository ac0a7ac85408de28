-- The stores that make a block, as the lists that they leave.
use mathlib.Core.Path.{◌≡◌, refl, ap, ◌∙◌}
use mathlib.Core.List.{List, [], ◌∷◌, ◌++◌}
use Prim.Native.Nat.{ℕ, ◌+◌, ◌-◌, ◌/◌, ◌%◌, ◌≤◌}
use native.Mathlib.Omega.{arith}
use lib.ListN.{length, drop, set}
use Rattle.std.specs.Int.{to_le_bytes, w64}
use Rattle.byte_lists.specs.Little.{byte_of, little}
use Rattle.byte_lists.proofs.Laws.LittleLaws.{little_2, little_8}
use Rattle.settings.specs.Ranges.{max_size}
use Rattle.settings.specs.declared.Settings.{Settings}
use Rattle.image_block.specs.Block.{block_bytes, check_bytes, held_from, check_of, sealed, head_kind, head_body, slot_body}
use Rattle.image_block.specs.Workers.{unchecked}
use Rattle.byte_lists.specs.Lists.{zeros, put}
use Rattle.byte_lists.proofs.Laws.ZeroLaws.{zeros_take, zeros_drop}

-- the bytes of a number as the library gives them
pub le_8 : (n : ℕ) → to_le_bytes w64 n ≡ little 8 n
unfolding byte_of
le_8 n = little_8 n _ _ _ _ _ _ _ _ refl refl refl refl refl refl refl refl

pub head_stored : (s : Settings) (brick count promise : ℕ) (z c p : List ℕ) → z ≡ little 2 s.size → c ≡ little 2 count → p ≡ little 8 promise
    → put 12 p (put 10 c (put 8 z (0 ∷ 0 ∷ head_kind ∷ 0 ∷ s.n ∷ s.m ∷ brick ∷ s.capacity ∷ zeros (block_bytes - 8)))) ≡ unchecked (head_body s brick count promise)
unfolding unchecked head_body put little zeros
head_stored s brick count promise z c p ez ec ep = rw (ez, ec, ep) refl

pub sealed_stored : (l b : List ℕ) (check : ℕ) → check ≡ check_of (drop check_bytes l)
    → b ≡ check % 256 ∷ check / 256 % 256 ∷ [] → b ++ drop check_bytes l ≡ sealed (drop check_bytes l)
unfolding sealed byte_of
sealed_stored l b check e f = ap (λ (t : List ℕ). t ++ drop check_bytes l) (f ∙ little_2 check _ _ refl refl ∙ ap (little 2) e)

held_put : (block : List ℕ) → length block ≤ max_size → put held_from block (zeros block_bytes) ≡ zeros held_from ++ block ++ zeros (block_bytes - held_from - length block)
unfolding put
held_put block h =
    rw (zeros_take block_bytes held_from (omega arith), zeros_drop block_bytes (held_from + length block) (omega arith))
    (ap (λ (k : ℕ). zeros held_from ++ block ++ zeros k) (omega arith))

-- the stores of a block of the log
pub slot_stored : (kind time size : ℕ) (block b p z : List ℕ) → length block ≤ max_size → b ≡ put held_from block (zeros block_bytes) → p ≡ little 8 time → z ≡ little 2 size
    → put 12 z (put 4 p (set b 2 kind)) ≡ unchecked (slot_body kind time size block)
unfolding unchecked slot_body put little zeros
slot_stored kind time size block b p z h e ep ez = rw (e ∙ held_put block h, ep, ez) refl

-- sealing what was stored
pub sealed_of : (b r body : List ℕ) → b ≡ unchecked body → r ≡ sealed (drop check_bytes b) → r ≡ sealed body
unfolding unchecked
sealed_of b r body e f = f ∙ ap (λ (l : List ℕ). sealed (drop check_bytes l)) e

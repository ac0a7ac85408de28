-- The ways through the tests on single blocks.
use mathlib.Core.Path.{◌≡◌, sym, ap, ◌∙◌}
use mathlib.Core.Bool.{Bool}
use mathlib.Core.List.{List}
use Prim.Native.Nat.{ℕ, ◌+◌, ◌-◌, ◌*◌, ◌≤◌}
use native.Mathlib.Omega.{arith}
use lib.ListN.{take, drop}
use lib.Seq.{take-take, drop-drop}
use Rattle.byte_lists.proofs.Laws.PutLaws.{drop_take}
use Rattle.settings.specs.Ranges.{max_size}
use Rattle.image_block.specs.Block.{entry_body}
use Rattle.image_block.specs.Workers.{unchecked}
use Rattle.byte_lists.specs.Lists.{same}
use Rattle.image.specs.Parse.{image_block_at, held_in}
use Rattle.image_block.specs.Block.{block_bytes, check_bytes, held_from}

-- a comparison with a block that was built
pub same_built : (b body t : List ℕ) (r : Bool) → b ≡ unchecked body → r ≡ same (drop check_bytes t) (drop check_bytes b) → r ≡ same (drop check_bytes t) body
unfolding unchecked
same_built b body t r e f = f ∙ ap (λ (x : List ℕ). same (drop check_bytes t) (drop check_bytes x)) e

-- the bytes of a held block
pub held_bytes : (l : List ℕ) (size p : ℕ) → size ≤ max_size → take size (drop (block_bytes * p + held_from) l) ≡ held_in size (image_block_at l p)
unfolding held_in image_block_at
held_bytes l size p h =
    ap (λ (m : List ℕ). take size m) (sym (drop-drop held_from (block_bytes * p) l))
    ∙ sym (take-take size (block_bytes - held_from) (drop held_from (drop (block_bytes * p) l)) (omega arith))
    ∙ ap (λ (m : List ℕ). take size m) (sym (drop_take held_from (block_bytes - held_from) (drop (block_bytes * p) l)))

-- the part of a block that holds the entry's bytes
pub held_part : (size : ℕ) (t : List ℕ) → take (held_from + size - held_from) (drop held_from t) ≡ held_in size t
unfolding held_in
held_part size t = let e : held_from + size - held_from ≡ size = omega arith in ap (λ (k : ℕ). take k (drop held_from t)) e

pub entry_same : (size time : ℕ) (t b : List ℕ) (r : Bool) → b ≡ unchecked (entry_body time (take (held_from + size - held_from) (drop held_from t)))
    → r ≡ same (drop check_bytes t) (drop check_bytes b) → r ≡ same (drop check_bytes t) (entry_body time (held_in size t))
entry_same size time t b r e f = same_built b (entry_body time (held_in size t)) t r (e ∙ ap (λ (x : List ℕ). unchecked (entry_body time x)) (held_part size t)) f

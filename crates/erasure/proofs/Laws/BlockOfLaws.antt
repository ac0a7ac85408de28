-- The blocks of a row: their lengths and bytes, a row by its blocks, and a row with one block replaced.
use mathlib.Core.Path.{◌≡◌, sym, ap, subst, ◌∙◌}
use mathlib.Core.List.{List}
use Prim.Native.Nat.{ℕ, ◌+◌, ◌*◌, ◌/◌, ◌%◌, ◌≤◌, ◌<◌}
use native.Mathlib.Decide.{dec_lt, ℕ_discrete}
use native.Mathlib.Nat.{mul-le-mul_right, suc-mul, div-add-mod', mod-lt}
use native.Mathlib.Omega.{arith}
use lib.ListN.{length, get_or, take, drop, length-drop, get_or-eq_default}
use lib.Seq.{length-take-le}
use Rattle.byte_lists.specs.Lists.{put}
use Rattle.byte_lists.proofs.Laws.PutLaws.{put_length, put_in, put_before, put_behind}
use Rattle.erasure.specs.Code.{block_of, with_block, Stripe}
use Rattle.interpolate.proofs.Laws.WeightRowLaws.{part_byte}
use Rattle.interpolate.specs.Values.{byte_at}

-- block j of m lies within the row
pub block_within : (m size j : ℕ) (l : List ℕ) → length l ≡ m * size → j < m → j * size + size ≤ length l
block_within m size j l e h = let q = mul-le-mul_right size h in let s = suc-mul j size in omega arith

pub block_length : (size : ℕ) (l : List ℕ) (j : ℕ) → j * size + size ≤ length l → length (block_of size l j) ≡ size
unfolding block_of
block_length size l j h = length-take-le size (drop (j * size) l) (let d = length-drop (j * size) l in omega arith)

pub block_byte : (size : ℕ) (l : List ℕ) (j p : ℕ) → p < size → get_or (block_of size l j) p 0 ≡ byte_at size l j p
unfolding block_of
block_byte size l j p h = part_byte size l j p h

module _ (size : ℕ) (stripe : List ℕ) (j : ℕ) (block : List ℕ) (e : length block ≡ size) (h : j * size + size ≤ length stripe) where
  pub with_block_length : length (with_block size stripe j block) ≡ length stripe
  unfolding with_block
  with_block_length = put_length (j * size) block stripe (omega arith)

  -- the block itself
  pub block_with : block_of size (with_block size stripe j block) j ≡ block
  unfolding block_of with_block
  block_with = put_in (j * size) size block stripe e (omega arith)

  -- the others
  pub block_beside : (b : ℕ) → (b ≡ j → ⊥) → block_of size (with_block size stripe j block) b ≡ block_of size stripe b
  unfolding block_of with_block
  block_beside b n = go (dec_lt b j)
    where
      go : Dec (b < j) → take size (drop (b * size) (put (j * size) block stripe)) ≡ take size (drop (b * size) stripe)
      go (yes l) = put_before (j * size) (b * size) size block stripe (let q = mul-le-mul_right size l in let s = suc-mul b size in omega arith) (omega arith)
      go (no l) =
          let above : j < b = omega arith in
          put_behind (j * size) (b * size) size block stripe (let q = mul-le-mul_right size above in let s = suc-mul j size in omega arith) (omega arith)

-- a stripe stays one
pub with_block_stripe : (m size : ℕ) (stripe : List ℕ) (j : ℕ) (block : List ℕ) → Stripe m size stripe → length block ≡ size
    → ((i : ℕ) → get_or block i 0 < 256) → j < m → Stripe m size (with_block size stripe j block)
unfolding byte_at
with_block_stripe m size stripe j block s e small h = record { pos = s.pos; length-is = long ∙ s.length-is; small = λ i. by i (dec_lt i (m * size)) }
  where
    within : j * size + size ≤ length stripe
    within = block_within m size j stripe s.length-is h

    new : List ℕ
    new = with_block size stripe j block

    long : length new ≡ length stripe
    long = with_block_length size stripe j block e within

    at : (k p : ℕ) → p < size → Dec (k ≡ j) → byte_at size new k p < 256
    at k p hp (yes q) =
        subst (λ (x : ℕ). x < 256)
        (ap (λ (l : List ℕ). get_or l p 0) (sym (block_with size stripe j block e within)) ∙ block_byte size new j p hp ∙ ap (λ (x : ℕ). byte_at size new x p) (sym q))
        (small p)
    at k p hp (no n) =
        subst (λ (x : ℕ). x < 256)
        (sym (block_byte size stripe k p hp) ∙ ap (λ (l : List ℕ). get_or l p 0) (sym (block_beside size stripe j block e within k n)) ∙ block_byte size new k p hp)
        (s.small (k * size + p))

    by : (i : ℕ) → Dec (i < m * size) → get_or new i 0 < 256
    by i (yes u) =
        subst (λ (x : ℕ). get_or new x 0 < 256) (div-add-mod' i size)
        (at (i / size) (i % size) (mod-lt i s.pos) (ℕ_discrete (i / size) j))
    by i (no n) = let d = get_or-eq_default new 0 {n = i} (let l = long in let k = s.length-is in omega arith) in omega arith

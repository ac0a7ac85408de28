-- The theorems of `specs/CodeTheorems` on one block's change.
use mathlib.Core.Path.{◌≡◌, refl, sym, ap, ap₂, subst, ◌∙◌}
use mathlib.Core.Bool.{Bool, true, false}
use mathlib.Core.List.{List}
use Prim.Native.Nat.{ℕ, ◌+◌, ◌*◌, ◌≤◌, ◌<◌}
use native.Mathlib.Decide.{dec_lt, ℕ_discrete}
use native.Mathlib.Omega.{arith}
use lib.Dec.{eqb}
use lib.ListN.{length, get_or, get_or-eq_default}
use borrow.Author.Tests.{eq-eqb, ne_eqb}
use Rattle.byte_lists.specs.Lists.{tabulate}
use Rattle.byte_lists.proofs.Laws.StackLaws.{stacked_part}
use Rattle.byte_lists.proofs.Laws.TabulateLaws.{length_tabulate, get_d_tabulate, tabulate_by, Filled, filled_all}
use Rattle.erasure.specs.Code.{first_points, coded_of, block_of, with_block, Stripe}
use Rattle.erasure.specs.CodeTheorems.{RecodedIsCoded, OtherDataBlocksStay, WrittenBlockIsCoded}
use Rattle.erasure.specs.Recoding.{unit_stripe, weight_at, with_change, recoded_block}
use Rattle.erasure.proofs.Laws.BlockOfLaws.{block_within, block_length, block_byte, block_with, block_beside, with_block_stripe}
use Rattle.erasure.proofs.Laws.CodedByteLaws.{first_at_lem, first_small, first_differ, coded_byte}
use Rattle.erasure.proofs.Laws.CodeTheoremLaws.{coded_value, code_is_linear}
use Rattle.erasure.proofs.Laws.PassedLaws.{length_first}
use Rattle.gf256.specs.Product.{plus, product}
use Rattle.gf256.proofs.Laws.FieldLaws.{product_comm}
use Rattle.gf256.proofs.Laws.ProductLaws.{product_zero, product_one}
use Rattle.gf256.proofs.Laws.XorLaws.{plus_assoc, plus_self, plus_zero, zero_plus, plus_byte}
use Rattle.interpolate.proofs.Laws.BlockLaws.{length_block_at, value_byte}
use Rattle.interpolate.proofs.Laws.WeightRowLaws.{row_copy}
use Rattle.interpolate.specs.Bytes.{Byte, byte, byte_field}
use Rattle.interpolate.specs.Values.{byte_at, block_at, blocks_at}
use Rattle.interpolate.specs.Workers.{points_of}
use Rattle.poly.proofs.Laws.InterpolationLaws.{interpolated_cong}
use Rattle.settings.specs.Count.{one_if}
use Rattle.settings.specs.Ranges.{CodeRange, max_bricks}

-- coded block b is the block at point b
pub coded_block : (n m size : ℕ) (stripe : List ℕ) (b : ℕ) → b < n → block_of size (coded_of n m size stripe) b ≡ block_at (first_points m) size stripe b
unfolding block_of coded_of blocks_at
coded_block n m size stripe b h = stacked_part n size (block_at (first_points m) size stripe) b (length_block_at (first_points m) size stripe) h

-- at a data brick it is the data block
pub data_coded : (n m size : ℕ) (stripe : List ℕ) (b : ℕ) → CodeRange n m size → Stripe m size stripe → b < m
    → block_of size (coded_of n m size stripe) b ≡ block_of size stripe b
unfolding block_of
data_coded n m size stripe b r s h =
    let few : m ≤ max_bricks = (let a = r.m-high in let c = r.n-high in omega arith) in
    let l = length_first m in
    coded_block n m size stripe b (let a = r.m-high in omega arith)
    ∙ sym
    (row_copy (first_points m) size stripe (block_of size stripe b) b b (first_small m few) s.small
    (λ i j hi hj. first_differ m i j (omega arith) (omega arith)) (omega arith) (first_at_lem m b h) refl
    (block_length size stripe b (block_within m size b stripe s.length-is h)))

pub other_data_blocks_stay : OtherDataBlocksStay
other_data_blocks_stay n m size stripe new j b r s e small hj hb apart =
    data_coded n m size (with_block size stripe j new) b r (with_block_stripe m size stripe j new s e small hj) hb
    ∙ block_beside size stripe j new e (block_within m size j stripe s.length-is hj) b apart
    ∙ sym (data_coded n m size stripe b r s hb)

pub written_block_is_coded : WrittenBlockIsCoded
written_block_is_coded n m size stripe new j r s e small hj =
    data_coded n m size (with_block size stripe j new) j r (with_block_stripe m size stripe j new s e small hj) hj
    ∙ block_with size stripe j new e (block_within m size j stripe s.length-is hj)

-- the bytes at position p of the m blocks: a stripe of blocks of one byte
column : (m size : ℕ) → List ℕ → ℕ → List ℕ
column m size stripe p = tabulate m (λ (i : ℕ). byte_at size stripe i p)

-- a table's entries, with zeros past its end
past_end : (m : ℕ) (f : ℕ → ℕ) (i : ℕ) → m ≤ i → get_or (tabulate m f) i 0 ≡ 0
past_end m f i h = get_or-eq_default (tabulate m f) 0 {n = i} (let l = length_tabulate m f in omega arith)

entry_below : (m : ℕ) (f : ℕ → ℕ) (P : ℕ → Type 0) → ((i : ℕ) → i < m → P (f i)) → P 0 → (i : ℕ) → P (get_or (tabulate m f) i 0)
entry_below m f P h z i = by (dec_lt i m)
  where
    by : Dec (i < m) → P (get_or (tabulate m f) i 0)
    by (yes u) = subst P (sym (get_d_tabulate m f i u)) (h i u)
    by (no n) = subst P (sym (past_end m f i (omega arith))) z

-- coding goes by columns
coded_column : (n m size : ℕ) (stripe : List ℕ) (b p : ℕ) → b < n → p < size
    → byte_at size (coded_of n m size stripe) b p ≡ byte_at 1 (coded_of n m 1 (column m size stripe p)) b 0
unfolding byte_at column
coded_column n m size stripe b p hb hp =
    coded_value n m size stripe b p hb hp
    ∙ ap (λ (x : Byte). x.0)
    (interpolated_cong byte_field m (points_of (first_points m)) (points_of (first_points m)) (λ (i : ℕ). byte (byte_at size stripe i p))
    (λ (i : ℕ). byte (byte_at 1 (column m size stripe p) i 0)) (byte b) (λ i h. refl)
    (λ i h. ap byte (sym (ap (λ (k : ℕ). get_or (column m size stripe p) k 0) (let e : i * 1 + 0 ≡ i = omega arith in e) ∙ get_d_tabulate m (λ (i : ℕ). byte_at size stripe i p) i h))))
    ∙ sym (coded_value n m 1 (column m size stripe p) b 0 hb (omega arith))

-- old + (old + new) = new
plus_back : (a b : ℕ) → b ≡ plus a (plus a b)
plus_back a b = sym (sym (plus_assoc a a b) ∙ ap (λ (x : ℕ). plus x b) (plus_self a) ∙ zero_plus b)

-- every coded byte, so every weight, is a byte
weight_byte : (n m brick j : ℕ) → brick < n → weight_at n m brick j < 256
unfolding weight_at
weight_byte n m brick j h =
    subst (λ (x : ℕ). x < 256) (sym (coded_byte n m 1 (unit_stripe m j) brick 0 h (omega arith))) (value_byte (first_points m) 1 (unit_stripe m j) brick 0)

module _ (n m size : ℕ) (stripe new : List ℕ) (j : ℕ) (s : Stripe m size stripe) (e : length new ≡ size) (small : (i : ℕ) → get_or new i 0 < 256) (hj : j < m) where
  within : j * size + size ≤ length stripe
  within = block_within m size j stripe s.length-is hj

  after : List ℕ
  after = with_block size stripe j new

  -- the change of block j at position p
  change : ℕ → ℕ
  change p = plus (get_or (block_of size stripe j) p 0) (get_or new p 0)

  small_at : (i p : ℕ) → byte_at size stripe i p < 256
  unfolding byte_at
  small_at i p = s.small (i * size + p)

  change_byte : (p : ℕ) → p < size → change p < 256
  unfolding change
  change_byte p hp = plus_byte _ _ (subst (λ (x : ℕ). x < 256) (sym (block_byte size stripe j p hp)) (small_at j p)) (small p)

  -- one column after the change is the column before and the change times the unit stripe
  column_after : (p : ℕ) → p < size → (i : ℕ)
      → get_or (column m size after p) i 0 ≡ plus (get_or (column m size stripe p) i 0) (product (change p) (get_or (unit_stripe m j) i 0))
  unfolding column unit_stripe after change
  column_after p hp i = by (dec_lt i m)
    where
      at : Dec (i ≡ j) → byte_at size after i p ≡ plus (byte_at size stripe i p) (product (change p) (one_if (eqb i j)))
      at (yes q) =
          rw (eq-eqb i j q, product_one (change p), q)
          (sym (block_byte size after j p hp) ∙ ap (λ (l : List ℕ). get_or l p 0) (block_with size stripe j new e within)
          ∙ plus_back (byte_at size stripe j p) (get_or new p 0)
          ∙ ap (λ (x : ℕ). plus (byte_at size stripe j p) (plus x (get_or new p 0))) (sym (block_byte size stripe j p hp)))
      at (no apart) =
          rw (ne_eqb i j apart, product_zero (change p), plus_zero (byte_at size stripe i p))
          (sym (block_byte size after i p hp) ∙ ap (λ (l : List ℕ). get_or l p 0) (block_beside size stripe j new e within i apart) ∙ block_byte size stripe i p hp)

      by : Dec (i < m) → get_or (column m size after p) i 0 ≡ plus (get_or (column m size stripe p) i 0) (product (change p) (get_or (unit_stripe m j) i 0))
      by (yes u) =
          get_d_tabulate m (λ (i : ℕ). byte_at size after i p) i u ∙ at (ℕ_discrete i j)
          ∙ ap₂ (λ (x y : ℕ). plus x (product (change p) y)) (sym (get_d_tabulate m (λ (i : ℕ). byte_at size stripe i p) i u))
          (sym (get_d_tabulate m (λ (i : ℕ). one_if (eqb i j)) i u))
      by (no u) =
          past_end m (λ (i : ℕ). byte_at size after i p) i (omega arith)
          ∙ sym (ap (plus 0) (product_zero (change p)) ∙ plus_zero 0)
          ∙ ap₂ (λ (x y : ℕ). plus x (product (change p) y)) (sym (past_end m (λ (i : ℕ). byte_at size stripe i p) i (omega arith)))
          (sym (past_end m (λ (i : ℕ). one_if (eqb i j)) i (omega arith)))

  -- the recoded byte
  recoded_byte : (brick p : ℕ) → brick < n → p < size
      → byte_at size (coded_of n m size after) brick p ≡ plus (byte_at size (coded_of n m size stripe) brick p) (product (weight_at n m brick j) (change p))
  unfolding column unit_stripe weight_at
  recoded_byte brick p hb hp =
      coded_column n m size after brick p hb hp
      ∙ code_is_linear n m 1 (column m size stripe p) (unit_stripe m j) (column m size after p) (change p) (change_byte p hp)
      (entry_below m (λ (i : ℕ). byte_at size stripe i p) (λ (x : ℕ). x < 256) (λ i u. small_at i p) (omega arith))
      (entry_below m (λ (i : ℕ). one_if (eqb i j)) (λ (x : ℕ). x < 256) (λ i u. bit_byte (eqb i j)) (omega arith))
      (column_after p hp) brick 0 hb (omega arith)
      ∙ ap₂ plus (sym (coded_column n m size stripe brick p hb hp)) (product_comm (change p) (weight_at n m brick j) (change_byte p hp) (weight_byte n m brick j hb))
    where
      bit_byte : (t : Bool) → one_if t < 256
      bit_byte true = omega arith
      bit_byte false = omega arith

pub recoded_is_coded : RecodedIsCoded
unfolding recoded_block with_change change after
recoded_is_coded n m size stripe new j brick r s e small hj hb =
    ap (λ (k : ℕ). tabulate k (λ (p : ℕ). plus (get_or own p 0) (product (weight_at n m brick j) (change n m size stripe new j s e small hj p)))) (long stripe)
    ∙ sym
    (tabulate_by size (λ (p : ℕ). plus (get_or own p 0) (product (weight_at n m brick j) (change n m size stripe new j s e small hj p)))
    (block_of size (coded_of n m size (with_block size stripe j new)) brick) (long (with_block size stripe j new))
    (λ p hp.
    block_byte size (coded_of n m size (with_block size stripe j new)) brick p hp
    ∙ recoded_byte n m size stripe new j s e small hj brick p hb hp
    ∙ ap (λ (x : ℕ). plus x (product (weight_at n m brick j) (change n m size stripe new j s e small hj p))) (sym (block_byte size (coded_of n m size stripe) brick p hp))))
  where
    own : List ℕ
    own = block_of size (coded_of n m size stripe) brick

    long : (l : List ℕ) → length (block_of size (coded_of n m size l) brick) ≡ size
    long l = ap length (coded_block n m size l brick hb) ∙ length_block_at (first_points m) size l brick

-- a slice filled byte by byte with the change
pub change_filled : (w : ℕ) (own old new was out : List ℕ) (k : ℕ)
    → Filled (λ (p : ℕ). plus (get_or own p 0) (product w (plus (get_or old p 0) (get_or new p 0)))) was out k → length was ≤ k → length was ≡ length own
    → out ≡ with_change w own old new
unfolding with_change
change_filled w own old new was out k f h e =
    filled_all _ was out k f h ∙ ap (λ (l : ℕ). tabulate l (λ (p : ℕ). plus (get_or own p 0) (product w (plus (get_or old p 0) (get_or new p 0))))) e

-- the change by the brick's weight is the recoded block
pub recoded_by : (n m brick j w : ℕ) (own old new out : List ℕ) → w ≡ weight_at n m brick j → out ≡ with_change w own old new
    → out ≡ recoded_block n m brick j own old new
unfolding recoded_block
recoded_by n m brick j w own old new out ew eo = eo ∙ ap (λ (x : ℕ). with_change x own old new) ew

-- recoding keeps the length
pub recoded_length : (n m brick j : ℕ) (own old new : List ℕ) → length (recoded_block n m brick j own old new) ≡ length own
unfolding recoded_block with_change
recoded_length n m brick j own old new = length_tabulate (length own) _

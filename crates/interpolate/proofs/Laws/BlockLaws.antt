-- Blocks in a row, byte by byte.
use mathlib.Core.Path.{◌≡◌, sym, ap, subst, ◌∙◌}
use mathlib.Core.List.{List, ◌++◌}
use Prim.Native.Nat.{ℕ, zero, suc, ◌+◌, ◌*◌, ◌/◌, ◌%◌, ◌<◌}
use native.Mathlib.Decide.{ℕ_discrete}
use native.Mathlib.Nat.{not-suc-le-zero, suc-mul, mul-le-mul_right, div-add-mod', div-lt_iff_lt-mul, mod-lt}
use native.Mathlib.Omega.{arith}
use lib.ListN.{length, get_or, get_or-append}
use lib.Seq.{ext_get_or, get_or-append-add}
use Rattle.interpolate.specs.Bytes.{byte, byte_field}
use Rattle.interpolate.proofs.Laws.ByteLaws.{byte_below}
use Rattle.byte_lists.specs.Lists.{stacked}
use Rattle.byte_lists.proofs.Laws.TabulateLaws.{length_tabulate, get_d_tabulate, length_stacked}
use Rattle.interpolate.specs.Values.{byte_at, value_at, block_at, blocks_at}
use Rattle.poly.specs.Polynomial.{interpolated}

-- byte p of block j lies within k blocks
pub index_below : (j k size p : ℕ) → j < k → p < size → j * size + p < k * size
index_below j k size p hj hp = let h = mul-le-mul_right size hj in let s = suc-mul j size in omega arith

pub byte_stacked : (k size : ℕ) (f : ℕ → List ℕ) → ((i : ℕ) → length (f i) ≡ size) → (j p : ℕ) → j < k → p < size
    → byte_at size (stacked k f) j p ≡ get_or (f j) p 0
unfolding byte_at stacked
byte_stacked zero size f h j p hj hp = absurd (not-suc-le-zero hj)
byte_stacked (suc k) size f h j p hj hp = by (ℕ_discrete j k) (byte_stacked k size f h j p)
  where
    by : Dec (j ≡ k) → (j < k → p < size → get_or (stacked k f) (j * size + p) 0 ≡ get_or (f j) p 0)
        → get_or (stacked k f ++ f k) (j * size + p) 0 ≡ get_or (f j) p 0
    by (yes e) ih =
        ap (λ (i : ℕ). get_or (stacked k f ++ f k) i 0)
        (let q = ap (λ (i : ℕ). i * size) e in let l = length_stacked k size f h in let g : j * size + p ≡ length (stacked k f) + p = omega arith in g)
        ∙ get_or-append-add (stacked k f) (f k) p 0 ∙ ap (λ (i : ℕ). get_or (f i) p 0) (sym e)
    by (no n) ih =
        get_or-append (stacked k f) (f k) 0 (j * size + p)
        (let l = length_stacked k size f h in let u = index_below j k size p (omega arith) hp in omega arith)
        ∙ ih (omega arith) hp

-- a row of k blocks that has these bytes is these blocks
pub stacked_by : (k size : ℕ) (f : ℕ → List ℕ) (l : List ℕ) → 0 < size → ((i : ℕ) → length (f i) ≡ size) → length l ≡ k * size
    → ((j p : ℕ) → j < k → p < size → byte_at size l j p ≡ get_or (f j) p 0) → l ≡ stacked k f
unfolding byte_at
stacked_by k size f l pos hf e h =
    ext_get_or 0 l (stacked k f) (e ∙ sym (length_stacked k size f hf)) (λ i u. at i (omega arith))
  where
    at : (i : ℕ) → i < k * size → get_or l i 0 ≡ get_or (stacked k f) i 0
    at i u =
        let a : i / size < k = (div-lt_iff_lt-mul pos).1 u in
        let b : i % size < size = mod-lt i pos in
        subst (λ (n : ℕ). get_or l n 0 ≡ get_or (stacked k f) n 0) (div-add-mod' i size)
        (h (i / size) (i % size) a b ∙ sym (byte_stacked k size f hf (i / size) (i % size) a b))

pub length_block_at : (points : List ℕ) (size : ℕ) (blocks : List ℕ) (x : ℕ) → length (block_at points size blocks x) ≡ size
unfolding block_at
length_block_at points size blocks x = length_tabulate size (value_at points size blocks x)

pub length_blocks_at : (points : List ℕ) (size : ℕ) (blocks : List ℕ) (count : ℕ) → length (blocks_at points size blocks count) ≡ count * size
unfolding blocks_at
length_blocks_at points size blocks count = length_stacked count size (block_at points size blocks) (length_block_at points size blocks)

-- byte p of block x is the value at x
pub blocks_byte : (points : List ℕ) (size : ℕ) (blocks : List ℕ) (count x p : ℕ) → x < count → p < size
    → byte_at size (blocks_at points size blocks count) x p ≡ value_at points size blocks x p
unfolding blocks_at block_at
blocks_byte points size blocks count x p hx hp =
    byte_stacked count size (block_at points size blocks) (length_block_at points size blocks) x p hx hp
    ∙ get_d_tabulate size (value_at points size blocks x) p hp

-- a row of blocks with these values is these blocks
pub blocks_by : (points : List ℕ) (size : ℕ) (blocks l : List ℕ) (count : ℕ) → 0 < size → length l ≡ count * size
    → ((x p : ℕ) → x < count → p < size → byte_at size l x p ≡ value_at points size blocks x p) → l ≡ blocks_at points size blocks count
unfolding blocks_at block_at
blocks_by points size blocks l count pos e h =
    stacked_by count size (block_at points size blocks) l pos (length_block_at points size blocks) e
    (λ x p hx hp. h x p hx hp ∙ sym (get_d_tabulate size (value_at points size blocks x) p hp))

-- every value is a byte
pub value_byte : (points : List ℕ) (size : ℕ) (blocks : List ℕ) (x p : ℕ) → value_at points size blocks x p < 256
unfolding value_at
value_byte points size blocks x p =
    byte_below (interpolated byte_field (length points) (λ (i : ℕ). byte (get_or points i 0)) (λ (i : ℕ). byte (byte_at size blocks i p)) (byte x))

-- Blocks in their places: put, cut out, gathered.
use mathlib.Core.Path.{◌≡◌, refl, sym, ap, subst, ◌∙◌}
use mathlib.Core.Bool.{Bool, cond}
use mathlib.Core.List.{List, ◌++◌}
use Prim.Native.Nat.{ℕ, zero, suc, ◌+◌, ◌-◌, ◌*◌, ◌≤◌, ◌<◌}
use native.Mathlib.Decide.{dec_lt}
use native.Mathlib.Nat.{zero-mul, suc-mul, mul-le-mul_right, le_refl}
use native.Mathlib.Numerals.{add-one}
use lib.Seq.{take_at, take_all, take-append-le, take-take, length-take-le, get_or-take}
use Rattle.erasure.specs.Code.{decoded_of, blocks_of, with_block}
use native.Mathlib.Omega.{arith}
use lib.ListN.{length, get_or, take, drop, get_or-eq_default}
use borrow.Rule.Slice.PartMut.{put_mid}
use Rattle.byte_lists.specs.Lists.{put, stacked}
use Rattle.byte_lists.proofs.Laws.PutLaws.{put_mid_lem}
use Rattle.byte_lists.proofs.Laws.StackLaws.{Stacked, stacked_none, stacked_more, stacked_all, part_length}
use Rattle.byte_lists.proofs.Laws.TabulateLaws.{length_stacked}
use Rattle.erasure.proofs.Laws.BlockOfLaws.{block_length}
use Rattle.erasure.proofs.Laws.OnePolynomialLaws.{front_decoded}
use Rattle.interpolate.specs.Values.{blocks_at}
use Rattle.erasure.specs.Code.{block_of}
use Rattle.coord_blocks.specs.Blocks.{stripe_from}
use Rattle.coord_blocks.specs.Workers.{InPlace}
use Rattle.coord_tally.specs.Counting.{target_row}
use Rattle.coord_tally.proofs.Laws.RowSets.{target_set, target_below}
use Rattle.interpolate.specs.Values.{PointSet}
use Rattle.settings.specs.Ranges.{CodeRange, max_bricks}

-- a part of the blocks replaced
pub place_is : (size b at : ℕ) (block blocks ys : List ℕ) → length block ≡ size → at ≡ b * size → ys ≡ block
    → put_mid at (at + size - at) blocks ys ≡ with_block size blocks b block
unfolding with_block
place_is size b at block blocks ys n e f =
    ap (put_mid at (at + size - at) blocks) f ∙ put_mid_lem at (at + size) blocks block (omega arith) (omega arith)
    ∙ ap (λ (k : ℕ). put k block blocks) e

-- block b, as the code cuts it out
pub block_cut : (size b : ℕ) (blocks : List ℕ) → take (b * size + size - b * size) (drop (b * size) blocks) ≡ block_of size blocks b
unfolding block_of
block_cut size b blocks = ap (λ (k : ℕ). take k (drop (b * size) blocks)) (let s : b * size + size - b * size ≡ size = omega arith in s)

pub cut_length : (size b : ℕ) (blocks : List ℕ) → b * size + size ≤ length blocks
    → length (take (b * size + size - b * size) (drop (b * size) blocks)) ≡ size
cut_length size b blocks h = part_length size blocks (b * size) h

-- block i of k is within the output
pub block_within : (k size i : ℕ) → i < k → i * size + size ≤ k * size
block_within k size i h = let q = mul-le-mul_right size h in let s = suc-mul i size in omega arith

-- What is gathered after i bricks: their blocks one after the other.
pub record Gathered (size : ℕ) (bricks blocks old out : List ℕ) (i : ℕ) : Type 0 where
  pub rows : Stacked (λ (j : ℕ). block_of size blocks (get_or bricks j 0)) size old out i (i * size)

pub gathered_none : (size : ℕ) (bricks blocks old : List ℕ) → Gathered size bricks blocks old old 0
gathered_none size bricks blocks old =
    let f : ℕ → List ℕ = λ j. block_of size blocks (get_or bricks j 0) in
    record { rows = subst (Stacked f size old old 0) (sym (zero-mul size)) (stacked_none f size old) }

pub gathered_more : (size i : ℕ) (bricks blocks old out ys out' : List ℕ) → Gathered size bricks blocks old out i → i < length bricks
    → length old ≡ length bricks * size → length ys ≡ size → ys ≡ block_of size blocks (get_or bricks i 0) → out' ≡ with_block size out i ys
    → Gathered size bricks blocks old out' (i + 1)
gathered_more size i bricks blocks old out ys out' g h e l ey eo =
    let f : ℕ → List ℕ = λ j. block_of size blocks (get_or bricks j 0) in
    let w = block_within (length bricks) size i h in
    let k = g.rows.size-kept in
    let m : Stacked f size old (put_mid (i * size) (i * size + size - i * size) out ys) (i + 1) (i * size + size) =
    stacked_more f size old out ys i (i * size) g.rows (omega (arith, w, k, e)) l ey in
    let n : i * size + size ≡ (i + 1) * size = let q = suc-mul i size in let r = ap (λ (z : ℕ). z * size) (add-one i) in omega (arith, q, r) in
    let here = place_is size i (i * size) ys out ys l refl refl ∙ sym eo in
    record {
      rows = subst (Stacked f size old out' (i + 1)) n (subst (λ (o : List ℕ). Stacked f size old o (i + 1) (i * size + size)) here m);
    }

pub gathered_all : (size i : ℕ) (bricks blocks old out : List ℕ) → Gathered size bricks blocks old out i → i ≡ length bricks
    → length old ≡ length bricks * size → out ≡ blocks_of size blocks bricks
unfolding blocks_of
gathered_all size i bricks blocks old out g h e = stacked_all _ size old out i (i * size) (length bricks) g.rows (omega (arith, h)) (omega (arith, h)) e

pub ruleset gathering = (gathered_none, gathered_more, gathered_all)

-- the blocks gathered at the front of a longer buffer
pub front_is : (k : ℕ) (ys rest : List ℕ) → length ys ≡ k → take k (ys ++ rest) ≡ ys
front_is k ys rest e = take_at ys rest k e

-- the stripe of what was gathered there, where it agrees
module _ (m size k : ℕ) (bricks blocks row rest : List ℕ) (e : length row ≡ k * size) (g : row ≡ blocks_of size blocks (take k bricks)) where
  handed : take (k * size) (row ++ rest) ≡ blocks_of size blocks (take k bricks)
  handed = front_is (k * size) row rest e ∙ g

  pub checked_is : (b : Bool) (s old : List ℕ) → s ≡ cond b (decoded_of m size (take k bricks) (take (k * size) (row ++ rest))) old
      → s ≡ cond b (stripe_from m size (take k bricks) blocks) old
  unfolding stripe_from
  checked_is b s old q = q ∙ ap (λ (l : List ℕ). cond b (decoded_of m size (take k bricks) l) old) handed

-- bricks below n have their blocks among n
pub in_place : (n m size : ℕ) (bricks blocks : List ℕ) → length blocks ≡ n * size → ((i : ℕ) → i < m → get_or bricks i 0 < n) → InPlace m size bricks blocks
in_place n m size bricks blocks e b =
    record { within = λ i h. (let q = mul-le-mul_right size (b i h) in let s = suc-mul (get_or bricks i 0) size in omega arith) }

-- rows of blocks that agree
pub stacked_ext : (k : ℕ) (f g : ℕ → List ℕ) → ((i : ℕ) → i < k → f i ≡ g i) → stacked k f ≡ stacked k g
unfolding stacked
stacked_ext zero f g h = refl
stacked_ext (suc k) f g h =
    ap (λ (l : List ℕ). l ++ f k) (stacked_ext k f g (λ i u. h i (omega arith))) ∙ ap (λ (l : List ℕ). stacked k g ++ l) (h k (le_refl _))

-- the first m of k blocks in a row
front_stacked : (m k size : ℕ) (f : ℕ → List ℕ) → ((i : ℕ) → length (f i) ≡ size) → m ≤ k → take (m * size) (stacked k f) ≡ stacked m f
front_stacked m zero size f e h =
    let z : m ≡ 0 = omega (arith, h) in
    take_all (m * size) (stacked 0 f) (let l = length_stacked 0 size f e in omega (arith, l)) ∙ ap (λ (j : ℕ). stacked j f) (sym z)
front_stacked m (suc k) size f e h = go (dec_lt k m) (front_stacked m k size f e)
  where
    go : Dec (k < m) → (m ≤ k → take (m * size) (stacked k f) ≡ stacked m f) → take (m * size) (stacked (suc k) f) ≡ stacked m f
    go (yes l) ih =
        let z : m ≡ suc k = omega (arith, l, h) in
        let c = ap (λ (j : ℕ). j * size) z in
        take_all (m * size) (stacked (suc k) f) (let w = length_stacked (suc k) size f e in omega (arith, w, c)) ∙ ap (λ (j : ℕ). stacked j f) (sym z)
    go (no l) ih =
        unfold stacked in
        (take-append-le (m * size) (stacked k f) (f k)
        (let w = length_stacked k size f e in let c = mul-le-mul_right size (let u : m ≤ k = omega (arith, l) in u) in omega (arith, w, c))
        ∙ ih (omega (arith, l)))

-- What is decoded from a list of bricks is decoded from its first m.
pub first_decoded : (n m size : ℕ) (bricks blocks : List ℕ) → 0 < n → 0 < size → m ≤ length bricks → length blocks ≡ n * size
    → ((i : ℕ) → i < length bricks → get_or bricks i 0 < n) → stripe_from m size bricks blocks ≡ stripe_from m size (take m bricks) blocks
unfolding stripe_from decoded_of blocks_of
first_decoded n m size bricks blocks some pos enough e below =
    sym (unfold decoded_of in front_decoded m size bricks (blocks_of size blocks bricks) enough pos)
    ∙ ap (λ (l : List ℕ). blocks_at (take m bricks) size l m) (front_stacked m (length bricks) size f sized enough ∙ same)
    ∙ ap (λ (l : List ℕ). blocks_at l size (blocks_of size blocks (take m bricks)) m) (sym (take-take m m bricks (le_refl _)))
  where
    f : ℕ → List ℕ
    f i = block_of size blocks (get_or bricks i 0)

    low : (i : ℕ) → Dec (i < length bricks) → get_or bricks i 0 < n
    low i (yes h) = below i h
    low i (no h) = let z = get_or-eq_default bricks 0 {n = i} (omega (arith, h)) in omega (arith, z, some)

    sized : (i : ℕ) → length (f i) ≡ size
    sized i =
        let l = low i (dec_lt i (length bricks)) in
        let q = mul-le-mul_right size l in
        let r = suc-mul (get_or bricks i 0) size in
        block_length size blocks (get_or bricks i 0) (omega (arith, e, q, r))

    long : length (take m bricks) ≡ m
    long = length-take-le m bricks enough

    same : stacked m f ≡ blocks_of size blocks (take m bricks)
    same =
        stacked_ext m f (λ (i : ℕ). block_of size blocks (get_or (take m bricks) i 0)) (λ i h. ap (block_of size blocks) (sym (get_or-take m bricks i 0 h)))
        ∙ ap (λ (j : ℕ). stacked j (λ (i : ℕ). block_of size blocks (get_or (take m bricks) i 0))) (sym long)

-- the blocks of the first k bricks of a row
pub front_in_place : (k size : ℕ) (row blocks : List ℕ) → InPlace k size row blocks → InPlace k size (take k row) blocks
front_in_place k size row blocks p =
    record { within = λ i h. subst (λ (b : ℕ). b * size + size ≤ length blocks) (sym (get_or-take k row i 0 h)) (p.within i h) }

-- the targets can be decoded from
pub target_points : (n m first : ℕ) (row : List ℕ) → row ≡ target_row n m first → n ≤ max_bricks → m ≤ n → first < n → PointSet (take m row)
target_points n m first row e a b f = subst (λ (l : List ℕ). PointSet (take m l)) (sym e) (target_set n m first a b f)

pub target_in_place : (n m size first : ℕ) (row blocks : List ℕ) → CodeRange n m size → first < n → length blocks ≡ n * size → row ≡ target_row n m first
    → InPlace m size (take m row) blocks
target_in_place n m size first row blocks r f e er =
    subst (λ (l : List ℕ). InPlace m size (take m l) blocks) (sym er)
    (front_in_place m size (target_row n m first) blocks (in_place n m size (target_row n m first) blocks e (target_below n m first r.n-high r.m-high f)))

pub ruleset targets = (target_points, target_in_place, block_within)

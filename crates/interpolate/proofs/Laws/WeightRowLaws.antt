-- Blocks as sums of weighted blocks.
use mathlib.Core.Path.{◌≡◌, refl, sym, ap, ap₂, ◌∙◌}
use mathlib.Core.List.{List}
use Prim.Native.Nat.{ℕ, suc, ◌+◌, ◌-◌, ◌*◌, ◌≤◌, ◌<◌}
use native.Mathlib.Nat.{suc-mul, mul-le-mul_right}
use native.Mathlib.Numerals.{add-one}
use native.Mathlib.Omega.{arith}
use lib.ListN.{length, get_or, take, drop}
use lib.Seq.{get_or-take, get_or-drop}
use Rattle.gf256.specs.Product.{plus, product}
use Rattle.interpolate.specs.Bytes.{Byte, byte, byte_field}
use Rattle.interpolate.proofs.Laws.ByteLaws.{byte_small, add_is, mul_is, bytes_are_a_field}
use Rattle.interpolate.specs.Workers.{scaled, points_of, weight}
use Rattle.byte_lists.specs.Lists.{tabulate}
use Rattle.byte_lists.proofs.Laws.StackLaws.{part_length}
use Rattle.byte_lists.proofs.Laws.TabulateLaws.{length_tabulate, get_d_tabulate, tabulate_by, tabulate_ext, filled_more, filled_all}
use Rattle.interpolate.specs.Values.{byte_at, value_at, block_at, PointSet}
use Rattle.poly.proofs.Laws.InterpolationLaws.{interpolated_at}
use Rattle.poly.specs.Polynomial.{Different, sum, basis, interpolated}

-- the sum of the first k terms of a value
unfoldable pub partial : List ℕ → ℕ → List ℕ → ℕ → ℕ → ℕ → ℕ
partial points size blocks x k p =
    (sum byte_field k (λ (i : ℕ). byte_field.mul (basis byte_field (length points) (points_of points) i (byte x)) (byte (byte_at size blocks i p)))).0

pub different_points : (points : List ℕ) (m : ℕ) → ((k : ℕ) → get_or points k 0 < 256)
    → ((i j : ℕ) → i < m → j < m → get_or points i 0 ≡ get_or points j 0 → i ≡ j) → Different byte_field m (points_of points)
unfolding Different
different_points points m small d i j hi hj e =
    d i j hi hj (sym (byte_small (get_or points i 0) (small i)) ∙ ap (λ (b : Byte). b.0) e ∙ byte_small (get_or points j 0) (small j))

-- byte p of a part that is block k
pub part_byte : (size : ℕ) (blocks : List ℕ) (k p : ℕ) → p < size → get_or (take size (drop (k * size) blocks)) p 0 ≡ byte_at size blocks k p
unfolding byte_at
part_byte size blocks k p h = get_or-take size (drop (k * size) blocks) p 0 h ∙ get_or-drop (k * size) blocks p 0

pub row_none : (points : List ℕ) (size : ℕ) (blocks : List ℕ) (x : ℕ) → tabulate size (λ (p : ℕ). 0) ≡ tabulate size (partial points size blocks x 0)
unfolding partial sum
row_none points size blocks x = refl

pub row_more : (points : List ℕ) (size : ℕ) (blocks from out : List ℕ) (x k w : ℕ) → ((i : ℕ) → get_or blocks i 0 < 256)
    → from ≡ take size (drop (k * size) blocks) → out ≡ tabulate size (partial points size blocks x k)
    → weight points k x ≡ w
    → scaled w from out ≡ tabulate size (partial points size blocks x (suc k))
unfolding scaled partial sum weight
row_more points size blocks from out x k w small ef eo ew =
    let n : length out ≡ size = ap length eo ∙ length_tabulate size (partial points size blocks x k) in
    ap (λ (s : ℕ). tabulate s (λ (p : ℕ). plus (get_or out p 0) (product w (get_or from p 0)))) n
    ∙ tabulate_ext size (λ (p : ℕ). plus (get_or out p 0) (product w (get_or from p 0))) (partial points size blocks x (suc k))
    (λ p h.
    ap₂ plus
    (ap (λ (l : List ℕ). get_or l p 0) eo ∙ get_d_tabulate size (partial points size blocks x k) p h)
    (ap₂ product (sym ew)
    (ap (λ (l : List ℕ). get_or l p 0) ef ∙ part_byte size blocks k p h ∙ sym (byte_small (byte_at size blocks k p) (small_at k p))))
    ∙ sym (add_is (sum byte_field k (term p)) (term p k) ∙ ap (plus (sum byte_field k (term p)).0) (mul_is (base k) (byte (byte_at size blocks k p)))))
  where
    base : ℕ → Byte
    base i = basis byte_field (length points) (points_of points) i (byte x)

    term : ℕ → ℕ → Byte
    term p i = byte_field.mul (base i) (byte (byte_at size blocks i p))

    small_at : (k p : ℕ) → byte_at size blocks k p < 256
    small_at k p = unfold byte_at in small (k * size + p)

-- a part of a row of blocks, as the code cuts it
pub part_is : (size : ℕ) (blocks : List ℕ) (k at : ℕ) → at ≡ k * size → take (at + size - at) (drop at blocks) ≡ take size (drop (k * size) blocks)
part_is size blocks k at e =
    ap₂ (λ (a b : ℕ). take a (drop b blocks)) (let s : at + size - at ≡ size = omega arith in s) e

-- one turn of the loop
pub row_step : (points : List ℕ) (size : ℕ) (blocks out r : List ℕ) (x k at w : ℕ) → ((i : ℕ) → get_or blocks i 0 < 256)
    → at ≡ k * size → out ≡ tabulate size (partial points size blocks x k) → weight points k x ≡ w
    → r ≡ scaled w (take (at + size - at) (drop at blocks)) out → r ≡ tabulate size (partial points size blocks x (k + 1))
row_step points size blocks out r x k at w small ea eo ew er =
    er ∙ row_more points size blocks (take (at + size - at) (drop at blocks)) out x k w small (part_is size blocks k at ea) eo ew
    ∙ ap (λ (j : ℕ). tabulate size (partial points size blocks x j)) (sym (add-one k))

pub row_all : (points : List ℕ) (size : ℕ) (blocks out : List ℕ) (x k : ℕ) → length points ≤ k → k ≤ length points
    → out ≡ tabulate size (partial points size blocks x k) → out ≡ block_at points size blocks x
unfolding block_at value_at partial interpolated
row_all points size blocks out x k a b e =
    let s : k ≡ length points = omega arith in
    e ∙ ap (λ (j : ℕ). tabulate size (partial points size blocks x j)) s

-- at a point that is given, the value is that point's own block
pub row_copy : (points : List ℕ) (size : ℕ) (blocks from : List ℕ) (x k : ℕ) → ((i : ℕ) → get_or points i 0 < 256) → ((i : ℕ) → get_or blocks i 0 < 256)
    → ((i j : ℕ) → i < length points → j < length points → get_or points i 0 ≡ get_or points j 0 → i ≡ j)
    → k < length points → get_or points k 0 ≡ x → from ≡ take size (drop (k * size) blocks) → length from ≡ size → from ≡ block_at points size blocks x
unfolding block_at value_at
row_copy points size blocks from x k sp sb d h e ef ns =
    tabulate_by size (value_at points size blocks x) from ns
    (λ p u.
    ap (λ (l : List ℕ). get_or l p 0) ef ∙ part_byte size blocks k p u ∙ sym (byte_small (byte_at size blocks k p) (small_at k p))
    ∙ ap (λ (b : Byte). b.0)
    (sym (interpolated_at byte_field bytes_are_a_field (length points) (points_of points) (λ (i : ℕ). byte (byte_at size blocks i p)) k (different_points points (length points) sp d) h)
    ∙ ap (λ (y : ℕ). interpolated byte_field (length points) (points_of points) (λ (i : ℕ). byte (byte_at size blocks i p)) (byte y)) e))
  where
    small_at : (k p : ℕ) → byte_at size blocks k p < 256
    small_at k p = unfold byte_at in sb (k * size + p)

-- the same, as the code cuts the block
pub row_found : (points : List ℕ) (size : ℕ) (blocks r : List ℕ) (x k : ℕ) → ((i : ℕ) → get_or points i 0 < 256) → ((i : ℕ) → get_or blocks i 0 < 256)
    → PointSet points → k < length points → get_or points k 0 ≡ x → length blocks ≡ length points * size
    → r ≡ take (k * size + size - k * size) (drop (k * size) blocks) → r ≡ block_at points size blocks x
row_found points size blocks r x k sp sb ps h ek el er =
    row_copy points size blocks r x k sp sb ps.differ h ek (er ∙ part_is size blocks k (k * size) refl)
    (ap length er ∙ part_length size blocks (k * size) (let q = mul-le-mul_right size h in let s = suc-mul k size in omega arith))

-- the turns of the loops along a block and over a row's blocks
pub ruleset scaled_steps = (filled_more, filled_all)

pub ruleset row_steps = (row_none, row_step)

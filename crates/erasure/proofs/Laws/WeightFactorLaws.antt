-- The weight of a data block at a brick, factor by factor, as the code multiplies it.
use mathlib.Core.Path.{◌≡◌, refl, sym, ap, ap₂, ◌∙◌}
use Prim.Native.Nat.{ℕ, ◌+◌, ◌*◌, ◌≤◌, ◌<◌}
use native.Mathlib.Numerals.{add-one}
use native.Mathlib.Omega.{arith}
use lib.Bits.{bit_xor}
use lib.Dec.{eqb}
use lib.ListN.{get_or}
use borrow.Author.Tests.{eq-eqb, ne_eqb}
use Rattle.byte_lists.proofs.Laws.TabulateLaws.{get_d_tabulate}
use Rattle.erasure.specs.Code.{first_points}
use Rattle.erasure.specs.Recoding.{unit_stripe, weight_at}
use Rattle.erasure.proofs.Laws.CodedByteLaws.{first_at_lem}
use Rattle.erasure.proofs.Laws.CodeTheoremLaws.{coded_value}
use Rattle.gf256.specs.Product.{product, inverse}
use Rattle.interpolate.specs.Bytes.{Byte, byte, byte_field}
use Rattle.interpolate.proofs.Laws.ByteLaws.{mul_is, inv_is, bytes_are_a_field}
use Rattle.interpolate.proofs.Laws.WeightLaws.{difference_is}
use Rattle.interpolate.specs.Values.{byte_at}
use Rattle.interpolate.specs.Workers.{points_of}
use Rattle.poly.proofs.Laws.BasisLaws.{basis_to_skip, basis_to_step, basis_to_cong}
use Rattle.poly.proofs.Laws.RingLaws.{mul_zero}
use Rattle.poly.proofs.Laws.SumLaws.{sum_single}
use Rattle.poly.specs.Polynomial.{sub, factor, basis_to, basis, interpolated}
use Rattle.settings.specs.Count.{one_if}

-- the product of the factors of the first k data blocks but j
unfoldable pub weight_to : (k brick j : ℕ) → ℕ
weight_to k brick j = (basis_to byte_field k (λ (i : ℕ). byte i) j (byte brick)).0

pub weight_none : (brick j : ℕ) → 1 ≡ weight_to 0 brick j
unfolding weight_to basis_to
weight_none brick j = refl

-- another factor
pub weight_taken : (k brick j w below f r : ℕ) → k < 256 → brick < 256 → j < 256 → w ≡ weight_to k brick j → (k ≡ j → ⊥)
    → below ≡ inverse (bit_xor j k) → f ≡ product (bit_xor brick k) below → r ≡ product w f → r ≡ weight_to (k + 1) brick j
unfolding weight_to factor
weight_taken k brick j w below f r hk hb hj ew apart ei ef er =
    er
    ∙ ap₂ product ew
    (ef
    ∙ ap₂ product (sym (difference_is brick k hb hk)) (ei ∙ ap inverse (sym (difference_is j k hj hk)) ∙ sym (inv_is (sub byte_field (byte j) (byte k))))
    ∙ sym (mul_is (sub byte_field (byte brick) (byte k)) (byte_field.inv (sub byte_field (byte j) (byte k)))))
    ∙ sym (mul_is (basis_to byte_field k (λ (i : ℕ). byte i) j (byte brick)) (factor byte_field (λ (i : ℕ). byte i) j k (byte brick)))
    ∙ ap (λ (b : Byte). b.0) (sym (basis_to_step byte_field k (λ (i : ℕ). byte i) j (byte brick) apart))
    ∙ ap (λ (l : ℕ). (basis_to byte_field l (λ (i : ℕ). byte i) j (byte brick)).0) (sym (add-one k))

-- none for j itself
pub weight_left : (k brick j w : ℕ) → w ≡ weight_to k brick j → k ≡ j → w ≡ weight_to (k + 1) brick j
unfolding weight_to
weight_left k brick j w ew q =
    ew ∙ ap (λ (b : Byte). b.0) (sym (basis_to_skip byte_field k (λ (i : ℕ). byte i) j (byte brick) q))
    ∙ ap (λ (l : ℕ). (basis_to byte_field l (λ (i : ℕ). byte i) j (byte brick)).0) (sym (add-one k))

-- all factors: the coded value of the unit stripe
pub weight_all : (n m brick j k w : ℕ) → brick < n → j < m → w ≡ weight_to k brick j → m ≤ k → k ≤ m → w ≡ weight_at n m brick j
unfolding weight_to weight_at
weight_all n m brick j k w hb hj ew a b =
    ew
    ∙ ap (λ (x : Byte). x.0)
    (ap (λ (l : ℕ). basis_to byte_field l (λ (i : ℕ). byte i) j (byte brick)) (let e : k ≡ m = omega arith in e)
    ∙ sym (basis_to_cong byte_field m (points_of (first_points m)) (λ (i : ℕ). byte i) j (byte brick) (λ i h. ap byte (first_at_lem m i h)) (ap byte (first_at_lem m j hj)))
    ∙ sym single)
    ∙ sym (coded_value n m 1 (unit_stripe m j) brick 0 hb (omega arith))
  where
    base : ℕ → Byte
    base i = basis byte_field m (points_of (first_points m)) i (byte brick)

    unit : (i : ℕ) → i < m → byte_at 1 (unit_stripe m j) i 0 ≡ one_if (eqb i j)
    unit i h =
        unfold byte_at unit_stripe in
        ap (λ (x : ℕ). get_or (unit_stripe m j) x 0) (let e : i * 1 + 0 ≡ i = omega arith in e) ∙ get_d_tabulate m (λ (i : ℕ). one_if (eqb i j)) i h

    single : interpolated byte_field m (points_of (first_points m)) (λ (i : ℕ). byte (byte_at 1 (unit_stripe m j) i 0)) (byte brick)
        ≡ basis_to byte_field m (points_of (first_points m)) j (byte brick)
    single =
        unfold interpolated basis in
        sum_single byte_field bytes_are_a_field m (λ (i : ℕ). byte_field.mul (base i) (byte (byte_at 1 (unit_stripe m j) i 0))) j hj
        (λ i h apart. ap (λ (x : ℕ). byte_field.mul (base i) (byte x)) (unit i h ∙ ap one_if (ne_eqb i j apart)) ∙ mul_zero byte_field bytes_are_a_field (base i))
        ∙ ap (λ (x : ℕ). byte_field.mul (base j) (byte x)) (unit j hj ∙ ap one_if (eq-eqb j j refl)) ∙ bytes_are_a_field.mul-one (base j)

-- the turns of the loop over the factors
pub ruleset weight_steps = (weight_none, weight_taken, weight_left, weight_all)

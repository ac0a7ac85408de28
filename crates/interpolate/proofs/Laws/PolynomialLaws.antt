-- The theorem of `specs/Polynomials`.
use mathlib.Core.Path.{◌≡◌, sym, ap, ◌∙◌}
use mathlib.Core.List.{List}
use Prim.Native.Nat.{ℕ, ◌<◌}
use native.Mathlib.Nat.{le_of_eq}
use lib.ListN.{length, get_or}
use Rattle.interpolate.specs.Bytes.{Byte, byte, byte_field}
use Rattle.interpolate.proofs.Laws.ByteLaws.{bytes_are_a_field}
use Rattle.interpolate.specs.Values.{PointSet, byte_at, value_at}
use Rattle.interpolate.proofs.Laws.WeightRowLaws.{different_points}
use Rattle.poly.proofs.Laws.InterpolationLaws.{exists_through, unique, interpolates}
use Rattle.poly.specs.Polynomial.{eval}
use Rattle.interpolate.specs.Polynomials.{Through, ExactlyOnePolynomial}

module _ (points : List ℕ) (size : ℕ) (blocks : List ℕ) (p : ℕ) (small : (k : ℕ) → get_or points k 0 < 256) (set : PointSet points) where
  -- There is one,
  pub a_polynomial : (c : List Byte) × Through points size blocks p c
  a_polynomial =
      let e = exists_through byte_field bytes_are_a_field (length points) (λ (i : ℕ). byte (get_or points i 0)) (λ (i : ℕ). byte (byte_at size blocks i p))
      (different_points points (length points) small set.differ) in
      (e.0, record { degree = e.1; at = e.2 })

  -- only one,
  pub one_polynomial : (c d : List Byte) → Through points size blocks p c → Through points size blocks p d → c ≡ d
  one_polynomial c d hc hd =
      unique byte_field bytes_are_a_field (length points) (λ (i : ℕ). byte (get_or points i 0)) c d (different_points points (length points) small set.differ)
      (hc.degree ∙ sym hd.degree) (le_of_eq hc.degree) (λ i h. hc.at i h ∙ sym (hd.at i h))

  -- and its value at x is what `value_at` says.
  pub value_of_polynomial : (c : List Byte) → Through points size blocks p c → (x : ℕ) → (eval byte_field c (byte x)).0 ≡ value_at points size blocks x p
  unfolding value_at
  value_of_polynomial c h x =
      ap (λ (b : Byte). b.0)
      (interpolates byte_field bytes_are_a_field (length points) (λ (i : ℕ). byte (get_or points i 0)) (λ (i : ℕ). byte (byte_at size blocks i p)) c
      (different_points points (length points) small set.differ) (le_of_eq h.degree) h.at (byte x))

pub exactly_one_polynomial : ExactlyOnePolynomial
exactly_one_polynomial points size blocks p small set =
    let e = a_polynomial points size blocks p small set in (
      e.0,
      e.1,
      (λ d h. one_polynomial points size blocks p small set d e.0 h e.1),
      (λ x. sym (value_of_polynomial points size blocks p small set e.0 e.1 x)),
    )

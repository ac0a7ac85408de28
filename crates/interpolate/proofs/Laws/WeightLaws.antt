-- Lagrange's weights by products: numerator and denominators, factor by factor. The code adds by exclusive or itself, which `plus` names.
use mathlib.Core.Path.{◌≡◌, refl, sym, ap, ap₂, subst, ◌∙◌}
use mathlib.Core.List.{List}
use Prim.Native.Nat.{ℕ, ◌+◌, ◌≤◌, ◌<◌}
use native.Mathlib.Nat.{le_refl}
use native.Mathlib.Numerals.{add-one}
use native.Mathlib.Omega.{arith}
use lib.Bits.{bit_xor}
use lib.ListN.{length, get_or, set, replicate, get_or-replicate}
use Rattle.byte_lists.proofs.Laws.TabulateLaws.{Filled, filled_more, filled_keep}
use Rattle.gf256.specs.Product.{plus, product, inverse}
use Rattle.interpolate.specs.Bytes.{Byte, byte, byte_field}
use Rattle.interpolate.proofs.Laws.ByteLaws.{byte_small, add_is, mul_is, inv_is, bytes_are_a_field}
use Rattle.interpolate.specs.Workers.{points_of, numerator, denominator, weight, Differences, PointsReady}
use Rattle.poly.proofs.Laws.BasisPartLaws.{roots_to_step, others_to_skip, others_to_step, basis_parts}
use Rattle.poly.specs.Polynomial.{sub, roots_to, others_to}
use Rattle.settings.specs.Ranges.{max_bricks}

-- a difference of bytes by their numbers
pub difference_is : (a b : ℕ) → a < 256 → b < 256 → (sub byte_field (byte a) (byte b)).0 ≡ bit_xor a b
unfolding sub plus
difference_is a b ha hb = add_is (byte a) (byte b) ∙ ap₂ plus (byte_small a ha) (byte_small b hb)

-- ones are the products of no differences
pub differences_none : (points : List ℕ) → length points ≤ max_bricks → Differences points 0 (replicate max_bricks 1)
unfolding denominator others_to
differences_none points h = record { entry = λ i u. get_or-replicate max_bricks i 1 0 (omega arith) }

-- no point
pub numerator_none : (points : List ℕ) (x : ℕ) → 1 ≡ numerator points x 0
unfolding numerator roots_to
numerator_none points x = refl

module _ (points : List ℕ) (small : (k : ℕ) → get_or points k 0 < 256) where
  -- another point
  pub numerator_more : (x k s r : ℕ) → x < 256 → s ≡ numerator points x k → r ≡ product s (bit_xor x (get_or points k 0)) → r ≡ numerator points x (k + 1)
  unfolding numerator
  numerator_more x k s r hx e f =
      f ∙ ap₂ product e (sym (difference_is x (get_or points k 0) hx (small k)))
      ∙ sym (mul_is (roots_to byte_field k (points_of points) (byte x)) (sub byte_field (byte x) (points_of points k)))
      ∙ ap (λ (b : Byte). b.0) (sym (roots_to_step byte_field k (points_of points) (byte x)))
      ∙ ap (λ (j : ℕ). (roots_to byte_field j (points_of points) (byte x)).0) (sym (add-one k))

  -- One turn over the points' products of differences: one more factor for point i, or none where it is point k.
  pub difference_taken : (k i r : ℕ) (old out next : List ℕ) → Differences points k old → Filled (λ (j : ℕ). denominator points j (k + 1)) old out i
      → i < length points → length points ≤ length old → (i ≡ k → ⊥) → r ≡ product (get_or out i 0) (bit_xor (get_or points i 0) (get_or points k 0))
      → next ≡ set out i r → Filled (λ (j : ℕ). denominator points j (k + 1)) old next (i + 1)
  difference_taken k i r old out next d f h u n er en =
      subst (λ (l : List ℕ). Filled (λ (j : ℕ). denominator points j (k + 1)) old l (i + 1)) (sym en) (filled_more _ old out i r f (omega arith) (by er))
    where
      by : r ≡ product (get_or out i 0) (bit_xor (get_or points i 0) (get_or points k 0)) → r ≡ denominator points i (k + 1)
      by e =
          unfold denominator in
          e ∙ ap₂ product (f.rest i (le_refl i) ∙ d.entry i h) (sym (difference_is (get_or points i 0) (get_or points k 0) (small i) (small k)))
          ∙ sym (mul_is (others_to byte_field k (points_of points) i (points_of points i)) (sub byte_field (points_of points i) (points_of points k)))
          ∙ ap (λ (b : Byte). b.0) (sym (others_to_step byte_field k (points_of points) i (points_of points i) (λ q. n (sym q))))
          ∙ ap (λ (l : ℕ). (others_to byte_field l (points_of points) i (points_of points i)).0) (sym (add-one k))

  pub difference_left : (k i : ℕ) (old out next : List ℕ) → Differences points k old → Filled (λ (j : ℕ). denominator points j (k + 1)) old out i
      → i < length points → i ≡ k → next ≡ out → Filled (λ (j : ℕ). denominator points j (k + 1)) old next (i + 1)
  difference_left k i old out next d f h q en =
      subst (λ (l : List ℕ). Filled (λ (j : ℕ). denominator points j (k + 1)) old l (i + 1)) (sym en) (filled_keep _ old out i f (by (d.entry i h)))
    where
      by : get_or old i 0 ≡ denominator points i k → get_or old i 0 ≡ denominator points i (k + 1)
      by e =
          unfold denominator in
          e ∙ ap (λ (b : Byte). b.0) (sym (others_to_skip byte_field k (points_of points) i (points_of points i) (sym q)))
          ∙ ap (λ (l : ℕ). (others_to byte_field l (points_of points) i (points_of points i)).0) (sym (add-one k))

  -- The weight of point i at x by its parts, as the code multiplies them.
  pub weight_by_parts : (shares : List ℕ) (top x i own share r : ℕ) → PointsReady points shares → x < 256
      → ((k : ℕ) → k < length points → get_or points k 0 ≡ x → ⊥) → top ≡ numerator points x (length points) → i < length points
      → own ≡ inverse (bit_xor x (get_or points i 0)) → share ≡ product own (get_or shares i 0) → r ≡ product top share → r ≡ weight points i x
  unfolding weight numerator denominator
  weight_by_parts shares top x i own share r ready hx nx et h eo es er =
      er ∙ ap₂ product et
      (es ∙ ap₂ product (eo ∙ ap inverse (sym (difference_is x (get_or points i 0) hx (small i))) ∙ sym (inv_is down))
      (ready.shares-right.entry i h ∙ sym (inv_is others)) ∙ sym (mul_is (byte_field.inv down) (byte_field.inv others)))
      ∙ sym (mul_is (roots_to byte_field (length points) (points_of points) (byte x)) (byte_field.mul (byte_field.inv down) (byte_field.inv others)))
      ∙ ap (λ (b : Byte). b.0)
      (sym (basis_parts byte_field bytes_are_a_field (points_of points) i (length points) (byte x) one_not_zero h
      (λ j l n e. n (ready.set.differ j i l h (same j i e))) (λ e. nx i h (sym (sym (byte_small x hx) ∙ ap (λ (b : Byte). b.0) e ∙ byte_small (get_or points i 0) (small i))))))
    where
      down : Byte
      down = sub byte_field (byte x) (points_of points i)

      others : Byte
      others = others_to byte_field (length points) (points_of points) i (points_of points i)

      one_not_zero : byte 1 ≡ byte 0 → ⊥
      one_not_zero e = let z : ◌≡◌ {A = ℕ} 1 0 = ap (λ (b : Byte). b.0) e in omega arith

      same : (j k : ℕ) → points_of points j ≡ points_of points k → get_or points j 0 ≡ get_or points k 0
      same j k e = sym (byte_small (get_or points j 0) (small j)) ∙ ap (λ (b : Byte). b.0) e ∙ byte_small (get_or points k 0) (small k)

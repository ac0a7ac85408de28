-- The theorems of `specs/CodeTheorems`, and that zeros code to zeros.
use mathlib.Core.Path.{◌≡◌, refl, sym, ap, ap₂, ◌∙◌}
use mathlib.Core.List.{List}
use Prim.Native.Nat.{ℕ, ◌+◌, ◌*◌, ◌≤◌, ◌<◌}
use native.Mathlib.Omega.{arith}
use lib.ListN.{length, get_or, take, replicate, length-replicate}
use Rattle.byte_lists.specs.Lists.{zeros}
use Rattle.byte_lists.proofs.Laws.ZeroLaws.{zeros_at}
use Rattle.erasure.specs.Code.{first_points, coded_of, decoded_of, blocks_of, agree, PassesThrough, Stripe, Bricks}
use Rattle.erasure.specs.CodeTheorems.{DataPolynomial, CodedByOnePolynomial, DecodeAfterEncode, CodedBlocksAgree, DecodedIsEncoded, CodeIsLinear}
use Rattle.erasure.specs.Refusals.{encoded_buffer, decoded_buffer}
use Rattle.erasure.proofs.Laws.PassedLaws.{length_first, first_set, listed_bricks, bricks_small, m_few, encode_passed, decode_passed}
use Rattle.erasure.proofs.Laws.CodeRefusalLaws.{passed_gives, decode_agrees}
use Rattle.erasure.proofs.Laws.OnePolynomialLaws.{value_on, through_agree}
use Rattle.erasure.proofs.Laws.CodedByteLaws.{first_at_lem, first_small, coded_byte, value_is, handed_length, handed_byte}
use Rattle.gf256.specs.Product.{plus, product}
use Rattle.interpolate.proofs.Laws.BlockLaws.{blocks_by}
use Rattle.interpolate.specs.Bytes.{Byte, byte, byte_field}
use Rattle.interpolate.proofs.Laws.ByteLaws.{same_byte, byte_small, add_is, mul_is, bytes_are_a_field}
use Rattle.interpolate.proofs.Laws.PolynomialLaws.{exactly_one_polynomial}
use Rattle.interpolate.specs.Polynomials.{Through}
use Rattle.interpolate.specs.Values.{byte_at}
use Rattle.interpolate.specs.Workers.{points_of}
use Rattle.poly.proofs.Laws.InterpolationLaws.{interpolated_cong, interpolated_linear, interpolated_zero}
use Rattle.poly.specs.Polynomial.{eval, interpolated}
use Rattle.settings.specs.Ranges.{max_bricks}

-- coded bytes as values at points 0, 1, ..
pub coded_value : (n m size : ℕ) (stripe : List ℕ) (j p : ℕ) → j < n → p < size
    → byte_at size (coded_of n m size stripe) j p
    ≡ (interpolated byte_field m (points_of (first_points m)) (λ (i : ℕ). byte (byte_at size stripe i p)) (byte j)).0
coded_value n m size stripe j p hj hp = coded_byte n m size stripe j p hj hp ∙ value_is (first_points m) m size stripe j p (length_first m)

-- the polynomial through the data bytes, by the list of points or by their numbers
module _ (m size : ℕ) (stripe : List ℕ) (p : ℕ) (small : (i : ℕ) → get_or stripe i 0 < 256) (c : List Byte) where
  value_at_lem : (i : ℕ) → i < m → (eval byte_field c (byte (get_or (first_points m) i 0))).0 ≡ (eval byte_field c (byte i)).0
  value_at_lem i h = ap (λ (x : ℕ). (eval byte_field c (byte x)).0) (first_at_lem m i h)

  data_byte : (i : ℕ) → (byte (byte_at size stripe i p)).0 ≡ byte_at size stripe i p
  unfolding byte_at
  data_byte i = byte_small (get_or stripe (i * size + p) 0) (small (i * size + p))

  data_polynomial : Through (first_points m) size stripe p c → DataPolynomial m size stripe p c
  data_polynomial t =
      record {
        degree = t.degree ∙ length_first m;
        at = λ i h. sym (value_at_lem i h) ∙ ap (λ (b : Byte). b.0) (t.at i (let e = length_first m in omega arith)) ∙ data_byte i;
      }

  through_data : DataPolynomial m size stripe p c → Through (first_points m) size stripe p c
  through_data d =
      record {
        degree = d.degree ∙ sym (length_first m);
        at = λ i h. let u : i < m = (let e = length_first m in omega arith) in same_byte (value_at_lem i u ∙ d.at i u ∙ sym (data_byte i));
      }

pub coded_by_one_polynomial : CodedByOnePolynomial
coded_by_one_polynomial n m size stripe p r small hp =
    let few : m ≤ max_bricks = (let a = r.m-high in let b = r.n-high in omega arith) in
    let e = exactly_one_polynomial (first_points m) size stripe p (first_small m few) (first_set m few) in (
      e.0,
      data_polynomial m size stripe p small e.0 e.1,
      (λ d h. e.2 d (through_data m size stripe p small d h)),
      (λ j h. coded_byte n m size stripe j p h hp ∙ e.3 j),
    )

-- The blocks of bricks of n lie on the polynomial of the data.
module _ (n m size : ℕ) (stripe bricks : List ℕ) (s : Stripe m size stripe) (b : Bricks n m bricks) where
  handed : List ℕ
  handed = blocks_of size (coded_of n m size stripe) bricks

  handed_through : (p : ℕ) → p < size → (c : List Byte) × DataPolynomial m size stripe p c × PassesThrough m size bricks handed p c
  unfolding handed
  handed_through p hp =
      let e = exactly_one_polynomial (first_points m) size stripe p (first_small m (m_few n m bricks b)) (first_set m (m_few n m bricks b)) in
      let d = data_polynomial m size stripe p s.small e.0 e.1 in (
        e.0,
        d,
        record { degree = d.degree; at = λ i h. sym (e.3 (get_or bricks i 0)) ∙ sym (handed_byte n m size stripe bricks b i p h hp) },
      )

pub decode_after_encode : DecodeAfterEncode
unfolding decoded_of handed
decode_after_encode n m size stripe bricks s b =
    sym
    (blocks_by (take m bricks) size (blocks_of size (coded_of n m size stripe) bricks) stripe m s.pos s.length-is
    (λ x p hx hp.
    let t = handed_through n m size stripe bricks s b p hp in
    sym
    (value_on m size bricks (blocks_of size (coded_of n m size stripe) bricks) (m_few n m bricks b) b.enough b.differ
    (bricks_small n m bricks b) p t.0 t.2 x
    ∙ t.1.at x hx)))

pub coded_blocks_agree : CodedBlocksAgree
unfolding handed
coded_blocks_agree n m size stripe bricks s b =
    through_agree m size bricks (blocks_of size (coded_of n m size stripe) bricks) (m_few n m bricks b) b.enough b.differ (bricks_small n m bricks b)
    (handed_length n m size stripe bricks b)
    (λ p hp. let t = handed_through n m size stripe bricks s b p hp in (t.0, t.2))

pub decoded_is_encoded : DecodedIsEncoded
unfolding encoded_buffer decoded_buffer
decoded_is_encoded n m size stripe coded coded' bricks blocks out out' small accepted ec eb taken eo =
    let e = encode_passed n m size (length stripe) (length coded) accepted in
    let d = decode_passed n m size bricks (length blocks) (length out) taken in
    let eh = eb ∙ ap (λ (l : List ℕ). blocks_of size l bricks) (ec ∙ sym (passed_gives _ coded (coded_of n m size stripe) _ accepted refl)) in
    let s : Stripe m size stripe = record { pos = e.range.size_low; length-is = e.stripe-length; small = small } in
    let b = listed_bricks d in
    let a = ap (agree m size bricks) eh ∙ coded_blocks_agree n m size stripe bricks s b in
    let ok = sym (decode_agrees n m size bricks blocks (length out) _ taken refl a) in (
      ok,
      eo ∙ sym (passed_gives _ out (decoded_of m size bricks blocks) _ ok refl)
          ∙ ap (decoded_of m size bricks) eh ∙ decode_after_encode n m size stripe bricks s b,
    )

pub code_is_linear : CodeIsLinear
unfolding byte_at
code_is_linear n m size a d s c hc ha hd hs j p hn hp =
    coded_value n m size s j p hn hp
    ∙ ap (λ (b : Byte). b.0)
    (interpolated_cong byte_field m (points_of (first_points m)) (points_of (first_points m)) (λ (i : ℕ). byte (byte_at size s i p))
    (λ (i : ℕ). byte_field.add (byte (byte_at size a i p)) (byte_field.mul (byte c) (byte (byte_at size d i p)))) (byte j) (λ i h. refl) (λ i h. at i)
    ∙ interpolated_linear byte_field bytes_are_a_field m (points_of (first_points m)) (λ (i : ℕ). byte (byte_at size a i p))
    (λ (i : ℕ). byte (byte_at size d i p)) (byte c) (byte j))
    ∙ add_is (value a) (byte_field.mul (byte c) (value d)) ∙ ap (plus (value a).0) (mul_is (byte c) (value d))
    ∙ ap₂ (λ (x y : ℕ). plus x (product y (value d).0)) (sym (coded_value n m size a j p hn hp)) (byte_small c hc)
    ∙ ap (λ (x : ℕ). plus (byte_at size (coded_of n m size a) j p) (product c x)) (sym (coded_value n m size d j p hn hp))
  where
    value : List ℕ → Byte
    value l = interpolated byte_field m (points_of (first_points m)) (λ (i : ℕ). byte (byte_at size l i p)) (byte j)

    at : (i : ℕ) → byte (byte_at size s i p) ≡ byte_field.add (byte (byte_at size a i p)) (byte_field.mul (byte c) (byte (byte_at size d i p)))
    at i =
        let ax = get_or a (i * size + p) 0 in
        let dx = get_or d (i * size + p) 0 in
        ap byte
        (hs (i * size + p)
        ∙ sym
        (ap₂ plus (byte_small ax (ha (i * size + p)))
        (mul_is (byte c) (byte dx) ∙ ap₂ product (byte_small c hc) (byte_small dx (hd (i * size + p))))))

-- The code of zeros is zeros.
pub coded_zeros : (n m size : ℕ) (stripe : List ℕ) → ((i : ℕ) → get_or stripe i 0 ≡ 0) → (j p : ℕ) → j < n → p < size
    → byte_at size (coded_of n m size stripe) j p ≡ 0
coded_zeros n m size stripe all_zero j p hn hp =
    coded_value n m size stripe j p hn hp
    ∙ ap (λ (b : Byte). b.0)
    (interpolated_zero byte_field bytes_are_a_field m (points_of (first_points m)) (λ (i : ℕ). byte (byte_at size stripe i p)) (byte j)
    (λ i h. same_byte (byte_small (byte_at size stripe i p) (let z = zero-at i in omega arith) ∙ zero-at i)))
  where
    zero-at : (i : ℕ) → byte_at size stripe i p ≡ 0
    zero-at i = unfold byte_at in all_zero (i * size + p)

-- The same of whole rows of blocks.
pub coded_of_zeros : (n m size : ℕ) → 0 < size → coded_of n m size (replicate (m * size) 0) ≡ replicate (n * size) 0
unfolding coded_of byte_at zeros
coded_of_zeros n m size pos =
    sym
    (blocks_by (first_points m) size (replicate (m * size) 0) (replicate (n * size) 0) n pos (length-replicate (n * size) 0)
    (λ j p hj hp.
    zeros_at (n * size) (j * size + p)
    ∙ sym (sym (coded_byte n m size (replicate (m * size) 0) j p hj hp) ∙ coded_zeros n m size (replicate (m * size) 0) (zeros_at (m * size)) j p hj hp)))

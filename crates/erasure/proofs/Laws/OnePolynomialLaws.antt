-- Blocks that agree: on one polynomial, as the code tests them, and whichever m of them one takes.
use mathlib.Core.Path.{◌≡◌, refl, sym, ap, ap₂, subst, ◌∙◌}
use mathlib.Core.Bool.{Bool, true, false, cond}
use mathlib.Core.List.{List}
use Prim.Native.Nat.{ℕ, ◌+◌, ◌-◌, ◌*◌, ◌≤◌, ◌<◌}
use native.Mathlib.Decide.{dec_lt}
use native.Mathlib.Nat.{add-mul, mul-le-mul_right}
use native.Mathlib.Omega.{arith}
use lib.ListN.{length, get_or, take, drop, length-take, length-drop, get_or-eq_default}
use lib.Seq.{length-take-le, get_or-take, get_or-drop, drop-drop, take_all}
use Rattle.byte_lists.specs.Each.{each}
use Rattle.byte_lists.specs.Lists.{same}
use Rattle.byte_lists.proofs.Laws.EachLaws.{each_ext, each_all, each_at}
use Rattle.byte_lists.proofs.Laws.SameLaws.{same_true, same_of}
use Rattle.byte_lists.proofs.Laws.TabulateLaws.{length_tabulate, get_d_tabulate, tabulate_by, tabulate_ext}
use Rattle.erasure.specs.Code.{decoded_of, block_of, blocks_of, bricks_at, agree, PassesThrough, OnOnePolynomial}
use Rattle.erasure.specs.CodeTheorems.{AgreeOnOnePolynomial, DecodedOnThePolynomial, AnyMOfTheList}
use Rattle.erasure.specs.Refusals.{list_refusal, decode_refusal, decoded_buffer, DecodedByPolynomials}
use Rattle.erasure.specs.Workers.{Decodes}
use Rattle.erasure.proofs.Laws.BlockOfLaws.{block_within, block_length, block_byte}
use Rattle.erasure.proofs.Laws.CodeRefusalLaws.{passed_gives, decode_agrees, decode_disagrees, decode_accepted}
use Rattle.erasure.proofs.Laws.PassedLaws.{Listed, listed_bricks, bricks_small, m_few, decode_passed}
use Rattle.interpolate.specs.Bytes.{Byte, byte, byte_field}
use Rattle.interpolate.specs.Polynomials.{Through}
use Rattle.interpolate.specs.Values.{byte_at, value_at, block_at, blocks_at, blocks_fit, PointSet}
use Rattle.interpolate.specs.Workers.{points_of, Apart}
use Rattle.interpolate.proofs.Laws.BlockLaws.{index_below, byte_stacked, length_blocks_at, blocks_byte, blocks_by}
use Rattle.interpolate.proofs.Laws.ByteLaws.{same_byte, byte_below, byte_small}
use Rattle.interpolate.proofs.Laws.PolynomialLaws.{a_polynomial, value_of_polynomial}
use Rattle.poly.proofs.Laws.InterpolationLaws.{interpolated_cong}
use Rattle.poly.specs.Polynomial.{eval}
use Rattle.settings.specs.Ranges.{max_bricks}
use Rattle.settings.specs.Refusal.{passed, blocks_disagree}

-- no brick of a list stands twice, by places
abbrev Differ : List ℕ → Type 0
Differ l = (i j : ℕ) → i < length l → j < length l → get_or l i 0 ≡ get_or l j 0 → i ≡ j

-- the first m of different bricks
pub front_set : (m : ℕ) (bricks : List ℕ) → m ≤ max_bricks → m ≤ length bricks → Differ bricks → PointSet (take m bricks)
front_set m bricks few enough differ =
    let l = length-take-le m bricks enough in
    record {
      few = omega arith;
      differ = λ i j hi hj q.
          differ i j (omega arith) (omega arith) (sym (get_or-take m bricks i 0 (omega arith)) ∙ q ∙ get_or-take m bricks j 0 (omega arith));
    }

front_small : (m : ℕ) (bricks : List ℕ) → ((i : ℕ) → get_or bricks i 0 < 256) → (i : ℕ) → get_or (take m bricks) i 0 < 256
front_small m bricks small i = by (dec_lt i m)
  where
    by : Dec (i < m) → get_or (take m bricks) i 0 < 256
    by (yes h) = subst (λ (x : ℕ). x < 256) (sym (get_or-take m bricks i 0 h)) (small i)
    by (no h) = let e = get_or-eq_default (take m bricks) 0 {n = i} (let l = length-take m bricks in omega arith) in omega arith

-- and the others are apart from them
pub rest_apart : (m : ℕ) (bricks : List ℕ) → m ≤ length bricks → Differ bricks → Apart (take m bricks) (drop m bricks)
rest_apart m bricks enough differ =
    let l = length-take-le m bricks enough in
    let d = length-drop m bricks in
    record {
      none = λ i k hi hk q.
          let same : k ≡ m + i =
          differ k (m + i) (omega arith) (omega arith) (sym (get_or-take m bricks k 0 (omega arith)) ∙ q ∙ get_or-drop m bricks i 0) in
          omega arith;
    }

-- Blocks on one polynomial.
module _ (m size : ℕ) (bricks blocks : List ℕ) (few : m ≤ max_bricks) (enough : m ≤ length bricks) (differ : Differ bricks)
    (small : (i : ℕ) → get_or bricks i 0 < 256) where
  through_front : (p : ℕ) (c : List Byte) → PassesThrough m size bricks blocks p c → Through (take m bricks) size blocks p c
  through_front p c h =
      let l = length-take-le m bricks enough in
      record { degree = h.degree ∙ sym l; at = λ i u. at i (omega arith) }
    where
      at : (i : ℕ) → i < m → eval byte_field c (byte (get_or (take m bricks) i 0)) ≡ byte (byte_at size blocks i p)
      at i u =
          let e = ap (λ (x : ℕ). (eval byte_field c (byte x)).0) (get_or-take m bricks i 0 u) ∙ h.at i (omega arith) in
          same_byte (e ∙ sym (byte_small (byte_at size blocks i p) (subst (λ (v : ℕ). v < 256) e (byte_below (eval byte_field c (byte (get_or (take m bricks) i 0)))))))

  -- what the first m say at any point is its value there
  pub value_on : (p : ℕ) (c : List Byte) → PassesThrough m size bricks blocks p c
      → (x : ℕ) → value_at (take m bricks) size blocks x p ≡ (eval byte_field c (byte x)).0
  value_on p c h x =
      sym
      (value_of_polynomial (take m bricks) size blocks p (front_small m bricks small) (front_set m bricks few enough differ) c (through_front p c h) x)

  pub decoded_on : (p : ℕ) → p < size → (c : List Byte) → PassesThrough m size bricks blocks p c
      → (j : ℕ) → j < m → byte_at size (decoded_of m size bricks blocks) j p ≡ (eval byte_field c (byte j)).0
  unfolding decoded_of
  decoded_on p hp c h j hj = blocks_byte (take m bricks) size blocks m j p hj hp ∙ value_on p c h j

  pub agree_through : ((i : ℕ) → get_or blocks i 0 < 256) → agree m size bricks blocks ≡ true → OnOnePolynomial m size bricks blocks
  unfolding agree block_at
  agree_through bytes e p hp =
      let s = front_small m bricks small in
      let d = front_set m bricks few enough differ in
      let q = a_polynomial (take m bricks) size blocks p s d in
      (q.0, record { degree = q.1.degree ∙ length-take-le m bricks enough; at = λ i h. at q.0 q.1 i h (dec_lt i m) })
    where
      -- at a brick behind the first m
      behind : (c : List Byte) → Through (take m bricks) size blocks p c → (k : ℕ) → m + k < length bricks
          → (eval byte_field c (byte (get_or bricks (m + k) 0))).0 ≡ byte_at size blocks (m + k) p
      behind c t k h =
          value_of_polynomial (take m bricks) size blocks p (front_small m bricks small) (front_set m bricks few enough differ) c t (get_or bricks (m + k) 0)
          ∙ sym (get_d_tabulate size (value_at (take m bricks) size blocks (get_or bricks (m + k) 0)) p hp)
          ∙ ap (λ (l : List ℕ). get_or l p 0) (sym (same_true (block_of size blocks (m + k)) _ (each_at _ (length bricks - m) k e (omega arith))))
          ∙ block_byte size blocks (m + k) p hp

      own-small : (i : ℕ) → byte_at size blocks i p < 256
      own-small i = unfold byte_at in bytes (i * size + p)

      at : (c : List Byte) → Through (take m bricks) size blocks p c → (i : ℕ) → i < length bricks → Dec (i < m)
          → (eval byte_field c (byte (get_or bricks i 0))).0 ≡ byte_at size blocks i p
      at c t i h (yes u) =
          ap (λ (x : ℕ). (eval byte_field c (byte x)).0) (sym (get_or-take m bricks i 0 u))
          ∙ ap (λ (b : Byte). b.0) (t.at i (let l = length-take-le m bricks enough in omega arith))
          ∙ byte_small (byte_at size blocks i p) (own-small i)
      at c t i h (no n) =
          let q : m + (i - m) ≡ i = omega arith in
          subst (λ (j : ℕ). (eval byte_field c (byte (get_or bricks j 0))).0 ≡ byte_at size blocks j p) q (behind c t (i - m) (omega arith))

  pub through_agree : length blocks ≡ length bricks * size → OnOnePolynomial m size bricks blocks → agree m size bricks blocks ≡ true
  unfolding agree block_at
  through_agree long o =
      each_all _ (length bricks - m)
      (λ k h.
      let u : m + k < length bricks = omega arith in
      same_of (block_of size blocks (m + k)) _
      (tabulate_by size (value_at (take m bricks) size blocks (get_or bricks (m + k) 0)) (block_of size blocks (m + k))
      (block_length size blocks (m + k) (block_within (length bricks) size (m + k) blocks long u))
      (λ p hp. block_byte size blocks (m + k) p hp ∙ sym ((o p hp).1.at (m + k) u) ∙ sym (value_on p (o p hp).0 (o p hp).1 (get_or bricks (m + k) 0)))))

pub agree_on_one_polynomial : AgreeOnOnePolynomial
agree_on_one_polynomial n m size bricks blocks b long bytes =
    let small = bricks_small n m bricks b in (
      agree_through m size bricks blocks (m_few n m bricks b) b.enough b.differ small bytes,
      through_agree m size bricks blocks (m_few n m bricks b) b.enough b.differ small long,
    )

pub decoded_on_the_polynomial : DecodedOnThePolynomial
decoded_on_the_polynomial n m size bricks blocks b p hp c h j hj =
    decoded_on m size bricks blocks (m_few n m bricks b) b.enough b.differ (bricks_small n m bricks b) p hp c h j hj

-- Some of the list, by their places.
module _ (size : ℕ) (bricks blocks places : List ℕ) (within : (i : ℕ) → i < length places → get_or places i 0 < length bricks) where
  pub bricks_at_length : length (bricks_at bricks places) ≡ length places
  unfolding bricks_at
  bricks_at_length = length_tabulate (length places) (λ (i : ℕ). get_or bricks (get_or places i 0) 0)

  pub brick_at : (i : ℕ) → i < length places → get_or (bricks_at bricks places) i 0 ≡ get_or bricks (get_or places i 0) 0
  unfolding bricks_at
  brick_at i h = get_d_tabulate (length places) (λ (i : ℕ). get_or bricks (get_or places i 0) 0) i h

  brick_at_small : ((i : ℕ) → get_or bricks i 0 < 256) → (i : ℕ) → get_or (bricks_at bricks places) i 0 < 256
  brick_at_small small i = by (dec_lt i (length places))
    where
      by : Dec (i < length places) → get_or (bricks_at bricks places) i 0 < 256
      by (yes h) = subst (λ (x : ℕ). x < 256) (sym (brick_at i h)) (small (get_or places i 0))
      by (no h) =
          let e = get_or-eq_default (bricks_at bricks places) 0 {n = i} (let l = bricks_at_length in omega arith) in
          omega arith

  place_below : 0 < length bricks → (i : ℕ) → get_or places i 0 < length bricks
  place_below some i = by (dec_lt i (length places))
    where
      by : Dec (i < length places) → get_or places i 0 < length bricks
      by (yes h) = within i h
      by (no h) = subst (λ (x : ℕ). x < length bricks) (sym (get_or-eq_default places 0 {n = i} (omega arith))) some

  pub byte_of_place : length blocks ≡ length bricks * size → 0 < length bricks → (i p : ℕ) → i < length places → p < size
      → byte_at size (blocks_of size blocks places) i p ≡ byte_at size blocks (get_or places i 0) p
  unfolding blocks_of
  byte_of_place long some i p hi hp =
      byte_stacked (length places) size (λ (i : ℕ). block_of size blocks (get_or places i 0))
      (λ i. block_length size blocks (get_or places i 0) (block_within (length bricks) size (get_or places i 0) blocks long (place_below some i))) i p hi hp
      ∙ block_byte size blocks (get_or places i 0) p hp

  -- they lie on the polynomial of all
  pub places_through : length blocks ≡ length bricks * size → 0 < length bricks → (m p : ℕ) → p < size → (c : List Byte)
      → PassesThrough m size bricks blocks p c → PassesThrough m size (bricks_at bricks places) (blocks_of size blocks places) p c
  places_through long some m p hp c h = record { degree = h.degree; at = λ i u. at i (let l = bricks_at_length in omega arith) }
    where
      at : (i : ℕ) → i < length places
          → (eval byte_field c (byte (get_or (bricks_at bricks places) i 0))).0 ≡ byte_at size (blocks_of size blocks places) i p
      at i u =
          ap (λ (x : ℕ). (eval byte_field c (byte x)).0) (brick_at i u) ∙ h.at (get_or places i 0) (within i u)
          ∙ sym (byte_of_place long some i p u hp)

  -- m different places of different bricks: what they say at any point is the value there of a polynomial through them
  pub value_at_places : (m : ℕ) → m ≤ max_bricks → length places ≡ m → Differ bricks → ((i : ℕ) → get_or bricks i 0 < 256)
      → ((i j : ℕ) → i < m → j < m → get_or places i 0 ≡ get_or places j 0 → i ≡ j)
      → (p : ℕ) (c : List Byte) → PassesThrough m size (bricks_at bricks places) (blocks_of size blocks places) p c
      → (x : ℕ) → value_at (take m (bricks_at bricks places)) size (blocks_of size blocks places) x p ≡ (eval byte_field c (byte x)).0
  value_at_places m few count differ small apart =
      value_on m size (bricks_at bricks places) (blocks_of size blocks places) few (omega (arith, bricks_at_length, count)) here (brick_at_small small)
    where
      here : Differ (bricks_at bricks places)
      here i j hi hj q =
          let hi' : i < length places = omega (arith, bricks_at_length, hi) in
          let hj' : j < length places = omega (arith, bricks_at_length, hj) in
          apart i j (omega arith) (omega arith)
          (differ (get_or places i 0) (get_or places j 0) (within i hi') (within j hj') (sym (brick_at i hi') ∙ q ∙ brick_at j hj'))

pub any_m_of_the_list : AnyMOfTheList
unfolding decoded_of
any_m_of_the_list n m size bricks blocks b pos long-blocks bytes e places count within apart =
    sym
    (blocks_by (take m (bricks_at bricks places)) size (blocks_of size blocks places) (blocks_at (take m bricks) size blocks m) m pos
    (length_blocks_at (take m bricks) size blocks m)
    (λ x p hx hp.
    let o = agree_through m size bricks blocks (m_few n m bricks b) b.enough b.differ (bricks_small n m bricks b) bytes e p hp in
    decoded_on m size bricks blocks (m_few n m bricks b) b.enough b.differ (bricks_small n m bricks b) p hp o.0 o.1 x hx
    ∙ sym
    (value_at_places size bricks blocks places below m (m_few n m bricks b) count b.differ (bricks_small n m bricks b) apart p o.0
    (places_through size bricks blocks places below long-blocks (omega (arith, b.enough, hx)) m p hp o.0 o.1) x)))
  where
    below : (i : ℕ) → i < length places → get_or places i 0 < length bricks
    below i h = within i (omega arith)

-- a list of exactly m is its own first m
pub decoded_all : (m size : ℕ) (bricks blocks : List ℕ) → length bricks ≡ m → blocks_at bricks size blocks m ≡ decoded_of m size bricks blocks
unfolding decoded_of
decoded_all m size bricks blocks e = ap (λ (l : List ℕ). blocks_at l size blocks m) (sym (take_all m bricks (omega arith)))

-- As the code tests it: the blocks behind the first m fit what these say.
module _ (m size : ℕ) (bricks blocks : List ℕ) (enough : m ≤ length bricks) where
  front_value : (x p : ℕ) → p < size → value_at (take m bricks) size (take (m * size) blocks) x p ≡ value_at (take m bricks) size blocks x p
  unfolding value_at byte_at
  front_value x p hp =
      ap (λ (b : Byte). b.0)
      (interpolated_cong byte_field (length (take m bricks)) (points_of (take m bricks)) (points_of (take m bricks))
      (λ (i : ℕ). byte (byte_at size (take (m * size) blocks) i p)) (λ (i : ℕ). byte (byte_at size blocks i p)) (byte x) (λ i h. refl)
      (λ i h.
      ap byte
      (get_or-take (m * size) blocks (i * size + p) 0 (index_below i m size p (let l = length-take-le m bricks enough in omega arith) hp))))

  front_block : (x : ℕ) → block_at (take m bricks) size (take (m * size) blocks) x ≡ block_at (take m bricks) size blocks x
  unfolding block_at
  front_block x =
      tabulate_ext size (value_at (take m bricks) size (take (m * size) blocks) x) (value_at (take m bricks) size blocks x) (front_value x)

  pub front_decoded : 0 < size → blocks_at (take m bricks) size (take (m * size) blocks) m ≡ decoded_of m size bricks blocks
  unfolding decoded_of
  front_decoded pos =
      blocks_by (take m bricks) size blocks (blocks_at (take m bricks) size (take (m * size) blocks) m) m pos
      (length_blocks_at (take m bricks) size (take (m * size) blocks) m)
      (λ x p hx hp. blocks_byte (take m bricks) size (take (m * size) blocks) m x p hx hp ∙ front_value x p hp)

  pub fit_agree : blocks_fit (take m bricks) size (take (m * size) blocks) (drop m bricks) (drop (m * size) blocks) ≡ agree m size bricks blocks
  unfolding blocks_fit agree block_of
  fit_agree =
      each_ext _ _ (length (drop m bricks))
      (λ k.
      ap₂ same (ap (take size) (drop-drop (k * size) (m * size) blocks ∙ ap (λ (j : ℕ). drop j blocks) (sym (add-mul m k size))))
      (front_block (get_or (drop m bricks) k 0) ∙ ap (block_at (take m bricks) size blocks) (get_or-drop m bricks k 0)))
      ∙ ap (each (λ (k : ℕ). same (take size (drop ((m + k) * size) blocks)) (block_at (take m bricks) size blocks (get_or bricks (m + k) 0)))) (length-drop m bricks)

-- The same with the lists as the code cuts them.
rest_is_cut : (k : ℕ) (l : List ℕ) → take (length l - k) (drop k l) ≡ drop k l
rest_is_cut k l = take_all (length l - k) (drop k l) (let d = length-drop k l in omega arith)

module _ (m size : ℕ) (bricks blocks : List ℕ) (stripe : ℕ) (d : Decodes m size bricks (length blocks) stripe) where
  pub own_within : m * size ≤ length blocks
  own_within = let h = mul-le-mul_right size d.enough in let l = d.blocks-length in omega arith

  pub own_length : length (take (m * size) blocks) ≡ length (take m bricks) * size
  own_length = length-take-le (m * size) blocks own_within ∙ ap (λ (k : ℕ). k * size) (sym (length-take-le m bricks d.enough))

  pub rest_length : length (take (length blocks - m * size) (drop (m * size) blocks)) ≡ length (take (length bricks - m) (drop m bricks)) * size
  rest_length =
      ap length (rest_is_cut (m * size) blocks) ∙ length-drop (m * size) blocks ∙ counted
      ∙ ap (λ (k : ℕ). k * size) (sym (ap length (rest_is_cut m bricks) ∙ length-drop m bricks))
    where
      counted : length blocks - m * size ≡ (length bricks - m) * size
      counted =
          let q : m + (length bricks - m) ≡ length bricks = (let e = d.enough in omega arith) in
          let t = sym (ap (λ (k : ℕ). k * size) q) ∙ add-mul m (length bricks - m) size in
          let l = d.blocks-length in
          omega arith

  pub cut_apart : Apart (take m bricks) (take (length bricks - m) (drop m bricks))
  cut_apart = subst (Apart (take m bricks)) (sym (rest_is_cut m bricks)) (rest_apart m bricks d.enough d.differ)

  pub cut_agree : (t : Bool)
      → t ≡ blocks_fit (take m bricks) size (take (m * size) blocks) (take (length bricks - m) (drop m bricks)) (take (length blocks - m * size) (drop (m * size) blocks))
      → t ≡ agree m size bricks blocks
  cut_agree t e =
      e ∙ ap₂ (blocks_fit (take m bricks) size (take (m * size) blocks)) (rest_is_cut m bricks) (rest_is_cut (m * size) blocks)
      ∙ fit_agree m size bricks blocks d.enough

  pub cut_decoded : (t : Bool) (old out : List ℕ) → out ≡ cond t (blocks_at (take m bricks) size (take (m * size) blocks) m) old
      → out ≡ cond t (decoded_of m size bricks blocks) old
  cut_decoded t old out e = e ∙ ap (λ (l : List ℕ). cond t l old) (front_decoded m size bricks blocks d.enough d.size_low)

-- A decoding by its polynomials.
pub decoded_by_polynomials : (n m size : ℕ) (bricks blocks old : List ℕ) (number : ℕ) (out : List ℕ) → ((i : ℕ) → get_or blocks i 0 < 256)
    → number ≡ decode_refusal n m size bricks blocks (length old) → out ≡ decoded_buffer n m size bricks blocks old
    → DecodedByPolynomials n m size bricks blocks old number out
unfolding decoded_buffer
decoded_by_polynomials n m size bricks blocks old number out bytes e eo =
    record {
      if-one = λ l o. e ∙ sym (decode_agrees n m size bricks blocks (length old) _ l refl ((on l).1 o));
      only-if-one = λ z. let a = decode_accepted n m size bricks blocks (length old) (sym e ∙ z) in (on a.0).0 a.1;
      otherwise = λ l h. by (agree m size bricks blocks) refl l h;
      values = λ z p hp c h j hj.
          ap (λ (l : List ℕ). byte_at size l j p) (eo ∙ sym (passed_gives _ old (decoded_of m size bricks blocks) _ (sym e ∙ z) refl))
          ∙ decoded_on_the_polynomial n m size bricks blocks (listed_bricks (listed (decode_accepted n m size bricks blocks (length old) (sym e ∙ z)).0)) p hp c h j hj;
    }
  where
    listed : list_refusal n m size bricks (length blocks) (length old) ≡ passed → Listed n m size bricks (length blocks) (length old)
    listed l = decode_passed n m size bricks (length blocks) (length old) l

    on : list_refusal n m size bricks (length blocks) (length old) ≡ passed
        → (agree m size bricks blocks ≡ true → OnOnePolynomial m size bricks blocks)
        × (OnOnePolynomial m size bricks blocks → agree m size bricks blocks ≡ true)
    on l = agree_on_one_polynomial n m size bricks blocks (listed_bricks (listed l)) (listed l).decodes.blocks-length bytes

    by : (t : Bool) → agree m size bricks blocks ≡ t → list_refusal n m size bricks (length blocks) (length old) ≡ passed → (number ≡ passed → ⊥)
        → number ≡ blocks_disagree
    by true a l h = absurd (h (e ∙ sym (decode_agrees n m size bricks blocks (length old) _ l refl a)))
    by false a l h = e ∙ sym (decode_disagrees n m size bricks blocks (length old) _ l refl a)

-- a decoding cut into its first m blocks and the rest
pub ruleset cut_ways = (front_set, own_within, own_length, rest_length, cut_apart, cut_agree, cut_decoded)

-- What an encoding and a decoding that are not refused satisfy, and the points of the data blocks.
use mathlib.Core.Path.{◌≡◌, refl, sym, ap, subst, ◌∙◌}
use mathlib.Core.Bool.{Bool, true, false, cond, not, ◌&&◌}
use mathlib.Core.List.{List, [], ◌∷◌}
use Prim.Native.Nat.{ℕ, zero, suc, ◌*◌, ◌≤◌, ◌<◌}
use native.Mathlib.Decide.{dec_lt}
use native.Mathlib.Nat.{le_of_suc-le-suc, not-suc-le-zero}
use native.Mathlib.Omega.{arith}
use lib.Dec.{eqb, leb, ltb}
use lib.ListN.{length, get_or, take, get_or-eq_default}
use lib.Seq.{get_or-take, length-take-le}
use borrow.Author.Tests.{eq-eqb, eqb-true, leb-true, ltb-true, not-true}
use Rattle.erasure.specs.Code.{first_points, Bricks}
use Rattle.erasure.specs.Refusals.{all_below, stands, all_different, encode_refusal, list_refusal}
use Rattle.byte_lists.specs.Each.{each}
use Rattle.byte_lists.proofs.Laws.EachLaws.{each_at}
use Rattle.interpolate.specs.Values.{PointSet}
use Rattle.byte_lists.proofs.Laws.TabulateLaws.{length_tabulate, get_d_tabulate, tabulate_by}
use Rattle.settings.specs.Ranges.{max_bricks, code_refusal, CodeRange}
use Rattle.settings.proofs.Laws.RangeLaws.{code_passed}
use Rattle.byte_lists.proofs.Laws.BoolLaws.{and_left, and_right}
use Rattle.settings.specs.Refusal.{refuse_unless, bad_length, bad_number}
use Rattle.settings.proofs.Laws.RefusalLaws.{passed_first, passed_rest, tested}
use Rattle.erasure.specs.Workers.{Encodes, Decodes}
use Rattle.erasure.proofs.Laws.CodeRefusalLaws.{number_above, refused_leaves, passed_gives}

stands_nowhere : (x : ℕ) (l : List ℕ) → stands x l ≡ false → (k : ℕ) → k < length l → get_or l k 0 ≡ x → ⊥
unfolding stands
stands_nowhere x [] e k h q = not-suc-le-zero h
stands_nowhere x (b ∷ bs) e k h q = go (eqb b x) refl e (stands_nowhere x bs) k h q
  where
    go : (t : Bool) → eqb b x ≡ t → cond t true (stands x bs) ≡ false → (stands x bs ≡ false → (k : ℕ) → k < length bs → get_or bs k 0 ≡ x → ⊥)
        → (k : ℕ) → k < suc (length bs) → get_or (b ∷ bs) k 0 ≡ x → ⊥
    go true et f ih k l r = let z : ◌≡◌ {A = ℕ} 0 1 = cc in omega arith
    go false et f ih zero l r = let z : false ≡ true = sym et ∙ eq-eqb b x r in let w : ◌≡◌ {A = ℕ} 0 1 = cc in omega arith
    go false et f ih (suc k) l r = ih f k (le_of_suc-le-suc l) r

-- different bricks, by their places
apart : (l : List ℕ) → all_different l ≡ true → (i j : ℕ) → i < j → j < length l → get_or l i 0 ≡ get_or l j 0 → ⊥
unfolding all_different
apart [] e i j h u q = not-suc-le-zero u
apart (b ∷ bs) e i zero h u q = not-suc-le-zero h
apart (b ∷ bs) e zero (suc j) h u q = stands_nowhere b bs (not-true _ (and_left _ _ e)) j (le_of_suc-le-suc u) (sym q)
apart (b ∷ bs) e (suc i) (suc j) h u q = apart bs (and_right (not (stands b bs)) _ e) i j (le_of_suc-le-suc h) (le_of_suc-le-suc u) q

different_places : (l : List ℕ) → all_different l ≡ true → (i j : ℕ) → i < length l → j < length l → get_or l i 0 ≡ get_or l j 0 → i ≡ j
different_places l e i j hi hj q = by (dec_lt i j) (dec_lt j i)
  where
    by : Dec (i < j) → Dec (j < i) → i ≡ j
    by (yes h) d = absurd (apart l e i j h hj q)
    by (no n) (yes h) = absurd (apart l e j i h hi (sym q))
    by (no n) (no k) = omega arith

-- bricks below n, by their places
pub below_at : (l : List ℕ) (n : ℕ) → all_below l n ≡ true → (i : ℕ) → i < length l → get_or l i 0 < n
unfolding all_below
below_at [] n e i h = absurd (not-suc-le-zero h)
below_at (b ∷ bs) n e zero h = ltb-true b n (and_left _ _ e)
below_at (b ∷ bs) n e (suc i) h = below_at bs n (and_right (ltb b n) _ e) i (le_of_suc-le-suc h)

-- the points 0 to m − 1
pub first_set : (m : ℕ) → m ≤ max_bricks → PointSet (first_points m)
unfolding first_points
first_set m h =
    let l = length_tabulate m (λ (i : ℕ). i) in
    record {
      few = omega arith;
      differ = λ i j hi hj q. sym (get_d_tabulate m (λ (i : ℕ). i) i (omega arith)) ∙ q ∙ get_d_tabulate m (λ (i : ℕ). i) j (omega arith);
    }

pub length_first : (m : ℕ) → length (first_points m) ≡ m
unfolding first_points
length_first m = length_tabulate m (λ (i : ℕ). i)

-- as the code writes them: the first m of a list whose entry i is i
pub first_by : (l : List ℕ) (m : ℕ) → length l ≡ max_bricks → ((i : ℕ) → i < max_bricks → get_or l i 0 ≡ i) → m ≤ max_bricks → take m l ≡ first_points m
unfolding first_points
first_by l m e h u =
    tabulate_by m (λ (i : ℕ). i) (take m l) (length-take-le m l (omega arith)) (λ i k. get_or-take m l i 0 k ∙ h i (omega arith))

-- a decoding whose settings, list and lengths are not refused
pub record Listed (n m size : ℕ) (bricks : List ℕ) (blocks stripe : ℕ) : Type 0 where
  pub range : CodeRange n m size
  pub below : all_below bricks n ≡ true
  pub decodes : Decodes m size bricks blocks stripe

-- a list of m or more different bricks of n
pub listed_bricks : {n m size blocks stripe : ℕ} {bricks : List ℕ} → Listed n m size bricks blocks stripe → Bricks n m bricks
listed_bricks {n} {m} {size} {blocks} {stripe} {bricks} d =
    record {
      some = d.range.n-low;
      few = d.range.n-high;
      low = d.range.m-high;
      enough = d.decodes.enough;
      differ = d.decodes.differ;
      below = below_at bricks n d.below;
    }

module _ (n m : ℕ) (bricks : List ℕ) (b : Bricks n m bricks) where
  pub bricks_below : (i : ℕ) → get_or bricks i 0 < n
  bricks_below i = by (dec_lt i (length bricks))
    where
      by : Dec (i < length bricks) → get_or bricks i 0 < n
      by (yes h) = b.below i h
      by (no k) = subst (λ (x : ℕ). x < n) (sym (get_or-eq_default bricks 0 {n = i} (omega arith))) b.some

  pub bricks_small : (i : ℕ) → get_or bricks i 0 < 256
  bricks_small i = let h = bricks_below i in let f = b.few in omega arith

  pub m_few : m ≤ max_bricks
  m_few = omega (arith, b.low, b.few)

pub encode_passed : (n m size s c : ℕ) → encode_refusal n m size s c ≡ 0 → Encodes n m size s c
unfolding encode_refusal
encode_passed n m size s c e =
    let l = tested (eqb s (m * size) && eqb c (n * size)) _ (passed_first _ [] (passed_rest (code_refusal n m size) _ e)) in
    record {
      range = code_passed n m size (passed_first (code_refusal n m size) _ e);
      stripe-length = eqb-true s (m * size) (and_left _ _ l);
      coded-length = eqb-true c (n * size) (and_right (eqb s (m * size)) _ l);
    }

pub decode_passed : (n m size : ℕ) (bricks : List ℕ) (b s : ℕ) → list_refusal n m size bricks b s ≡ 0 → Listed n m size bricks b s
unfolding list_refusal
decode_passed n m size bricks b s e =
    let r1 = passed_rest (code_refusal n m size) _ e in
    let l = tested (eqb b (length bricks * size) && eqb s (m * size)) _ (passed_first _ _ r1) in
    let r2 = passed_rest (refuse_unless (eqb b (length bricks * size) && eqb s (m * size)) bad_length) _ r1 in
    let r3 = passed_rest (refuse_unless (all_below bricks n) bad_number) _ r2 in
    let d = tested (leb m (length bricks) && all_different bricks) _ (passed_first _ [] r3) in
    let range = code_passed n m size (passed_first (code_refusal n m size) _ e) in
    record {
      range = range;
      below = tested (all_below bricks n) _ (passed_first _ _ r2);
      decodes = record {
        m-high = let a = range.m-high in let c = range.n-high in omega arith;
        size_low = range.size_low;
        size-high = range.size-high;
        enough = leb-true m (length bricks) (and_left _ _ d);
        differ = different_places bricks (and_right (leb m (length bricks)) _ d);
        blocks-length = eqb-true b (length bricks * size) (and_left _ _ l);
        stripe-length = eqb-true s (m * size) (and_right (eqb b (length bricks * size)) _ l);
      };
    }

-- the points that the code takes the first m of
abbrev pub all_points : List ℕ
all_points = 0 ∷ 1 ∷ 2 ∷ 3 ∷ 4 ∷ 5 ∷ 6 ∷ 7 ∷ 8 ∷ 9 ∷ 10 ∷ 11 ∷ 12 ∷ 13 ∷ 14 ∷ 15 ∷ []

counts : ℕ → Bool
counts i = eqb (get_or all_points i 0) i

pub first_of_all : (m : ℕ) → m ≤ max_bricks → take m all_points ≡ first_points m
unfolding counts each
first_of_all m h = first_by all_points m refl (λ i k. eqb-true (get_or all_points i 0) i (each_at counts max_bricks i refl k)) h

pub first_of_all_set : (m : ℕ) → m ≤ max_bricks → PointSet (take m all_points)
first_of_all_set m h = subst PointSet (sym (first_of_all m h)) (first_set m h)

pub first_of_all_length : (m : ℕ) → m ≤ max_bricks → length (take m all_points) ≡ m
first_of_all_length m h = ap length (first_of_all m h) ∙ length_first m

pub ruleset first_points_ways = (first_of_all_set, first_of_all_length, first_of_all)

-- the ways through an encoding
pub ruleset encoding_ways = (encode_passed, number_above, refused_leaves, passed_gives)

-- Altered blocks are noticed: where at most k − m of k are altered, m are not, and these fix the polynomials of the stripe.
use mathlib.Core.Path.{◌≡◌, refl, sym, ap, subst, ◌∙◌}
use mathlib.Core.Bool.{Bool, true, false, not}
use mathlib.Core.List.{List, [], ◌∷◌}
use Prim.Native.Nat.{ℕ, zero, suc, ◌+◌, ◌*◌, ◌≤◌, ◌<◌}
use native.Mathlib.Decide.{dec_lt}
use native.Mathlib.Nat.{le_refl, le_of_suc-le-suc, not-suc-le-zero}
use native.Mathlib.Omega.{arith}
use lib.Dec.{T}
use lib.ListN.{length, get_or, take}
use lib.Seq.{ext_get_or}
use Rattle.byte_lists.specs.Lists.{same}
use Rattle.byte_lists.proofs.Laws.SameLaws.{same_true, same_of}
use Rattle.erasure.specs.Code.{first_points, coded_of, block_of, blocks_of, bricks_at, agree, PassesThrough, Stripe, Bricks}
use Rattle.erasure.specs.CodeTheorems.{DataPolynomial, altered, AlteredBlocksAreNoticed}
use Rattle.erasure.proofs.Laws.BlockOfLaws.{block_within, block_length, block_byte}
use Rattle.erasure.proofs.Laws.CodeRefusalLaws.{decode_disagrees, stripe_disagrees}
use Rattle.erasure.proofs.Laws.CodeTheoremLaws.{coded_by_one_polynomial}
use Rattle.erasure.proofs.Laws.OnePolynomialLaws.{agree_on_one_polynomial, brick_at, bricks_at_length, byte_of_place, places_through, value_at_places}
use Rattle.erasure.proofs.Laws.PassedLaws.{listed_bricks, bricks_small, m_few, decode_passed}
use Rattle.interpolate.proofs.Laws.BlockLaws.{length_blocks_at}
use Rattle.interpolate.specs.Bytes.{Byte, byte, byte_field}
use Rattle.interpolate.specs.Values.{byte_at, value_at}
use Rattle.poly.specs.Polynomial.{eval}
use Rattle.settings.specs.Count.{one_if, count}
use Rattle.settings.specs.Ranges.{CodeRange}
use Rattle.settings.proofs.Laws.CountLaws.{count_witness}

-- a set and the rest
count_rest : (p : ℕ → Bool) (k : ℕ) → count p k + count (λ (i : ℕ). not (p i)) k ≡ k
unfolding count
count_rest p zero = refl
count_rest p (suc k) = go (p k) (count_rest p k)
  where
    go : (t : Bool) → count p k + count (λ (i : ℕ). not (p i)) k ≡ k
        → (count p k + one_if t) + (count (λ (i : ℕ). not (p i)) k + one_if (not t)) ≡ suc k
    go true e = omega (arith, e)
    go false e = omega (arith, e)

-- m members of a set below k, falling
record Chosen (p : ℕ → Bool) (k m : ℕ) (l : List ℕ) : Type 0 where
  count-is : length l ≡ m
  below : (i : ℕ) → i < length l → get_or l i 0 < k
  holds : (i : ℕ) → i < length l → p (get_or l i 0) ≡ true
  falls : (i j : ℕ) → i < j → j < length l → get_or l j 0 < get_or l i 0

chosen_none : (p : ℕ → Bool) (k : ℕ) → Chosen p k 0 []
chosen_none p k =
    record {
      count-is = refl;
      below = λ i h. absurd (not-suc-le-zero h);
      holds = λ i h. absurd (not-suc-le-zero h);
      falls = λ i j u h. absurd (not-suc-le-zero h);
    }

module _ (p : ℕ → Bool) (k m : ℕ) (l : List ℕ) (c : Chosen p k m l) where
  chosen_on : Chosen p (suc k) m l
  chosen_on =
      record {
        count-is = c.count-is;
        below = λ i h. let q = c.below i h in omega arith;
        holds = c.holds;
        falls = c.falls;
      }

  chosen_more : p k ≡ true → Chosen p (suc k) (suc m) (k ∷ l)
  chosen_more e = record { count-is = ap suc c.count-is; below = below; holds = holds; falls = falls }
    where
      below : (i : ℕ) → i < suc (length l) → get_or (k ∷ l) i 0 < suc k
      below zero h = le_refl _
      below (suc i) h = let q = c.below i (le_of_suc-le-suc h) in omega arith

      holds : (i : ℕ) → i < suc (length l) → p (get_or (k ∷ l) i 0) ≡ true
      holds zero h = e
      holds (suc i) h = c.holds i (le_of_suc-le-suc h)

      falls : (i j : ℕ) → i < j → j < suc (length l) → get_or (k ∷ l) j 0 < get_or (k ∷ l) i 0
      falls i zero u h = absurd (not-suc-le-zero u)
      falls zero (suc j) u h = c.below j (le_of_suc-le-suc h)
      falls (suc i) (suc j) u h = c.falls i j (le_of_suc-le-suc u) (le_of_suc-le-suc h)

  chosen_apart : (i j : ℕ) → i < m → j < m → get_or l i 0 ≡ get_or l j 0 → i ≡ j
  chosen_apart i j hi hj q = by (dec_lt i j) (dec_lt j i)
    where
      by : Dec (i < j) → Dec (j < i) → i ≡ j
      by (yes u) d = let w = c.falls i j u (omega (arith, c.count-is, hj)) in absurd (omega arith)
      by (no u) (yes v) = let w = c.falls j i v (omega (arith, c.count-is, hi)) in absurd (omega arith)
      by (no u) (no v) = omega arith

-- a set that counts m or more has m
choose : (p : ℕ → Bool) (k m : ℕ) → m ≤ count p k → (l : List ℕ) × Chosen p k m l
unfolding count
choose p zero zero h = ([], chosen_none p 0)
choose p zero (suc m) h = absurd (not-suc-le-zero h)
choose p (suc k) m h = go (p k) refl m h (choose p k)
  where
    go : (t : Bool) → p k ≡ t → (m : ℕ) → m ≤ count p k + one_if t → ((j : ℕ) → j ≤ count p k → (l : List ℕ) × Chosen p k j l)
        → (l : List ℕ) × Chosen p (suc k) m l
    go t e zero h ih = ([], chosen_none p (suc k))
    go true e (suc m) h ih = let r = ih m (omega (arith, h)) in (k ∷ r.0, chosen_more p k m r.0 r.1 e)
    go false e (suc m) h ih = let r = ih (suc m) (omega (arith, h)) in (r.0, chosen_on p k (suc m) r.0 r.1)

-- Blocks that agree, and m of which are those of a stripe, are all those of the stripe.
module _ (n m size : ℕ) (stripe bricks blocks : List ℕ) (r : CodeRange n m size) (s : Stripe m size stripe) (b : Bricks n m bricks)
    (long : length blocks ≡ length bricks * size) (bytes : (i : ℕ) → get_or blocks i 0 < 256) where
  -- the block given at a place is the coded one
  abbrev kept : ℕ → Bool
  kept i = same (block_of size blocks i) (block_of size (coded_of n m size stripe) (get_or bricks i 0))

  kept_byte : (i p : ℕ) → p < size → kept i ≡ true → byte_at size blocks i p ≡ byte_at size (coded_of n m size stripe) (get_or bricks i 0) p
  kept_byte i p hp e =
      sym (block_byte size blocks i p hp) ∙ ap (λ (l : List ℕ). get_or l p 0) (same_true _ _ e)
      ∙ block_byte size (coded_of n m size stripe) (get_or bricks i 0) p hp

  module _ (places : List ℕ) (c : Chosen kept (length bricks) m places) (a : agree m size bricks blocks ≡ true) where
    -- byte by byte
    byte_kept : (i p : ℕ) → i < length bricks → p < size → byte_at size blocks i p ≡ byte_at size (coded_of n m size stripe) (get_or bricks i 0) p
    byte_kept i p hi hp =
        sym (o.1.at i hi) ∙ sym (at o.0 (places_through size bricks blocks places c.below long some m p hp o.0 o.1) (get_or bricks i 0))
        ∙ at w.0 through (get_or bricks i 0) ∙ sym (w.3 (get_or bricks i 0) (b.below i hi))
      where
        some : 0 < length bricks
        some = omega (arith, hi)

        -- the polynomial of the stripe
        w : (d : List Byte) × DataPolynomial m size stripe p d
            × ((e : List Byte) → DataPolynomial m size stripe p e → e ≡ d)
            × ((j : ℕ) → j < n → byte_at size (coded_of n m size stripe) j p ≡ (eval byte_field d (byte j)).0)
        w = coded_by_one_polynomial n m size stripe p r s.small hp

        -- that of all blocks
        o : (d : List Byte) × PassesThrough m size bricks blocks p d
        o = (agree_on_one_polynomial n m size bricks blocks b long bytes).0 a p hp

        through : PassesThrough m size (bricks_at bricks places) (blocks_of size blocks places) p w.0
        through =
            record {
              degree = w.1.degree;
              at = λ k h.
                  let u : k < length places = omega (arith, bricks_at_length size bricks blocks places c.below, h) in
                  ap (λ (x : ℕ). (eval byte_field w.0 (byte x)).0) (brick_at size bricks blocks places c.below k u)
                  ∙ sym (w.3 (get_or bricks (get_or places k 0) 0) (b.below (get_or places k 0) (c.below k u)))
                  ∙ sym (kept_byte (get_or places k 0) p hp (c.holds k u)) ∙ sym (byte_of_place size bricks blocks places c.below long some k p u hp);
            }

        at : (d : List Byte) → PassesThrough m size (bricks_at bricks places) (blocks_of size blocks places) p d
            → (x : ℕ) → value_at (take m (bricks_at bricks places)) size (blocks_of size blocks places) x p ≡ (eval byte_field d (byte x)).0
        at =
            value_at_places size bricks blocks places c.below m (m_few n m bricks b) c.count-is b.differ (bricks_small n m bricks b)
            (chosen_apart kept (length bricks) m places c) p

    -- block by block
    block_kept : (i : ℕ) → i < length bricks → kept i ≡ true
    unfolding coded_of
    block_kept i hi =
        let l = block_length size blocks i (block_within (length bricks) size i blocks long hi) in
        let g = block_length size (coded_of n m size stripe) (get_or bricks i 0)
        (block_within n size (get_or bricks i 0) (coded_of n m size stripe) (length_blocks_at (first_points m) size stripe n) (b.below i hi)) in
        same_of _ _
        (ext_get_or 0 (block_of size blocks i) (block_of size (coded_of n m size stripe) (get_or bricks i 0)) (l ∙ sym g)
        (λ p h.
        let u : p < size = omega (arith, l, h) in
        block_byte size blocks i p u ∙ byte_kept i p hi u ∙ sym (block_byte size (coded_of n m size stripe) (get_or bricks i 0) p u)))

  -- so, of k blocks, up to k − m that are altered are noticed
  noticed : 0 < altered n m size stripe bricks blocks → altered n m size stripe bricks blocks + m ≤ length bricks
      → agree m size bricks blocks ≡ true → ⊥
  unfolding altered
  noticed some few a =
      let c = choose kept (length bricks) m (omega (arith, count_rest kept (length bricks), few)) in
      let w = count_witness (λ (i : ℕ). not (kept i)) (length bricks) some in
      subst (λ (t : Bool). T (not t)) (block_kept c.0 c.1 a w.0 w.1) w.2

pub altered_blocks_are_noticed : AlteredBlocksAreNoticed
altered_blocks_are_noticed n m size stripe bricks blocks out s bytes taken some few =
    let d = decode_passed n m size bricks (length blocks) (length out) taken in
    let no = noticed n m size stripe bricks blocks d.range s (listed_bricks d) d.decodes.blocks-length bytes some
    (omega (arith, few, d.decodes.enough)) in
    let e = by (agree m size bricks blocks) refl no in (
      e,
      sym (decode_disagrees n m size bricks blocks (length out) _ taken refl e),
      sym (stripe_disagrees n m size bricks blocks out out false taken (sym e) refl refl),
    )
  where
    by : (t : Bool) → agree m size bricks blocks ≡ t → (agree m size bricks blocks ≡ true → ⊥) → agree m size bricks blocks ≡ false
    by true e h = absurd (h e)
    by false e h = e

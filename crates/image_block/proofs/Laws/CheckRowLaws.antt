-- The check, summed in rows.
use mathlib.Core.Path.{◌≡◌, sym, ap, subst, ◌∙◌}
use mathlib.Core.List.{List, [], ◌∷◌}
use Prim.Native.Nat.{ℕ, zero, suc, ◌+◌, ◌-◌, ◌*◌, ◌%◌, ◌≤◌, ◌<◌}
use native.Mathlib.Omega.{arith}
use native.Mathlib.Numerals.{add-one}
use native.Mathlib.Nat.{mul-le-mul, mul-add, add-mul}
use lib.ListN.{length, take, drop, get_or}
use lib.Seq.{drop-cons, drop-length, drop-drop}
use Rattle.image_block.specs.Block.{block_bytes, check_bytes, body_bytes, check_modulus, weighted, check_of}
use Rattle.image_block.specs.Workers.{total, sum_row_bytes, plain_most, rising_most, row_most, past_most}

-- every weight d higher
weighted_over : (d k : ℕ) (l : List ℕ) → weighted (k + d) l ≡ weighted k l + d * total l
unfolding weighted total
weighted_over d k [] = omega arith
weighted_over d k (b ∷ l) =
    let n : suc k + d ≡ suc (k + d) = omega arith in
    let ih = subst (λ (w : ℕ). weighted w l ≡ weighted (suc k) l + d * total l) n (weighted_over d (suc k) l) in
    let p = add-mul k d b in
    let q = mul-add d b (total l) in
    omega arith

-- a list in two parts
weighted_cut : (k n : ℕ) (l : List ℕ) → weighted k l ≡ weighted k (take n l) + weighted (k + n) (drop n l)
unfolding weighted
weighted_cut k zero l = let e : k + 0 ≡ k = omega arith in rw e (omega arith)
weighted_cut k (suc n) [] = omega arith
weighted_cut k (suc n) (b ∷ l) =
    let e : suc k + n ≡ k + suc n = omega arith in
    let ih = subst (λ (w : ℕ). weighted (suc k) l ≡ weighted (suc k) (take n l) + weighted w (drop n l)) e (weighted_cut (suc k) n l) in
    omega arith

-- what holds while the bytes of a row are summed, at its place i
pub record Totalling (l : List ℕ) (part i : ℕ) : Type 0 where
  pub so_far : part + total (drop i l) ≡ total l
  pub bound : part ≤ 255 * i

pub totalling_more : (l : List ℕ) (part i : ℕ) → i < length l → get_or l i 0 < 256
    → Totalling l part i → Totalling l (part + get_or l i 0) (i + 1)
unfolding total
totalling_more l part i h b s =
    let d = drop-cons l i 0 h in
    let e = ap (λ (t : List ℕ). part + total t) (sym d) ∙ s.so_far in
    record {
      so_far = rw add-one (omega (arith, e));
      bound = omega (arith, s.bound);
    }

pub totalling_all : (l : List ℕ) (part i : ℕ) → length l ≡ sum_row_bytes → i ≡ sum_row_bytes → Totalling l part i → (part ≡ total l) × (part ≤ plain_most)
unfolding total
totalling_all l part i n h s =
    let q : i ≡ length l = omega arith in
    let e = rw (q, drop-length) at s.so_far in
    (omega (arith, e), omega (arith, s.bound))

-- what holds while a row is summed with the weights from 1 on, at its place p
pub record Rising (l : List ℕ) (rise p : ℕ) : Type 0 where
  pub so_far : rise + weighted (p + 1) (drop p l) ≡ weighted 1 l
  pub bound : rise ≤ plain_most * p

-- one product of the sum
pub product_high : (weight byte : ℕ) → weight ≤ sum_row_bytes → byte < 256 → weight * byte ≤ plain_most
product_high weight byte h b = mul-le-mul {n₂ = sum_row_bytes} {m₂ = 255} h (omega arith)

pub rising_more : (l : List ℕ) (rise p : ℕ) → length l ≤ sum_row_bytes → get_or l p 0 < 256 → p < length l
    → Rising l rise p → Rising l (rise + (p + 1) * get_or l p 0) (p + 1)
unfolding weighted
rising_more l rise p n b h s =
    let m = product_high (p + 1) (get_or l p 0) (omega arith) b in
    let d = drop-cons l p 0 h in
    let e = ap (λ (t : List ℕ). rise + weighted (p + 1) t) (sym d) ∙ s.so_far in
    let e' = rw add-one at e in
    record {
      so_far = rw (add-one, add-one) (omega (arith, e'));
      bound = omega (arith, s.bound);
    }

pub rising_all : (l : List ℕ) (rise p : ℕ) → length l ≤ sum_row_bytes → p ≡ length l → Rising l rise p → (rise ≡ weighted 1 l) × (rise ≤ rising_most)
unfolding weighted
rising_all l rise p n q s = let e = rw (q, drop-length) at s.so_far in (omega (arith, e), omega (arith, s.bound))

-- the two sums of a row together
pub past_high : (past plain : ℕ) → past ≤ past_most → plain ≤ plain_most → past * plain ≤ past_most * plain_most
past_high past plain h b = mul-le-mul {n₂ = past_most} {m₂ = plain_most} h b

pub row_summed : (l : List ℕ) (past rise plain : ℕ) → past ≤ past_most → rise ≡ weighted 1 l → rise ≤ rising_most → plain ≡ total l → plain ≤ plain_most
    → (rise + past * plain ≡ weighted (past + 1) l) × (rise + past * plain ≤ row_most)
row_summed l past rise plain h e r f p =
    let n : 1 + past ≡ past + 1 = omega arith in
    let w = subst (λ (k : ℕ). weighted k l ≡ weighted 1 l + past * total l) n (weighted_over past 1 l) in
    let q = ap (λ (x : ℕ). past * x) f in
    (omega (arith, w, q), omega (arith, past_high past plain h p))

-- what holds while the rows of the block l are summed
pub record Rows (l : List ℕ) (sum row : ℕ) : Type 0 where
  pub so_far : sum + weighted (sum_row_bytes * row - 1) (drop (sum_row_bytes * row) l) ≡ 1 + weighted 1 (drop check_bytes l)
  pub bound : sum ≤ 1 + (body_bytes * 255) * (sum_row_bytes * row)

pub rows_first : (l : List ℕ) (first : ℕ) → first ≡ weighted 1 (take (sum_row_bytes - check_bytes) (drop check_bytes l)) → first ≤ rising_most
    → Rows l (1 + first) 1
rows_first l first e h =
    let w = rw drop-drop at (weighted_cut 1 (sum_row_bytes - check_bytes) (drop check_bytes l)) in
    record { so_far = omega (arith, w, e); bound = omega arith }

pub rows_more : (l : List ℕ) (sum row more : ℕ) → 1 ≤ row
    → more ≡ weighted (sum_row_bytes * row - check_bytes + 1) (take (sum_row_bytes * row + sum_row_bytes - sum_row_bytes * row) (drop (sum_row_bytes * row) l))
    → more ≤ row_most
    → Rows l sum row → Rows l (sum + more) (row + 1)
rows_more l sum row more low e b s =
    let at : ℕ = sum_row_bytes * row in
    let w = rw drop-drop at (weighted_cut (at - 1) sum_row_bytes (drop at l)) in
    let n : sum_row_bytes * row + sum_row_bytes - sum_row_bytes * row ≡ sum_row_bytes = omega arith in
    let k : sum_row_bytes * row - check_bytes + 1 ≡ sum_row_bytes * row - 1 = omega arith in
    let m : sum_row_bytes * row + sum_row_bytes ≡ sum_row_bytes * (row + 1) = omega arith in
    let m' : sum_row_bytes * row - 1 + sum_row_bytes ≡ sum_row_bytes * (row + 1) - 1 = omega arith in
    let e' = rw (n, k) at e in
    let w' = rw (m', m) at w in
    record {
      so_far = omega (arith, w', e', s.so_far);
      bound = omega (arith, s.bound);
    }

pub rows_all : (l : List ℕ) (sum row : ℕ) → length l ≡ block_bytes → row ≡ 8 → Rows l sum row → sum % check_modulus ≡ check_of (drop check_bytes l)
unfolding check_of weighted
rows_all l sum row n h s =
    let q : sum_row_bytes * row ≡ length l = omega arith in
    let e = rw (q, drop-length) at s.so_far in
    ap (λ (x : ℕ). x % check_modulus) (omega (arith, e))

-- Document 01: "A one-byte change in any block is refused." A block whose check holds has none that holds after a change of one byte.
use mathlib.Core.Path.{◌≡◌, refl, sym, ap, subst, ◌∙◌}
use mathlib.Core.Bool.{Bool, true, false, ◌&&◌, not}
use mathlib.Core.List.{List, [], ◌∷◌}
use Prim.Native.Nat.{ℕ, zero, suc, ◌+◌, ◌-◌, ◌*◌, ◌%◌, ◌≤◌, ◌<◌}
use native.Mathlib.Omega.{arith}
use native.Mathlib.Decide.{dec_lt, ℕ_discrete}
use native.Mathlib.Nat.{mul-le-mul, mul-mod_left, mul-add, add-zero}
use lib.Dec.{eqb}
use lib.ListN.{length, get_or, set}
use lib.Arith.{lt_of_le-ne}
use borrow.Author.Tests.{not-true, eqb-false}
use Rattle.byte_lists.specs.Little.{little, number}
use Rattle.byte_lists.specs.Little.{Bytes}
use Rattle.byte_lists.proofs.Laws.LittleLaws.{number_little, limit_2}
use Rattle.byte_lists.proofs.Laws.BoolLaws.{and_left, and_right}
use Rattle.image_block.specs.Block.{block_bytes, check_bytes, body_bytes, check_modulus, weighted, check_of, checked}
use Rattle.byte_lists.proofs.Laws.SameLaws.{same_true, unsame}
use Rattle.image_block.proofs.Laws.CheckLaws.{check_high}

-- 65521 has no divisor from 2 to 255: one computed test
unfoldable undivided : ℕ → Bool
undivided zero = true
undivided (suc k) = not (eqb (check_modulus % (k + 2)) 0) && undivided k

undivided_254 : undivided 254 ≡ true
unfolding undivided
undivided_254 = refl

undivided_at : (n d : ℕ) → undivided n ≡ true → d < n → check_modulus % (d + 2) ≡ 0 → ⊥
unfolding undivided
undivided_at zero d u h e = absurd (omega arith)
undivided_at (suc n) d u h e = go (ℕ_discrete d n) (undivided_at n d (and_right (not (eqb (check_modulus % (n + 2)) 0)) _ u))
  where
    go : Dec (d ≡ n) → (d < n → check_modulus % (d + 2) ≡ 0 → ⊥) → ⊥
    go (yes q) f = eqb-false (check_modulus % (n + 2)) 0 (not-true _ (and_left _ _ u)) (ap (λ (k : ℕ). check_modulus % (k + 2)) (sym q) ∙ e)
    go (no q) f = f (lt_of_le-ne (omega arith) q) e

-- so no weight times a difference of two bytes is 65521,
no_product : (w d : ℕ) → w ≤ body_bytes → d < 256 → w * d ≡ check_modulus → ⊥
no_product w zero hw hd e = absurd (omega arith)
no_product w (suc zero) hw hd e = absurd (omega arith)
no_product w (suc (suc d)) hw hd e =
    let n : suc (suc d) ≡ d + 2 = omega arith in
    undivided_at 254 d undivided_254 (omega arith)
    (subst (λ (k : ℕ). check_modulus % k ≡ 0) n (sym (ap (λ (x : ℕ). x % suc (suc d)) e) ∙ mul-mod_left w (suc (suc d))))

-- and two bytes that differ, at one weight, differ in what they add by no multiple of 65521
apart : (w a b : ℕ) → 1 ≤ w → w ≤ body_bytes → a < 256 → b < 256 → a < b
    → (x y : ℕ) → x + w * b ≡ y + w * a → (1 + x) % check_modulus ≡ (1 + y) % check_modulus → ⊥
apart w a b wl wh ha hb h x y e m =
    let d : ℕ = b - a in
    let bd : b ≡ a + d = omega arith in
    let p : w * b ≡ w * a + w * d = ap (λ (k : ℕ). w * k) bd ∙ mul-add w a d in
    let high : w * d ≤ body_bytes * 255 = mul-le-mul {n₂ = body_bytes} {m₂ = 255} wh (omega arith) in
    let low : 1 * 1 ≤ w * d = mul-le-mul {n₁ = 1} {m₁ = 1} wl (omega arith) in
    let never = no_product w d wh (omega arith) in
    let sum : x + w * d ≡ y = omega arith in
    never (omega arith)

weighted_set : (k : ℕ) (bs : List ℕ) (j v : ℕ) → j < length bs
    → weighted k (set bs j v) + (k + j) * get_or bs j 0 ≡ weighted k bs + (k + j) * v
unfolding weighted
weighted_set k [] j v h = absurd (omega arith)
weighted_set k (b ∷ bs) zero v h = rw add-zero (omega arith)
weighted_set k (b ∷ bs) (suc j) v h =
    let ih = weighted_set (suc k) bs j v (omega arith) in
    let n : suc k + j ≡ k + suc j = omega arith in
    let ih' = subst (λ (w : ℕ). weighted (suc k) (set bs j v) + w * get_or bs j 0 ≡ weighted (suc k) bs + w * v) n ih in
    omega arith

bytes_at : (l : List ℕ) (i : ℕ) → Bytes l → get_or l i 0 < 256
unfolding Bytes
bytes_at [] i h = omega arith
bytes_at (b ∷ l) zero h = h.0
bytes_at (b ∷ l) (suc i) h = bytes_at l i h.1

body_changes : (bs : List ℕ) (j v : ℕ) → length bs ≡ body_bytes → Bytes bs → j < body_bytes → v < 256 → (v ≡ get_or bs j 0 → ⊥)
    → check_of (set bs j v) ≡ check_of bs → ⊥
unfolding check_of
body_changes bs j v n bytes h hv ne e = go (dec_lt v (get_or bs j 0))
  where
    s : weighted 1 (set bs j v) + (1 + j) * get_or bs j 0 ≡ weighted 1 bs + (1 + j) * v
    s = weighted_set 1 bs j v (omega arith)

    go : Dec (v < get_or bs j 0) → ⊥
    go (yes l) = apart (1 + j) v (get_or bs j 0) (omega arith) (omega arith) hv (bytes_at bs j bytes) l (weighted 1 (set bs j v)) (weighted 1 bs) s e
    go (no l) =
        apart (1 + j) (get_or bs j 0) v (omega arith) (omega arith) (bytes_at bs j bytes) hv (omega arith) (weighted 1 bs) (weighted 1 (set bs j v))
        (sym s) (sym e)

check_of_bytes : (c d : ℕ) → c < check_modulus → d < check_modulus → little check_bytes c ≡ little check_bytes d → c ≡ d
check_of_bytes c d hc hd e =
    sym (number_little check_bytes c (subst (λ (k : ℕ). c < k) (sym limit_2) (omega arith)))
    ∙ ap number e
    ∙ number_little check_bytes d (subst (λ (k : ℕ). d < k) (sym limit_2) (omega arith))

-- The check of a block with one byte changed does not hold.
pub change_unchecked : (l : List ℕ) (i v : ℕ) → length l ≡ block_bytes → Bytes l → i < block_bytes → v < 256 → (v ≡ get_or l i 0 → ⊥)
    → checked l ≡ true → checked (set l i v) ≡ false
unfolding checked Bytes
change_unchecked [] i v n bytes h hv ne c = absurd (omega arith)
change_unchecked (x ∷ []) i v n bytes h hv ne c = absurd (omega arith)
change_unchecked (x ∷ y ∷ bs) zero v n bytes h hv ne c =
    let e = same_true (x ∷ y ∷ []) (little check_bytes (check_of bs)) c in
    unsame (v ∷ y ∷ []) (little check_bytes (check_of bs)) (λ q. ne (cc))
change_unchecked (x ∷ y ∷ bs) (suc zero) v n bytes h hv ne c =
    let e = same_true (x ∷ y ∷ []) (little check_bytes (check_of bs)) c in
    unsame (x ∷ v ∷ []) (little check_bytes (check_of bs)) (λ q. ne (cc))
change_unchecked (x ∷ y ∷ bs) (suc (suc j)) v n bytes h hv ne c =
    let e = same_true (x ∷ y ∷ []) (little check_bytes (check_of bs)) c in
    unsame (x ∷ y ∷ []) (little check_bytes (check_of (set bs j v)))
    (λ q. body_changes bs j v (omega arith) bytes.1.1 (omega arith) hv ne
    (check_of_bytes (check_of (set bs j v)) (check_of bs) (check_high (set bs j v)) (check_high bs) (sym q ∙ e)))

-- Laws of the check: when it holds.
use mathlib.Core.Path.{◌≡◌, sym, ap, subst, ◌∙◌}
use mathlib.Core.Bool.{true}
use mathlib.Core.List.{List, [], ◌∷◌, ◌++◌}
use Prim.Native.Nat.{ℕ, ◌+◌, ◌<◌}
use native.Mathlib.Omega.{arith}
use native.Mathlib.Nat.{mod-lt}
use lib.ListN.{length, take, drop, get_or, length-append}
use lib.Seq.{take_at, drop_at}
use lib.Dec.{eqb}
use native.Mathlib.Decide.{ℕ_discrete}
use borrow.Author.Tests.{eq-eqb, ne_eqb}
use Rattle.byte_lists.specs.Little.{little, number}
use Rattle.byte_lists.specs.Little.{Bytes}
use Rattle.byte_lists.proofs.Laws.LittleLaws.{little_length, little_number, number_little, limit_2}
use Rattle.image_block.specs.Block.{block_bytes, check_bytes, check_modulus, weighted, check_of, checked, sealed}
use Rattle.byte_lists.specs.Lists.{same}
use Rattle.byte_lists.proofs.Laws.SameLaws.{same_true, same_of, same_refl, unsame}

pub check_high : (body : List ℕ) → check_of body < check_modulus
unfolding check_of
check_high body = mod-lt (1 + weighted 1 body) (omega arith)

-- the reader's test of a check
pub check_held : (l : List ℕ) (found check : ℕ) → length l ≡ block_bytes → ((i : ℕ) → get_or l i 0 < 256)
    → found ≡ number (take check_bytes (drop 0 l)) → check ≡ check_of (drop check_bytes l) → eqb found check ≡ checked l
unfolding checked number Bytes
check_held [] found check n b e f = absurd (omega arith)
check_held (x ∷ []) found check n b e f = absurd (omega arith)
check_held (x ∷ y ∷ bs) found check n b e f = go (ℕ_discrete found check)
  where
    go : Dec (found ≡ check) → eqb found check ≡ same (x ∷ y ∷ []) (little check_bytes (check_of bs))
    go (yes q) =
        eq-eqb found check q
        ∙ sym (same_of (x ∷ y ∷ []) (little check_bytes (check_of bs))
        (sym (little_number (x ∷ y ∷ []) (two (b 0) (b 1))) ∙ ap (λ (k : ℕ). little check_bytes k) (sym e ∙ q ∙ f)))
      where
        two : x < 256 → y < 256 → Bytes (x ∷ y ∷ [])
        two hx hy = (hx, (hy, tt))
    go (no q) = ne_eqb found check q ∙ sym (unsame (x ∷ y ∷ []) (little check_bytes (check_of bs)) (λ w. q (e ∙ ap number w ∙ back ∙ sym f)))
      where
        back : number (little check_bytes (check_of bs)) ≡ check_of bs
        back = number_little check_bytes (check_of bs) (subst (λ (k : ℕ). check_of bs < k) (sym limit_2) (omega (arith, check_high bs)))

-- a block whose check holds is its body, sealed,
pub checked_sealed : (b body : List ℕ) → length b ≡ block_bytes → checked b ≡ true → drop check_bytes b ≡ body → b ≡ sealed body
unfolding checked sealed
checked_sealed [] body n c e = absurd (omega arith)
checked_sealed (x ∷ []) body n c e = absurd (omega arith)
checked_sealed (x ∷ y ∷ bs) body n c e =
    ap (λ (t : List ℕ). t ++ bs) (same_true (x ∷ y ∷ []) (little check_bytes (check_of bs)) c) ∙ ap (λ (t : List ℕ). little check_bytes (check_of t) ++ t) e

-- and a sealed body is a block whose check holds
pub sealed_checked : (body : List ℕ) → checked (sealed body) ≡ true
unfolding checked sealed
sealed_checked body =
    rw (
      take_at (little check_bytes (check_of body)) body check_bytes (little_length check_bytes (check_of body)),
      drop_at (little check_bytes (check_of body)) body check_bytes
          (little_length check_bytes (check_of body)),
    )
    (same_refl (little check_bytes (check_of body)))

pub sealed_body : (body : List ℕ) → drop check_bytes (sealed body) ≡ body
unfolding sealed
sealed_body body = drop_at (little check_bytes (check_of body)) body check_bytes (little_length check_bytes (check_of body))

pub sealed_length : (body : List ℕ) → length (sealed body) ≡ check_bytes + length body
unfolding sealed
sealed_length body = length-append (little check_bytes (check_of body)) body ∙ ap (λ (k : ℕ). k + length body) (little_length check_bytes (check_of body))

-- What the boundary's own tests say, and the ways through a message.
use mathlib.Core.Path.{◌≡◌, refl, sym, ap, subst, ◌∙◌}
use mathlib.Core.Bool.{Bool, true}
use mathlib.Core.List.{List, []}
use Prim.Native.Nat.{ℕ, zero, suc, ◌+◌, ◌≤◌, ◌<◌}
use native.Mathlib.Omega.{arith}
use native.Mathlib.Decide.{ℕ_discrete}
use denote.Param.Members.{Mut}
use Rattle.std.specs.Array.{IsFromFnResult, IsFromFnResultFrom}
use Rattle.std.specs.Fn.{Called}
use Rattle.byte_lists.specs.Lists.{tabulate}
use Rattle.byte_lists.proofs.Laws.TabulateLaws.{tabulate_by}
use lib.Dec.{eqb}
use lib.ListN.{length, get_or}
use borrow.Author.Tests.{eq-eqb, ne_eqb, eqb-true}
use Rattle.byte_lists.proofs.Laws.BoolLaws.{and_left, and_right}
use Rattle.test_brick.specs.BrickBoundary.{pair_length, message_length, reply_length, own_refusal}
use Rattle.test_brick.specs.BrickBoundary.{answer_code, given_buffer, receipt_with, receipt, numbers_right, receipt_at}
use Rattle.brick.specs.Receive.{Outcome, outcome_with}
use Rattle.settings.proofs.Laws.RefusalLaws.{passed_first, passed_rest, tested}
use Rattle.settings.specs.Ranges.{settings_refusal}
use Rattle.settings.specs.Refusal.{passed}
use Rattle.settings.specs.declared.Settings.{Settings}
use Rattle.brick.specs.Receive.{Given}

-- where nothing is refused the boundary's buffers are right
own_tested : (s : Settings) (right : Bool) → own_refusal s right ≡ passed → right ≡ true
unfolding own_refusal
own_tested s right e = tested right 1 (passed_first _ [] (passed_rest (settings_refusal s) _ e))

-- the panel's and the view's buffer: k is the boundary's own refusal
module _ (s : Settings) (old : List ℕ) (k : ℕ) (own : k ≡ own_refusal s (eqb (length old) pair_length)) where
  pub pair_long : k ≡ passed → length old ≡ pair_length
  pair_long h = eqb-true (length old) pair_length (own_tested s _ (sym own ∙ h))

-- what the test of the two buffers of numbers says
module _ (s : Settings) (asked reply : ℕ) (k : ℕ) (right : Bool) (e : right ≡ numbers_right asked reply) (own : k ≡ own_refusal s right) (h : k ≡ passed) where
  pub asked_long : asked ≡ message_length
  unfolding numbers_right
  asked_long = eqb-true asked message_length (and_left (eqb asked message_length) _ (sym e ∙ own_tested s right (sym own ∙ h)))

  pub reply_long : reply ≡ reply_length
  unfolding numbers_right
  reply_long = eqb-true reply reply_length (and_right (eqb asked message_length) _ (sym e ∙ own_tested s right (sym own ∙ h)))

-- the ways through a message, where it came to outcome o: k is the boundary's own refusal
module _ (s : Settings) (asked image out reply : List ℕ) (o : Outcome) (k : ℕ) (right : Bool) (e : right ≡ numbers_right (length asked) (length reply))
    (own : k ≡ own_refusal s right) where
  pub receive_kept : (k ≡ passed → ⊥) → receipt_with k image out reply ≡ receipt_at s asked image out reply o
  unfolding receipt_at
  receive_kept h = rw (← e, ← own, ne_eqb k passed h) refl

  pub receive_whole : (g : Given) (number : ℕ) (image₁ out₁ reply₁ : List ℕ) → k ≡ passed → outcome_with g image₁ out₁ ≡ o
      → number ≡ answer_code g → reply₁ ≡ given_buffer g reply
      → receipt_with number image₁ out₁ reply₁ ≡ receipt_at s asked image out reply o
  unfolding receipt_at receipt
  receive_whole g number image₁ out₁ reply₁ h eo en er = rw (← e, ← own, eq-eqb k passed h, ← eo, ← en, ← er) refl

-- an array made by place
pub made_by_place : {F : Type 0} {g : Mut F (ℕ × Unit {0}) ℕ} (f : F) (h : ℕ → ℕ) (ys : List ℕ) (n : ℕ) → IsFromFnResult g f ys n
    → ((i y : ℕ) (q : F) → Called g f (i, tt) y q → (q ≡ f) × (y ≡ h i)) → ys ≡ tabulate n h
made_by_place {F} {g} f h ys n w called = tabulate_by n h ys w.long (λ i b. each 0 n f refl w.each i (omega arith) (omega (arith, b)))
  where
    each : (a m : ℕ) (q : F) → q ≡ f → IsFromFnResultFrom g q ys a m → (i : ℕ) → a ≤ i → i < a + m → get_or ys i 0 ≡ h i
    each a zero q e r i l b = absurd (omega (arith, l, b))
    each a (suc m) q e (q', y, at, call, rest) i l b =
        let k = called a y q' (subst (λ (p : F). Called g p (a, tt) y q') e call) in
        by (ℕ_discrete i a) (at.1 0 ∙ k.1) (λ n. each (a + 1) m q' k.0 rest i (omega (arith, l, n)) (omega (arith, b)))
      where
        by : Dec (i ≡ a) → get_or ys a 0 ≡ h a → ((i ≡ a → ⊥) → get_or ys i 0 ≡ h i) → get_or ys i 0 ≡ h i
        by (yes z) here later = ap (λ (j : ℕ). get_or ys j 0) z ∙ here ∙ ap h (sym z)
        by (no n) here later = later n

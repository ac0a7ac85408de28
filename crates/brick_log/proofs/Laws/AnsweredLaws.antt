-- What a brick does with a message, by its kind and its answer.
use mathlib.Core.Path.{◌≡◌, refl, sym, ◌∙◌}
use mathlib.Core.Bool.{Bool, true, false, not, ◌&&◌}
use mathlib.Core.List.{List}
use Prim.Native.Nat.{ℕ, ◌<◌}
use native.Mathlib.Omega.{arith}
use native.Mathlib.Decide.{ℕ_discrete}
use lib.Dec.{eqb, leb, ltb}
use borrow.Author.Tests.{ltb-true, eqb-true, eq-eqb, ne_eqb}
use Rattle.byte_lists.proofs.Laws.BoolLaws.{and_left, and_right}
use Rattle.settings.specs.declared.Settings.{Settings}
use Rattle.message.specs.Kinds.{read_kind, trim_kind, drop_kind, write_kind, modify_kind, no_comparison}
use Rattle.message.specs.Messages.{is_silent, stores_entry}
use Rattle.message.proofs.Laws.MessageLaws.{no_trim, no_drop}
use Rattle.message.specs.declared.Message.{Message}
use Rattle.image.specs.Brick.{Brick, entry_count, newest}
use Rattle.image_write.specs.Saving.{with_promise, appended, block_entry}
use Rattle.brick_answer.specs.Comparisons.{above_newest, not_below_promise, has_free, newer_says_no, promise_says_no, full_says_no, none_says_no}
use Rattle.brick_answer.proofs.Laws.ComparisonLaws.{none_first, comparison_allowed}
use Rattle.brick_log.specs.AnswerTheorem.{yes_by_kind, AnswersAsBefore, ComparisonIsAllowed}
use Rattle.brick_log.specs.BrickRules.{read_yes, order_yes, write_yes, modify_yes, ordered_if_yes, written_if_yes, modified_entry, modified_if_yes, trimmed_to, dropped_from}
use Rattle.brick_log.specs.BrickRules.{yes_to, comparison_to, brick_after}

unfoldable answer_tests : Unit {0}
unfolding none_says_no newer_says_no promise_says_no full_says_no stores_entry above_newest not_below_promise has_free
answer_tests = tt

-- three comparisons of which none says no
three : (a b c : Bool) → (not (not a) && not (not b)) && not (not c) ≡ (a && b) && c
three true true true = refl
three true true false = refl
three true false c = refl
three false b c = refl

and_true : (b : Bool) → b && true ≡ b
and_true true = refl
and_true false = refl

-- what a yes to a store says
pub write_free : (s : Settings) (x : Brick) (t : ℕ) → write_yes s x t ≡ true → entry_count x < s.capacity
unfolding write_yes has_free
write_free s x t e = ltb-true (entry_count x) s.capacity (and_right (order_yes x t) _ e)

pub modify_written : (s : Settings) (x : Brick) (t old : ℕ) → modify_yes s x t old ≡ true → (newest x ≡ old) × (write_yes s x t ≡ true)
unfolding modify_yes
modify_written s x t old e = (eqb-true (newest x) old (and_left _ _ e), and_right (eqb (newest x) old) _ e)

-- the answer to a message
module _ (s : Settings) (x : Brick) (msg : Message) where
  -- a yes is document 01's, kind by kind: the comparisons ask for nothing more and nothing less
  pub yes_read : msg.kind ≡ read_kind → yes_to s x msg ≡ read_yes x
  unfolding yes_to read_yes answer_tests
  yes_read e = rw e (go (leb x.promise (newest x)))
    where
      go : (b : Bool) → (true && not (not b)) && true ≡ b
      go true = refl
      go false = refl

  pub yes_write : msg.kind ≡ write_kind → yes_to s x msg ≡ write_yes s x msg.time
  unfolding yes_to write_yes order_yes answer_tests
  yes_write e = rw e (three (ltb (newest x) msg.time) (leb x.promise msg.time) (ltb (entry_count x) s.capacity))

  pub yes_modify : msg.kind ≡ modify_kind → yes_to s x msg ≡ modify_yes s x msg.time msg.old
  unfolding yes_to modify_yes write_yes order_yes answer_tests
  yes_modify e =
      rw e (go (eqb (newest x) msg.old) (ltb (newest x) msg.time) (leb x.promise msg.time) (ltb (entry_count x) s.capacity))
    where
      go : (o a b c : Bool) → (not (not (o && a)) && not (not b)) && not (not c) ≡ o && ((a && b) && c)
      go true a b c = three a b c
      go false a b c = refl

  pub yes_order : (msg.kind ≡ write_kind → ⊥) → (msg.kind ≡ modify_kind → ⊥) → (msg.kind ≡ read_kind → ⊥) → yes_to s x msg ≡ order_yes x msg.time
  unfolding yes_to order_yes answer_tests
  yes_order b c d =
      rw (ne_eqb msg.kind read_kind d, ne_eqb msg.kind modify_kind c, ne_eqb msg.kind write_kind b)
      (three (ltb (newest x) msg.time) (leb x.promise msg.time) true ∙ and_true _)

  -- no comparison is named exactly with a yes
  pub said_none : (said : ℕ) → said ≡ comparison_to s x msg → said ≡ no_comparison → yes_to s x msg ≡ true
  unfolding yes_to comparison_to
  said_none said e z = sym (none_first s.capacity (entry_count x) (newest x) x.promise msg) ∙ eq-eqb _ no_comparison (sym e ∙ z)

  pub said_one : (said : ℕ) → said ≡ comparison_to s x msg → (said ≡ no_comparison → ⊥) → yes_to s x msg ≡ false
  unfolding yes_to comparison_to
  said_one said e n = sym (none_first s.capacity (entry_count x) (newest x) x.promise msg) ∙ ne_eqb _ no_comparison (λ q. n (e ∙ q))

-- the brick after a message, by its kind
module _ (s : Settings) (brick : ℕ) (x : Brick) (msg : Message) (block old : List ℕ) where
  pub after_trim : msg.kind ≡ trim_kind → brick_after s brick x msg block old ≡ trimmed_to x msg.time
  unfolding brick_after
  after_trim e = rw (eq-eqb msg.kind trim_kind e) refl

  pub after_drop : msg.kind ≡ drop_kind → brick_after s brick x msg block old ≡ dropped_from x msg.time
  unfolding brick_after
  after_drop e = rw (ne_eqb msg.kind trim_kind (λ q. omega (arith, e, q)), eq-eqb msg.kind drop_kind e) refl

  pub after_write_lem : msg.kind ≡ write_kind → brick_after s brick x msg block old ≡ written_if_yes s x msg.time block
  unfolding brick_after
  after_write_lem e =
      rw
      (ne_eqb msg.kind trim_kind (λ q. omega (arith, e, q)), ne_eqb msg.kind drop_kind (λ q. omega (arith, e, q)), eq-eqb msg.kind write_kind e)
      refl

  pub after_modify : msg.kind ≡ modify_kind → brick_after s brick x msg block old ≡ modified_if_yes s brick x msg block old
  unfolding brick_after
  after_modify e =
      rw (
        ne_eqb msg.kind trim_kind (λ q. omega (arith, e, q)),
        ne_eqb msg.kind drop_kind (λ q. omega (arith, e, q)),
        ne_eqb msg.kind write_kind (λ q. omega (arith, e, q)),
        eq-eqb msg.kind modify_kind e,
      )
      refl

  pub after_read_lem : msg.kind ≡ read_kind → brick_after s brick x msg block old ≡ x
  unfolding brick_after
  after_read_lem e =
      rw (
        ne_eqb msg.kind trim_kind (λ q. omega (arith, e, q)),
        ne_eqb msg.kind drop_kind (λ q. omega (arith, e, q)),
        ne_eqb msg.kind write_kind (λ q. omega (arith, e, q)),
        ne_eqb msg.kind modify_kind (λ q. omega (arith, e, q)),
        eq-eqb msg.kind read_kind e,
      )
      refl

  pub after_order : is_silent msg.kind ≡ false → (msg.kind ≡ write_kind → ⊥) → (msg.kind ≡ modify_kind → ⊥) → (msg.kind ≡ read_kind → ⊥)
      → brick_after s brick x msg block old ≡ ordered_if_yes x msg.time
  unfolding brick_after
  after_order a b c d =
      rw (
        ne_eqb msg.kind trim_kind (no_trim msg.kind a),
        ne_eqb msg.kind drop_kind (no_drop msg.kind a),
        ne_eqb msg.kind write_kind b,
        ne_eqb msg.kind modify_kind c,
        ne_eqb msg.kind read_kind d,
      )
      refl

  -- "A no changes nothing": all but Trim and Drop that are not granted.
  pub no_changes_nothing : is_silent msg.kind ≡ false → yes_to s x msg ≡ false → brick_after s brick x msg block old ≡ x
  unfolding written_if_yes modified_if_yes ordered_if_yes
  no_changes_nothing n e = go (ℕ_discrete msg.kind write_kind) (ℕ_discrete msg.kind modify_kind) (ℕ_discrete msg.kind read_kind)
    where
      go : Dec (msg.kind ≡ write_kind) → Dec (msg.kind ≡ modify_kind) → Dec (msg.kind ≡ read_kind) → brick_after s brick x msg block old ≡ x
      go b c (yes d) = after_read_lem d
      go (yes b) c (no d) = after_write_lem b ∙ rw (sym (yes_write s x msg b) ∙ e) refl
      go (no b) (yes c) (no d) = after_modify c ∙ rw (sym (yes_modify s x msg c) ∙ e) refl
      go (no b) (no c) (no d) = after_order n b c d ∙ rw (sym (yes_order s x msg b c d) ∙ e) refl

  -- A yes to Write appends exactly that entry,
  pub write_appends : msg.kind ≡ write_kind → yes_to s x msg ≡ true → brick_after s brick x msg block old ≡ appended x (block_entry msg.time block)
  unfolding written_if_yes
  write_appends e y = after_write_lem e ∙ rw (sym (yes_write s x msg e) ∙ y) refl

  -- one to Modify the entry of this brick,
  pub modify_appends : msg.kind ≡ modify_kind → yes_to s x msg ≡ true
      → brick_after s brick x msg block old ≡ appended x (modified_entry s brick x msg block old)
  unfolding modified_if_yes
  modify_appends e y = after_modify e ∙ rw (sym (yes_modify s x msg e) ∙ y) refl

  -- and one to an Order of any kind promises its time, and nothing else.
  pub order_promises : is_silent msg.kind ≡ false → (msg.kind ≡ write_kind → ⊥) → (msg.kind ≡ modify_kind → ⊥) → (msg.kind ≡ read_kind → ⊥)
      → yes_to s x msg ≡ true → brick_after s brick x msg block old ≡ with_promise x msg.time
  unfolding ordered_if_yes
  order_promises a b c d y = after_order a b c d ∙ rw (sym (yes_order s x msg b c d) ∙ y) refl

pub answers_as_before : AnswersAsBefore
unfolding yes_by_kind
answers_as_before s x msg = go (ℕ_discrete msg.kind read_kind) (ℕ_discrete msg.kind write_kind) (ℕ_discrete msg.kind modify_kind)
  where
    go : Dec (msg.kind ≡ read_kind) → Dec (msg.kind ≡ write_kind) → Dec (msg.kind ≡ modify_kind) → yes_to s x msg ≡ yes_by_kind s x msg
    go (yes a) b c = yes_read s x msg a ∙ sym (rw (eq-eqb msg.kind read_kind a) refl)
    go (no a) (yes b) c = yes_write s x msg b ∙ sym (rw (ne_eqb msg.kind read_kind a, eq-eqb msg.kind write_kind b) refl)
    go (no a) (no b) (yes c) =
        yes_modify s x msg c ∙ sym (rw (ne_eqb msg.kind read_kind a, ne_eqb msg.kind write_kind b, eq-eqb msg.kind modify_kind c) refl)
    go (no a) (no b) (no c) =
        yes_order s x msg b c a ∙ sym (rw (ne_eqb msg.kind read_kind a, ne_eqb msg.kind write_kind b, ne_eqb msg.kind modify_kind c) refl)

pub comparison_is_allowed : ComparisonIsAllowed
unfolding yes_to comparison_to
comparison_is_allowed s x msg = comparison_allowed s.capacity (entry_count x) (newest x) x.promise msg

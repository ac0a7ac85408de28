use mathlib.Core.Path.{refl, sym, ◌∙◌}
use Rattle.settings.specs.Refusal.{first_refusal}
use Rattle.test_coordinator.specs.CoordinatorBoundary.{lent_refusal}
use Rattle.test_coordinator.proofs.Laws.CoordinatorBoundaryLaws.{lengths_right_lem}
use Rattle.test_coordinator.proofs.lent_record.Goals as goal

pub record_of-requires-clause-numbers_len : goal.record_of-requires-clause-numbers_len
record_of-requires-clause-numbers_len c = (lengths_right_lem _ _ _ _ (sym c.lent_right.ensures ∙ c.if-lent_right.true)).numbers-long

pub record_of-requires-clause-bytes_len : goal.record_of-requires-clause-bytes_len
record_of-requires-clause-bytes_len c = (lengths_right_lem _ _ _ _ (sym c.lent_right.ensures ∙ c.if-lent_right.true)).bytes-long

pub returns-then-lent_right-clause-lengths : goal.returns-then-lent_right-clause-lengths
returns-then-lent_right-clause-lengths c = lengths_right_lem _ _ _ _ (sym c.lent_right.ensures ∙ c.if-lent_right.true)

pub returns-clause-value : goal.returns-clause-value
unfolding lent_refusal first_refusal
returns-clause-value c =
    rw (← c.in_ok-check_code.ensures, ← c.in_ok-check_stripe_count.ensures, ← c.lent_right.ensures, c.if-lent_right.false) refl

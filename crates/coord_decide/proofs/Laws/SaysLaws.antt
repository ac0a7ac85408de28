-- Laws of `specs/Decisions`.
use mathlib.Core.Path.{◌≡◌}
use Prim.Native.Nat.{ℕ}
use Rattle.std.proofs.lemmas.Bool.Decides.{nat_tests}
use native.Mathlib.Omega.{arith}
use Rattle.coord_record.specs.declared.Op.{Op}
use Rattle.coord_record.specs.declared.Tally.{Tally}
use Rattle.coord_decide.specs.Deciding.{apart, decided_read, decided_block_order, unless_spent, decided_at, decided_recovery, decided}
use Rattle.coord_decide.specs.declared.Decision.{Decision}
use Rattle.message.specs.Flags.{members}
use Rattle.coord_decide.specs.Decisions.{AllYes, found_time, holders, told_no, none_held, DecisionSays}
use Rattle.message.specs.Kinds.{read_kind, order_read_kind, order_block_kind}

module _ (n m : ℕ) (op : Op) (t : Tally) where
  says_read : op.phase ≡ read_kind → DecisionSays n m op t (decided_read n m op t)
  unfolding DecisionSays decided_read apart AllYes
  says_read p = grind (arith, nat_tests, p)

  says_block_order : op.phase ≡ order_block_kind → AllYes n t → DecisionSays n m op t (decided_block_order n m op t)
  unfolding DecisionSays decided_block_order apart AllYes
  says_block_order p y = grind (arith, nat_tests, p, y)

  says_at : (time : ℕ) → op.phase ≡ order_read_kind → AllYes n t → (members t.held n ≡ 0 → ⊥) → time ≡ found_time n t → DecisionSays n m op t (decided_at n m op.round t time)
  unfolding DecisionSays decided_at unless_spent holders
  says_at time p y h e = grind (arith, nat_tests, p, y, h, e)

  -- Each decision says this of its round.
  pub decided_says : DecisionSays n m op t (decided n m op t)
  unfolding DecisionSays decided decided_recovery AllYes found_time
  decided_says = grind (arith, nat_tests, says_read, says_block_order, says_at, told_no, none_held)

  pub says_of : (d : Decision) → d ≡ decided n m op t → DecisionSays n m op t d
  says_of d e = rw e decided_says

-- What is decided in a round, by its phase.
use mathlib.Core.Path.{◌≡◌, refl}
use mathlib.Core.Bool.{cond, ◌||◌}
use Prim.Native.Nat.{ℕ, ◌<◌}
use native.Mathlib.Omega.{arith}
use lib.Dec.{leb, ltb, eqb}
use borrow.Author.Tests.{eq-eqb, ne_eqb}
use Rattle.message.specs.Kinds.{read_kind, order_kind, order_read_kind, order_block_kind, last_round}
use Rattle.coord_record.specs.Records.{target_count}
use Rattle.settings.specs.Count.{count}
use Rattle.settings.specs.Times.{no_upper_end}
use Rattle.message.specs.Flags.{members}
use Rattle.byte_lists.specs.Each.{some}
use Rattle.coord_record.specs.declared.Op.{Op}
use Rattle.coord_record.specs.declared.Tally.{Tally}
use Rattle.coord_tally.specs.Counting.{said_no, highest, other_time, missing, at_times}
use Rattle.coord_decide.specs.Deciding.{apart, decided_read, decided_block_order, unless_spent, decided_at, decided_recovery, decided}
use Rattle.coord_decide.specs.declared.Decision.TheVariants.{Abort, Give, Look, Store, Modify, Recover, Finish}

module _ (n m : ℕ) (op : Op) (t : Tally) where
  pub decided_reading : op.phase ≡ read_kind
      → decided n m op t
      ≡ cond
      (some (said_no t.counted t.granted) n
      || (some (other_time t.counted t.found (highest t.counted t.found n)) n
      || some (missing n (target_count m op.kind) op.first t.counted) n))
      (Look no_upper_end) Give
  unfolding decided decided_read apart
  decided_reading e = rw (eq-eqb op.phase read_kind e) refl

  pub decided_block_ordering : op.phase ≡ order_block_kind
      → decided n m op t
      ≡ cond (some (said_no t.counted t.granted) n) Abort
      (cond
      (some (other_time t.counted t.found (highest t.counted t.found n)) n
      || some (missing n (target_count m op.kind) op.first t.counted) n)
      (Look no_upper_end) (Modify (highest t.counted t.found n)))
  unfolding decided decided_block_order apart
  decided_block_ordering e =
      rw (ne_eqb op.phase read_kind (λ q. omega (arith, q)), ne_eqb op.phase order_kind (λ q. omega (arith, q)), eq-eqb op.phase order_block_kind e) refl

  pub decided_ordering : op.phase ≡ order_kind → decided n m op t ≡ cond (some (said_no t.counted t.granted) n) Abort Store
  unfolding decided
  decided_ordering e = rw (ne_eqb op.phase read_kind (λ q. omega (arith, q)), eq-eqb op.phase order_kind e) refl

  pub decided_looking : op.phase ≡ order_read_kind
      → decided n m op t
      ≡ cond (some (said_no t.counted t.granted) n) Abort
      (cond (eqb (members t.held n) 0) Abort
      (cond (leb m (count (at_times t.held t.found (highest t.held t.found n)) n))
      (cond (ltb op.round last_round) (Recover (highest t.held t.found n)) Abort)
      (cond (eqb (highest t.held t.found n) 0) Abort
      (cond (ltb op.round last_round) (Look (highest t.held t.found n)) Abort))))
  unfolding decided decided_recovery decided_at unless_spent
  decided_looking e =
      rw (
        ne_eqb op.phase read_kind (λ q. omega (arith, q)),
        ne_eqb op.phase order_kind (λ q. omega (arith, q)),
        ne_eqb op.phase order_block_kind (λ q. omega (arith, q)),
        eq-eqb op.phase order_read_kind e,
      )
      refl

  -- a Write or a Modify round
  pub decided_storing : order_block_kind < op.phase → decided n m op t ≡ cond (some (said_no t.counted t.granted) n) Abort Finish
  unfolding decided
  decided_storing l =
      rw (
        ne_eqb op.phase read_kind (λ q. omega (arith, q)),
        ne_eqb op.phase order_kind (λ q. omega (arith, q)),
        ne_eqb op.phase order_block_kind (λ q. omega (arith, q)),
        ne_eqb op.phase order_read_kind (λ q. omega (arith, q)),
      )
      refl

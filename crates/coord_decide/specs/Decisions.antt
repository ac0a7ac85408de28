-- What each decision says of the round that was decided: the run's proof reads these.
use Rattle.std.specs.Prelude.{◌≡◌, true, false, ◌⊎◌, ℕ, ◌≤◌, ◌<◌}
use Rattle.byte_lists.specs.Each.{some}
use Rattle.coord_record.specs.Records.{target_count}
use Rattle.coord_record.specs.declared.Op.{Op}
use Rattle.coord_record.specs.declared.Tally.{Tally}
use Rattle.coord_tally.specs.Counting.{said_no, other_time, missing, highest, at_times}
use Rattle.coord_decide.specs.declared.Decision.{Decision}
use Rattle.coord_decide.specs.declared.Decision.TheVariants.{Abort, Give, Look, Store, Modify, Recover, Finish}
use Rattle.message.specs.Flags.{members}
use Rattle.settings.specs.Count.{count}
use Rattle.settings.specs.Times.{no_upper_end}
use Rattle.message.specs.Kinds.{last_round, read_kind, order_kind, order_read_kind, order_block_kind}

-- no counted brick said no
unfoldable pub AllYes : ℕ → Tally → Type 0
AllYes n t = some (said_no t.counted t.granted) n ≡ false

-- the highest time found among the replies that hold a block, and how many of them found a time
unfoldable pub found_time : ℕ → Tally → ℕ
found_time n t = highest t.held t.found n

unfoldable pub holders : ℕ → Tally → ℕ → ℕ
holders n t time = count (at_times t.held t.found time) n

-- an abort: a counted brick said no, in another round than Read's; or all said yes to an Order-and-read, but "no reply holds a block", "the time
-- found is 0 and on fewer than m bricks", or "a round 1,001 would be sent"
pub data Aborts (n m : ℕ) (op : Op) (t : Tally) : Type 0 where
  told_no : (op.phase ≡ read_kind → ⊥) → some (said_no t.counted t.granted) n ≡ true → Aborts n m op t
  none_held : op.phase ≡ order_read_kind → AllYes n t → members t.held n ≡ 0 → Aborts n m op t
  zero_on_few : op.phase ≡ order_read_kind → AllYes n t → found_time n t ≡ 0 → holders n t 0 < m → Aborts n m op t
  rounds_spent : op.phase ≡ order_read_kind → AllYes n t → last_round ≤ op.round → Aborts n m op t

pub record DecidesGive (n m : ℕ) (op : Op) (t : Tally) : Type 0 where
  pub phase-is : op.phase ≡ read_kind
  pub all_yes : AllYes n t
  pub one_time : some (other_time t.counted t.found (highest t.counted t.found n)) n ≡ false
  pub targets-in : some (missing n (target_count m op.kind) op.first t.counted) n ≡ false

pub record Stores (n m : ℕ) (op : Op) (t : Tally) : Type 0 where
  pub phase-is : op.phase ≡ order_kind
  pub all_yes : AllYes n t

-- Modify: the old time is the one newest time of all, and the block's brick is among them
pub record Modifies (n m : ℕ) (op : Op) (t : Tally) (time : ℕ) : Type 0 where
  pub phase-is : op.phase ≡ order_block_kind
  pub all_yes : AllYes n t
  pub one_time : some (other_time t.counted t.found (highest t.counted t.found n)) n ≡ false
  pub target-in : some (missing n (target_count m op.kind) op.first t.counted) n ≡ false
  pub time-is : time ≡ highest t.counted t.found n

pub record Recovers (n m : ℕ) (op : Op) (t : Tally) (time : ℕ) : Type 0 where
  pub phase-is : op.phase ≡ order_read_kind
  pub all_yes : AllYes n t
  pub some-held : members t.held n ≡ 0 → ⊥
  pub time-is : time ≡ found_time n t
  pub enough : m ≤ holders n t time
  pub round-low : op.round < last_round

-- a further recovery round: the highest time found is the new max
pub record Lowers (n m : ℕ) (op : Op) (t : Tally) (time : ℕ) : Type 0 where
  pub phase-is : op.phase ≡ order_read_kind
  pub all_yes : AllYes n t
  pub some-held : members t.held n ≡ 0 → ⊥
  pub time-is : time ≡ found_time n t
  pub too_few : holders n t time < m
  pub not_first : time ≡ 0 → ⊥
  pub round-low : op.round < last_round

pub record Finishes (n m : ℕ) (op : Op) (t : Tally) : Type 0 where
  pub not-read : op.phase ≡ read_kind → ⊥
  pub not-order : op.phase ≡ order_kind → ⊥
  pub not-block-order : op.phase ≡ order_block_kind → ⊥
  pub not-recovery : op.phase ≡ order_read_kind → ⊥
  pub all_yes : AllYes n t

-- What a decision says.
unfoldable pub DecisionSays : ℕ → ℕ → Op → Tally → Decision → Type 0
DecisionSays n m op t Abort = Aborts n m op t
DecisionSays n m op t Give = DecidesGive n m op t
DecisionSays n m op t (Look max) =
    ((op.phase ≡ read_kind) × (max ≡ no_upper_end)) ⊎ (((op.phase ≡ order_block_kind) × AllYes n t × (max ≡ no_upper_end)) ⊎ Lowers n m op t max)
DecisionSays n m op t Store = Stores n m op t
DecisionSays n m op t (Modify time) = Modifies n m op t time
DecisionSays n m op t (Recover time) = Recovers n m op t time
DecisionSays n m op t Finish = Finishes n m op t

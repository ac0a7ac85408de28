-- The ways through a decision: the callees' results as variables.
use mathlib.Core.Path.{◌≡◌}
use mathlib.Core.Bool.{Bool, true, false}
use Prim.Native.Nat.{ℕ, ◌≤◌, ◌<◌}
use lib.ListN.{get_or}
use Rattle.std.proofs.lemmas.Bool.Decides.{nat_tests}
use native.Mathlib.Omega.{arith}
use Rattle.byte_lists.specs.Each.{some}
use Rattle.coord_record.specs.Records.{target_count}
use Rattle.coord_record.specs.declared.Op.{Op}
use Rattle.coord_record.specs.declared.Tally.{Tally}
use Rattle.coord_tally.specs.Counting.{said_no, other_time, missing, highest, at_times}
use Rattle.coord_decide.specs.Deciding.{answers, apart, decided_read, decided_block_order, unless_spent, decided_at, decided_recovery, decided}
use Rattle.coord_decide.specs.declared.Decision.TheVariants.{Abort, Look, Modify, Finish}
use Rattle.message.specs.Flags.{member, members}
use Rattle.message.specs.declared.Reply.{Reply}
use Rattle.settings.specs.Count.{count}
use Rattle.settings.specs.Times.{no_upper_end}
use Rattle.message.specs.Kinds.{last_round, read_kind, order_kind, order_read_kind, order_block_kind}

-- a reply that answers, test by test
module _ (n m : ℕ) (op : Op) (t : Tally) (r : Reply) where
  pub other_kind : (r.kind ≡ op.phase → ⊥) → false ≡ answers n m op t r
  unfolding answers
  other_kind a = grind (arith, nat_tests)

  pub other_stripe : r.kind ≡ op.phase → (r.stripe ≡ op.stripe → ⊥) → false ≡ answers n m op t r
  unfolding answers
  other_stripe a s = grind (arith, nat_tests)

  pub other_operation : r.kind ≡ op.phase → r.stripe ≡ op.stripe → (r.time ≡ op.time → ⊥) → false ≡ answers n m op t r
  unfolding answers
  other_operation a s b = grind (arith, nat_tests)

  pub other_round : r.kind ≡ op.phase → r.stripe ≡ op.stripe → r.time ≡ op.time → (r.round ≡ op.round → ⊥) → false ≡ answers n m op t r
  unfolding answers
  other_round a s b d = grind (arith, nat_tests)

  pub counted_before : r.kind ≡ op.phase → r.stripe ≡ op.stripe → r.time ≡ op.time → r.round ≡ op.round → get_or t.counted r.brick 0 ≡ 1
      → false ≡ answers n m op t r
  unfolding answers member
  counted_before a s b d e = grind (arith, nat_tests)

-- times that differ, and a target that is missing
module _ (n targets : ℕ) (op : Op) (t : Tally) (b : Bool) (h : ℕ) (eh : h ≡ highest t.counted t.found n)
    (eb : b ≡ some (other_time t.counted t.found h) n) where
  pub apart_times : b ≡ true → true ≡ apart n targets op t
  unfolding apart
  apart_times zb = grind (arith, nat_tests)

  pub apart_target : (d : Bool) → b ≡ false → d ≡ some (missing n targets op.first t.counted) n → d ≡ apart n targets op t
  unfolding apart
  apart_target d zb ed = grind (arith, nat_tests)

-- a Read round, and the first round of a block write
module _ (n m : ℕ) (op : Op) (t : Tally) (targets : ℕ) (et : targets ≡ target_count m op.kind) (d : Bool) (ed : d ≡ apart n targets op t) where
  pub read_apart : d ≡ true → Look no_upper_end ≡ decided_read n m op t
  unfolding decided_read
  read_apart zd = grind (arith, nat_tests)

  pub read_no : (a : Bool) → d ≡ false → a ≡ some (said_no t.counted t.granted) n → a ≡ true → Look no_upper_end ≡ decided_read n m op t
  unfolding decided_read
  read_no a zd ea za = grind (arith, nat_tests)

  pub order_apart : d ≡ true → Look no_upper_end ≡ decided_block_order n m op t
  unfolding decided_block_order
  order_apart zd = grind (arith, nat_tests)

  pub order_whole : (h : ℕ) → d ≡ false → h ≡ highest t.counted t.found n → Modify h ≡ decided_block_order n m op t
  unfolding decided_block_order
  order_whole h zd eh = grind (arith, nat_tests)

-- an Order-and-read round
module _ (n m round : ℕ) (t : Tally) (time k : ℕ) (ek : k ≡ count (at_times t.held t.found time) n) where
  pub at_recover_spent : m ≤ k → last_round ≤ round → Abort ≡ decided_at n m round t time
  unfolding decided_at unless_spent
  at_recover_spent a b = grind (arith, nat_tests)

  pub at_zero : k < m → time ≡ 0 → Abort ≡ decided_at n m round t time
  unfolding decided_at unless_spent
  at_zero a b = grind (arith, nat_tests)

  pub at_look_spent : k < m → (time ≡ 0 → ⊥) → last_round ≤ round → Abort ≡ decided_at n m round t time
  unfolding decided_at unless_spent
  at_look_spent a b d = grind (arith, nat_tests)

-- any round
module _ (n m : ℕ) (op : Op) (t : Tally) where
  pub decide_no : (a : Bool) → (op.phase ≡ read_kind → ⊥) → a ≡ some (said_no t.counted t.granted) n → a ≡ true → Abort ≡ decided n m op t
  unfolding decided
  decide_no a p ea za = grind (arith, nat_tests)

  -- no reply said no, and it is no Order round nor the first of a block write
  module _ (a : Bool) (p : op.phase ≡ read_kind → ⊥) (ea : a ≡ some (said_no t.counted t.granted) n) (za : a ≡ false) (q : op.phase ≡ order_kind → ⊥)
      (o : op.phase ≡ order_block_kind → ⊥) where
    pub decide_empty : (k : ℕ) → op.phase ≡ order_read_kind → k ≡ members t.held n → k ≡ 0 → Abort ≡ decided n m op t
    unfolding decided decided_recovery
    decide_empty k w ek zk = grind (arith, nat_tests)

    pub decide_stored : (op.phase ≡ order_read_kind → ⊥) → Finish ≡ decided n m op t
    unfolding decided
    decide_stored w = grind (arith, nat_tests)

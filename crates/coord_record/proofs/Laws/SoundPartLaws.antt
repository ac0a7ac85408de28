-- Laws of `specs/SoundParts`.
use mathlib.Core.Path.{◌≡◌}
use mathlib.Core.Bool.{true}
use Prim.Native.Nat.{ℕ, ◌≤◌, ◌<◌}
use native.Mathlib.Omega.{arith}
use Rattle.std.proofs.lemmas.Bool.Decides.{nat_tests}
use Rattle.coord_record.specs.Sound.{stored_right, recovery_right, opening_right, read_right, write_right, block_write_right, unset_op, op_right, block_low}
use Rattle.coord_record.specs.Sound.{filled_right, same_geometry, rules_kept, sound_record}
use Rattle.coord_record.specs.declared.Coordinator.{Coordinator}
use Rattle.coord_record.specs.declared.Geometry.{Geometry}
use Rattle.coord_record.specs.declared.Op.{Op}
use Rattle.byte_lists.proofs.Laws.BoolLaws.{and_left, and_right}
use Rattle.coord_record.specs.SoundParts.{SoundParts}
use Rattle.message.specs.Kinds.{last_round}
use Rattle.coord_record.specs.Records.{on_block}

-- the rule of an operation on one block
block_kept : (m : ℕ) (op : Op) → (on_block op.kind ≡ true → op.first < m) → block_low m op ≡ true
unfolding block_low
block_kept m op h = grind (arith, nat_tests, h)

block_says : (m : ℕ) (op : Op) → block_low m op ≡ true → on_block op.kind ≡ true → op.first < m
unfolding block_low
block_says m op e b = grind (arith, nat_tests, e, b)

pub sound_from : (n m size stripes : ℕ) (c : Coordinator) → SoundParts n m size stripes c → sound_record n m size stripes c ≡ true
unfolding sound_record rules_kept filled_right
sound_from n m size stripes c p = grind (arith, nat_tests, p, block_kept)

pub sound_parts : (n m size stripes : ℕ) (c : Coordinator) → sound_record n m size stripes c ≡ true → SoundParts n m size stripes c
unfolding sound_record rules_kept filled_right
sound_parts n m size stripes c e =
    let kept = and_right (same_geometry n m size stripes c.geometry) (rules_kept n m stripes c) e in
    record {
      made-for = and_left (same_geometry n m size stripes c.geometry) (rules_kept n m stripes c) e;
      number-low = grind (arith, nat_tests, kept);
      last-low = grind (arith, nat_tests, kept);
      first-low = grind (arith, nat_tests, kept);
      stripe-low = grind (arith, nat_tests, kept);
      block-low = λ b. block_says m c.op (grind (arith, nat_tests, kept)) b;
      op-right = grind (arith, nat_tests, kept);
      time-right = grind (arith, nat_tests, kept);
      bricks-right = grind (arith, nat_tests, kept);
      tally-right = grind (arith, nat_tests, kept);
      few-counted = grind (arith, nat_tests, kept);
    }

-- the settings that a sound record names
pub made_for : (n m size stripes : ℕ) (g : Geometry) → same_geometry n m size stripes g ≡ true → g ≡ record { n = n; m = m; size = size; stripes = stripes }
unfolding same_geometry
made_for n m size stripes g e = grind (arith, nat_tests, e)

-- no round is above the last
opening_high : (op : Op) → opening_right op ≡ true → op.round ≤ last_round
unfolding opening_right
opening_high op e = grind (arith, nat_tests, e)

recovery_high : (op : Op) → recovery_right op ≡ true → op.round ≤ last_round
unfolding recovery_right stored_right
recovery_high op e = grind (arith, nat_tests, e)

write_high : (op : Op) → write_right op ≡ true → op.round ≤ last_round
unfolding write_right
write_high op e = grind (arith, nat_tests, e)

block_write_high : (op : Op) → block_write_right op ≡ true → op.round ≤ last_round
unfolding block_write_right
block_write_high op e = grind (arith, nat_tests, e, opening_high, recovery_high)

read_high : (op : Op) → read_right op ≡ true → op.round ≤ last_round
unfolding read_right
read_high op e = grind (arith, nat_tests, e, opening_high, recovery_high)

pub round_high : (op : Op) → op_right op ≡ true → op.round ≤ last_round
unfolding op_right unset_op
round_high op e = grind (arith, nat_tests, e, read_high, write_high, block_write_high)

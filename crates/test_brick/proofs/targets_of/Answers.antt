use Prim.Native.Nat.{ℕ, ◌+◌}
use lib.ListN.{get_or}
use Rattle.std.proofs.Common.{rules}
use Rattle.test_brick.specs.BrickBoundary.{as_byte, as_bytes, asked_targets_at}
use Rattle.test_brick.proofs.Laws.BrickBoundaryLaws.{made_by_place}
use Rattle.test_brick.proofs.targets_of.Goals as goal

pub returns : goal.returns
unfolding as_bytes
returns c =
    made_by_place _ (λ (i : ℕ). as_byte (get_or c.args.asked.now (asked_targets_at + i) 0)) _ _ c.from_fn.ensures.items (λ i y q k. search rules)

-- What a sound record satisfies, rule by rule.
use Rattle.std.specs.Prelude.{◌≡◌, true, ℕ, ◌≤◌, ◌<◌}
use Rattle.coord_record.specs.Records.{on_block, target_count}
use Rattle.coord_record.specs.CountedRules.{tally_right, bricks_right}
use Rattle.coord_record.specs.Sound.{same_geometry, op_right, time_right, named_count}
use Rattle.coord_record.specs.declared.Coordinator.{Coordinator}
use Rattle.message.specs.Flags.{members}
use Rattle.settings.specs.Ranges.{quorum}
use Rattle.settings.specs.Times.{max_count, last_coordinator}

pub record SoundParts (n m size stripes : ℕ) (c : Coordinator) : Type 0 where
  pub made-for : same_geometry n m size stripes c.geometry ≡ true
  pub number-low : c.clock.coordinator ≤ last_coordinator
  pub last-low : c.clock.last ≤ max_count
  pub first-low : c.op.first < n
  pub stripe-low : c.op.stripe < stripes
  pub block-low : on_block c.op.kind ≡ true → c.op.first < m
  pub op-right : op_right c.op ≡ true
  pub time-right : time_right c.op.kind c.op.time c.clock ≡ true
  pub bricks-right : bricks_right n (named_count m c.op) c.bricks ≡ true
  pub tally-right : tally_right n (target_count m c.op.kind) c.op.phase c.op.first c.tally ≡ true
  pub few-counted : members c.tally.counted n < quorum n m

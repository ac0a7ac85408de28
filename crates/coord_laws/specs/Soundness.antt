-- Every record that a routine leaves is sound (refusal 6 never meets a record that came from here), and its arrays keep their sizes.
use Rattle.std.specs.Prelude.{◌≡◌, length, true, ℕ, ◌≤◌, ◌<◌}
use Rattle.coord_record.specs.declared.Tally.{Tally}
use Rattle.coord_record.specs.CountedRules.{tally_right, bricks_right}
use Rattle.coord_record.specs.Records.{on_block, target_count}
use Rattle.coord_record.specs.Sound.{same_geometry, op_right, time_right, named_count}
use Rattle.coord_record.specs.SoundParts.{SoundParts}
use Rattle.coord_record.specs.declared.Coordinator.{Coordinator}
use Rattle.settings.specs.Times.{max_count, last_coordinator}
use Rattle.settings.specs.Ranges.{max_bricks}

-- the arrays of a tally have 16 places, as in the code
pub record Sized (t : Tally) : Type 0 where
  pub counted-size : length t.counted ≡ max_bricks
  pub granted-size : length t.granted ≡ max_bricks
  pub held-size : length t.held ≡ max_bricks
  pub found-size : length t.found ≡ max_bricks
  pub said-size : length t.said ≡ max_bricks

-- sound, with arrays of 16 places
pub record Good (n m size stripes : ℕ) (c : Coordinator) : Type 0 where
  pub parts : SoundParts n m size stripes c
  pub sizes : Sized c.tally

-- a record whose round may be full
pub record Full (n m size stripes : ℕ) (c : Coordinator) : Type 0 where
  pub made-for : same_geometry n m size stripes c.geometry ≡ true
  pub number-low : c.clock.coordinator ≤ last_coordinator
  pub last-low : c.clock.last ≤ max_count
  pub first-low : c.op.first < n
  pub stripe-low : c.op.stripe < stripes
  pub block-low : on_block c.op.kind ≡ true → c.op.first < m
  pub op-right : op_right c.op ≡ true
  pub time-right : time_right c.op.kind c.op.time c.clock ≡ true
  pub bricks-right : bricks_right n (named_count m c.op) c.bricks ≡ true
  pub tally-right : tally_right n (target_count m c.op.kind) c.op.phase c.op.first c.tally ≡ true
  pub sizes : Sized c.tally

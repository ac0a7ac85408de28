-- Document 01, "Refused by number": 1 "A setting outside the ranges above", 3 "a coordinator number above 15", 6 "An image or coordinator record
-- breaking a rule above: .. a field outside its range". `coord_record::idle_with` refuses nothing, whatever settings and clock it is handed:
-- the routines that take its record refuse it. Proved in `proofs/Laws/IdleTheoremLaws`.
use Rattle.std.specs.Prelude.{◌≡◌, ◌≢◌, [], ◌∷◌, ℕ, leb}
use Rattle.coord_record.specs.Records.{idle_with}
use Rattle.coord_record.specs.declared.Coordinator.{Coordinator}
use Rattle.coord_record.specs.declared.Geometry.{Geometry}
use Rattle.message.specs.declared.Reply.{Reply}
use Rattle.settings.specs.Ranges.{code_refusal, stripe_count_refusal}
use Rattle.settings.specs.Refusal.{passed, first_refusal, refuse_unless, bad_number, bad_record}
use Rattle.settings.specs.Times.{last_coordinator, max_count}
use Rattle.settings.specs.declared.Clock.{Clock}
use Rattle.coord_refusals.specs.Checks.{write_refusal, read_refusal, write_block_refusal, read_block_refusal, take_refusal, crash_refusal}

-- what is wrong with settings and a clock, lowest number first: 1 a setting outside its range, 3 a coordinator number above 15, 6 a last count
-- above 2^40−1
unfoldable pub made_refusal : Geometry → Clock → ℕ
made_refusal g clock =
    first_refusal
    (code_refusal g.n g.m g.size
    ∷ stripe_count_refusal g.stripes
    ∷ refuse_unless (leb clock.coordinator last_coordinator) bad_number
    ∷ refuse_unless (leb clock.last max_count) bad_record
    ∷ [])

-- each of the six routines refuses a record under these settings, whatever else it is handed
pub record RefusedByAll (n m size stripes : ℕ) (c : Coordinator) : Type 0 where
  pub write : (number reading bytes stripe : ℕ) → write_refusal n m size stripes c number reading bytes stripe ≢ passed
  pub read : (number reading first : ℕ) → read_refusal n m size stripes c number reading first ≢ passed
  pub write-block : (number reading block bytes stripe : ℕ) → write_block_refusal n m size stripes c number reading block bytes stripe ≢ passed
  pub read-block : (number reading block : ℕ) → read_block_refusal n m size stripes c number reading block ≢ passed
  pub take : (r : Reply) (block blocks stripe coded : ℕ) → take_refusal n m size stripes c r block blocks stripe coded ≢ passed
  pub crash : crash_refusal n m size stripes c ≢ passed

-- The record made of settings or a clock with which something is wrong is refused by all of them, whatever settings they are called with.
abbrev pub OutOfRangeIsRefused : Type 0
OutOfRangeIsRefused =
    (g : Geometry) (clock : Clock) → made_refusal g clock ≢ passed → (n m size stripes : ℕ) → RefusedByAll n m size stripes (idle_with g clock)

-- Called with the record's own settings, a crash, which is handed nothing else, refuses it by that number.
abbrev pub OutOfRangeNumber : Type 0
OutOfRangeNumber =
    (g : Geometry) (clock : Clock) → made_refusal g clock ≢ passed
    → crash_refusal g.n g.m g.size g.stripes (idle_with g clock) ≡ made_refusal g clock

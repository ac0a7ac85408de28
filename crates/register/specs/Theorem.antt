-- Demand 3: every run has one order. Proved in `proofs/Laws/TheoremProof`.
use Rattle.std.specs.Prelude.{◌≡◌, true, List}
use Rattle.settings.specs.Ranges.{in_range}
use Rattle.settings.specs.declared.Settings.{Settings}
use Rattle.register.specs.Runs.{Event, RunHasOneOrder}

-- "Demand 3 says of every run: some order of its operations, none twice, has all the finished ones; the stripe bytes that each finished
-- read in it gave are exactly those that the plain stripe gives at that place; and of two operations in it, one that ended at an earlier
-- event than the other began comes first. That is a single claim about the list, not one for each event."
-- A run is any list of events from a fresh set, "under any settings in range", whatever its crashes leave in the buffers; of a volume each
-- stripe's operations have one order, "blocks in different stripes have no common order" (E1).
abbrev pub EveryRunHasOneOrder : Type 0
EveryRunHasOneOrder = (s : Settings) → in_range s ≡ true → (events : List Event) → RunHasOneOrder s events

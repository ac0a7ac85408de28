use Rattle.std.proofs.Common.{◌≡◌}
use Rattle.coord_tally.proofs.highest_of.Given as goal
use Rattle.coord_tally.specs.Counting.{highest}

abbrev pub invariant-loop-b : goal.invariant-loop-b
invariant-loop-b l = l.h ≡ highest l.fn.flags l.fn.found l.b

use Rattle.std.proofs.Common.{◌≤◌, ◌≡◌, length}
use Rattle.coord_tally.proofs.pick.Given as goal
use Rattle.coord_tally.specs.Counting.{at_times}
use Rattle.coord_tally.proofs.Laws.TargetRowLaws.{Picks}

abbrev pub invariant-loop-brick : goal.invariant-loop-brick
invariant-loop-brick l = Picks (at_times l.fn.flags l.fn.found l.fn.time) l.fn.m l.brick l.row l.k × (l.k ≤ l.brick) × (length l.row ≡ 16)

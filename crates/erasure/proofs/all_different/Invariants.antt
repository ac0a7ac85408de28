use Rattle.std.proofs.Common.{◌≡◌, drop}
use Rattle.erasure.specs.Refusals.{all_different}
use Rattle.erasure.proofs.all_different.Given as goal

abbrev pub invariant-loop-i : goal.invariant-loop-i
invariant-loop-i l = all_different (drop l.i l.bricks) ≡ all_different l.bricks

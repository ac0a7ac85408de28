-- Document 01: "Two quorums share at least m bricks."
use Prim.Native.Nat.{ℕ, ◌+◌, ◌≤◌}
use native.Mathlib.Omega.{arith}
use Rattle.settings.specs.QuorumTheorem.{QuorumsShare}
use Rattle.settings.proofs.Laws.CountLaws.{count_common}
use Rattle.settings.specs.Ranges.{quorum, faults}

pub quorum_twice : (n m : ℕ) → m ≤ n → n + m ≤ quorum n m + quorum n m
unfolding quorum faults
quorum_twice n m h = omega arith

pub quorum_low : (n m : ℕ) → m ≤ n → m ≤ quorum n m
unfolding quorum faults
quorum_low n m h = omega arith

pub quorums_share : QuorumsShare
quorums_share n m p r h hp hr = omega (arith, quorum_twice n m h, count_common p r n)

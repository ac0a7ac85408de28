-- Document 01: "Two quorums share at least m bricks." Proved in `proofs/Laws/QuorumLaws`.
use Rattle.std.specs.Prelude.{Bool, ℕ, ◌≤◌}
use Rattle.settings.specs.Count.{count, common}
use Rattle.settings.specs.Ranges.{quorum}

-- Any two sets of at least q of the n bricks have at least m in common. A set of bricks is a test on their numbers (Count).
abbrev pub QuorumsShare : Type 0
QuorumsShare =
    (n m : ℕ) (p r : ℕ → Bool) → m ≤ n → quorum n m ≤ count p n → quorum n m ≤ count r n → m ≤ count (common p r) n

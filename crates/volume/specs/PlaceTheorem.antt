-- Client blocks and pairs of a stripe and a data block are the same things, one to one. Proved in `proofs/Laws/ClientPlaceLaws`.
use Rattle.std.specs.Prelude.{◌≡◌, true, ℕ, ◌<◌}
use Rattle.settings.specs.Ranges.{in_range, stripe_refusal, data_block_refusal}
use Rattle.settings.specs.Refusal.{passed}
use Rattle.settings.specs.declared.Settings.{Settings}
use Rattle.volume.specs.ClientPlaces.{stripe_of, data_block_of, client_block, client_blocks, client_refusal}

-- a client block has a stripe below S and a data block below m, and is the one that lies there
abbrev pub ClientBlockHasItsPlace : Type 0
ClientBlockHasItsPlace =
    (s : Settings) → in_range s ≡ true → (v : ℕ) → v < client_blocks s
    → (stripe_of s v < s.stripes) × (data_block_of s v < s.m) × (client_block s (stripe_of s v) (data_block_of s v) ≡ v)

-- at each stripe below S and data block below m lies a client block, and it has that place
abbrev pub PlaceHasItsClientBlock : Type 0
PlaceHasItsClientBlock =
    (s : Settings) → in_range s ≡ true → (stripe block : ℕ) → stripe < s.stripes → block < s.m
    → (client_block s stripe block < client_blocks s)
    × (stripe_of s (client_block s stripe block) ≡ stripe) × (data_block_of s (client_block s stripe block) ≡ block)

-- and no message about it is refused for its stripe, by 13, or for its data block, by 14
abbrev pub ClientBlockIsAccepted : Type 0
ClientBlockIsAccepted =
    (s : Settings) → in_range s ≡ true → (v : ℕ) → client_refusal s v ≡ passed
    → (stripe_refusal s.stripes (stripe_of s v) ≡ passed) × (data_block_refusal s.m (data_block_of s v) ≡ passed)

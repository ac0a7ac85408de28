-- What stands in the bricks' logs at each moment of a run from fresh, entries and marks alike (E2). Proved in `proofs/Laws/EntryLaws`.
use Rattle.std.specs.Prelude.{◌≡◌, true, List, ℕ, ◌<◌}
use Rattle.settings.specs.Ranges.{in_range}
use Rattle.settings.specs.declared.Settings.{Settings}
use Rattle.image.specs.Brick.{Brick, entry_count, time_at, means_at}
use Rattle.image.specs.Parse.{Opens, parse}
use Rattle.erasure.specs.Code.{block_of, coded_of, Stripe}
use Rattle.volume.specs.Rows.{image_at}
use Rattle.register.specs.Runs.{World, Event, run}

-- brick b has this state of a stripe
abbrev pub HasState : (s : Settings) → World → (stripe b : ℕ) → Brick → Type 0
HasState s w stripe b x = parse s b (image_at s stripe (w.images b)) ≡ Opens x

-- Every entry of this time, a block or a mark, on whatever brick, means the brick's coded block of v.
abbrev pub EntriesMean : (s : Settings) → World → (stripe time : ℕ) → List ℕ → Type 0
EntriesMean s w stripe time v =
    (b : ℕ) → b < s.n → (x : Brick) → HasState s w stripe b x
    → (i : ℕ) → i < entry_count x → time_at x i ≡ time
    → means_at x i ≡ block_of s.size (coded_of s.n s.m s.size v) b

-- A time stands for one stripe: for each stripe of the volume and each time there is one v, m blocks of bytes, that all entries of it mean.
abbrev pub EntriesMeanOneStripe : Type 0
EntriesMeanOneStripe =
    (s : Settings) → in_range s ≡ true → (events : List Event) (stripe : ℕ) → stripe < s.stripes → (time : ℕ)
    → (v : List ℕ) × Stripe s.m s.size v × EntriesMean s (run s events).world stripe time v

-- "16 idle coordinators": they are all there are. Proved in `proofs/Laws/NumberedLaws`.
use Rattle.std.specs.Prelude.{◌≡◌, true, List, ℕ, ◌<◌}
use Rattle.settings.specs.Ranges.{in_range}
use Rattle.settings.specs.Times.{last_coordinator}
use Rattle.settings.specs.declared.Settings.{Settings}
use Rattle.register.specs.Runs.{Event, idle, run}

-- One above 15 is refused by each routine, as 3, and stays as it was.
abbrev pub SixteenCoordinators : Type 0
SixteenCoordinators =
    (s : Settings) → in_range s ≡ true → (events : List Event) (c : ℕ) → last_coordinator < c
    → (run s events).world.coordinators c ≡ idle s c

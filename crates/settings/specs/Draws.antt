-- The times that one clock gives for a row of readings, each clock following from the draw before.
use Rattle.std.specs.Prelude.{List, [], ◌∷◌, ℕ, ◌<◌}
use Rattle.settings.specs.Times.{draw_of}
use Rattle.settings.specs.declared.Clock.{Clock}
use Rattle.settings.specs.Times.{Draw}
use Rattle.settings.specs.Times.{Drawn, Refused}

-- one draw's time in front of those of the clock that follows; a refused draw gives none and leaves the clock
unfoldable pub following : Draw → Clock → (Clock → List ℕ) → List ℕ
following (Drawn t next) c rest = t ∷ rest next
following (Refused number) c rest = rest c

unfoldable pub draws : Clock → List ℕ → List ℕ
draws c [] = []
draws c (reading ∷ readings) = following (draw_of c reading) c (λ (d : Clock). draws d readings)

-- each is above the one before it, and the first above b
unfoldable pub RisingDraws : ℕ → List ℕ → Type 0
RisingDraws b [] = Unit {0}
RisingDraws b (t ∷ ts) = (b < t) × RisingDraws t ts

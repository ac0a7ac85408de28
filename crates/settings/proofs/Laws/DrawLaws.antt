-- Laws of `specs/Draws`.
use mathlib.Core.Path.{◌≡◌, refl}
use mathlib.Core.List.{List, [], ◌∷◌}
use Prim.Native.Nat.{ℕ, ◌≤◌}
use native.Mathlib.Omega.{arith}
use Rattle.settings.specs.Times.{last_coordinator, time_of, draw_of}
use Rattle.settings.proofs.Laws.TimeLaws.{gave, drawn_above}
use Rattle.settings.specs.declared.Clock.{Clock}
use Rattle.settings.specs.Times.{Draw}
use Rattle.settings.specs.Times.{Drawn, Refused}
use Rattle.settings.specs.Draws.{following, draws, RisingDraws}

lower : (b d : ℕ) (ts : List ℕ) → b ≤ d → RisingDraws d ts → RisingDraws b ts
unfolding RisingDraws
lower b d [] h r = tt
lower b d (t ∷ ts) h r = (omega (arith, r.0), r.1)

-- The times drawn rise, and all are above every time of a count that the clock had reached before.
pub draws_rise : (c : Clock) (readings : List ℕ) → RisingDraws (time_of c.last last_coordinator) (draws c readings)
unfolding RisingDraws draws following
draws_rise c [] = tt
draws_rise c (reading ∷ readings) = go (draw_of c reading) refl (λ (d : Clock). draws_rise d readings)
  where
    go : (d : Draw) → draw_of c reading ≡ d → ((k : Clock) → RisingDraws (time_of k.last last_coordinator) (draws k readings))
        → RisingDraws (time_of c.last last_coordinator) (following d c (λ (k : Clock). draws k readings))
    go (Drawn t next) e ih = (drawn_above c reading t next e, lower t (time_of next.last last_coordinator) (draws next readings) (below c reading t next e) (ih next))
      where
        below : (c : Clock) (reading t : ℕ) (next : Clock) → draw_of c reading ≡ Drawn t next → t ≤ time_of next.last last_coordinator
        below c reading t next e = let g = gave c reading t next e in unfold time_of in omega (arith, g.time, g.drew.coordinator-high)
    go (Refused number) e ih = ih c

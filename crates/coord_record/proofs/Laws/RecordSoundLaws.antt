-- The way through the rule of an idle record's time.
use mathlib.Core.Path.{◌≡◌}
use Prim.Native.Nat.{ℕ}
use lib.Dec.{eqb}
use borrow.Author.Tests.{eq-eqb}
use Rattle.coord_record.specs.Records.{idle_kind}
use Rattle.coord_record.specs.Sound.{time_right}
use Rattle.settings.specs.declared.Clock.{Clock}

pub time_idle : (kind time : ℕ) (clock : Clock) → kind ≡ idle_kind → eqb time 0 ≡ time_right kind time clock
unfolding time_right
time_idle kind time clock k = rw (eq-eqb kind idle_kind k)

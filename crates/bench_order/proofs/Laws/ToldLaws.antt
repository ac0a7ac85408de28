-- What is told of what is seen, at one coordinator.
use mathlib.Core.List.{List, [], ◌∷◌, ◌++◌}
use Prim.Native.Nat.{ℕ}
use Rattle.settings.specs.declared.Settings.{Settings}
use Rattle.order.specs.Claim.{Seen, began, ended}
use Rattle.register.specs.Runs.{plain}
use Rattle.bench_order.specs.Told.{told_end}

-- a line for each end, at coordinator c and with this letter, and nothing for a beginning
unfoldable pub told : (s : Settings) → (c kind letter : ℕ) → List (Seen (plain s)) → List ℕ
told s c kind letter [] = []
told s c kind letter (began time action ∷ l) = told s c kind letter l
told s c kind letter (ended time how ∷ l) = told_end s c kind time letter how ++ told s c kind letter l

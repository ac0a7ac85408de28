-- Laws of `specs/Claim`.
use mathlib.Core.Path.{◌≡◌}
use mathlib.Core.List.{List, [], ◌∷◌, ◌++◌}
use Rattle.order.specs.Claim.{Plain, Operation, Seen, finished, ◌∈◌, Right}
use Rattle.order.specs.Claim.{fed}

-- an operation that finished gave what the plain stripe gives after all that stand before it
pub right_at : {P : Plain} {l : List (Seen P)} (s : P.Stripe) (before : List (Operation P)) (o : Operation P) (after : List (Operation P))
    → Right l s (before ++ (o ∷ after)) → (g : P.Given) → Seen.ended o.time (finished g) ∈ l
    → g ≡ P.gives o.kind (fed s before)
unfolding Right fed
right_at s [] o after r g i = r.0 g i
right_at {P} s (x ∷ before) o after r g i = right_at (P.effect x.kind s) before o after r.1 g i

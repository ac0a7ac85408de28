-- The numbers of what a view gives.
use mathlib.Core.Path.{◌≡◌, refl, ◌∙◌}
use mathlib.Core.Bool.{Bool, true, false, cond}
use mathlib.Core.List.{List}
use Prim.Native.Nat.{ℕ}
use lib.Dec.{leb}
use Rattle.settings.specs.Refusal.{passed, bad_number}
use Rattle.image.specs.Brick.{entry_count, time_at, mark_at}
use Rattle.settings.specs.declared.Settings.{Settings}
use Rattle.image.specs.Parse.{Parsed, Opens, Refuses, parse, open_refusal}
use Rattle.image.specs.Opening.{holding_for}
use Rattle.image.proofs.Laws.ShownNumberLaws.{parsed_number, parsed_number_lem}
use Rattle.image_view.specs.View.{found_of, count_of, counted_number}
use Rattle.image_view.specs.View.{At, Refused}
use Rattle.image_view.specs.View.{found_number, place_number}

pub found_number_lem : (p : Parsed) (place : ℕ) → found_number (found_of p place) ≡ place_number p place
unfolding found_number found_of place_number
found_number_lem (Opens x) place = go (leb (entry_count x) place)
  where
    go : (b : Bool)
        → found_number (cond b (Refused bad_number) (At (record { time = time_at x place; holding = holding_for (mark_at x place) place }))) ≡ cond b bad_number passed
    go true = refl
    go false = refl
found_number_lem (Refuses number) place = refl

counted_parsed : (p : Parsed) → counted_number (count_of p) ≡ parsed_number p
unfolding counted_number count_of parsed_number
counted_parsed (Opens x) = refl
counted_parsed (Refuses number) = refl

-- The count has the number of the first refusal of its image.
pub counted_number_lem : (s : Settings) (brick : ℕ) (bytes : List ℕ) → counted_number (count_of (parse s brick bytes)) ≡ open_refusal s brick bytes
counted_number_lem s brick bytes = counted_parsed (parse s brick bytes) ∙ parsed_number_lem s brick bytes

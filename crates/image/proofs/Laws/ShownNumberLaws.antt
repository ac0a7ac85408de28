-- The numbers of an opening and of the panel are that of the first refusal.
use mathlib.Core.Path.{◌≡◌, refl, sym, ◌∙◌}
use mathlib.Core.Bool.{Bool, true, false, cond}
use mathlib.Core.List.{List}
use Prim.Native.Nat.{ℕ}
use lib.Dec.{eqb}
use borrow.Author.Tests.{eqb-true}
use Rattle.settings.specs.Refusal.{passed}
use Rattle.settings.specs.declared.Settings.{Settings}
use Rattle.image.specs.Parse.{Parsed, Opens, Refuses, brick_in, open_refusal, parse}
use Rattle.image.specs.Opening.{opening, answer_number, panel_of}
use Rattle.image.specs.Opening.{shown_number}

-- the number of a parse
unfoldable pub parsed_number : Parsed → ℕ
parsed_number (Opens x) = passed
parsed_number (Refuses number) = number

-- What opens has number 0, and what doesn't has the first refusal's.
pub parsed_number_lem : (s : Settings) (brick : ℕ) (bytes : List ℕ) → parsed_number (parse s brick bytes) ≡ open_refusal s brick bytes
unfolding parse parsed_number
parsed_number_lem s brick bytes = go (eqb (open_refusal s brick bytes) 0) refl
  where
    go : (b : Bool) → eqb (open_refusal s brick bytes) 0 ≡ b
        → parsed_number (cond b (Opens (brick_in s bytes)) (Refuses (open_refusal s brick bytes))) ≡ open_refusal s brick bytes
    go true e = sym (eqb-true (open_refusal s brick bytes) 0 e)
    go false e = refl

opening_parsed : (p : Parsed) → answer_number (opening p).answer ≡ parsed_number p
unfolding answer_number opening parsed_number
opening_parsed (Opens x) = refl
opening_parsed (Refuses number) = refl

panel_parsed : (p : Parsed) → shown_number (panel_of p) ≡ parsed_number p
unfolding shown_number panel_of parsed_number
panel_parsed (Opens x) = refl
panel_parsed (Refuses number) = refl

-- The answer of an opening, and what the panel shows, have the number of the first refusal.
pub opening_number : (s : Settings) (brick : ℕ) (bytes : List ℕ) → answer_number (opening (parse s brick bytes)).answer ≡ open_refusal s brick bytes
opening_number s brick bytes = opening_parsed (parse s brick bytes) ∙ parsed_number_lem s brick bytes

pub panel_number : (s : Settings) (brick : ℕ) (bytes : List ℕ) → shown_number (panel_of (parse s brick bytes)) ≡ open_refusal s brick bytes
panel_number s brick bytes = panel_parsed (parse s brick bytes) ∙ parsed_number_lem s brick bytes

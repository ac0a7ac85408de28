-- Laws of `specs/Figures`.
use mathlib.Core.Path.{◌≡◌, refl, sym, ap₂, ◌∙◌}
use mathlib.Core.Bool.{Bool, true, ◌&&◌}
use mathlib.Core.List.{List, [], ◌∷◌}
use Prim.Native.Nat.{ℕ, zero, suc}
use lib.Dec.{eqb}
use lib.ListN.{get_or}
use borrow.Author.Tests.{eqb-true}
use Rattle.byte_lists.specs.Lists.{same}
use Rattle.byte_lists.proofs.Laws.BoolLaws.{and_left, and_right}
use Rattle.byte_lists.proofs.Laws.SameLaws.{same_true}
use Rattle.register.proofs.Laws.Opened.{settings_open, little_open, block_open, image_open, gf256_open, poly_open, interpolate_open, erasure_open}
use Rattle.figures.specs.Figures.{Figure, number, bytes, time, passes, refusal, Row, drawn, draw_for, placed, refused_by, refusal_for, place_in4, check_at, fresh_image}
use Rattle.figures.specs.Figures.{figures, Hold, FiguresHold}

-- a figure as its sort and its content, and read back
sort : Figure → ℕ
sort (number k) = 0
sort (bytes l) = 1
sort (time k) = 2
sort passes = 3
sort (refusal k) = 4

content : Figure → List ℕ
content (number k) = k ∷ []
content (bytes l) = l
content (time k) = k ∷ []
content passes = []
content (refusal k) = k ∷ []

read_as : ℕ → List ℕ → Figure
read_as zero l = number (get_or l 0 0)
read_as (suc zero) l = bytes l
read_as (suc (suc zero)) l = time (get_or l 0 0)
read_as (suc (suc (suc zero))) l = passes
read_as (suc (suc (suc (suc k)))) l = refusal (get_or l 0 0)

read_back : (f : Figure) → read_as (sort f) (content f) ≡ f
unfolding sort content read_as
read_back (number k) = refl
read_back (bytes l) = refl
read_back (time k) = refl
read_back passes = refl
read_back (refusal k) = refl

alike : Figure → Figure → Bool
alike a b = eqb (sort a) (sort b) && same (content a) (content b)

alike_same : (a b : Figure) → alike a b ≡ true → a ≡ b
unfolding alike
alike_same a b e =
    sym (read_back a)
    ∙ ap₂ read_as (eqb-true (sort a) (sort b) (and_left _ _ e)) (same_true (content a) (content b) (and_right (eqb (sort a) (sort b)) _ e))
    ∙ read_back b

agree : List Row → Bool
agree [] = true
agree (r ∷ rows) = alike r.given r.figure && agree rows

held : (rows : List Row) → agree rows ≡ true → Hold rows
unfolding Hold agree
held [] e = tt
held (r ∷ rows) e = (alike_same r.given r.figure (and_left _ _ e), held rows (and_right (alike r.given r.figure) _ e))

pub figures_hold : FiguresHold
unfolding settings_open little_open block_open image_open gf256_open poly_open interpolate_open erasure_open
    Rattle.volume.specs.ClientPlaces.stripe_of Rattle.volume.specs.ClientPlaces.data_block_of Rattle.volume.specs.ClientPlaces.client_blocks
    Rattle.volume.specs.ClientPlaces.client_refusal Rattle.volume.specs.ClientPlaces.place_refusal Rattle.volume.specs.ClientPlaces.place_of
    Rattle.byte_lists.specs.Each.each Rattle.erasure.specs.Refusals.all_below Rattle.erasure.specs.Refusals.stands
    Rattle.erasure.specs.Refusals.all_different Rattle.erasure.specs.Refusals.list_refusal Rattle.erasure.specs.Refusals.decode_refusal
    Rattle.coord_tally.specs.Counting.at_time Rattle.coord_tally.specs.Counting.at_times Rattle.coord_tally.specs.Counting.passing
    drawn draw_for placed refused_by refusal_for place_in4 check_at fresh_image figures sort content alike agree
figures_hold = held figures refl

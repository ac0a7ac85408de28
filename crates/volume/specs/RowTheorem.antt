-- What a message at a brick of a volume leaves alone, and what it does not look at. Proved in `proofs/Laws/RowTheoremLaws`.
use Rattle.std.specs.Prelude.{◌≡◌, ◌≢◌, List, ℕ, length}
use Rattle.settings.specs.declared.Settings.{Settings}
use Rattle.message.specs.declared.Message.{Message}
use Rattle.brick.specs.Receive.{outcome}
use Rattle.volume.specs.Rows.{image_at, row_outcome}

-- "An event on one stripe changes no byte of another's images."
abbrev pub OtherStripesStay : Type 0
OtherStripesStay =
    (s : Settings) (brick : ℕ) (row : List ℕ) (msg : Message) (block old out : List ℕ) (j : ℕ) → j ≢ msg.stripe
    → image_at s j (row_outcome s brick row msg block old out).image ≡ image_at s j row

-- the row of images keeps its length, whatever was lent
abbrev pub RowKeepsItsLength : Type 0
RowKeepsItsLength =
    (s : Settings) (brick : ℕ) (row : List ℕ) (msg : Message) (block old out : List ℕ)
    → length (row_outcome s brick row msg block old out).image ≡ length row

-- A damaged image of another stripe stops nothing: two rows of one length with the same image of the message's stripe give the same answer,
-- the same reply's buffer and the same later image of that stripe, whatever their other images hold.
abbrev pub DamagedOthersStopNothing : Type 0
DamagedOthersStopNothing =
    (s : Settings) (brick : ℕ) (row row' : List ℕ) (msg : Message) (block old out : List ℕ) → length row ≡ length row'
    → image_at s msg.stripe row ≡ image_at s msg.stripe row'
    → ((row_outcome s brick row msg block old out).given ≡ (row_outcome s brick row' msg block old out).given)
    × ((row_outcome s brick row msg block old out).out ≡ (row_outcome s brick row' msg block old out).out)
    × (image_at s msg.stripe (row_outcome s brick row msg block old out).image ≡ image_at s msg.stripe (row_outcome s brick row' msg block old out).image)

-- a brick of one stripe is document 01's, and its row is that image
abbrev pub OneImageIsARowOfOne : Type 0
OneImageIsARowOfOne =
    (s : Settings) (brick : ℕ) (row : List ℕ) (msg : Message) (block old out : List ℕ) → s.stripes ≡ 1
    → row_outcome s brick row msg block old out ≡ outcome s brick row msg block old out

-- Document 02, E1: the stripes of a volume lie "on the same bricks, each with its own images". A brick's images are lent in one row, that of
-- stripe 0 first. Which image belongs to which stripe is fixed by its place in the row: its form is document 01's.
use Rattle.std.specs.Prelude.{cond, List, [], ◌∷◌, ℕ, ◌*◌, eqb, ltb, length, take, drop}
use Rattle.settings.specs.Ranges.{settings_refusal}
use Rattle.settings.specs.Refusal.{passed, refuse_unless, first_refusal, bad_length, bad_number}
use Rattle.settings.specs.declared.Settings.{Settings}
use Rattle.message.specs.declared.Message.{Message}
use Rattle.byte_lists.specs.Lists.{stacked, put}
use Rattle.image.specs.Brick.{fresh_brick}
use Rattle.image.specs.Image.{image_of, image_size}
use Rattle.brick.specs.Receive.{Beside, beside, Outcome, front_refusal, refused_with, outcome}

-- the bytes of a row: S images
unfoldable pub row_size : Settings → ℕ
row_size s = s.stripes * image_size s

-- the image of a stripe in a row
unfoldable pub image_at : Settings → ℕ → List ℕ → List ℕ
image_at s stripe row = take (image_size s) (drop (stripe * image_size s) row)

-- the row with another image of that stripe
unfoldable pub with_image : Settings → ℕ → List ℕ → List ℕ → List ℕ
with_image s stripe image row = put (stripe * image_size s) image row

-- a fresh brick of a volume: a fresh image for each stripe
unfoldable pub fresh_row : Settings → ℕ → List ℕ
fresh_row s brick = stacked s.stripes (λ (stripe : ℕ). image_of s brick (fresh_brick s))

-- why a row is refused for a fresh brick: 1 the settings, 2 its length, 3 the brick
unfoldable pub row_lending_refusal : Settings → (brick len : ℕ) → ℕ
row_lending_refusal s brick len =
    first_refusal
    (settings_refusal s
    ∷ refuse_unless (eqb len (row_size s)) bad_length
    ∷ refuse_unless (ltb brick s.n) bad_number
    ∷ [])

-- the fresh row, or the bytes as they were where it is refused
unfoldable pub fresh_row_after : Settings → ℕ → List ℕ → List ℕ
fresh_row_after s brick row = cond (eqb (row_lending_refusal s brick (length row)) passed) (fresh_row s brick) row

-- what the image of a stripe made of a message, in its row: that image is replaced, and no other byte changes
unfoldable pub in_row : Settings → ℕ → List ℕ → Outcome → Outcome
in_row s stripe row o = record { given = o.given; image = with_image s stripe o.image row; out = o.out }

-- why a row is refused before an image is looked at: 1, 2, 3, 13, 14
unfoldable pub row_refusal : Settings → ℕ → List ℕ → Message → Beside → ℕ
row_refusal s brick row msg b = front_refusal s s.stripes brick (length row) msg b

-- One message at a brick of a volume: what the image of the message's stripe makes of it, and no other image is looked at.
unfoldable pub row_outcome : Settings → ℕ → List ℕ → Message → (block old out : List ℕ) → Outcome
row_outcome s brick row msg block old out =
    cond (eqb (row_refusal s brick row msg (beside block old out)) passed)
    (in_row s msg.stripe row (outcome s brick (image_at s msg.stripe row) msg block old out))
    (refused_with (row_refusal s brick row msg (beside block old out)) row out)

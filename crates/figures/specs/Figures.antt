-- Document 01, "Figures to hold it to": the starred figures, "proved by one theorem over a table of them" (clause d), `FiguresHold`.
-- A row is what a definition gives and what the paper says it gives. Proved in `proofs/Laws/FigureLaws`.
use Rattle.std.specs.Prelude.{◌≡◌, cond, List, [], ◌∷◌, ℕ, ◌*◌, ◌^◌, ◌-◌, eqb, take}
use Rattle.byte_lists.specs.Little
use Rattle.image_block.specs.Block.{check_bytes}
use Rattle.image.specs.Brick.{fresh_brick}
use Rattle.image.specs.Image.{image_of}
use Rattle.image.specs.Parse.{image_block_at}
use Rattle.erasure.specs.Code.{coded_of, decoded_of}
use Rattle.erasure.specs.Refusals.{decode_refusal}
use Rattle.coord_tally.specs.Counting.{first_givers}
use Rattle.gf256.specs.Product.{product}
use Rattle.settings.specs.Ranges.{quorum, settings_refusal}
use Rattle.settings.specs.Refusal.{passed, bad_setting, bad_reading, bad_stripe, bad_brick_set, blocks_disagree}
use Rattle.settings.specs.Times.{draw_of}
use Rattle.volume.specs.ClientPlaces.{place_of}
use Rattle.volume.specs.ClientPlaces.{Placed}
use Rattle.volume.specs.ClientPlaces.{At}
use Rattle.settings.specs.Times.{Draw}
use Rattle.settings.specs.Times.{Drawn, Refused}
use Rattle.settings.specs.declared.Settings.{Settings}

-- What a figure tells: a number, bytes, a time, that something passes, or that it is refused with a number.
pub data Figure : Type 0 where
  number : ℕ → Figure
  bytes : List ℕ → Figure
  time : ℕ → Figure
  passes : Figure
  refusal : ℕ → Figure

pub record Row : Type 0 where
  pub given : Figure
  pub figure : Figure

-- `given ↦ figure`: a row of the table
abbrev pub row : Figure → Figure → Row
row given figure = record { given = given; figure = figure }

-- a draw: its time, or its refusal
unfoldable pub drawn : Draw → Figure
drawn (Drawn t next) = time t
drawn (Refused k) = refusal k

-- the draw of coordinator c with this last count and reading
unfoldable pub draw_for : ℕ → ℕ → ℕ → Figure
draw_for coordinator last reading = drawn (draw_of (record { coordinator = coordinator; last = last }) reading)

-- the place of a client block, a stripe and a data block, or its refusal
unfoldable pub placed : Placed → Figure
placed (At stripe block) = bytes (stripe ∷ block ∷ [])
placed (Placed.Refused k) = refusal k

-- a refusal's number, 0 for none
unfoldable pub refused_by : ℕ → Figure
refused_by k = cond (eqb k passed) passes (refusal k)

-- the refusal of settings n, m, size, capacity and stripe count
unfoldable pub refusal_for : ℕ → ℕ → ℕ → ℕ → ℕ → Figure
refusal_for n m size capacity stripes =
    refused_by (settings_refusal (record { n = n; m = m; size = size; capacity = capacity; stripes = stripes }))

-- the place of a client block in a volume of 4 stripes of 2 data blocks
unfoldable pub place_in4 : ℕ → Figure
place_in4 v = placed (place_of (record { n = 3; m = 2; size = 1; capacity = 2; stripes = 4 }) v)

-- "Bytes 0–1 hold the check": as it stands in block k of an image
unfoldable pub check_at : List ℕ → ℕ → ℕ
check_at image k = Little.number (take check_bytes (image_block_at image k))

-- the fresh image "for n 3, m 1, brick 0, capacity 4, size 1"
unfoldable pub fresh_image : List ℕ
fresh_image =
    let s : Settings = record { n = 3; m = 1; size = 1; capacity = 4; stripes = 1 } in
    image_of s 0 (fresh_brick s)

unfoldable pub figures : List Row
figures =
    -- q for (n, m): (1,1) 1; (3,1) 2; (4,3) 4; (5,3) 4; (7,5) 6; (16,1) 9.
    row (number (quorum 1 1)) (number 1)
    ∷ row (number (quorum 3 1)) (number 2)
    ∷ row (number (quorum 4 3)) (number 4)
    ∷ row (number (quorum 5 3)) (number 4)
    ∷ row (number (quorum 7 5)) (number 6)
    ∷ row (number (quorum 16 1)) (number 9)
    -- 2 × 128 = 29; 2 × 142 = 1; 3 × 3 = 5.
    ∷ row (number (product 2 128)) (number 29)
    ∷ row (number (product 2 142)) (number 1)
    ∷ row (number (product 3 3)) (number 5)
    -- m 2, n 4: data 5, 9 gives parity 29, 17; blocks 2 and 3 give 5, 9.
    ∷ row (bytes (coded_of 4 2 1 (5 ∷ 9 ∷ []))) (bytes (5 ∷ 9 ∷ 29 ∷ 17 ∷ []))
    ∷ row (bytes (decoded_of 2 1 (2 ∷ 3 ∷ []) (29 ∷ 17 ∷ []))) (bytes (5 ∷ 9 ∷ []))
    -- Check of the fresh head for n 3, m 1, brick 0, capacity 4, size 1: 55; of its entry: 14.
    ∷ row (number (check_at fresh_image 0)) (number 55)
    ∷ row (number (check_at fresh_image 1)) (number 14)
    -- Last 5, reading 3, coordinator 0: time 96. Last 0, reading 0, coordinator 2: 18.
    ∷ row (draw_for 0 5 3) (time 96)
    ∷ row (draw_for 2 0 0) (time 18)
    -- n 16 passes, 17 is refusal 1; reading 2^40−1 passes, 2^40 is refusal 7.
    ∷ row (refusal_for 16 1 1 2 1) passes
    ∷ row (refusal_for 17 1 1 2 1) (refusal bad_setting)
    ∷ row (draw_for 0 0 (2 ^ 40 - 1)) (time ((2 ^ 40 - 1) * 16))
    ∷ row (draw_for 0 0 (2 ^ 40)) (refusal bad_reading)
    -- E1: 64 stripes pass, 65 are refusal 1; of 4 stripes of 2 data blocks client block 6 is data block 1 of stripe 2, and 8 is refusal 13.
    ∷ row (refusal_for 16 1 1 2 64) passes
    ∷ row (refusal_for 16 1 1 2 65) (refusal bad_setting)
    ∷ row (place_in4 6) (bytes (2 ∷ 1 ∷ []))
    ∷ row (place_in4 8) (refusal bad_stripe)
    -- E3, with the blocks above: those of bricks 2, 3 and 0 agree and give 5, 9; with 6 for the block of brick 0 they are refusal 15; brick 2
    -- alone, or twice, is refusal 4.
    ∷ row (refused_by (decode_refusal 4 2 1 (2 ∷ 3 ∷ 0 ∷ []) (29 ∷ 17 ∷ 5 ∷ []) 2)) passes
    ∷ row (bytes (decoded_of 2 1 (2 ∷ 3 ∷ 0 ∷ []) (29 ∷ 17 ∷ 5 ∷ []))) (bytes (5 ∷ 9 ∷ []))
    ∷ row (refused_by (decode_refusal 4 2 1 (2 ∷ 3 ∷ 0 ∷ []) (29 ∷ 17 ∷ 6 ∷ []) 2)) (refusal blocks_disagree)
    ∷ row (refused_by (decode_refusal 4 2 1 (2 ∷ []) (29 ∷ []) 2)) (refusal bad_brick_set)
    ∷ row (refused_by (decode_refusal 4 2 1 (2 ∷ 3 ∷ 2 ∷ []) (29 ∷ 17 ∷ 29 ∷ []) 2)) (refusal bad_brick_set)
    -- E7, of five bricks that gave blocks of times 16, 32, 32, 16 and 32, with m 2: at 32 the first are 1 and 2, at 16 they are 0 and 3.
    ∷ row (bytes (first_givers (1 ∷ 1 ∷ 1 ∷ 1 ∷ 1 ∷ []) (16 ∷ 32 ∷ 32 ∷ 16 ∷ 32 ∷ []) 32 5 2)) (bytes (1 ∷ 2 ∷ []))
    ∷ row (bytes (first_givers (1 ∷ 1 ∷ 1 ∷ 1 ∷ 1 ∷ []) (16 ∷ 32 ∷ 32 ∷ 16 ∷ 32 ∷ []) 16 5 2)) (bytes (0 ∷ 3 ∷ []))
    ∷ []

-- every row gives its figure
unfoldable pub Hold : List Row → Type 0
Hold [] = Unit {0}
Hold (r ∷ rows) = (r.given ≡ r.figure) × Hold rows

-- The starred figures hold.
abbrev pub FiguresHold : Type 0
FiguresHold = Hold figures

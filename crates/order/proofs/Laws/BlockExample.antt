-- Operations on one block: a finished write, a finished write of one block over it, and a read of that block in one round.
-- 4 bricks, 2 data blocks, quorums of 3.
use mathlib.Core.Path.{◌≡◌, refl}
use mathlib.Core.List.{List, [], ◌∷◌}
use Prim.Native.Nat.{ℕ}
use lib.Dec.{lit≤}
use lib.ListN.{get_or, set as replaced}
use Rattle.order.specs.Claim.{Plain, Blocks, write, read_block, write_block, Result, ok, changed, given, stripe}
use Rattle.order.specs.Facts.{itself, over, began, promised, launched, stored, showed, ended, written, one_round, History}
use Rattle.order.specs.Quorums.{Quorums}
use Rattle.order.specs.Valid.{Valid, start, sets, onto}
use Rattle.order.proofs.Laws.OneOrderTheorem.{one_order, the_order}
use Rattle.order.proofs.Laws.ExampleLaws.{began_ok, promised_ok, stored_ok, showed_ok, launched_ok, launched_over_ok, committed_ok}
use Rattle.order.proofs.Laws.ExampleLaws.{showed_many, not_launched, ended_ok, at, ◌▷◌, tests, orders}

-- the stripe as a list of blocks of one byte
abbrev row : Blocks (List ℕ) ℕ
row = record { at = λ j s. get_or s j 0; set = λ j b s. replaced s j b }

abbrev two_blocks : Plain
two_blocks = stripe row (0 ∷ 0 ∷ [])

abbrev four : Quorums
four = record { n = 4; m = 2; q = 3; share = lit≤ tt; some = lit≤ tt }

abbrev five_six : List ℕ
five_six = 5 ∷ 6 ∷ []

abbrev five_nine : List ℕ
five_nine = 5 ∷ 9 ∷ []

abbrev two_writes : History two_blocks
two_writes =
    ended 32 (written ok) ∷ stored 2 32 ∷ stored 1 32 ∷ stored 0 32
    ∷ launched 32 (over 16) ∷ promised 2 32 ∷ promised 1 32 ∷ promised 0 32
    ∷ began 32 (write_block 1 9)
    ∷ ended 16 (written ok) ∷ stored 2 16 ∷ stored 1 16 ∷ stored 0 16
    ∷ launched 16 itself ∷ promised 2 16 ∷ promised 1 16 ∷ promised 0 16
    ∷ began 16 (write five_six) ∷ []

abbrev block_writes : History two_blocks
block_writes =
    ended 48 (one_round 32 (Result.block 9)) ∷ showed 2 48 32 ∷ showed 1 48 32 ∷ showed 0 48 32
    ∷ began 48 (read_block 1) ∷ two_writes

two_writes_valid : Valid four two_writes
unfolding tests changed given
two_writes_valid = start
    ▷ began_ok tt tt
    ▷ promised_ok tt tt
    ▷ promised_ok tt tt
    ▷ promised_ok tt tt
    ▷ launched_ok four tt tt tt tt (write five_six) five_six (_, at 3 _) (λ s. refl)
    ▷ stored_ok tt tt
    ▷ stored_ok tt tt
    ▷ stored_ok tt tt
    ▷ ended_ok four tt tt (committed_ok four tt, record { kind = write five_six; asked = (_, at 7 _); blind = λ s. refl })
    ▷ began_ok tt tt
    ▷ promised_ok tt tt
    ▷ promised_ok tt tt
    ▷ promised_ok tt tt
    ▷ launched_over_ok four tt tt tt tt tt tt tt
    ▷ stored_ok tt tt
    ▷ stored_ok tt tt
    ▷ stored_ok tt tt
    ▷ ended_ok four tt tt (committed_ok four tt, record { kind = write_block 1 9; asked = (_, at 7 _); blind = λ s. refl })

block_writes_valid : Valid four block_writes
unfolding tests changed given
block_writes_valid = two_writes_valid
    ▷ began_ok tt tt
    ▷ showed_ok tt tt tt
    ▷ showed_ok tt tt tt
    ▷ showed_ok tt tt tt
    ▷ ended_ok four tt tt (
      not_launched four tt,
      showed_many four tt,
      record {
        kind = read_block 1;
        asked = (_, at 3 _);
        keeps = λ s. refl;
        stripe = five_nine;
        value = onto {s = five_six} (_, at 8 _) (_, at 12 _) (sets (_, at 17 _) (_, at 21 _) (λ s. refl)) refl;
        bytes = refl;
      },
    )

-- The order: as they came.
block_writes_order : (one_order block_writes_valid).order
    ≡ record { time = 16; kind = write five_six }
    ∷ record { time = 32; kind = write_block 1 9 }
    ∷ record { time = 48; kind = read_block 1 } ∷ []
unfolding orders
block_writes_order = the_order block_writes_valid

-- A write cut short that is nevertheless in the order: one brick stored it, and a later read found it there and stored it again.
-- "with some of those aborted, cut short or still running".
use Rattle.std.specs.Prelude.{◌≡◌, [], ◌∷◌}
use Rattle.order.specs.Claim.{read, write, bytes, OneOrder}
use Rattle.order.specs.Facts.{over, began, promised, launched, stored, showed, ended, recovered, History, seen}
use Rattle.order.specs.Valid.{Valid}
use Rattle.order.specs.BenchExample.{three, one_byte, ten, cut_short}

-- as in the bench case the write of 16 is cut short with brick 0 alone having stored it; here brick 0 is up at the read
abbrev pub rolled_forward : History one_byte
rolled_forward =
    ended 33 (recovered (bytes ten)) ∷ stored 1 33 ∷ stored 0 33
    ∷ launched 33 (over 16) ∷ promised 1 33 ∷ promised 0 33
    ∷ showed 0 33 16 ∷ began 33 read ∷ cut_short

abbrev pub RolledForwardIsValid : Type 0
RolledForwardIsValid = Valid three rolled_forward

-- The order: the write, then the read.
abbrev pub RolledForwardHasOneOrder : Type 0
RolledForwardHasOneOrder =
    (o : OneOrder one_byte (seen rolled_forward))
    × (o.order ≡ record { time = 16; kind = write ten } ∷ record { time = 33; kind = read } ∷ [])

-- What the claim rules out: a write is cut short, a read after it gives zeros, and the write turns up in the next read.
use Rattle.std.specs.Prelude.{List, [], ◌∷◌}
use Rattle.order.specs.Claim.{Ending, read, write, bytes, finished, Seen, OneOrder}
use Rattle.order.specs.BenchExample.{one_byte, nought, ten}

abbrev pub turned_up : List (Seen one_byte)
turned_up =
    Seen.began 16 (write ten) ∷ Seen.ended 16 Ending.cut
    ∷ Seen.began 33 read ∷ Seen.ended 33 (finished (bytes nought))
    ∷ Seen.began 49 read ∷ Seen.ended 49 (finished (bytes ten)) ∷ []

abbrev pub TurnedUpHasNoOrder : Type 0
TurnedUpHasNoOrder = ¬ OneOrder one_byte turned_up

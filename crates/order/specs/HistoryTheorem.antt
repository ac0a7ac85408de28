-- The theorem of this crate, proved in `proofs/Laws/OneOrderTheorem`: every valid history of a quorum-replicated stripe has one order.
-- It holds of any plain stripe, whatever its kinds of operations.
use Rattle.order.specs.Claim.{Plain, OneOrder}
use Rattle.order.specs.Facts.{History, seen}
use Rattle.order.specs.Quorums.{Quorums}
use Rattle.order.specs.Valid.{Valid}

abbrev pub ValidHistoryHasOneOrder : Type 1
ValidHistoryHasOneOrder = (S : Quorums) (P : Plain) (h : History P) → Valid S h → OneOrder P (seen h)

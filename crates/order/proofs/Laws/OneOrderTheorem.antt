-- The theorem: what is seen of a valid history has one order.
use mathlib.Core.Path.{◌≡◌, refl}
use Rattle.order.specs.Claim.{Plain, OneOrder}
use Rattle.order.specs.Facts.{History, seen}
use Rattle.order.specs.Quorums.{Quorums}
use Rattle.order.specs.Valid.{Valid}
use Rattle.order.specs.HistoryTheorem.{ValidHistoryHasOneOrder}
use Rattle.order.proofs.Laws.SeenLaws.{seen_ended, seen_began_after}
use Rattle.order.proofs.Laws.Order.{entries, order_of}
use Rattle.order.proofs.Laws.SortLaws.{ops_in, in_ops}
use Rattle.order.proofs.Laws.PlacedLaws.{in_entries, entries_placed}
use Rattle.order.proofs.Laws.OrderLaws.{entries_sorted, at_start, once_from, finished_placed, stands_began, began_once_seen, real_time_order}
use Rattle.order.proofs.Laws.WalkLaws.{right_from}

-- Every valid history has one order.
pub one_order : {S : Quorums} {P : Plain} {h : History P} → Valid S h → OneOrder P (seen h)
unfolding order_of
one_order {S} {h = h} v =
    record {
      named = began_once_seen v;
      order = order_of S h;
      begun = λ o i. stands_began v o (ops_in (entries S h) i);
      once = once_from v (entries S h) (entries_sorted v) (λ x i. entries_placed v i);
      all = λ t g i. let p = finished_placed v (seen_ended h i) in (p.0.op, p.1, in_ops (in_entries v p.2));
      right = right_from v (entries S h) (at_start v);
      ahead = λ x y r k i j q. real_time_order v x y k _ (ops_in (entries S h) i) (ops_in (entries S h) j) (seen_began_after h q);
    }

pub valid_history_has_one_order : ValidHistoryHasOneOrder
valid_history_has_one_order S P h v = one_order v

-- It is the one that `order_of` computes.
pub the_order : {S : Quorums} {P : Plain} {h : History P} (v : Valid S h) → (one_order v).order ≡ order_of S h
unfolding one_order
the_order v = refl

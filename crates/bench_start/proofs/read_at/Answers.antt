use Rattle.std.proofs.Common.{arith, [], replicate}
use Rattle.bench_commit.proofs.Laws.ListsLaws.{lists_given, read_lists}
use Rattle.bench_commit.proofs.Laws.ActedLaws.{acted_read, read_past, read_here}
use Rattle.bench_state.proofs.Laws.FrontLaws.{front_part}
use Rattle.bench_limits.specs.Limits.{stripe_room}
use Rattle.coord_record.specs.Records.{geometry_of}
use Rattle.bench_start.proofs.read_at.Goals as goal

pub returns-then-c-ge-COORDINATORS : goal.returns-then-c-ge-COORDINATORS
returns-then-c-ge-COORDINATORS c = read_past _ _ _ _ _ _ _ _ _ _ _ (omega (arith, c.if-c-ge-COORDINATORS.true)) c.refuse_as.ensures

pub commit-requires-clause-lists : goal.commit-requires-clause-lists
unfolding geometry_of
commit-requires-clause-lists c = lists_given _ _ _ (read_lists _ _ _ _ _ _ _ _ _ _ _ _ _ _ _ ((rw c.geometry_of.ensures at c.start_read-a.ensures) [] [] []))

pub returns : goal.returns
unfolding geometry_of
returns c =
    read_here _ _ _ _ _ _ _ _ _ _ _ _ _ _ c.if-c-ge-COORDINATORS.false
    (acted_read _ _ _ _ _ _ _ _ _ _ _ _ _ _ _ c.if-c-ge-COORDINATORS.false c.coordinator_at-old.ensures.value
    (front_part _ _ _ (replicate stripe_room 0) _ c.requires.fits.small.blocks-fit c.fetch.auto.blocks c.fetch.ensures.blocks_after)
    (front_part _ _ _ (replicate stripe_room 0) _ c.requires.fits.small.stripe-fits c.fetch.auto.stripe c.fetch.ensures.stripe_after)
    _ _ _ (rw c.geometry_of.ensures at c.start_read-a.ensures) (c.commit.ensures c.coordinator_at-old.result))

use Rattle.std.proofs.Common.{arith, [], ◌*◌, length, drop, replicate, ap, sym, ◌∙◌}
use Rattle.std.proofs.lemmas.List.{length-take-le}
use Rattle.bench_commit.proofs.Laws.ListsLaws.{lists_given, write_lists}
use Rattle.bench_commit.proofs.Laws.ActedLaws.{short_write, whole_write, write_past, write_here}
use Rattle.bench_state.proofs.Laws.FrontLaws.{front_same, front_is, front_part, front_zeros}
use Rattle.coord_apply.specs.Answers.{answer_in, returned}
use Rattle.bench_limits.specs.Limits.{stripe_room}
use Rattle.bench_start.proofs.Laws.ShortLaws.{count_is, content_is, at_same}
use Rattle.coord_record.specs.Records.{geometry_of}
use Rattle.bench_start.proofs.write_at.Goals as goal

pub returns-then-c-ge-COORDINATORS : goal.returns-then-c-ge-COORDINATORS
returns-then-c-ge-COORDINATORS c = write_past _ _ _ _ _ _ _ _ _ _ _ (omega (arith, c.if-c-ge-COORDINATORS.true)) c.refuse_as.ensures

pub returns-then-is_short : goal.returns-then-is_short
unfolding geometry_of
returns-then-is_short c =
    let fit = c.requires.seats.fits.small in
    let z = front_zeros _ fit.stripe-fits in
    let digits = drop c.args.hex c.args.line.now in
    let q = c.read_content-right.ensures in
    write_here _ _ _ _ _ _ _ _ _ digits _ _ _ _ c.if-c-ge-COORDINATORS.false
    (short_write _ _ _ _ _ _ _ _ [] [] [] _ _ _ _ c.if-c-ge-COORDINATORS.false c.coordinator_at-old.ensures.value
    (front_part _ _ [] (replicate stripe_room 0) _ fit.blocks-fit c.fetch.auto.blocks c.fetch.ensures.blocks_after)
    (front_part _ _ _ (replicate stripe_room 0) _ fit.stripe-fits c.fetch.auto.stripe c.fetch.ensures.stripe_after)
    _ digits _ _ c.read_content-right.result _
    (front_is _ _ _ (replicate stripe_room 0) fit.stripe-fits c.read_content-right.auto.content ∙ content_is _ digits _ _ _ z q.value q.content_after)
    (count_is _ digits _ c.read_content-right.new.content _ z q.value)
    (rw c.geometry_of.ensures at c.start_write-a.ensures) (sym (c.is_short.ensures c.coordinator_at-old.result) ∙ c.if-is_short.true) c.refuse_as-then-is_short.ensures)

pub commit-requires-clause-lists : goal.commit-requires-clause-lists
unfolding geometry_of
commit-requires-clause-lists c = lists_given _ _ _ (write_lists _ _ _ _ _ _ _ _ _ _ _ _ _ _ _ ((rw c.geometry_of.ensures at c.start_write-a.ensures) [] []))

pub returns : goal.returns
unfolding geometry_of
returns c =
    let fit = c.requires.seats.fits.small in
    let z = front_zeros _ fit.stripe-fits in
    let digits = drop c.args.hex c.args.line.now in
    let q = c.read_content-right.ensures in
    write_here _ _ _ _ _ _ _ _ _ digits _ _ _ _ c.if-c-ge-COORDINATORS.false
    (whole_write _ _ _ _ _ _ _ _ _ _ _ _ _ _ _ c.if-c-ge-COORDINATORS.false c.coordinator_at-old.ensures.value
    (front_part _ _ _ (replicate stripe_room 0) _ fit.blocks-fit c.fetch.auto.blocks c.fetch.ensures.blocks_after)
    (front_part _ _ _ (replicate stripe_room 0) _ fit.stripe-fits c.fetch.auto.stripe c.fetch.ensures.stripe_after)
    _ digits _ _ c.read_content-right.result _
    (front_is _ _ _ (replicate stripe_room 0) fit.stripe-fits c.read_content-right.auto.content ∙ content_is _ digits _ _ _ z q.value q.content_after)
    (count_is _ digits _ c.read_content-right.new.content _ z q.value)
    (at_same (returned (answer_in c.coordinator_at-old.result c.start_write-a.result)) _ _ _ (front_same (c.args.b.settings.m * c.args.b.settings.size) c.start_write-a.new.stripe _
    (c.start_write-a.auto.stripe ∙ ap length (front_is _ _ _ (replicate stripe_room 0) fit.stripe-fits c.fetch.auto.stripe) ∙ c.fetch.auto.stripe
    ∙ length-take-le _ (replicate stripe_room 0) fit.stripe-fits)) (rw c.geometry_of.ensures at c.start_write-a.ensures))
    (sym (c.is_short.ensures c.coordinator_at-old.result) ∙ c.if-is_short.false) (c.commit.ensures c.coordinator_at-old.result))

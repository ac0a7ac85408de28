use Rattle.std.proofs.Common.{◌≡◌, ◌++◌, ◌+◌, ◌*◌, ◌≤◌, List, ℕ, length, take, replicate, ap, refl, ◌∙◌}
use Rattle.std.proofs.lemmas.List.{length-take-le}
use Rattle.bench_commit.proofs.Laws.ListsLaws.{lists_given, take_lists}
use Rattle.bench_commit.proofs.Laws.ActedLaws.{acted_row, reply_past, reply_here}
use Rattle.bench_state.proofs.Laws.FrontLaws.{front_same, front_is, front_part}
use Rattle.bench_limits.specs.Limits.{stripe_room, row_bytes, block_place}
use Rattle.bench_sent.proofs.Laws.SentRowLaws.{block_cut}
use Rattle.coord_apply.specs.Answers.{answer_in, returned}
use Rattle.coord_record.specs.Records.{geometry_of}
use Rattle.bench_carry_reply.proofs.carry_reply.Goals as goal

-- what holds of three lists holds of three that are the same
at_same : {R : Type 0} (g : List ℕ → List ℕ → List ℕ → R) (f : R) (x y z x' y' z' : List ℕ) → x' ≡ x → y' ≡ y → z' ≡ z → g x y z ≡ f → g x' y' z' ≡ f
at_same g f x y z x' y' z' ex ey ez h =
    ap (λ (t : List ℕ). g t y' z') ex ∙ ap (λ (t : List ℕ). g x t z') ey ∙ ap (g x y) ez ∙ h

-- what was lent twice at the front of a buffer has its length
twice_long : (k : ℕ) (x y rest room : List ℕ) → k ≤ length room → length y ≡ length (take k (x ++ rest)) → length x ≡ length (take k room) → length y ≡ k
twice_long k x y rest room h f e = f ∙ ap length (front_is k x rest room h e) ∙ e ∙ length-take-le k room h

pub returns-then-c-ge-COORDINATORS : goal.returns-then-c-ge-COORDINATORS
returns-then-c-ge-COORDINATORS c =
    reply_past _ c.args.k _ _ _ _ _ _ _ c.requires.k_lt_sent.1 c.reply_at-reply.ensures _ c.if-c-ge-COORDINATORS.true c.refuse_as.ensures

pub commit-requires-clause-lists : goal.commit-requires-clause-lists
unfolding geometry_of
commit-requires-clause-lists c = lists_given _ _ _ (take_lists _ _ _ _ _ _ _ _ _ _ _ _ _ _ (rw c.geometry_of.ensures at c.take_reply-a.ensures))

pub returns : goal.returns
unfolding geometry_of
returns c =
    let fit = c.requires.seats.fits.small in
    let z = c.args.b.settings.size in
    let room = replicate stripe_room 0 in
    reply_here _ c.args.k _ _ _ _ _ _ _ c.requires.k_lt_sent.1 c.reply_at-reply.ensures _ _ _ _ c.if-c-ge-COORDINATORS.false
    (acted_row _ _ _ _ _ _ _ _ _ _ _ _ _ _ _ c.if-c-ge-COORDINATORS.false c.coordinator_at-old.ensures.value
    (front_part _ _ _ room _ fit.blocks-fit c.fetch.auto.blocks c.fetch.ensures.blocks_after)
    (front_part _ _ _ room _ fit.stripe-fits c.fetch.auto.stripe c.fetch.ensures.stripe_after)
    c.args.k c.reply_at-reply.result _ _ _ _ _ _ c.requires.k_lt_sent.0 c.requires.k_lt_sent.1 c.reply_at-reply.ensures
    (block_cut z c.args.k (c.args.k * row_bytes + block_place) (c.args.k * row_bytes + block_place + z) c.args.bytes.now refl refl)
    refl (length-take-le _ room fit.blocks-fit)
    (at_same (returned (answer_in c.coordinator_at-old.result c.take_reply-a.result)) _ _ _ _ _ _ _
    (front_same _ c.take_reply-a.new.blocks _ (twice_long _ _ _ _ room fit.blocks-fit c.take_reply-a.auto.blocks c.fetch.auto.blocks))
    (front_same _ c.take_reply-a.new.stripe _ (twice_long _ _ _ _ room fit.stripe-fits c.take_reply-a.auto.stripe c.fetch.auto.stripe))
    (front_is _ c.take_reply-a.new.coded _ room fit.blocks-fit c.take_reply-a.auto.coded)
    (rw c.geometry_of.ensures at c.take_reply-a.ensures))
    (c.commit.ensures c.coordinator_at-old.result))

use native.Mathlib.Omega.{arith}
use mathlib.Core.Path.{refl}
use Rattle.coord_apply.specs.Acts.{with_tally}
use Rattle.coordinator.proofs.Laws.RoutineLaws.{passed_on, refusal_at, took_at, keeps, take_passed, ready_here, took_refused, took_waiting, took_acted}
use Rattle.coordinator.proofs.take_reply.Goals as goal

pub returns-in_err-code : goal.returns-in_err-code
returns-in_err-code c =
    rw (passed_on _ _ c.from_residual.ensures.1)
    (took_refused _ _ _ _ _ _ c.args.block.now c.args.blocks.now c.args.stripe.now c.args.coded.now _ c.in_err-code.ensures.value)

pub keep-requires : goal.keep-requires
keep-requires c =
    let code = c.in_ok-code.ensures.code in
    keeps _ _ _ _ _ _ _ _ _ _ 0 (refusal_at _ _ _ _ _ _ code.0 code.1 code.2 _ _ _ _ _ _ _ c.in_ok-code.ensures.value) refl

pub tally_with-tally-requires : goal.tally_with-tally-requires
tally_with-tally-requires c =
    let p = take_passed _ _ _ _ _ _ _ _ _ _ 0 c.in_ok-code.ensures.value refl in omega (arith, p.brick-low, p.range.n-high)

pub returns-then-members_of-quorum_of : goal.returns-then-members_of-quorum_of
unfolding with_tally
returns-then-members_of-quorum_of c =
    let code = c.in_ok-code.ensures.code in
    took_at _ _ _ _ _ _ code.0 code.1 code.2 _ _ _ _ _ _ _ _ _ _ _
    (took_waiting _ _ _ _ _ _ c.args.block.now c.args.blocks.now c.args.stripe.now c.args.coded.now 0
    (refusal_at _ _ _ _ _ _ code.0 code.1 code.2 _ _ _ _ _ _ _ c.in_ok-code.ensures.value) refl
    _ c.tally_with-tally.ensures _ refl _ c.keep.ensures _ _ c.members_of.ensures c.quorum_of.ensures _ c.if-members_of-quorum_of.true c.kept.ensures)

pub decide-decision-requires : goal.decide-decision-requires
decide-decision-requires c =
    let p = take_passed _ _ _ _ _ _ _ _ _ _ 0 c.in_ok-code.ensures.value refl in omega (arith, p.parts.first-low, c.in_ok-code.ensures.code.0)

pub act-requires-clause-decision_ready : goal.act-requires-clause-decision_ready
unfolding with_tally
act-requires-clause-decision_ready c =
    let code = c.in_ok-code.ensures.code in
    ready_here _ _ _ _ _ _ c.args.block.now c.args.blocks.now c.args.stripe.now c.args.coded.now 0
    (refusal_at _ _ _ _ _ _ code.0 code.1 code.2 _ _ _ _ _ _ _ c.in_ok-code.ensures.value) refl
    _ c.tally_with-tally.ensures _ refl _ c.keep.ensures c.keep.auto.blocks

pub act-requires-clause-coded_len : goal.act-requires-clause-coded_len
act-requires-clause-coded_len c =
    let code = c.in_ok-code.ensures.code in
    (take_passed _ _ _ _ _ _ _ _ _ _ 0 (refusal_at _ _ _ _ _ _ code.0 code.1 code.2 _ _ _ _ _ _ _ c.in_ok-code.ensures.value) refl).coded-length

pub returns : goal.returns
unfolding with_tally
returns c =
    let code = c.in_ok-code.ensures.code in
    took_at _ _ _ _ _ _ code.0 code.1 code.2 _ _ _ _ _ _ _ _ _ _ _
    (took_acted _ _ _ _ _ _ c.args.block.now c.args.blocks.now c.args.stripe.now c.args.coded.now 0
    (refusal_at _ _ _ _ _ _ code.0 code.1 code.2 _ _ _ _ _ _ _ c.in_ok-code.ensures.value) refl
    _ c.tally_with-tally.ensures _ refl _ c.keep.ensures _ _ c.members_of.ensures c.quorum_of.ensures _ _ _ _ c.if-members_of-quorum_of.false
    c.decide-decision.ensures c.act.ensures)

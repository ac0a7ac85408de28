-- No recovery of a run meets blocks that disagree: every block of one time is of one stripe.
use mathlib.Core.Path.{◌≡◌, refl, sym, ap, subst, ◌∙◌}
use mathlib.Core.Bool.{Bool, true, cond}
use mathlib.Core.List.{List, []}
use Prim.Native.Nat.{ℕ, ◌*◌, ◌≤◌}
use borrow.Author.Tests.{eq-eqb, le-ltb}
use Rattle.settings.specs.Count.{count}
use Rattle.settings.specs.Ranges.{SettingsRange, quorum}
use Rattle.settings.specs.Times.{coordinator_of}
use Rattle.settings.specs.declared.Settings.{Settings}
use Rattle.image.proofs.Laws.ParseLaws.{range_of}
use Rattle.message.specs.Flags.{members}
use Rattle.message.specs.declared.Reply.{Reply}
use Rattle.coord_record.specs.Records.{idle_kind}
use Rattle.coord_tally.specs.Counting.{at_times}
use Rattle.coord_decide.specs.Deciding.{decided}
use Rattle.coord_decide.specs.Decisions.{DecisionSays, Recovers, AllYes, found_time, holders}
use Rattle.coord_decide.proofs.Laws.SaysLaws.{says_of}
use Rattle.coord_decide.specs.declared.Decision.TheVariants.{Recover}
use Rattle.coord_blocks.specs.Blocks.{agreeing}
use Rattle.coord_apply.specs.Acts.{givers_at, storing, acted, with_tally, counting, waiting_or}
use Rattle.coord_apply.specs.Answers.{Buffered, Went, went, nothing_seen, after_checks}
use Rattle.coord_apply.proofs.Laws.ActLaws.{recover_agreed}
use Rattle.coordinator.specs.Routines.{take_step}
use Rattle.coord_laws.proofs.Laws.StepRunLaws.{ReplyTaken, took}
use Rattle.coord_laws.proofs.Laws.StripeLaws.{taken_stripe, taken_runs}
use Rattle.order.specs.Claim.{◌∈◌}
use Rattle.register.specs.Recoveries.{addressee, counted_at, QthReply, RecoversBy, NoRecoveryDisagrees}
use Rattle.register.specs.Runs.{reply, Moved, run}
use Rattle.register.proofs.Laws.Invariant.{Hist, top_of, CoordinatorInv, item_on, view, Inv}
use Rattle.register.proofs.Laws.CountedLaws.{counting_keeps}
use Rattle.register.proofs.Laws.RecoverLaws.{agrees}
use Rattle.register.proofs.Laws.StripeViewLaws.{in_items, viewed_here}
use Rattle.register.proofs.Laws.TheoremProof.{run_holds}

-- the q-th reply of a round
module _ (s : Settings) (g : SettingsRange s) (r : Moved s) (a : Reply) (block : List ℕ) (x : QthReply s r.world a block) where
  abbrev k : Buffered
  k = addressee r.world a

  abbrev after : Buffered
  after = counted_at s r.world a block

  pub w : Went
  w = waiting_or s.n s.m s.size after

  pub steps : take_step s.n s.m s.size s.stripes k a block (s.n * s.size) ≡ went w
  unfolding take_step after_checks w
  steps = ap (λ (number : ℕ). after_checks number (went (waiting_or s.n s.m s.size (counting s.size (addressee r.world a) a block)))) x.taken

  pub t : ReplyTaken s.n s.m s.size s.stripes k a block (s.n * s.size) w
  t = took s.n s.m s.size s.stripes k a block (s.n * s.size) w steps

  pub busy : k.state.op.kind ≡ idle_kind → ⊥
  busy = taken_runs s.n s.m s.size s.stripes k a block (s.n * s.size) w steps

  -- on the stripe that it runs on
  module _ (h : Hist s) (i : Inv s g k.state.op.stripe h r) where
    holds : CoordinatorInv s g h (view k.state.op.stripe r).sent (coordinator_of a.time) k
    unfolding view
    holds = subst (CoordinatorInv s g h (view k.state.op.stripe r).sent (coordinator_of a.time)) (viewed_here k.state.op.stripe k busy refl) (i.coordinators (coordinator_of a.time))

    was : reply a block ∈ (view k.state.op.stripe r).sent
    unfolding view item_on
    was =
        in_items k.state.op.stripe r.world.sent (reply a block) x.was-sent
        (eq-eqb a.stripe k.state.op.stripe (taken_stripe s.n s.m s.size s.stripes k a block (s.n * s.size) w steps))

    -- what holds of its coordinator once it is counted
    pub counted_holds : CoordinatorInv s g h (view k.state.op.stripe r).sent (coordinator_of a.time) after
    counted_holds = counting_keeps s g h (view k.state.op.stripe r).sent (coordinator_of a.time) k a block (s.n * s.size) w holds t was

-- A RECOVERY IS DECIDED
module _ (s : Settings) (g : SettingsRange s) (r : Moved s) (a : Reply) (block : List ℕ) (time : ℕ) (x : RecoversBy s r.world a block time) where
  abbrev own : Buffered
  own = addressee r.world a

  abbrev later : Buffered
  later = counted_at s r.world a block

  says : Recovers s.n s.m later.state.op later.state.tally time
  unfolding DecisionSays
  says = says_of s.n s.m (counted_at s r.world a block).state.op (counted_at s r.world a block).state.tally (Recover time) (sym x.decides)

  module _ (h : Hist s) (i : Inv s g own.state.op.stripe h r) where
    top_agrees : agreeing s.m s.size (givers_at s.n later (top_of s later)) later.blocks ≡ true
    unfolding AllYes holders found_time counting with_tally
    top_agrees =
        agrees s g h (view own.state.op.stripe r).sent (coordinator_of a.time) later i.valid
        (counted_holds s g r a block x.qth h i) i.items (busy s g r a block x.qth)
        says.phase-is says.all_yes x.qth.is-qth
        (subst (λ (u : ℕ). s.m ≤ count (at_times later.state.tally.held later.state.tally.found u) s.n) says.time-is says.enough)

    agreed : agreeing s.m s.size (givers_at s.n later time) later.blocks ≡ true
    unfolding found_time
    agreed = subst (λ (u : ℕ). agreeing s.m s.size (givers_at s.n later u) later.blocks ≡ true) (sym says.time-is) top_agrees

    stores : waiting_or s.n s.m s.size later ≡ storing s.n s.m s.size later time
    unfolding waiting_or
    stores =
        ap (λ (b : Bool). cond b (record { next = later; sent = []; seen = nothing_seen }) (acted s.n s.m s.size later (decided s.n s.m later.state.op later.state.tally)))
        (le-ltb (members later.state.tally.counted s.n) (quorum s.n s.m) x.qth.is-qth)
        ∙ ap (acted s.n s.m s.size later) x.decides
        ∙ recover_agreed s.n s.m s.size later time agreed

pub no_recovery_disagrees : NoRecoveryDisagrees
no_recovery_disagrees s e events a block time x =
    let g = range_of s e in
    let r = run s events in
    let i = run_holds s g (addressee r.world a).state.op.stripe (t s g r a block x.qth).takes.parts.stripe-low events in
    (agreed s g r a block time x i.0 i.1, stores s g r a block time x i.0 i.1)

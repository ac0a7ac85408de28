-- A reply that is not refused is counted: what is kept of it.
use mathlib.Core.Path.{◌≡◌, refl, sym, ap, subst, ◌∙◌}
use mathlib.Core.Logic.{◌≢◌}
use mathlib.Core.Bool.{Bool, true, false, cond}
use mathlib.Core.List.{List}
use Prim.Native.Nat.{ℕ, ◌≤◌, ◌<◌}
use native.Mathlib.Omega.{arith}
use native.Mathlib.Decide.{ℕ_discrete}
use lib.Dec.{eqb}
use lib.ListN.{length, set}
use lib.Seq.{get_or-set_same, get_or-set_other}
use Rattle.settings.specs.Count.{one_if}
use Rattle.settings.proofs.Laws.CountLaws.{one_is}
use Rattle.settings.specs.Ranges.{SettingsRange, max_bricks, quorum}
use Rattle.settings.specs.declared.Settings.{Settings}
use Rattle.message.specs.Flags.{member, members}
use Rattle.message.specs.declared.Reply.{Reply}
use Rattle.coord_decide.specs.Deciding.{tallied}
use Rattle.erasure.specs.Code.{block_of, with_block}
use Rattle.coord_record.specs.Records.{idle_kind, no_op, idle_with}
use Rattle.coord_record.specs.declared.Coordinator.{Coordinator}
use Rattle.coord_apply.specs.Acts.{with_tally, counting}
use Rattle.coord_apply.specs.Answers.{Buffered, Went}
use Rattle.coordinator.proofs.Laws.RoutineLaws.{place_fits}
use Rattle.erasure.proofs.Laws.BlockOfLaws.{block_with, block_beside}
use Rattle.coord_laws.proofs.Laws.StepRunLaws.{ReplyTaken}
use Rattle.coord_laws.proofs.Laws.TallyLaws.{tallied_sized, counted_more}
use Rattle.order.specs.Claim.{◌∈◌}
use Rattle.order.specs.Facts.{began}
use Rattle.order.specs.Places.{In}
use Rattle.register.specs.Runs.{plain, Item, reply}
use Rattle.register.proofs.Laws.BegunLaws.{same_begun}
use Rattle.register.proofs.Laws.Invariant.{Hist, CountedInv, Running, CoordinatorInv}

-- flags after one is set
pub member_same : (l : List ℕ) (b : ℕ) (y : Bool) → b < length l → member (set l b (one_if y)) b ≡ y
unfolding member
member_same l b y h = ap (λ (z : ℕ). eqb z 1) (get_or-set_same l b (one_if y) 0 h) ∙ one_is y

pub member_other : (l : List ℕ) (b j v : ℕ) → j ≢ b → member (set l b v) j ≡ member l j
unfolding member
member_other l b j v n = ap (λ (z : ℕ). eqb z 1) (get_or-set_other l b j v 0 n)

-- The q-th reply decides: no more are counted.
pub qth_exactly : (s : Settings) (k : Buffered) (r : Reply) (block : List ℕ) (coded : ℕ) (w : Went) → ReplyTaken s.n s.m s.size s.stripes k r block coded w
    → quorum s.n s.m ≤ members (counting s.size k r block).state.tally.counted s.n
    → members (counting s.size k r block).state.tally.counted s.n ≡ quorum s.n s.m
unfolding counting with_tally tallied
qth_exactly s k r block coded w t l =
    let few = t.takes.parts.few-counted in
    let more = counted_more k.state.tally.counted r.brick 1 s.n in
    omega (arith, l, few, more)

-- A reply that is not refused is counted.
pub counting_keeps : (s : Settings) (g : SettingsRange s) (h : Hist s) (sent : List Item) (c : ℕ) (k : Buffered) (r : Reply) (block : List ℕ) (coded : ℕ) (w : Went)
    → CoordinatorInv s g h sent c k → ReplyTaken s.n s.m s.size s.stripes k r block coded w → reply r block ∈ sent → CoordinatorInv s g h sent c (counting s.size k r block)
unfolding counting with_tally tallied
counting_keeps s g h sent c k r block coded w i t was =
    record {
      number = i.number;
      used = i.used;
      sized = tallied_sized k.state.tally r i.sized;
      idle-is = λ e. absurd (open-round e);
      runs = λ n. running (i.runs n);
    }
  where
    -- a reply is counted in an open round alone
    open-round : k.state.op.kind ≡ idle_kind → ⊥
    open-round e =
        let z : k.state.op.phase ≡ 0 = unfold idle_with no_op in ap (λ (x : Coordinator). x.op.phase) (i.idle-is e) in
        omega (arith, z, t.reply.kind-low, t.answer.of-phase)

    counted : List ℕ
    counted = k.state.tally.counted

    granted : List ℕ
    granted = k.state.tally.granted

    held : List ℕ
    held = k.state.tally.held

    found : List ℕ
    found = k.state.tally.found

    said : List ℕ
    said = k.state.tally.said

    low : r.brick < max_bricks
    low = let a = t.takes.brick-low in let b = g.code.n-high in omega arith

    blocks : List ℕ
    blocks = cond r.held (with_block s.size k.blocks r.brick block) k.blocks

    after : Buffered
    after = counting s.size k r block

    -- the block of the brick that is counted, and those of the others
    here : (a : Bool) → r.held ≡ a → a ≡ true → block_of s.size (cond a (with_block s.size k.blocks r.brick block) k.blocks) r.brick ≡ block
    here true e q = block_with s.size k.blocks r.brick block (t.takes.block-length e) (place_fits _ _ _ _ _ _ _ _ _ _ t.takes)
    here false e q = let z : ◌≡◌ {A = ℕ} 0 1 = cc in absurd (omega arith)

    there : (a : Bool) → r.held ≡ a → (b : ℕ) → b ≢ r.brick
        → block_of s.size (cond a (with_block s.size k.blocks r.brick block) k.blocks) b ≡ block_of s.size k.blocks b
    there true e b n =
        block_beside s.size k.blocks r.brick block (t.takes.block-length e) (place_fits _ _ _ _ _ _ _ _ _ _ t.takes) b n
    there false e b n = refl

    new : CountedInv s sent after r.brick
    new =
        record {
          from = r;
          block = block;
          was-sent = was;
          low = t.takes.brick-low;
          brick-is = refl;
          kind-is = t.answer.of-phase;
          time-is = t.answer.of-operation;
          round_is = t.answer.of-round;
          yes-is = sym (member_same granted r.brick r.yes (let w = i.sized.granted-size in omega (arith, low)));
          held-is = sym (member_same held r.brick r.held (let w = i.sized.held-size in omega (arith, low)));
          found-is = sym (get_or-set_same found r.brick r.found 0 (let w = i.sized.found-size in omega (arith, low)));
          said-is = sym (get_or-set_same said r.brick r.comparison 0 (let w = i.sized.said-size in omega (arith, low)));
          block-is = λ e. here r.held refl e;
          right = t.answer.block-right;
        }

    old : (b : ℕ) → b ≢ r.brick → CountedInv s sent k b → CountedInv s sent after b
    old b n x =
        record {
          from = x.from;
          block = x.block;
          was-sent = x.was-sent;
          low = x.low;
          brick-is = x.brick-is;
          kind-is = x.kind-is;
          time-is = x.time-is;
          round_is = x.round_is;
          yes-is = x.yes-is ∙ sym (member_other granted r.brick b (one_if r.yes) n);
          held-is = x.held-is ∙ sym (member_other held r.brick b (one_if r.held) n);
          found-is = x.found-is ∙ sym (get_or-set_other found r.brick b r.found 0 n);
          said-is = x.said-is ∙ sym (get_or-set_other said r.brick b r.comparison 0 n);
          block-is = λ e. there r.held refl b n ∙ x.block-is e;
          right = x.right;
        }

    running : Running s g h sent c k → Running s g h sent c after
    running x =
        record {
          own = x.own;
          begun = subst (λ (a : (plain s).Kind). In (began k.state.op.time a) h) (same_begun s k after refl refl refl) x.begun;
          proper = x.proper;
          piece = x.piece;
          unended = x.unended;
          unsent = x.unsent;
          counts = λ b m. counts b m (ℕ_discrete b r.brick);
          holds = λ b m. holds b m (ℕ_discrete b r.brick);
          asked = x.asked;
          looked-lower = x.looked-lower;
          stored-lower = x.stored-lower;
          cleared = x.cleared;
          storing = x.storing;
          modifying = x.modifying;
        }
      where
        counts : (b : ℕ) → member (set counted r.brick 1) b ≡ true → Dec (b ≡ r.brick) → CountedInv s sent after b
        counts b m (yes e) = subst (CountedInv s sent after) (sym e) new
        counts b m (no n) = old b n (x.counts b (sym (member_other counted r.brick b 1 n) ∙ m))

        holds : (b : ℕ) → member (set held r.brick (one_if r.held)) b ≡ true → Dec (b ≡ r.brick) → member (set counted r.brick 1) b ≡ true
        holds b m (yes e) =
            subst (λ (z : ℕ). member (set counted r.brick 1) z ≡ true) (sym e)
            (member_same counted r.brick true (let w = i.sized.counted-size in omega (arith, low)))
        holds b m (no n) =
            member_other counted r.brick b 1 n ∙ x.holds b (sym (member_other held r.brick b (one_if r.held) n) ∙ m)

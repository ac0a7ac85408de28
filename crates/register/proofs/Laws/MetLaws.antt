-- The replies that a round met: those that are counted, and what is kept of them is what they said.
use mathlib.Core.Path.{◌≡◌, refl, sym, subst}
use mathlib.Core.Bool.{Bool, true, false, not, ◌&&◌}
use mathlib.Core.List.{List}
use Prim.Native.Nat.{ℕ, ◌<◌}
use lib.ListN.{get_or}
use borrow.Author.Tests.{eqb-true}
use Rattle.byte_lists.specs.Each.{some}
use Rattle.byte_lists.proofs.Laws.EachLaws.{some_at}
use Rattle.settings.specs.Ranges.{quorum}
use Rattle.settings.specs.declared.Settings.{Settings}
use Rattle.message.specs.Flags.{member, members}
use Rattle.message.specs.declared.Reply.{Reply}
use Rattle.coord_record.specs.CountedRules.{is_target}
use Rattle.coord_record.specs.Records.{target_count}
use Rattle.coord_tally.specs.Counting.{said_no, other_time, missing, highest}
use Rattle.coord_decide.specs.Decisions.{DecidesGive}
use Rattle.coord_apply.specs.Answers.{Buffered}
use Rattle.coord_laws.proofs.Laws.OpCaseLaws.{clash}
use Rattle.order.specs.Claim.{◌∈◌}
use Rattle.register.specs.RunLetters.{Counted, kept_reply, Met, AllSaidYes}
use Rattle.register.specs.Runs.{Item, reply}
use Rattle.register.proofs.Laws.Invariant.{CountedInv, item_on, items_on}
use Rattle.register.proofs.Laws.StripeViewLaws.{of_items}

-- a test and the refusal of another
pub and_not : (a b : Bool) → a ≡ true → a && not b ≡ false → b ≡ true
and_not a true e q = refl
and_not a false e q = clash (sym (rw e at q))

-- A coordinator with q replies counted in this round of an operation: `all` is what was sent, on any stripe.
pub met_by : (s : Settings) (all : List Item) (k : Buffered) → ((b : ℕ) → Counted k b → CountedInv s (items_on k.state.op.stripe all) k b)
    → members k.state.tally.counted s.n ≡ quorum s.n s.m → Met s all k
unfolding item_on
met_by s all k counts full =
    record {
      a-quorum = full;
      low = λ b e. (counts b e).low;
      block = λ b e. (counts b e).block;
      was-sent = λ b e. (
          let x = counts b e in
          let w = of_items k.state.op.stripe all (reply x.from x.block) x.was-sent in
          let same : x.from ≡ kept_reply k b
          = λ i.
          record {
            kind = x.kind-is i;
            brick = x.brick-is i;
            stripe = eqb-true x.from.stripe k.state.op.stripe w.1 i;
            time = x.time-is i;
            round = x.round_is i;
            yes = x.yes-is i;
            found = x.found-is i;
            held = x.held-is i;
            comparison = x.said-is i;
          } in
          subst (λ (r : Reply). reply r x.block ∈ all) same w.0
          );
      block-kept = λ b e h. (let x = counts b e in x.block-is (subst (λ (z : Bool). z ≡ true) (sym x.held-is) h));
    }

-- all of them said yes
pub met_yes : (s : Settings) (k : Buffered) → ((b : ℕ) → Counted k b → b < s.n) → some (said_no k.state.tally.counted k.state.tally.granted) s.n ≡ false
    → AllSaidYes k
unfolding said_no
met_yes s k low y b e =
    and_not (member k.state.tally.counted b) (member k.state.tally.granted b) e
    (some_at (said_no k.state.tally.counted k.state.tally.granted) s.n b y (low b e))

-- A read of one round: one newest time, and every target is counted.
pub one_newest : (s : Settings) (k : Buffered) → ((b : ℕ) → Counted k b → b < s.n) → DecidesGive s.n s.m k.state.op k.state.tally
    → (b : ℕ) → Counted k b → (kept_reply k b).found ≡ highest k.state.tally.counted k.state.tally.found s.n
unfolding other_time
one_newest s k low d b e =
    eqb-true (get_or k.state.tally.found b 0) (highest k.state.tally.counted k.state.tally.found s.n)
    (and_not (member k.state.tally.counted b) _ e
    (some_at (other_time k.state.tally.counted k.state.tally.found (highest k.state.tally.counted k.state.tally.found s.n)) s.n b d.one_time (low b e)))

pub targets_counted : (s : Settings) (k : Buffered) → DecidesGive s.n s.m k.state.op k.state.tally → (b : ℕ) → b < s.n
    → is_target s.n (target_count s.m k.state.op.kind) k.state.op.first b ≡ true → Counted k b
unfolding missing
targets_counted s k d b l q =
    and_not (is_target s.n (target_count s.m k.state.op.kind) k.state.op.first b) (member k.state.tally.counted b) q
    (some_at (missing s.n (target_count s.m k.state.op.kind) k.state.op.first k.state.tally.counted) s.n b d.targets-in l)

-- A coordinator crashes: what holds of its stripe goes on to hold, whatever lies in the buffers then.
use mathlib.Core.Path.{◌≡◌, refl, subst}
use mathlib.Core.Bool.{Bool, true, false, cond, ◌&&◌}
use mathlib.Core.Logic.{◌↔◌}
use mathlib.Core.List.Memᴰ
use mathlib.Core.List.{List, []}
use Prim.Native.Nat.{ℕ, ◌*◌}
use native.Mathlib.Omega.{arith}
use lib.Dec.{eqb}
use lib.ListN.{length}
use borrow.Author.Tests.{eqb-true, eqb-false, eq-eqb}
use Rattle.settings.specs.Ranges.{SettingsRange}
use Rattle.byte_lists.proofs.Laws.BoolLaws.{and_left, and_right}
use Rattle.settings.specs.declared.Settings.{Settings}
use Rattle.coord_record.specs.Records.{no_bricks, no_op, idle_with, idle_kind}
use Rattle.coord_apply.specs.Acts.{ending}
use Rattle.coord_apply.specs.Answers.{Buffered, Went, nothing_seen, cut_seen}
use Rattle.coordinator.specs.Routines.{crashed}
use Rattle.order.specs.Claim.{Seen}
use Rattle.order.specs.Facts.{cut, shows, ending_of}
use Rattle.order.specs.Valid.{Valid}
use Rattle.register.specs.Runs.{plain, Left, untouched, lost, Item, seen_of, broadcasts, buffers_fit, leaving}
use Rattle.register.proofs.Laws.BegunLaws.{known_begun}
use Rattle.register.proofs.Laws.Invariant.{quorums, Hist, CoordinatorInv}
use Rattle.register.proofs.Laws.TurnLaws.{Turns, TurnedRound}
use Rattle.register.proofs.Laws.RoundLaws.{stays, ends}

both_equal : (a b c d : ℕ) → (eqb a b && eqb c d ≡ true) ↔ ((a ≡ b) × (c ≡ d))
both_equal a b c d = (
  λ e. (eqb-true a b (and_left (eqb a b) (eqb c d) e), eqb-true c d (and_right (eqb a b) (eqb c d) e)),
  λ w. rw (eq-eqb a b w.0, eq-eqb c d w.1) refl,
)

-- both lengths are looked at
long : (s : Settings) (blocks stripe : List ℕ) → buffers_fit s blocks stripe ≡ true → (length blocks ≡ s.n * s.size) × (length stripe ≡ s.m * s.size)
unfolding buffers_fit
long s blocks stripe e = let w = simp both_equal at e in (omega (arith, w.0), omega (arith, w.1))

-- what a crash leaves: what there was, or the same record with lists of the right lengths
pub left_by_lem : (s : Settings) (left : Left) (k : Buffered) (P : Buffered → Type 0) → P k
    → ((blocks stripe : List ℕ) → length blocks ≡ s.n * s.size → length stripe ≡ s.m * s.size
    → P (record { state = k.state; blocks = blocks; stripe = stripe }))
    → P (leaving s left k)
unfolding leaving
left_by_lem s untouched k P p f = p
left_by_lem s (lost blocks stripe) k P p f = go (buffers_fit s blocks stripe) refl
  where
    go : (a : Bool) → buffers_fit s blocks stripe ≡ a → P (cond a (record { state = k.state; blocks = blocks; stripe = stripe }) k)
    go true e = let w = long s blocks stripe e in f blocks stripe w.0 w.1
    go false e = p

-- its coordinator is idle afterwards
pub crashed_idle : (n : ℕ) (k : Buffered) → (crashed n k).next.state.op.kind ≡ idle_kind
unfolding crashed ending idle_with no_op
crashed_idle n k = go (eqb k.state.op.kind idle_kind) refl
  where
    go : (a : Bool) → eqb k.state.op.kind idle_kind ≡ a
        → (cond a (record { next = k; sent = []; seen = nothing_seen }) (ending n k k.stripe [] cut_seen no_bricks)).next.state.op.kind ≡ idle_kind
    go true e = eqb-true k.state.op.kind idle_kind e
    go false e = refl

-- nothing is asked of an idle coordinator's buffers
left_turned : (s : Settings) (g : SettingsRange s) (h : Hist s) (sent : List Item) (c : ℕ) (left : Left) (w : Went)
    → w.next.state.op.kind ≡ idle_kind → ((a b : Buffered) → seen_of s w.seen a ≡ seen_of s w.seen b) → TurnedRound s g h sent c w
    → TurnedRound s g h sent c (record { next = leaving s left w.next; sent = w.sent; seen = w.seen })
left_turned s g h sent c left w e same t =
    left_by_lem s left w.next (λ (k : Buffered). TurnedRound s g h sent c (record { next = k; sent = w.sent; seen = w.seen })) t
    (λ blocks stripe eb es.
    record {
      later = t.later;
      turns = subst (λ (z : List (Seen (plain s))). Turns s g c h t.later z) (same w.next _) t.turns;
      keeps = record { number = t.keeps.number; used = t.keeps.used; sized = t.keeps.sized; idle-is = t.keeps.idle-is; runs = λ n. absurd (n e) };
      items = t.items;
      own = t.own;
    })

-- a crash that is not refused, at an idle coordinator or one that runs
pub crash_turned : (s : Settings) (g : SettingsRange s) (h : Hist s) (sent : List Item) (c : ℕ) (k : Buffered) → Valid (quorums s g) h
    → CoordinatorInv s g h sent c k → (left : Left)
    → TurnedRound s g h sent c (record { next = leaving s left (crashed s.n k).next; sent = (crashed s.n k).sent; seen = (crashed s.n k).seen })
unfolding crashed
crash_turned s g h sent c k v i left = busy (eqb k.state.op.kind idle_kind) refl
  where
    -- after a crash
    with-left : Went → Went
    with-left w = record { next = leaving s left w.next; sent = w.sent; seen = w.seen }

    cuts : (k.state.op.kind ≡ idle_kind → ⊥) → TurnedRound s g h sent c (ending s.n k k.stripe [] cut_seen no_bricks)
    cuts n =
        let w = i.runs n in
        ends s g h sent c k i v cut k.stripe [] cut_seen no_bricks w.own
        (record { known = known_begun w; running = w.unended; answer = tt }) (unfold ending seen_of shows ending_of in refl)
        (λ z m. absurd (unfold broadcasts in Memᴰ.not-nil m)) (λ b msg block old m _. unfold broadcasts in Memᴰ.not-nil m)

    busy : (a : Bool) → eqb k.state.op.kind idle_kind ≡ a
        → TurnedRound s g h sent c
        (with-left (cond a (record { next = k; sent = []; seen = nothing_seen }) (ending s.n k k.stripe [] cut_seen no_bricks)))
    busy true e =
        left_turned s g h sent c left (record { next = k; sent = []; seen = nothing_seen }) (eqb-true k.state.op.kind idle_kind e)
        (λ a b. unfold seen_of nothing_seen in refl) (stays s g h sent c k i v)
    busy false e =
        left_turned s g h sent c left (ending s.n k k.stripe [] cut_seen no_bricks) (unfold ending idle_with no_op in refl)
        (λ a b. unfold seen_of ending in refl) (cuts (eqb-false k.state.op.kind idle_kind e))

-- An operation ends, or its next round is sent: what holds of its coordinator and of what is sent.
use mathlib.Core.Path.{◌≡◌, refl, sym, ap, subst, ◌∙◌}
use mathlib.Core.Logic.{◌⊎◌, inl, inr}
use mathlib.Core.List.Memᴰ
use mathlib.Core.List.{List, [], ◌∷◌, ◌++◌, append-nil}
use Prim.Native.Nat.{ℕ, ◌+◌, ◌≤◌, ◌<◌}
use native.Mathlib.Omega.{arith}
use mathlib.Core.Bool.{cond}
use Rattle.message.specs.Kinds.{order_read_kind, write_kind, modify_kind, third_round}
use Rattle.message.specs.Messages.{names_block}
use Rattle.settings.specs.Times.{coordinator_of}
use Rattle.settings.specs.Ranges.{SettingsRange}
use Rattle.settings.specs.declared.Settings.{Settings}
use Rattle.message.specs.declared.Message.{Message}
use Rattle.erasure.specs.Code.{block_of, Stripe}
use Rattle.coord_record.specs.Records.{nothing_counted, no_bricks, no_op, idle_with, idle_kind, writing_kind, writing_block_kind}
use Rattle.coord_apply.specs.Acts.{round_message, next_op, opened, ending}
use Rattle.coord_apply.specs.Answers.{Buffered, Broadcast, Went, nothing_seen}
use Rattle.coord_laws.proofs.Laws.SoundnessLaws.{none_sized}
use Rattle.order.specs.Claim.{◌∈◌}
use Rattle.order.specs.Facts.{End, Fact, began, ended, shows}
use Rattle.order.specs.Places.{In}
use Rattle.order.proofs.Laws.PlaceLaws.{in_suf}
use Rattle.order.specs.Valid.{Began, Launched, Ended, Val, Gone, OkEnded, Valid}
use Rattle.register.specs.Runs.{plain, Item, message, reply, begun_kind, seen_of, block_for, old_for, broadcasts}
use Rattle.register.proofs.Laws.Invariant.{quorums, Hist, Piece, MessageInv, ItemInv, Asked, Lowered, Running, CoordinatorInv}
use Rattle.register.proofs.Laws.UpLaws.{in_cons, within_more, lowered_sent}
use Rattle.register.proofs.Laws.TurnLaws.{time_of_lem, kind_of_lem, round_of, Turns, turns_not, turns_ended, in_broadcast, some_broadcast, TurnedRound}
use Rattle.register.proofs.Laws.StartEvent.{none_member}

unfoldable pub max_of : Item → ℕ
max_of (message b msg block old) = msg.max
max_of (reply r block) = 0

-- a round that is sent, with its blocks and, where it is Modify, the old time and the old block
abbrev pub round_went : Buffered → (phase max time : ℕ) → (bricks stripe coded old : List ℕ) → Went
round_went k phase max time bricks stripe coded old =
    record {
      next = record { state = opened k.state phase max bricks; blocks = k.blocks; stripe = stripe };
      sent = record { message = round_message (next_op k.state.op phase max) time no_bricks; blocks = coded; old = old } ∷ [];
      seen = nothing_seen;
    }

module _ (s : Settings) (g : SettingsRange s) (h : Hist s) (sent : List Item) (c : ℕ) (k : Buffered) (i : CoordinatorInv s g h sent c k) where
  -- nothing is sent and nothing is seen
  pub stays : Valid (quorums s g) h → TurnedRound s g h sent c (record { next = k; sent = []; seen = nothing_seen })
  unfolding seen_of nothing_seen broadcasts
  stays v =
      record {
        later = h;
        turns = turns_not s g c h v [] refl;
        keeps = subst (λ (z : List Item). CoordinatorInv s g h z c k) (sym (append-nil sent)) i;
        items = λ z m. absurd (Memᴰ.not-nil m);
        own = λ b msg block old m _. absurd (Memᴰ.not-nil m);
      }

  -- the operation ends and its coordinator is idle
  pub ends : Valid (quorums s g) h → (e : End (plain s)) (stripe : List ℕ) (more : List Broadcast) (what : ℕ) (bricks : List ℕ)
      → coordinator_of k.state.op.time ≡ c
      → OkEnded (quorums s g) h k.state.op.time e
      → seen_of s (ending s.n k stripe more what bricks).seen (ending s.n k stripe more what bricks).next ≡ shows {P = plain s} (ended k.state.op.time e)
      → ((z : Item) → z ∈ broadcasts s more → ItemInv s g (ended k.state.op.time e ∷ h) (sent ++ broadcasts s more) z)
      → ((b : ℕ) (msg : Message) (block old : List ℕ) → message b msg block old ∈ broadcasts s more → msg.kind ≡ order_read_kind → ⊥)
      → TurnedRound s g h sent c (ending s.n k stripe more what bricks)
  unfolding ending idle_with no_op
  ends v e stripe more what bricks own o shown items owns =
      record {
        later = ended k.state.op.time e ∷ h;
        turns = turns_ended s g c h v k.state.op.time e o own _ shown;
        keeps = record {
          number = i.number;
          used = λ u w m. i.used u (old u w.0 (in_cons w.1)) m;
          sized = none_sized;
          idle-is = λ _. refl;
          runs = λ n. absurd (n refl);
        };
        items = items;
        own = λ b msg block o m e. absurd (owns b msg block o m e);
      }
    where
      old : (u : ℕ) (a : (plain s).Kind) → (◌≡◌ {A = Fact (plain s)} (began u a) (ended k.state.op.time e)) ⊎ In (began u a) h → Began h u
      old u a (inl q) = let z : ◌≡◌ {A = ℕ} 0 1 = cc in absurd (omega arith)
      old u a (inr q) = (a, q)

  -- the next round is sent: with its blocks, and where it is Modify with the old time and the old block
  pub opens : (n : k.state.op.kind ≡ idle_kind → ⊥) (h' : Hist s) (phase max time : ℕ) (bricks stripe coded old : List ℕ)
      → Turns s g c h h' []
      → ((u : ℕ) → Began h' u → Began h u)
      → (¬ Ended h' k.state.op.time)
      → ((phase ≡ write_kind → ⊥) → (phase ≡ modify_kind → ⊥) → ¬ Launched h' k.state.op.time)
      → begun_kind s (round_went k phase max time bricks stripe coded old).next ≡ begun_kind s k
      → (k.state.op.kind ≡ writing_kind → Stripe s.m s.size stripe)
      → (k.state.op.kind ≡ writing_block_kind → Piece s k.state.op.first (block_of s.size stripe k.state.op.first))
      → (phase ≡ write_kind → third_round ≤ k.state.op.round → k.state.op.phase ≡ order_read_kind)
      → (phase ≡ order_read_kind → (u : ℕ) → max ≤ u → u < k.state.op.time → Gone (quorums s g) h' u)
      → (phase ≡ write_kind → Launched h' k.state.op.time × Val h' k.state.op.time stripe × Stripe s.m s.size stripe)
      → (phase ≡ modify_kind → Launched h' k.state.op.time)
      → ((b : ℕ) → b < s.n
      → MessageInv s g h' b (round_message (next_op k.state.op phase max) time no_bricks)
      (block_for s (record { message = round_message (next_op k.state.op phase max) time no_bricks; blocks = coded; old = old }) b)
      (old_for s (record { message = round_message (next_op k.state.op phase max) time no_bricks; blocks = coded; old = old })))
      → TurnedRound s g h sent c (round_went k phase max time bricks stripe coded old)
  unfolding opened seen_of nothing_seen nothing_counted next_op round_message
  opens n h' phase max time bricks stripe coded old turns same unended unsent kept proper piece stored cleared storing modifying messages =
      record {
        later = h';
        turns = turns;
        keeps = record { number = i.number; used = λ u w m. i.used u (same u w) m; sized = none_sized; idle-is = λ e. absurd (n e); runs = λ _. running };
        items = λ z m. let w = in_broadcast s sending z m in
            subst (ItemInv s g h' (sent ++ broadcasts s (sending ∷ []))) (sym w.2) (messages w.0 w.1);
        own = λ b msg block o m _. let w = in_broadcast s sending (message b msg block o) m in
            let e : msg.time ≡ k.state.op.time = unfold time_of_lem in ap time_of_lem w.2 in ap coordinator_of e ∙ r.own;
      }
    where
      r : Running s g h sent c k
      r = i.runs n

      sending : Broadcast
      sending = record {
        message = record {
          kind = phase;
          stripe = k.state.op.stripe;
          time = k.state.op.time;
          round = k.state.op.round + 1;
          max = max;
          old = time;
          block = cond (names_block phase) k.state.op.first 0;
          targets = no_bricks;
        };
        blocks = coded;
        old = old;
      }

      asked : Asked (sent ++ broadcasts s (sending ∷ [])) k.state.op.time (k.state.op.round + 1) phase max
      asked b msg block o m e q = go (Memᴰ.append_cases sent m)
        where
          go : (message b msg block o ∈ sent) ⊎ (message b msg block o ∈ broadcasts s (sending ∷ []))
              → (msg.round ≤ k.state.op.round + 1) × (msg.round ≡ k.state.op.round + 1 → (phase ≡ order_read_kind) × (msg.max ≡ max))
          go (inl p) = let w = r.asked b msg block o p e q in (omega (arith, w.0), λ f. absurd (omega (arith, f, w.0)))
          go (inr p) =
              let w = in_broadcast s sending (message b msg block o) p in
              let f : msg.round ≡ k.state.op.round + 1 = unfold round_of in ap round_of w.2 in
              let l : msg.kind ≡ phase = unfold kind_of_lem in ap kind_of_lem w.2 in
              let j : msg.max ≡ max = unfold max_of in ap max_of w.2 in
              (omega arith, λ _. (sym l ∙ e, j))

      -- this round asks for a lower time, or one before it did
      looked-lower : phase ≡ order_read_kind → third_round ≤ k.state.op.round + 1 → Lowered (sent ++ broadcasts s (sending ∷ [])) k.state.op.time
      looked-lower e l =
          let w = some_broadcast s sending g.code.n-low in
          record { brick = w.0; asked = sending.message; block = _; old = _; was-sent = Memᴰ.append_right sent w.1; kind-is = e; time-is = refl; late = l }

      stored-lower : phase ≡ write_kind → third_round < k.state.op.round + 1 → Lowered (sent ++ broadcasts s (sending ∷ [])) k.state.op.time
      stored-lower e l = lowered_sent (within_more sent (broadcasts s (sending ∷ []))) (r.looked-lower (stored e (omega (arith, l))) (omega (arith, l)))

      running : Running s g h' (sent ++ broadcasts s (sending ∷ [])) c
          (record {
            state = record {
              geometry = k.state.geometry;
              clock = k.state.clock;
              op = record {
                kind = k.state.op.kind;
                phase = phase;
                stripe = k.state.op.stripe;
                time = k.state.op.time;
                round = k.state.op.round + 1;
                max = max;
                first = k.state.op.first;
              };
              tally = nothing_counted;
              bricks = bricks;
            };
            blocks = k.blocks;
            stripe = stripe;
          })
      running =
          record {
            own = r.own;
            begun = subst (λ (a : (plain s).Kind). In (began k.state.op.time a) h') (sym kept) (in_suf turns.longer r.begun);
            proper = proper;
            piece = piece;
            unended = unended;
            unsent = unsent;
            counts = λ b m. absurd (none_member b m);
            holds = λ b m. absurd (none_member b m);
            asked = asked;
            looked-lower = looked-lower;
            stored-lower = stored-lower;
            cleared = cleared;
            storing = storing;
            modifying = modifying;
          }

-- The q-th reply decides: an abort, the Write round of a write, the end after a Write round.
use mathlib.Core.Path.{◌≡◌, refl, sym, ap, subst, ◌∙◌}
use mathlib.Core.Logic.{◌⊎◌, inl, inr}
use mathlib.Core.Bool.{Bool, true, false, true≢false, not, ◌&&◌}
use mathlib.Core.List.Memᴰ
use mathlib.Core.List.{List, [], ◌∷◌, ◌++◌}
use Prim.Native.Nat.{ℕ, ◌+◌, ◌≤◌, ◌<◌}
use native.Mathlib.Omega.{arith}
use lib.Dec.{T, leb}
use borrow.Author.Tests.{ltb-true}
use Rattle.message.specs.Kinds.{read_kind, order_kind, order_read_kind, write_kind, modify_kind, trim_kind, first_round, third_round}
use Rattle.settings.specs.Ranges.{quorum}
use Rattle.settings.specs.Ranges.{SettingsRange}
use Rattle.byte_lists.proofs.Laws.BoolLaws.{and_right}
use Rattle.settings.specs.Times.{no_upper_end, valid_time, time_of}
use Rattle.settings.specs.declared.Settings.{Settings}
use Rattle.message.specs.Flags.{member, members}
use Rattle.message.specs.declared.Message.{Message}
use Rattle.erasure.specs.Code.{coded_of}
use Rattle.erasure.specs.Code.{block_of, Stripe}
use Rattle.byte_lists.specs.Each.{some}
use Rattle.byte_lists.proofs.Laws.EachLaws.{some_at}
use Rattle.coord_record.specs.Records.{no_bricks, idle_kind, reading_kind, writing_kind, writing_block_kind, is_reading, on_block}
use Rattle.coord_record.specs.SoundParts.{SoundParts}
use Rattle.coord_tally.specs.Counting.{said_no}
use Rattle.coord_apply.specs.Acts.{round_message, clear_message, clearing, next_op, opened, next_round, ending, finished_seen}
use Rattle.coord_apply.specs.Answers.{Buffered, Broadcast, read_seen, aborted_seen}
use Rattle.order.specs.Claim.{write, ok, changed, Ending, Seen, ◌∈◌}
use Rattle.order.specs.Facts.{Source, itself, End, written, recovered, aborted, Fact, began, promised, launched, stored, ended, shows, ending_of}
use Rattle.order.specs.Places.{whole, above, In}
use Rattle.order.proofs.Laws.PlaceLaws.{in_above, in_top}
use Rattle.order.specs.Quorums.{Many}
use Rattle.order.specs.Valid.{Began, Val, sets, OkLaunched, Valid}
use Rattle.order.proofs.Laws.FactLaws.{ok_at, committed_up}
use Rattle.register.specs.Runs.{plain, Item, message, reply, begun_kind, seen_of, block_for, old_for, broadcasts}
use Rattle.register.proofs.Laws.BegunLaws.{read_keeps, read_gives, write_says, same_begun, known_begun, writes_begun}
use Rattle.register.proofs.Laws.Invariant.{quorums, Hist, Piece, MessageInv, ReplyInv, ItemInv, Running, CoordinatorInv}
use Rattle.register.proofs.Laws.UpLaws.{in_cons}
use Rattle.register.proofs.Laws.TurnLaws.{kind_of_lem, turns_launched, in_broadcast, TurnedRound}
use Rattle.register.proofs.Laws.RoundLaws.{ends, opens}
use Rattle.coord_laws.proofs.Laws.OpCaseLaws.{Fit, fit}
use Rattle.coord_laws.proofs.Laws.SentMessageLaws.{time_valid}

-- what a sound record says of its operation
pub record SoundOp (s : Settings) (k : Buffered) : Type 0 where
  pub fits : read_kind ≤ k.state.op.phase → Fit k.state.op
  pub first-low : k.state.op.first < s.n
  pub block-low : on_block k.state.op.kind ≡ true → k.state.op.first < s.m
  pub time-high : reading_kind ≤ k.state.op.kind → k.state.op.time < no_upper_end

pub sound_op : (s : Settings) (k : Buffered) → SoundParts s.n s.m s.size s.stripes k.state → SoundOp s k
unfolding valid_time
sound_op s k p =
    record {
      fits = λ l. fit k.state.op p.op-right (λ _ z. omega arith);
      first-low = p.first-low;
      block-low = p.block-low;
      time-high = λ l. ltb-true k.state.op.time no_upper_end
          (and_right (leb (time_of 1 0) k.state.op.time) _
          (time_valid k.state.op.kind k.state.op.time k.state.clock p.time-right (λ z. omega arith) p.number-low p.last-low));
    }

-- tests on bricks
pub true_T : (a : Bool) → a ≡ true → T a
true_T true e = tt
true_T false e = let z : ◌≡◌ {A = ℕ} 0 1 = cc in absurd (omega arith)

pub T_true : (a : Bool) → T a → a ≡ true
T_true true t = refl
T_true false t = absurd t

module _ (s : Settings) (g : SettingsRange s) (h : Hist s) (sent : List Item) (c : ℕ) (k : Buffered) (v : Valid (quorums s g) h)
    (i : CoordinatorInv s g h sent c k) (items : (z : Item) → z ∈ sent → ItemInv s g h sent z) (n : k.state.op.kind ≡ idle_kind → ⊥) where
  -- the running operation
  pub now : Running s g h sent c k
  now = i.runs n

  -- a counted brick's reply
  pub reply_at_lem : (b : ℕ) (m : member k.state.tally.counted b ≡ true) → ReplyInv s g h sent (now.counts b m).from (now.counts b m).block
  reply_at_lem b m = items (reply (now.counts b m).from (now.counts b m).block) (now.counts b m).was-sent

  -- no counted brick said no
  pub said_yes : some (said_no k.state.tally.counted k.state.tally.granted) s.n ≡ false → (b : ℕ)
      (m : member k.state.tally.counted b ≡ true) → (now.counts b m).from.yes ≡ true
  unfolding said_no
  said_yes e b m =
      (now.counts b m).yes-is ∙ go (member k.state.tally.granted b) (sym (ap (λ (a : Bool). a && not (member k.state.tally.granted b)) m)
      ∙ some_at (said_no k.state.tally.counted k.state.tally.granted) s.n b e (now.counts b m).low)
    where
      go : (a : Bool) → true && not a ≡ false → a ≡ true
      go true q = refl
      go false q = sym q

  -- what each counted brick satisfies, a quorum satisfies
  unfoldable pub quorum_of : (Q : ℕ → Type 0) → quorum s.n s.m ≤ members k.state.tally.counted s.n
      → ((b : ℕ) → member k.state.tally.counted b ≡ true → Q b) → Many s.n (quorum s.n s.m) Q
  unfolding members
  quorum_of Q l f =
      record { set = member k.state.tally.counted; enough = l; each = λ b w t. f b (T_true (member k.state.tally.counted b) t) }

  -- the operation ends aborted
  pub does_abort : TurnedRound s g h sent c (ending s.n k k.stripe [] aborted_seen no_bricks)
  does_abort =
      ends s g h sent c k i v aborted k.stripe [] aborted_seen no_bricks now.own
      (record { known = known_begun now; running = now.unended; answer = tt }) (unfold ending seen_of shows ending_of in refl)
      (λ z m. absurd (unfold broadcasts in Memᴰ.not-nil m)) (λ b msg block old m _. unfold broadcasts in Memᴰ.not-nil m)

  -- a Write round is sent
  pub launches : (source : Source) (bricks stripe : List ℕ) → OkLaunched (quorums s g) h k.state.op.time source
      → Val (launched k.state.op.time source ∷ h) k.state.op.time stripe
      → Stripe s.m s.size stripe
      → (k.state.op.kind ≡ writing_block_kind → Piece s k.state.op.first (block_of s.size stripe k.state.op.first))
      → (third_round ≤ k.state.op.round → k.state.op.phase ≡ order_read_kind)
      → begun_kind s (next_round k write_kind 0 bricks stripe (coded_of s.n s.m s.size stripe)).next ≡ begun_kind s k
      → TurnedRound s g h sent c (next_round k write_kind 0 bricks stripe (coded_of s.n s.m s.size stripe))
  unfolding next_round
  launches source bricks stripe o value proper piece recovered-from kept =
      opens s g h sent c k i n later write_kind 0 0 bricks stripe (coded_of s.n s.m s.size stripe) []
      (turns_launched s g c h v k.state.op.time source o now.own [] refl)
      (λ u w. old u w.0 (in_cons w.1))
      (λ w. unended w.0 (in_cons w.1))
      (λ p o. absurd (p refl))
      kept
      (λ e. proper)
      piece
      (λ e. recovered-from)
      (λ e. absurd (omega (arith, e)))
      (λ e. ((source, in_top), value, proper))
      (λ e. absurd (omega (arith, e)))
      messages
    where
      later : Hist s
      later = launched k.state.op.time source ∷ h

      old : (u : ℕ) (a : (plain s).Kind) → (◌≡◌ {A = Fact (plain s)} (began u a) (launched k.state.op.time source)) ⊎ In (began u a) h → Began h u
      old u a (inl q) = let z : ◌≡◌ {A = ℕ} 0 1 = cc in absurd (omega arith)
      old u a (inr q) = (a, q)

      unended : (e : End (plain s)) → (◌≡◌ {A = Fact (plain s)} (ended k.state.op.time e) (launched k.state.op.time source)) ⊎ In (ended k.state.op.time e) h → ⊥
      unended e (inl q) = let z : ◌≡◌ {A = ℕ} 0 1 = cc in omega arith
      unended e (inr q) = now.unended (e, q)

      messages : (b : ℕ) → b < s.n
          → MessageInv s g later b (round_message (next_op k.state.op write_kind 0) 0 no_bricks)
          (block_for s (record { message = round_message (next_op k.state.op write_kind 0) 0 no_bricks; blocks = coded_of s.n s.m s.size stripe; old = [] }) b)
          (old_for s (record { message = round_message (next_op k.state.op write_kind 0) 0 no_bricks; blocks = coded_of s.n s.m s.size stripe; old = [] }))
      messages b l =
          unfold round_message next_op block_for old_for in
          (record {
            brick-low = l;
            asks = λ e. absurd (omega (arith, e));
            stores = λ e. ((source, in_top), record { full = stripe; value = value; proper = proper; coded = refl });
            modifies = λ e. absurd (omega (arith, e));
            trims = λ e. absurd (omega (arith, e));
            drops = λ e. absurd (omega (arith, e));
          })

  -- the Write round of a write
  pub does_store : k.state.op.kind ≡ writing_kind → k.state.op.phase ≡ order_kind → k.state.op.round ≡ first_round
      → some (said_no k.state.tally.counted k.state.tally.granted) s.n ≡ false
      → quorum s.n s.m ≤ members k.state.tally.counted s.n
      → TurnedRound s g h sent c (next_round k write_kind 0 no_bricks k.stripe (coded_of s.n s.m s.size k.stripe))
  unfolding changed
  does_store kind phase round yeses enough =
      let w = writes_begun now kind in
      launches itself no_bricks k.stripe
      (record {
        known = known_begun now;
        running = now.unended;
        new = now.unsent (λ e. omega (arith, e)) (λ e. omega (arith, e));
        order = quorum_of (λ (b : ℕ). In (promised b k.state.op.time) h) enough ordered;
        source = (write k.stripe, k.stripe, w, λ z. refl);
      })
      (sets in_top (in_above w) (λ z. refl)) (now.proper kind) now.piece (λ l. absurd (omega (arith, l, round)))
      (unfold next_round opened next_op in same_begun s _ k refl refl refl)
    where
      ordered : (b : ℕ) → member k.state.tally.counted b ≡ true → In (promised b k.state.op.time) h
      ordered b m =
          let x = now.counts b m in
          subst (λ (t : ℕ). In (promised b t) h) x.time-is
          (subst (λ (z : ℕ). In (promised z x.from.time) h) x.brick-is ((reply_at_lem b m).orders (said_yes yeses b m) (x.kind-is ∙ phase)))

  -- a quorum stored the operation's time
  stored_quorum : (k.state.op.phase ≡ write_kind) ⊎ (k.state.op.phase ≡ modify_kind) → some (said_no k.state.tally.counted k.state.tally.granted) s.n ≡ false
      → quorum s.n s.m ≤ members k.state.tally.counted s.n → Many s.n (quorum s.n s.m) (λ b. In (stored b k.state.op.time) h)
  stored_quorum phase yeses enough = quorum_of (λ (b : ℕ). In (stored b k.state.op.time) h) enough stores
    where
      stores : (b : ℕ) → member k.state.tally.counted b ≡ true → In (stored b k.state.op.time) h
      stores b m =
          let x = now.counts b m in
          subst (λ (t : ℕ). In (stored b t) h) x.time-is
          (subst (λ (z : ℕ). In (stored z x.from.time) h) x.brick-is (said phase))
        where
          said : (k.state.op.phase ≡ write_kind) ⊎ (k.state.op.phase ≡ modify_kind) → In (stored (now.counts b m).from.brick (now.counts b m).from.time) h
          said (inl p) = (reply_at_lem b m).writes (said_yes yeses b m) ((now.counts b m).kind-is ∙ p)
          said (inr p) = (reply_at_lem b m).modifies (said_yes yeses b m) ((now.counts b m).kind-is ∙ p)

  abbrev trimming : Broadcast
  trimming = clearing trim_kind k.state.op k.state.op.time

  trims : Many s.n (quorum s.n s.m) (λ b. In (stored b k.state.op.time) h) → (e : End (plain s)) (z : Item)
      → z ∈ broadcasts s (trimming ∷ []) → ItemInv s g (ended k.state.op.time e ∷ h) (sent ++ broadcasts s (trimming ∷ [])) z
  trims many e z m =
      let w = in_broadcast s trimming z m in
      subst (ItemInv s g (ended k.state.op.time e ∷ h) (sent ++ broadcasts s (trimming ∷ []))) (sym w.2) (one w.0 w.1)
    where
      one : (b : ℕ) → b < s.n
          → MessageInv s g (ended k.state.op.time e ∷ h) b trimming.message (block_for s trimming b) (old_for s trimming)
      one b l =
          unfold clearing clear_message in
          (record {
            brick-low = l;
            asks = λ q. absurd (omega (arith, q));
            stores = λ q. absurd (omega (arith, q));
            modifies = λ q. absurd (omega (arith, q));
            trims = λ q. ((ok_at (known_begun now).1.1 v).positive, committed_up (quorums s g) (above whole) (inr many));
            drops = λ q. absurd (omega (arith, q));
          })

  no_look : (b : ℕ) (msg : Message) (block old : List ℕ) → message b msg block old ∈ broadcasts s (trimming ∷ []) → msg.kind ≡ order_read_kind → ⊥
  no_look b msg block old m q =
      let w = in_broadcast s trimming (message b msg block old) m in
      let e : msg.kind ≡ trim_kind = unfold kind_of_lem clearing clear_message in ap kind_of_lem w.2 in
      omega (arith, e, q)

  -- the Write or Modify round is finished: a write is ok, a read gives its stripe or its block
  pub does_finish : (k.state.op.phase ≡ write_kind) ⊎ ((k.state.op.phase ≡ modify_kind) × (is_reading k.state.op.kind ≡ false))
      → some (said_no k.state.tally.counted k.state.tally.granted) s.n ≡ false
      → quorum s.n s.m ≤ members k.state.tally.counted s.n
      → TurnedRound s g h sent c (ending s.n k k.stripe (trimming ∷ []) (finished_seen k.state.op) k.state.bricks)
  does_finish phase yeses enough = go (is_reading k.state.op.kind) refl phase
    where
      round : (k.state.op.phase ≡ write_kind) ⊎ ((k.state.op.phase ≡ modify_kind) × (is_reading k.state.op.kind ≡ false))
          → (k.state.op.phase ≡ write_kind) ⊎ (k.state.op.phase ≡ modify_kind)
      round (inl p) = inl p
      round (inr p) = inr p.0

      many : Many s.n (quorum s.n s.m) (λ b. In (stored b k.state.op.time) h)
      many = stored_quorum (round phase) yeses enough

      -- what a read gives
      gave : (plain s).Given
      gave = (plain s).gives (begun_kind s k) k.stripe

      finished-read : is_reading k.state.op.kind ≡ true → k.state.op.phase ≡ write_kind
          → TurnedRound s g h sent c (ending s.n k k.stripe (trimming ∷ []) (finished_seen k.state.op) k.state.bricks)
      finished-read q p =
          ends s g h sent c k i v (recovered gave) k.stripe (trimming ∷ []) (finished_seen k.state.op) k.state.bricks now.own
          (record {
            known = known_begun now;
            running = now.unended;
            answer = (
              inr many,
              record { kind = begun_kind s k; asked = now.begun; keeps = read_keeps s k q; stripe = k.stripe; value = (now.storing p).1; bytes = refl },
            );
          })
          (unfold ending seen_of shows ending_of finished_seen in
          rw q (ap (λ (a : (plain s).Given). Seen.ended k.state.op.time (Ending.finished a) ∷ []) (read_gives s k q read_seen _ k.state.bricks k.stripe)))
          (trims many (recovered gave)) no_look

      go : (a : Bool) → is_reading k.state.op.kind ≡ a
          → (k.state.op.phase ≡ write_kind) ⊎ ((k.state.op.phase ≡ modify_kind) × (is_reading k.state.op.kind ≡ false))
          → TurnedRound s g h sent c (ending s.n k k.stripe (trimming ∷ []) (finished_seen k.state.op) k.state.bricks)
      go true q (inl p) = finished-read q p
      go true q (inr p) = absurd (true≢false (sym q ∙ p.1))
      go false q p =
          ends s g h sent c k i v (written ok) k.stripe (trimming ∷ []) (finished_seen k.state.op) k.state.bricks now.own
          (record {
            known = known_begun now;
            running = now.unended;
            answer = (inr many, record { kind = begun_kind s k; asked = now.begun; blind = λ z. write_says s k q z });
          })
          (unfold ending seen_of shows ending_of finished_seen in rw q refl)
          (trims many (written ok)) no_look

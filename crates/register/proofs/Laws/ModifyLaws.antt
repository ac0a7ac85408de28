-- The q-th reply of the first round of a block write decides: Modify goes out over the one newest time that all found.
use mathlib.Core.Path.{◌≡◌, refl, sym, ap, subst, ◌∙◌}
use mathlib.Core.Logic.{◌⊎◌, inl, inr}
use mathlib.Core.Bool.{Bool, true, false}
use mathlib.Core.List.{List, [], ◌∷◌}
use Prim.Native.Nat.{ℕ, ◌≤◌, ◌<◌}
use native.Mathlib.Omega.{arith}
use lib.Dec.{T}
use borrow.Author.Tests.{eq-eqb, ne_eqb}
use Rattle.settings.specs.Ranges.{quorum, SettingsRange}
use Rattle.settings.specs.declared.Settings.{Settings}
use Rattle.message.specs.Flags.{member, members}
use Rattle.message.specs.Kinds.{read_kind, order_read_kind, order_block_kind, modify_kind}
use Rattle.message.specs.Messages.{names_block}
use Rattle.erasure.specs.Code.{block_of, with_block}
use Rattle.erasure.proofs.Laws.RecodingLaws.{data_coded}
use Rattle.byte_lists.specs.Each.{some}
use Rattle.coord_record.specs.Records.{no_bricks, idle_kind, writing_block_kind, target_count}
use Rattle.coord_record.specs.CountedRules.{is_target, block_right}
use Rattle.coord_tally.specs.Counting.{said_no, highest, other_time, missing}
use Rattle.coord_apply.specs.Acts.{round_message, next_op, opened, modifying}
use Rattle.coord_apply.specs.Answers.{Buffered}
use Rattle.order.specs.Claim.{changed, ◌∈◌}
use Rattle.order.specs.Facts.{over, End, Fact, began, promised, launched, stored, ended}
use Rattle.order.specs.Places.{whole, above, In}
use Rattle.order.proofs.Laws.PlaceLaws.{suf_below, in_suf, in_above, in_top}
use Rattle.order.specs.Quorums.{Many}
use Rattle.order.specs.Valid.{Began, Launched, onto, Gone, OkLaunched, Valid}
use Rattle.order.proofs.Laws.FactLaws.{ok_at}
use Rattle.order.proofs.Laws.GoneLaws.{round_gone}
use Rattle.order.proofs.Laws.ValueLaws.{val_up}
use Rattle.register.specs.Runs.{plain, Item, begun_kind, block_for, old_for}
use Rattle.register.proofs.Laws.BegunLaws.{begun_write_block, same_begun, known_begun}
use Rattle.register.proofs.Laws.Invariant.{quorums, Hist, Means, Stands, Piece, MessageInv, Newest, ItemInv, Running, CoordinatorInv}
use Rattle.register.proofs.Laws.UpLaws.{in_cons}
use Rattle.register.proofs.Laws.TurnLaws.{turns_launched, TurnedRound}
use Rattle.register.proofs.Laws.RoundLaws.{opens}
use Rattle.register.proofs.Laws.DecideLaws.{T_true, now, reply_at_lem, said_yes, quorum_of}
use Rattle.register.proofs.Laws.RecoverLaws.{count_none}
use Rattle.register.proofs.Laws.GiveLaws.{targets_block, on_block_lem, first_target, found_newest, target_counted}

module _ (s : Settings) (g : SettingsRange s) (h : Hist s) (sent : List Item) (c : ℕ) (k : Buffered) (v : Valid (quorums s g) h)
    (i : CoordinatorInv s g h sent c k) (items : (z : Item) → z ∈ sent → ItemInv s g h sent z) (n : k.state.op.kind ≡ idle_kind → ⊥)
    (yeses : some (said_no k.state.tally.counted k.state.tally.granted) s.n ≡ false)
    (same : some (other_time k.state.tally.counted k.state.tally.found (highest k.state.tally.counted k.state.tally.found s.n)) s.n ≡ false)
    (there : some (missing s.n (target_count s.m k.state.op.kind) k.state.op.first k.state.tally.counted) s.n ≡ false)
    (kind : k.state.op.kind ≡ writing_block_kind) (phase : k.state.op.phase ≡ order_block_kind)
    (enough : quorum s.n s.m ≤ members k.state.tally.counted s.n) where
  abbrev t : ℕ
  t = k.state.op.time

  abbrev j : ℕ
  j = k.state.op.first

  abbrev newest : ℕ
  newest = highest k.state.tally.counted k.state.tally.found s.n

  r : Running s g h sent c k
  r = now s g h sent c k v i items n

  piece : Piece s j (block_of s.size k.stripe j)
  piece = r.piece kind

  -- what a counted brick's yes says
  newest_at : (b : ℕ) (m : member k.state.tally.counted b ≡ true) → Newest s g h (r.counts b m).from
  unfolding r
  newest_at b m = (reply_at_lem s g h sent c k v i items n b m).newest (said_yes s g h sent c k v i items n yeses b m) ((r.counts b m).kind-is ∙ phase)

  -- a quorum promised the operation's time
  joined_quorum : Many s.n (quorum s.n s.m) (λ b. In (promised b t) h)
  unfolding r
  joined_quorum = quorum_of s g h sent c k v i items n (λ (b : ℕ). In (promised b t) h) enough each
    where
      each : (b : ℕ) → member k.state.tally.counted b ≡ true → In (promised b t) h
      each b m =
          let x = r.counts b m in
          subst (λ (z : ℕ). In (promised b z) h) x.time-is
          (subst (λ (z : ℕ). In (promised z x.from.time) h) x.brick-is
          ((reply_at_lem s g h sent c k v i items n b m).joins (said_yes s g h sent c k v i items n yeses b m) (x.kind-is ∙ phase)))

  -- what lies between the newest time and the operation's is gone: what a counted brick stored there it no longer has
  between : (u : ℕ) → newest < u → u < t → Gone (quorums s g) h u
  unfolding r joined_quorum quorum_of
  between u l w =
      round_gone {S = quorums s g} w joined_quorum (λ (b : ℕ). false) (let z = count_none s.n in let m = g.code.m-low in omega arith)
      (λ b low q st. by b (T_true (member k.state.tally.counted b) q) st)
    where
      by : (b : ℕ) (m : member k.state.tally.counted b ≡ true) → In (stored b u) h → T false ⊎ Gone (quorums s g) h u
      by b m st =
          let x = r.counts b m in
          go ((newest_at b m).nothing-else u (omega (arith, x.time-is)) (inr (subst (λ (z : ℕ). In (stored z u) h) (sym x.brick-is) st)))
        where
          go : (u ≤ (r.counts b m).from.found) ⊎ Gone (quorums s g) h u → T false ⊎ Gone (quorums s g) h u
          go (inl q) = absurd (omega (arith, q, found_newest s g h sent c k v i items n yeses same there b m))
          go (inr q) = inr q

  -- brick j is counted
  low : j < s.n
  low = let a = piece.low in let b = g.code.m-high in omega arith

  counted : member k.state.tally.counted j ≡ true
  counted =
      target_counted s g h sent c k v i items n yeses same there j low
      (subst (λ (z : ℕ). is_target s.n z j j ≡ true) (sym (targets_block s.m k.state.op.kind (on_block_lem k.state.op.kind (inr kind)))) (first_target s.n j))

  -- and gave its block of the newest time
  lent : Means s h newest j (block_of s.size k.blocks j)
  unfolding r
  lent =
      let x = r.counts j counted in
      let y = said_yes s g h sent c k v i items n yeses j counted in
      let held = holds k.state.op.phase (is_target s.n (target_count s.m k.state.op.kind) j j) x.from.yes x.from.held x.from.found phase
      (subst (λ (z : ℕ). is_target s.n z j j ≡ true) (sym (targets_block s.m k.state.op.kind (on_block_lem k.state.op.kind (inr kind)))) (first_target s.n j))
      y x.right in
      let w = (reply_at_lem s g h sent c k v i items n j counted).lends y (x.kind-is ∙ phase) held in
      subst (λ (u : ℕ). Means s h u j (block_of s.size k.blocks j)) (found_newest s g h sent c k v i items n yeses same there j counted)
      (subst (λ (z : ℕ). Means s h x.from.found z (block_of s.size k.blocks j)) x.brick-is
      (subst (λ (z : List ℕ). Means s h x.from.found x.from.brick z) (sym (x.block-is held)) w))
    where
      holds : (ph : ℕ) (target granted held : Bool) (f : ℕ) → ph ≡ order_block_kind → target ≡ true → granted ≡ true → block_right ph target granted held f ≡ true
          → held ≡ true
      holds ph target granted held f p q y w =
          let z : block_right ph target granted held f ≡ held =
          unfold block_right in
          rw (ne_eqb ph read_kind (λ e. omega (arith, p, e)), ne_eqb ph order_read_kind (λ e. omega (arith, p, e)), eq-eqb ph order_block_kind p, y, q) refl in
          sym z ∙ w

  -- the newest time is below the operation's, and is 0 or was sent to be stored
  below : newest < t
  unfolding r
  below =
      let x = r.counts j counted in
      omega (arith, (newest_at j counted).below, found_newest s g h sent c k v i items n yeses same there j counted, x.time-is)

  known : (newest ≡ 0) ⊎ Launched h newest
  unfolding r
  known =
      go (subst (Stands h (r.counts j counted).from.brick) (found_newest s g h sent c k v i items n yeses same there j counted) (newest_at j counted).stands)
    where
      go : Stands h (r.counts j counted).from.brick newest → (newest ≡ 0) ⊎ Launched h newest
      go (inl e) = inl e
      go (inr w) = let o = (ok_at w.1 v).known in inr (o.0, in_suf (suf_below w.1) o.1)

  -- Modify goes out: the operation's time stands for what the newest stands for, with its block replaced
  pub does_modify : TurnedRound s g h sent c (modifying s.size k newest)
  unfolding modifying changed r
  does_modify =
      opens s g h sent c k i n later modify_kind 0 newest no_bricks k.stripe (block_of s.size k.stripe j) (block_of s.size k.blocks j)
      (turns_launched s g c h v t (over newest) ok r.own [] refl)
      (λ u w. old u w.0 (in_cons w.1))
      (λ w. unended w.0 (in_cons w.1))
      (λ p o. absurd (o refl))
      (unfold opened next_op in same_begun s _ k refl refl refl)
      r.proper
      r.piece
      (λ e. absurd (omega (arith, e)))
      (λ e. absurd (omega (arith, e)))
      (λ e. absurd (omega (arith, e)))
      (λ e. (over newest, in_top))
      messages
    where
      later : Hist s
      later = launched t (over newest) ∷ h

      ok : OkLaunched (quorums s g) h t (over newest)
      ok =
          record {
            known = known_begun r;
            running = r.unended;
            new = r.unsent (λ e. omega (arith, e)) (λ e. omega (arith, e));
            order = joined_quorum;
            source = record { below = below; known = known; between = between };
          }

      old : (u : ℕ) (a : (plain s).Kind) → (◌≡◌ {A = Fact (plain s)} (began u a) (launched t (over newest))) ⊎ In (began u a) h → Began h u
      old u a (inl q) = let z : ◌≡◌ {A = ℕ} 0 1 = cc in absurd (omega arith)
      old u a (inr q) = (a, q)

      unended : (e : End (plain s)) → (◌≡◌ {A = Fact (plain s)} (ended t e) (launched t (over newest))) ⊎ In (ended t e) h → ⊥
      unended e (inl q) = let z : ◌≡◌ {A = ℕ} 0 1 = cc in omega arith
      unended e (inr q) = r.unended (e, q)

      effect : (plain s).effect (begun_kind s k) lent.full ≡ with_block s.size lent.full j (block_of s.size k.stripe j)
      effect = ap (λ (a : (plain s).Kind). (plain s).effect a lent.full) (begun_write_block s k kind)

      messages : (b : ℕ) → b < s.n
          → MessageInv s g later b (round_message (next_op k.state.op modify_kind 0) newest no_bricks)
          (block_for s (record {
            message = round_message (next_op k.state.op modify_kind 0) newest no_bricks;
            blocks = block_of s.size k.stripe j;
            old = block_of s.size k.blocks j;
          }) b)
          (old_for s (record {
            message = round_message (next_op k.state.op modify_kind 0) newest no_bricks;
            blocks = block_of s.size k.stripe j;
            old = block_of s.size k.blocks j;
          }))
      messages b l =
          unfold round_message next_op block_for old_for names_block in
          (record {
            brick-low = l;
            asks = λ e. absurd (omega (arith, e));
            stores = λ e. absurd (omega (arith, e));
            modifies = λ e. record {
              sent = (over newest, in_top);
              full = lent.full;
              value = val_up (above whole) lent.value;
              proper = lent.proper;
              piece = piece;
              old-is = lent.coded ∙ data_coded s.n s.m s.size lent.full j g.code lent.proper piece.low;
              after = onto in_top (in_above r.begun) (val_up (above whole) lent.value) effect;
            };
            trims = λ e. absurd (omega (arith, e));
            drops = λ e. absurd (omega (arith, e));
          })

-- The q-th reply decides: another round of recovery, or the Write round of a recovered stripe.
use mathlib.Core.Path.{◌≡◌, refl, sym, ap, subst, ◌∙◌}
use mathlib.Core.Logic.{◌⊎◌, inl, inr}
use mathlib.Core.Bool.{Bool, true, false, cond, ◌&&◌}
use mathlib.Core.List.{List, []}
use Prim.Native.Nat.{ℕ, zero, suc, ◌≤◌, ◌<◌, max}
use native.Mathlib.Omega.{arith}
use native.Mathlib.Decide.{dec_lt, ℕ_discrete}
use lib.Dec.{T, eqb}
use lib.ListN.{length, get_or}
use borrow.Author.Tests.{eqb-true, eq-eqb}
use Rattle.message.specs.Kinds.{order_read_kind, write_kind, modify_kind, trim_kind, drop_kind}
use Rattle.settings.specs.Count.{count}
use Rattle.settings.specs.Ranges.{quorum}
use Rattle.settings.specs.Ranges.{SettingsRange}
use Rattle.byte_lists.proofs.Laws.BoolLaws.{and_left, and_right}
use Rattle.settings.specs.declared.Settings.{Settings}
use Rattle.message.specs.Flags.{member, members}
use Rattle.erasure.specs.Code.{coded_of}
use Rattle.erasure.specs.Code.{block_of, Stripe, Bricks}
use Rattle.byte_lists.specs.Each.{some}
use Rattle.coord_record.specs.Records.{no_bricks, idle_kind}
use Rattle.coord_laws.specs.OpCases.{can_recover}
use Rattle.coord_tally.specs.Counting.{said_no, highest, at_time, at_times, first_givers}
use Rattle.coord_tally.specs.FirstTheorem.{FirstOf, Passing}
use Rattle.coord_blocks.specs.Blocks.{stripe_from, agreeing, stored_stripe}
use Rattle.coord_apply.specs.Acts.{round_message, clear_message, clearing, drops_first, sending_first, next_op, opened, next_round}
use Rattle.coord_apply.specs.Acts.{named_bricks, givers_at, picked_at, recovered_stripe, storing, acted}
use Rattle.coord_apply.proofs.Laws.ActLaws.{recover_agreed}
use Rattle.coord_apply.proofs.Laws.FirstLaws.{TrimsEarly, drops_either, trims_either}
use Rattle.coord_decide.specs.declared.Decision.TheVariants.{Recover}
use Rattle.coord_apply.specs.Answers.{Buffered, Went}
use Rattle.coord_tally.proofs.Laws.FirstMemberLaws.{first_members_are_first}
use Rattle.coord_tally.proofs.Laws.RowSets.{passing_holds}
use Rattle.coord_laws.proofs.Laws.CodedBlockLaws.{stripe_read, blocks_agree}
use Rattle.order.specs.Claim.{◌∈◌}
use Rattle.order.specs.Facts.{over, promised, stored}
use Rattle.order.specs.Places.{whole, above, In}
use Rattle.order.proofs.Laws.PlaceLaws.{suf_below, in_suf, in_above, in_top}
use Rattle.order.specs.Quorums.{Many}
use Rattle.order.specs.Valid.{Began, Launched, Val, onto, Committed, Gone, Valid}
use Rattle.order.proofs.Laws.FactLaws.{ok_at, committed_up}
use Rattle.order.proofs.Laws.GoneLaws.{gone_up, round_gone}
use Rattle.order.proofs.Laws.ValueLaws.{val_up, one_value}
use Rattle.register.specs.Runs.{Item, block_for, old_for}
use Rattle.register.proofs.Laws.BegunLaws.{same_begun, known_begun, stored_effect, stored_proper, piece_stored, begun_stored}
use Rattle.register.proofs.Laws.Invariant.{quorums, Hist, Means, Stands, Piece, MessageInv, ItemInv, CountedInv, Looked, top_of, Running, CoordinatorInv}
use Rattle.register.proofs.Laws.TurnLaws.{turns_not, TurnedRound, turned_first}
use Rattle.register.proofs.Laws.RoundLaws.{opens}
use Rattle.register.proofs.Laws.DecodeLaws.{first_bricks, giver_bricks}
use Rattle.register.proofs.Laws.DecideLaws.{true_T, T_true, now, reply_at_lem, said_yes, quorum_of, launches}

-- no time found is above the highest
pub highest_most : (flags found : List ℕ) (n b : ℕ) → b < n → member flags b ≡ true → get_or found b 0 ≤ highest flags found n
unfolding highest
highest_most flags found zero b l e = absurd (omega arith)
highest_most flags found (suc n) b l e = go (member flags n) refl (ℕ_discrete b n) (highest_most flags found n b)
  where
    go : (a : Bool) → member flags n ≡ a → Dec (b ≡ n) → (b < n → member flags b ≡ true → get_or found b 0 ≤ highest flags found n)
        → get_or found b 0 ≤ cond a (max (highest flags found n) (get_or found n 0)) (highest flags found n)
    go true q (yes z) ih = let w = ap (λ (j : ℕ). get_or found j 0) z in omega arith
    go true q (no z) ih = let w = ih (omega arith) e in omega arith
    go false q (yes z) ih = let w : false ≡ true = sym q ∙ sym (ap (member flags) z) ∙ e in let u : ◌≡◌ {A = ℕ} 0 1 = cc in absurd (omega arith)
    go false q (no z) ih = ih (omega arith) e

-- all times found are under t
highest_under : (flags found : List ℕ) (n t : ℕ) → 0 < t → ((b : ℕ) → b < n → member flags b ≡ true → get_or found b 0 < t) → highest flags found n < t
unfolding highest
highest_under flags found zero t l f = l
highest_under flags found (suc n) t l f = go (member flags n) refl (highest_under flags found n t l (λ b w e. f b (omega (arith, w)) e))
  where
    go : (a : Bool) → member flags n ≡ a → highest flags found n < t
        → cond a (max (highest flags found n) (get_or found n 0)) (highest flags found n) < t
    go true q ih = let w = f n (omega arith) q in omega arith
    go false q ih = ih

pub count_none : (n : ℕ) → count (λ (b : ℕ). false) n ≡ 0
unfolding count
count_none zero = refl
count_none (suc n) = let w = count_none n in omega arith

-- what blocks of one time on m or more different bricks decode to: they agree, and it is what that time stands for
pub record Decoded (s : Settings) (h : Hist s) (t : ℕ) (bricks blocks : List ℕ) : Type 0 where
  pub full : List ℕ
  pub value : Val h t full
  pub proper : Stripe s.m s.size full
  pub gives : stripe_from s.m s.size bricks blocks ≡ full
  pub agreed : agreeing s.m s.size bricks blocks ≡ true

pub means_decode : (s : Settings) (g : SettingsRange s) (h : Hist s) → Valid (quorums s g) h → (t : ℕ) (bricks blocks : List ℕ) → Bricks s.n s.m bricks
    → ((j : ℕ) → j < length bricks → Means s h t (get_or bricks j 0) (block_of s.size blocks (get_or bricks j 0))) → Decoded s h t bricks blocks
means_decode s g h v t bricks blocks b f =
    record {
      full = z.full;
      value = z.value;
      proper = z.proper;
      gives = stripe_read s.n s.m s.size bricks blocks z.full z.proper b coded;
      agreed = blocks_agree s.n s.m s.size bricks blocks z.full z.proper b coded;
    }
  where
    z : Means s h t (get_or bricks 0 0) (block_of s.size blocks (get_or bricks 0 0))
    z = f 0 (omega (arith, g.code.m-low, b.enough))

    coded : (j : ℕ) → j < length bricks → block_of s.size blocks (get_or bricks j 0) ≡ block_of s.size (coded_of s.n s.m s.size z.full) (get_or bricks j 0)
    coded j l =
        let w = f j l in
        w.coded
        ∙ ap (λ (x : List ℕ). block_of s.size (coded_of s.n s.m s.size x) (get_or bricks j 0)) (one_value v w.value z.value refl)

module _ (s : Settings) (g : SettingsRange s) (h : Hist s) (sent : List Item) (c : ℕ) (k : Buffered) (v : Valid (quorums s g) h)
    (i : CoordinatorInv s g h sent c k) (items : (z : Item) → z ∈ sent → ItemInv s g h sent z) (n : k.state.op.kind ≡ idle_kind → ⊥) where
  -- a round of Order-and-read with a bound from which on all is gone
  does_round : (bound : ℕ) → (k.state.op.phase ≡ write_kind → ⊥) → (k.state.op.phase ≡ modify_kind → ⊥) → ((u : ℕ) → bound ≤ u → u < k.state.op.time → Gone (quorums s g) h u)
      → TurnedRound s g h sent c (next_round k order_read_kind bound no_bricks k.stripe [])
  unfolding next_round
  does_round bound phase other gone =
      let r = now s g h sent c k v i items n in
      opens s g h sent c k i n h order_read_kind bound 0 no_bricks k.stripe [] []
      (turns_not s g c h v [] refl)
      (λ u w. w)
      r.unended
      (λ p o. r.unsent phase other)
      (unfold opened next_op in same_begun s _ k refl refl refl)
      r.proper
      r.piece
      (λ e. absurd (omega (arith, e)))
      (λ e u l m. gone u l m)
      (λ e. absurd (omega (arith, e)))
      (λ e. absurd (omega (arith, e)))
      (λ b l. unfold round_message next_op in
      (record {
        brick-low = l;
        asks = λ e. known_begun r;
        stores = λ e. absurd (omega (arith, e));
        modifies = λ e. absurd (omega (arith, e));
        trims = λ e. absurd (omega (arith, e));
        drops = λ e. absurd (omega (arith, e));
      }))

  -- after the Drop of the bound, if a recovery round found it
  pub does_look : (bound : ℕ) → (k.state.op.phase ≡ write_kind → ⊥) → (k.state.op.phase ≡ modify_kind → ⊥) → ((u : ℕ) → bound ≤ u → u < k.state.op.time → Gone (quorums s g) h u)
      → (k.state.op.phase ≡ order_read_kind → (0 < bound) × Gone (quorums s g) h bound)
      → TurnedRound s g h sent c (sending_first (drops_first k.state.op bound) (next_round k order_read_kind bound no_bricks k.stripe []))
  unfolding sending_first next_round
  does_look bound phase other gone dropped =
      drops_either k.state.op bound
      (λ first. TurnedRound s g h sent c (sending_first first (next_round k order_read_kind bound no_bricks k.stripe [])))
      (λ _. does_round bound phase other gone)
      (λ e. turned_first s g h sent c _ (clearing drop_kind k.state.op bound) (λ q. unfold clearing clear_message in omega (arith, q)) (does_round bound phase other gone) (drop e))
    where
      drop : k.state.op.phase ≡ order_read_kind → (b : ℕ) → b < s.n
          → MessageInv s g (does_round bound phase other gone).later b (clearing drop_kind k.state.op bound).message
          (block_for s (clearing drop_kind k.state.op bound) b) (old_for s (clearing drop_kind k.state.op bound))
      drop e b l =
          let t = (does_round bound phase other gone).turns in
          let w = dropped e in
          unfold clearing clear_message in
          (record {
            brick-low = l;
            asks = λ q. absurd (omega (arith, q));
            stores = λ q. absurd (omega (arith, q));
            modifies = λ q. absurd (omega (arith, q));
            trims = λ q. absurd (omega (arith, q));
            drops = λ q. (w.0, gone_up t.valid t.longer w.1);
          })

  module _ (phase : k.state.op.phase ≡ order_read_kind) (yeses : some (said_no k.state.tally.counted k.state.tally.granted) s.n ≡ false)
      (enough : quorum s.n s.m ≤ members k.state.tally.counted s.n) where
    abbrev counts_at : (b : ℕ) → member k.state.tally.counted b ≡ true → CountedInv s sent k b
    counts_at = (now s g h sent c k v i items n).counts

    -- a quorum promised the operation's time
    promised_quorum : Many s.n (quorum s.n s.m) (λ b. In (promised b k.state.op.time) h)
    promised_quorum = quorum_of s g h sent c k v i items n (λ (b : ℕ). In (promised b k.state.op.time) h) enough each
      where
        each : (b : ℕ) → member k.state.tally.counted b ≡ true → In (promised b k.state.op.time) h
        each b m =
            let x = counts_at b m in
            subst (λ (t : ℕ). In (promised b t) h) x.time-is
            (subst (λ (z : ℕ). In (promised z x.from.time) h) x.brick-is
            ((reply_at_lem s g h sent c k v i items n b m).looks (said_yes s g h sent c k v i items n yeses b m) (x.kind-is ∙ phase)))

    -- what a counted brick stored of u under the round's bound it gave, or a later time, or u is gone
    gave_or_gone : (b : ℕ) (m : member k.state.tally.counted b ≡ true) (u : ℕ) → u < k.state.op.time → u < k.state.op.max → In (stored b u) h
        → ((member k.state.tally.held b ≡ true) × (u ≤ get_or k.state.tally.found b 0)) ⊎ Gone (quorums s g) h u
    gave_or_gone b m u l w st = go (look.nothing-else u (omega (arith, x.time-is)) (omega (arith, bound-is)) (inr (subst (λ (z : ℕ). In (stored z u) h) (sym x.brick-is) st)))
      where
        x : CountedInv s sent k b
        x = counts_at b m

        look : Looked s g h sent x.from
        look = (reply_at_lem s g h sent c k v i items n b m).looked (said_yes s g h sent c k v i items n yeses b m) (x.kind-is ∙ phase)

        bound-is : look.asked.max ≡ k.state.op.max
        bound-is =
            (((now s g h sent c k v i items n).asked x.from.brick look.asked look.with-block look.with-old look.was-sent look.kind-is (look.time-is ∙ x.time-is)
            ).1 (look.round_is ∙ x.round_is)).1

        go : ((x.from.held ≡ true) × (u ≤ x.from.found)) ⊎ Gone (quorums s g) h u
            → ((member k.state.tally.held b ≡ true) × (u ≤ get_or k.state.tally.found b 0)) ⊎ Gone (quorums s g) h u
        go (inl z) = inl (sym x.held-is ∙ z.0, omega (arith, z.1, x.found-is))
        go (inr z) = inr z

    gone_by : (holds : ℕ → Bool) → count holds s.n < s.m → (u : ℕ) → u < k.state.op.time
        → ((b : ℕ) → b < s.n → member k.state.tally.held b ≡ true → u ≤ get_or k.state.tally.found b 0 → T (holds b)) → Gone (quorums s g) h u
    gone_by holds few u l f = by (dec_lt u k.state.op.max)
      where
        by : Dec (u < k.state.op.max) → Gone (quorums s g) h u
        by (no w) = (now s g h sent c k v i items n).cleared phase u (omega arith) l
        by (yes w) =
            round_gone {S = quorums s g} l promised_quorum holds few
            (λ b low t st. held b low (gave_or_gone b (T_true (member k.state.tally.counted b) (in-set b t)) u l w st))
          where
            in-set : (b : ℕ) → T (promised_quorum.set b) → T (member k.state.tally.counted b)
            in-set b t = unfold promised_quorum quorum_of in t

            held : (b : ℕ) → b < s.n
                → ((member k.state.tally.held b ≡ true) × (u ≤ get_or k.state.tally.found b 0)) ⊎ Gone (quorums s g) h u
                → T (holds b) ⊎ Gone (quorums s g) h u
            held b low (inl z) = inl (f b low z.0 z.1)
            held b low (inr z) = inr z

    -- every time above the highest is gone
    pub gone_above : (u : ℕ) → top_of s k < u → u < k.state.op.time → Gone (quorums s g) h u
    gone_above u l w =
        gone_by (λ (b : ℕ). false) (let z = count_none s.n in let m = g.code.m-low in omega arith) u w
        (λ b low e q. absurd (omega (arith, highest_most k.state.tally.held k.state.tally.found s.n b low e)))

    -- and the highest too, if it is on fewer than m
    pub gone_from : count (at_times k.state.tally.held k.state.tally.found (top_of s k)) s.n < s.m
        → (u : ℕ) → top_of s k ≤ u → u < k.state.op.time → Gone (quorums s g) h u
    unfolding at_times at_time member
    gone_from few u l w =
        gone_by (at_times k.state.tally.held k.state.tally.found (top_of s k)) few u w
        (λ b low e q.
        let m = highest_most k.state.tally.held k.state.tally.found s.n b low e in
        let z : get_or k.state.tally.found b 0 ≡ highest k.state.tally.held k.state.tally.found s.n = omega arith in
        true_T (eqb (get_or k.state.tally.held b 0) 1 && eqb (get_or k.state.tally.found b 0) (highest k.state.tally.held k.state.tally.found s.n))
        (rw (e, eq-eqb (get_or k.state.tally.found b 0) (highest k.state.tally.held k.state.tally.found s.n) z) refl))

    -- every time found is below the operation's, and so is the highest
    top_below : top_of s k < k.state.op.time
    top_below = highest_under k.state.tally.held k.state.tally.found s.n k.state.op.time (ok_at began.1.1 v).positive below
      where
        began : Began h k.state.op.time
        began = known_begun (now s g h sent c k v i items n)

        below : (b : ℕ) → b < s.n → member k.state.tally.held b ≡ true → get_or k.state.tally.found b 0 < k.state.op.time
        below b l held =
            let m = (now s g h sent c k v i items n).holds b held in
            let x = counts_at b m in
            let w = (reply_at_lem s g h sent c k v i items n b m).finds (said_yes s g h sent c k v i items n yeses b m) (x.kind-is ∙ phase) (x.held-is ∙ held) in
            omega (arith, w.0, x.found-is, x.time-is)

    -- so the highest is gone, if it is on fewer than m
    pub gone_top : count (at_times k.state.tally.held k.state.tally.found (top_of s k)) s.n < s.m → Gone (quorums s g) h (top_of s k)
    gone_top few = gone_from few (top_of s k) (omega arith) top_below

    -- what a brick that gave the highest time gave
    gave : (b : ℕ) → at_times k.state.tally.held k.state.tally.found (top_of s k) b ≡ true
        → (top_of s k < k.state.op.time) × Stands h b (top_of s k) × Means s h (top_of s k) b (block_of s.size k.blocks b)
    unfolding at_times at_time member
    gave b e =
        let held = and_left (eqb (get_or k.state.tally.held b 0) 1) _ e in
        let time = eqb-true (get_or k.state.tally.found b 0) (top_of s k) (and_right (eqb (get_or k.state.tally.held b 0) 1) _ e) in
        let m = (now s g h sent c k v i items n).holds b held in
        let x = counts_at b m in
        let w = (reply_at_lem s g h sent c k v i items n b m).finds (said_yes s g h sent c k v i items n yeses b m) (x.kind-is ∙ phase) (x.held-is ∙ held) in
        let f : x.from.found ≡ top_of s k = x.found-is ∙ time in (
          omega (arith, w.0, f, x.time-is),
          subst (λ (u : ℕ). Stands h b u) f (subst (λ (z : ℕ). Stands h z x.from.found) x.brick-is w.1),
          subst (λ (u : ℕ). Means s h u b (block_of s.size k.blocks b)) f
              (subst (λ (z : ℕ). Means s h x.from.found z (block_of s.size k.blocks b)) x.brick-is
              (subst (λ (l : List ℕ). Means s h x.from.found x.from.brick l) (sym (x.block-is (x.held-is ∙ held))) w.2)),
        )

    -- m or more blocks of the highest time
    module _ (many : s.m ≤ count (at_times k.state.tally.held k.state.tally.found (top_of s k)) s.n) where
      abbrev bricks : List ℕ
      bricks = givers_at s.n k (top_of s k)

      handed_on : Bricks s.n s.m bricks
      handed_on =
          giver_bricks k.state.tally.held k.state.tally.found (top_of s k) s.n s.m g.code.n-high (omega (arith, g.code.n-low)) g.code.m-high many

      gave_each : (j : ℕ) → j < length bricks
          → (top_of s k < k.state.op.time) × Stands h (get_or bricks j 0) (top_of s k) × Means s h (top_of s k) (get_or bricks j 0) (block_of s.size k.blocks (get_or bricks j 0))
      gave_each j l = gave (get_or bricks j 0) (passing_holds (at_times k.state.tally.held k.state.tally.found (top_of s k)) s.n j l)

      -- ALL LIE ON ONE POLYNOMIAL
      pub agrees : agreeing s.m s.size (givers_at s.n k (top_of s k)) k.blocks ≡ true
      agrees = (means_decode s g h v (top_of s k) bricks k.blocks handed_on (λ j l. (gave_each j l).2)).agreed

      -- and the first m of them are decoded from
      abbrev chosen : List ℕ
      chosen = first_givers k.state.tally.held k.state.tally.found (top_of s k) s.n s.m

      chosen_first : FirstOf (Passing (at_times k.state.tally.held k.state.tally.found (top_of s k)) s.n) s.m chosen
      chosen_first = first_members_are_first (at_times k.state.tally.held k.state.tally.found (top_of s k)) s.n s.m many

      decoded : Decoded s h (top_of s k) chosen k.blocks
      decoded =
          means_decode s g h v (top_of s k) chosen k.blocks
          (first_bricks s.n s.m g.code.n-high (omega (arith, g.code.n-low)) g.code.m-high (λ b w. w.0) chosen_first)
          (λ j l. (gave (get_or chosen j 0) (chosen_first.of-the-set j (omega (arith, l, chosen_first.as_many))).1).2)

      -- every block of the highest time is the coded block of what was decoded
      pub top_coded : (b : ℕ) → at_times k.state.tally.held k.state.tally.found (top_of s k) b ≡ true
          → block_of s.size k.blocks b ≡ block_of s.size (coded_of s.n s.m s.size (stripe_from s.m s.size chosen k.blocks)) b
      top_coded b e =
          let w = (gave b e).2 in
          w.coded ∙ ap (λ (x : List ℕ). block_of s.size (coded_of s.n s.m s.size x) b) (one_value v w.value decoded.value refl ∙ sym decoded.gives)

      abbrev round : Went
      round =
          next_round k write_kind 0 (named_bricks k.state.op (picked_at s.n s.m k (top_of s k))) (recovered_stripe s.n s.m s.size k (top_of s k))
          (coded_of s.n s.m s.size (recovered_stripe s.n s.m s.size k (top_of s k)))

      -- the Write round of a recovered stripe, or of one with its block replaced
      does_store_recovered : can_recover k.state.op.kind ≡ true → TurnedRound s g h sent c round
      does_store_recovered kind =
          launches s g h sent c k v i items n (over (top_of s k)) (named_bricks k.state.op (picked_at s.n s.m k (top_of s k))) stored-stripe
          (record {
            known = known_begun r;
            running = r.unended;
            new = r.unsent (λ e. omega (arith, e)) (λ e. omega (arith, e));
            order = promised_quorum;
            source = record { below = first.0; known = launched-or-zero first.1; between = λ u l w. gone_above u l w };
          })
          (onto in_top (in_above r.begun) (val_up (above whole) decoded.value) (stored_effect s k decoded.full decoded.proper kind ∙ sym stored_is))
          (subst (Stripe s.m s.size) (sym stored_is) (stored_proper s k decoded.full decoded.proper r.piece kind))
          (λ q. subst (λ (z : List ℕ). Piece s k.state.op.first (block_of s.size z k.state.op.first)) (sym stored_is)
          (piece_stored s k decoded.full decoded.proper r.piece q))
          (λ l. phase)
          (unfold next_round opened next_op in begun_stored s k decoded.full decoded.proper r.piece kind _ refl refl stored_is)
        where
          stored-stripe : List ℕ
          stored-stripe = recovered_stripe s.n s.m s.size k (top_of s k)

          r : Running s g h sent c k
          r = now s g h sent c k v i items n

          stored_is : stored-stripe ≡ stored_stripe s.size k.state.op k.stripe decoded.full
          stored_is = ap (stored_stripe s.size k.state.op k.stripe) decoded.gives

          first : (top_of s k < k.state.op.time) × Stands h (get_or bricks 0 0) (top_of s k) × Means s h (top_of s k) (get_or bricks 0 0) (block_of s.size k.blocks (get_or bricks 0 0))
          first = gave_each 0 (omega (arith, g.code.m-low, handed_on.enough))

          launched-or-zero : Stands h (get_or bricks 0 0) (top_of s k) → (top_of s k ≡ 0) ⊎ Launched h (top_of s k)
          launched-or-zero (inl e) = inl e
          launched-or-zero (inr w) = let o = (ok_at w.1 v).known in inr (o.0, in_suf (suf_below w.1) o.1)

      -- a time that q replies hold is committed
      all_stored : TrimsEarly s.n s.m k.state.tally (top_of s k) → Committed (quorums s g) h (top_of s k)
      all_stored e =
          inr
          (record {
            set = at_times k.state.tally.held k.state.tally.found (top_of s k);
            enough = e.all_hold;
            each = λ b l t. stood (gave b (T_true (at_times k.state.tally.held k.state.tally.found (top_of s k) b) t)).1;
          })
        where
          stood : {b : ℕ} → Stands h b (top_of s k) → In (stored b (top_of s k)) h
          stood (inl z) = absurd (e.not_first z)
          stood (inr w) = w

      -- after the early Trim, if all q hold the time
      does_store_first : can_recover k.state.op.kind ≡ true
          → TurnedRound s g h sent c (storing s.n s.m s.size k (top_of s k))
      unfolding sending_first next_round
      does_store_first kind =
          trims_either s.n s.m k.state.op k.state.tally (top_of s k) (λ first. TurnedRound s g h sent c (sending_first first round))
          (λ _. does_store_recovered kind)
          (λ e. turned_first s g h sent c round (clearing trim_kind k.state.op (top_of s k)) (λ q. unfold clearing clear_message in omega (arith, q)) (does_store_recovered kind) (trim e))
        where
          trim : TrimsEarly s.n s.m k.state.tally (top_of s k) → (b : ℕ) → b < s.n
              → MessageInv s g (does_store_recovered kind).later b (clearing trim_kind k.state.op (top_of s k)).message
              (block_for s (clearing trim_kind k.state.op (top_of s k)) b) (old_for s (clearing trim_kind k.state.op (top_of s k)))
          trim e b l =
              unfold clearing clear_message in
              (record {
                brick-low = l;
                asks = λ q. absurd (omega (arith, q));
                stores = λ q. absurd (omega (arith, q));
                modifies = λ q. absurd (omega (arith, q));
                trims = λ q. (omega (arith, e.not_first), committed_up (quorums s g) (does_store_recovered kind).turns.longer (all_stored e));
                drops = λ q. absurd (omega (arith, q));
              })

      pub does_recover : can_recover k.state.op.kind ≡ true
          → TurnedRound s g h sent c (acted s.n s.m s.size k (Recover (top_of s k)))
      does_recover kind =
          subst (TurnedRound s g h sent c) (sym (recover_agreed s.n s.m s.size k (top_of s k) agrees)) (does_store_first kind)

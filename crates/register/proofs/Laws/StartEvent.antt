-- A read or a write starts: what holds of its stripe goes on to hold.
use mathlib.Core.Path.{◌≡◌, refl, sym, ap, subst, ◌∙◌}
use mathlib.Core.Logic.{◌⊎◌, inl, inr}
use mathlib.Core.Bool.{true, cond, ◌&&◌}
use mathlib.Core.List.Memᴰ
use mathlib.Core.List.{List, [], ◌∷◌, ◌++◌}
use Prim.Native.Nat.{ℕ, ◌*◌, ◌≤◌, ◌<◌}
use native.Mathlib.Omega.{arith}
use lib.Dec.{eqb}
use lib.ListN.{length, get_or, replicate}
use borrow.Author.Tests.{eqb-true}
use Rattle.settings.specs.Ranges.{code_refusal, stripe_count_refusal, max_bricks}
use Rattle.settings.specs.Ranges.{SettingsRange}
use Rattle.byte_lists.proofs.Laws.BoolLaws.{and_left}
use Rattle.settings.specs.Refusal.{refuse_unless, bad_length}
use Rattle.settings.specs.Times.{time_of, draw_of, coordinator_of}
use Rattle.settings.proofs.Laws.TimeLaws.{gave, drawn_above, drawn_own}
use Rattle.settings.specs.declared.Clock.{Clock}
use Rattle.settings.specs.Times.{Drawn}
use Rattle.settings.specs.declared.Settings.{Settings}
use Rattle.settings.proofs.Laws.RefusalLaws.{tested}
use Rattle.byte_lists.specs.Little.{Bytes}
use Rattle.byte_lists.proofs.Laws.LittleLaws.{byte_below}
use Rattle.message.specs.Flags.{member}
use Rattle.message.specs.Kinds.{first_round, read_kind, order_kind, order_read_kind, order_block_kind, block_targets}
use Rattle.message.specs.Messages.{names_block}
use Rattle.erasure.specs.Code.{block_of, with_block, Stripe}
use Rattle.erasure.proofs.Laws.BlockOfLaws.{block_within, block_with}
use Rattle.coord_record.specs.Records.{nothing_counted, no_bricks, idle_kind, reading_kind, writing_kind, reading_block_kind, writing_block_kind}
use Rattle.coord_tally.specs.Counting.{target_flags}
use Rattle.coord_apply.specs.Acts.{round_message, first_op, starting}
use Rattle.coord_apply.specs.Answers.{Buffered, Broadcast, Went, went}
use Rattle.coord_refusals.specs.Checks.{write_checks, write_refusal, read_refusal, write_block_refusal, read_block_refusal}
use Rattle.coordinator.specs.Routines.{drawn_then, write_step, read_step, write_block_step, read_block_step}
use Rattle.coord_laws.proofs.Laws.SoundnessLaws.{none_sized, passes, drawn_went}
use Rattle.coord_laws.proofs.Laws.TallyLaws.{zeros_at}
use Rattle.order.specs.Claim.{Seen, ◌∈◌}
use Rattle.order.specs.Facts.{Source, End, Fact, began, launched, ended}
use Rattle.order.specs.Places.{In}
use Rattle.order.proofs.Laws.PlaceLaws.{suf_below, in_suf, in_top}
use Rattle.order.specs.Valid.{Began, Valid}
use Rattle.order.proofs.Laws.FactLaws.{ok_at}
use Rattle.register.specs.Runs.{plain, Item, message, begun_kind, seen_of, block_for, old_for, broadcasts}
use Rattle.coordinator.proofs.Laws.RoutineLaws.{write_block_passed}
use Rattle.register.proofs.Laws.Invariant.{quorums, Hist, Piece, MessageInv, ItemInv, Asked, Running, ClockInv}
use Rattle.register.proofs.Laws.UpLaws.{in_cons}
use Rattle.register.proofs.Laws.BrickEvent.{first_passed}
use Rattle.register.proofs.Laws.TurnLaws.{time_of_lem, kind_of_lem, Turns, turns_began, in_broadcast, TurnedRound}

-- no brick is counted in a new round
pub none_member : (b : ℕ) → member (replicate max_bricks 0) b ≡ true → ⊥
unfolding member
none_member b e = let w = zeros_at max_bricks b in let q = eqb-true (get_or (replicate max_bricks 0) b 0) 1 e in omega arith

module _ (s : Settings) (g : SettingsRange s) (h : Hist s) (sent : List Item) (c : ℕ) (k : Buffered) (v : Valid (quorums s g) h)
    (i : ClockInv s h c k) (items : (z : Item) → z ∈ sent → ItemInv s g h sent z)
    (reading t : ℕ) (clock : Clock) (d : draw_of k.state.clock reading ≡ Drawn t clock) where
  own_time : coordinator_of t ≡ c
  own_time = drawn_own k.state.clock reading t clock d ∙ i.number

  -- the time is above those that the coordinator used,
  pub higher_time : (u : ℕ) → Began h u → coordinator_of u ≡ coordinator_of t → u < t
  unfolding time_of
  higher_time u w e =
      let a = i.used u w (e ∙ own_time) in
      let b = drawn_above k.state.clock reading t clock d in
      let n = i.number in
      let l = (gave k.state.clock reading t clock d).drew.coordinator-high in
      omega (arith, a, b, n, l)

  -- so it is new
  new_time : Began h t → ⊥
  new_time w = omega (arith, higher_time t w refl)

  time_low : 0 < t
  time_low = let b = drawn_above k.state.clock reading t clock d in omega arith

  -- a start in its first round: a Read or an Order round, or the first round of a block write
  started : (kind phase number first : ℕ) (stripe targets : List ℕ) → phase ≤ order_block_kind → (phase ≡ order_read_kind → ⊥) → (kind ≡ idle_kind → ⊥)
      → (kind ≡ writing_kind → Stripe s.m s.size stripe)
      → (kind ≡ writing_block_kind → Piece s first (block_of s.size stripe first))
      → TurnedRound s g h sent c (starting k clock (first_op kind phase number t first) stripe targets)
  unfolding starting first_op seen_of nothing_counted round_message time_of
  started kind phase number first stripe targets low other busy proper piece =
      record {
        later = later;
        turns = turns;
        keeps = record {
          number = (gave k.state.clock reading t clock d).same ∙ i.number;
          used = λ u w m. used u m w.0 (in_cons w.1);
          sized = none_sized;
          idle-is = λ e. absurd (busy e);
          runs = λ n. running;
        };
        items = λ z m. let w = in_broadcast s sending z m in subst (ItemInv s g later (sent ++ broadcasts s (sending ∷ []))) (sym w.2) (asks w.0 w.1);
        own = λ b msg block old m _. let w = in_broadcast s sending (message b msg block old) m in
            let e : msg.time ≡ t = unfold time_of_lem in ap time_of_lem w.2 in ap coordinator_of e ∙ own_time;
      }
    where
      next : Buffered
      next =
          record {
            state = record {
              geometry = k.state.geometry;
              clock = clock;
              op = record { kind = kind; phase = phase; stripe = number; time = t; round = first_round; max = 0; first = first };
              tally = nothing_counted;
              bricks = no_bricks;
            };
            blocks = k.blocks;
            stripe = stripe;
          }

      action : (plain s).Kind
      action = begun_kind s next

      later : Hist s
      later = began t action ∷ h

      sending : Broadcast
      sending =
          record {
            message = record {
              kind = phase;
              stripe = number;
              time = t;
              round = first_round;
              max = 0;
              old = 0;
              block = cond (names_block phase) first 0;
              targets = targets;
            };
            blocks = [];
            old = [];
          }

      turns : Turns s g c h later (Seen.began t action ∷ [])
      turns = turns_began s g c h v t action (record { positive = time_low; new = λ a w. new_time (a, w) }) own_time (Seen.began t action ∷ []) refl

      asks : (b : ℕ) → b < s.n → MessageInv s g later b sending.message (block_for s sending b) (old_for s sending)
      asks b l =
          record {
            brick-low = l;
            asks = λ _. (action, in_top);
            stores = λ e. absurd (omega arith);
            modifies = λ e. absurd (omega arith);
            trims = λ e. absurd (omega arith);
            drops = λ e. absurd (omega arith);
          }

      used : (u : ℕ) → coordinator_of u ≡ c → (a : (plain s).Kind) → (◌≡◌ {A = Fact (plain s)} (began u a) (began t action)) ⊎ In (began u a) h
          → u ≤ time_of clock.last c
      used u m a (inl q) =
          let e : u ≡ t = cc in
          let f = (gave k.state.clock reading t clock d).time in
          let n = i.number in
          omega (arith, e, f, n)
      used u m a (inr q) =
          let w = i.used u (a, q) m in
          let b = drawn_above k.state.clock reading t clock d in
          let f = (gave k.state.clock reading t clock d).time in
          let n = i.number in
          let e = (gave k.state.clock reading t clock d).drew.coordinator-high in
          omega (arith, w, b, f, n, e)

      ended-not : (e : End (plain s)) → (◌≡◌ {A = Fact (plain s)} (ended t e) (began t action)) ⊎ In (ended t e) h → ⊥
      ended-not e (inl q) = let z : ◌≡◌ {A = ℕ} 0 1 = cc in omega arith
      ended-not e (inr q) = let w = (ok_at q.1 v).known in new_time (w.0, in_suf (suf_below q.1) w.1)

      launched-not : (e : Source) → (◌≡◌ {A = Fact (plain s)} (launched t e) (began t action)) ⊎ In (launched t e) h → ⊥
      launched-not e (inl q) = let z : ◌≡◌ {A = ℕ} 0 1 = cc in omega arith
      launched-not e (inr q) = let w = (ok_at q.1 v).known in new_time (w.0, in_suf (suf_below q.1) w.1)

      asked : Asked (sent ++ broadcasts s (sending ∷ [])) t first_round phase 0
      asked b msg block old m e q = go (Memᴰ.append_cases sent m)
        where
          go : (message b msg block old ∈ sent) ⊎ (message b msg block old ∈ broadcasts s (sending ∷ []))
              → (msg.round ≤ first_round) × (msg.round ≡ first_round → (phase ≡ order_read_kind) × (msg.max ≡ 0))
          go (inl p) = absurd (new_time (subst (Began h) q ((items (message b msg block old) p).asks (omega arith))))
          go (inr p) = let w = in_broadcast s sending (message b msg block old) p in
              let f : msg.kind ≡ phase = unfold kind_of_lem in ap kind_of_lem w.2 in absurd (other (sym f ∙ e))

      running : Running s g later (sent ++ broadcasts s (sending ∷ [])) c next
      running =
          record {
            own = own_time;
            begun = in_top;
            proper = proper;
            piece = piece;
            unended = λ w. ended-not w.0 (in_cons w.1);
            unsent = λ p o w. launched-not w.0 (in_cons w.1);
            counts = λ b m. absurd (none_member b m);
            holds = λ b m. absurd (none_member b m);
            asked = asked;
            looked-lower = λ e l. absurd (other e);
            stored-lower = λ e l. absurd (omega (arith, l));
            cleared = λ e. absurd (other e);
            storing = λ e. absurd (omega arith);
            modifying = λ e. absurd (omega arith);
          }

-- what a write that starts writes has m blocks
pub content_fits : (s : Settings) (k : Buffered) (number reading : ℕ) (content : List ℕ) (w : Went)
    → write_step s.n s.m s.size s.stripes k number reading content ≡ went w → length content ≡ s.m * s.size
unfolding write_step write_refusal write_checks
content_fits s k number reading content w e =
    let p = passes (write_refusal s.n s.m s.size s.stripes k.state number reading (length content) (length k.stripe)) _ w e in
    let a = first_passed (code_refusal s.n s.m s.size) _ p.0 in
    let b = first_passed (stripe_count_refusal s.stripes) _ a.1 in
    let q = first_passed (refuse_unless (eqb (length content) (s.m * s.size) && eqb (length k.stripe) (s.m * s.size)) bad_length) _ b.1 in
    let l = tested (eqb (length content) (s.m * s.size) && eqb (length k.stripe) (s.m * s.size)) _ q.0 in
    eqb-true (length content) (s.m * s.size) (and_left _ _ l)

-- what a write of one block that starts writes has the block size, into a block of a stripe of m
pub block_content_fits : (s : Settings) (k : Buffered) (number reading block : ℕ) (content : List ℕ) (w : Went)
    → write_block_step s.n s.m s.size s.stripes k number reading block content ≡ went w
    → (length content ≡ s.size) × (length k.stripe ≡ s.m * s.size) × (block < s.m)
unfolding write_block_step write_block_refusal
block_content_fits s k number reading block content w e =
    let p = passes (write_block_refusal s.n s.m s.size s.stripes k.state number reading block (length content) (length k.stripe)) _ w e in
    let q = write_block_passed s.n s.m s.size s.stripes k.state number block (length content) (length k.stripe) _ _ refl p.0 in
    (q.bytes-length, q.stripe-length, q.block-low)

module _ (s : Settings) (g : SettingsRange s) (h : Hist s) (sent : List Item) (c : ℕ) (k : Buffered) (v : Valid (quorums s g) h)
    (i : ClockInv s h c k) (items : (z : Item) → z ∈ sent → ItemInv s g h sent z) (number reading : ℕ) (w : Went) where
  -- a write starts
  pub write_turned : (content : List ℕ) → Bytes content → write_step s.n s.m s.size s.stripes k number reading content ≡ went w → TurnedRound s g h sent c w
  unfolding write_step
  write_turned content small e =
      let f : ℕ → Clock → Went = λ time clock. starting k clock (first_op writing_kind order_kind number time 0) content no_bricks in
      let refusal = write_refusal s.n s.m s.size s.stripes k.state number reading (length content) (length k.stripe) in
      let p = passes refusal (drawn_then (draw_of k.state.clock reading) f) w e in
      let d = drawn_went (draw_of k.state.clock reading) f w p.1 in
      subst (TurnedRound s g h sent c) d.3
      (started s g h sent c k v i items reading d.0 d.1 d.2 writing_kind order_kind number 0 content no_bricks (omega arith) (λ e. omega (arith, e))
      (λ e. omega (arith, e))
      (λ _. record { pos = g.code.size_low; length-is = content_fits s k number reading content w e; small = byte_below content small })
      (λ e. absurd (omega (arith, e))))

  -- a read starts
  pub read_turned : (first : ℕ) → read_step s.n s.m s.size s.stripes k number reading first ≡ went w → TurnedRound s g h sent c w
  unfolding read_step
  read_turned first e =
      let f : ℕ → Clock → Went = λ time clock. starting k clock (first_op reading_kind read_kind number time first) k.stripe (target_flags s.n s.m first) in
      let p = passes (read_refusal s.n s.m s.size s.stripes k.state number reading first) (drawn_then (draw_of k.state.clock reading) f) w e in
      let d = drawn_went (draw_of k.state.clock reading) f w p.1 in
      subst (TurnedRound s g h sent c) d.3
      (started s g h sent c k v i items reading d.0 d.1 d.2 reading_kind read_kind number first k.stripe
      (target_flags s.n s.m first) (omega arith) (λ e. omega (arith, e)) (λ e. omega (arith, e)) (λ e. absurd (omega (arith, e)))
      (λ e. absurd (omega (arith, e))))

  -- a write of one block starts
  pub write_block_turned : (block : ℕ) (content : List ℕ) → Bytes content
      → write_block_step s.n s.m s.size s.stripes k number reading block content ≡ went w → TurnedRound s g h sent c w
  unfolding write_block_step
  write_block_turned block content small e =
      let f : ℕ → Clock → Went = λ time clock.
      starting k clock (first_op writing_block_kind order_block_kind number time block) (with_block s.size k.stripe block content) no_bricks in
      let refusal = write_block_refusal s.n s.m s.size s.stripes k.state number reading block (length content) (length k.stripe) in
      let p = passes refusal (drawn_then (draw_of k.state.clock reading) f) w e in
      let d = drawn_went (draw_of k.state.clock reading) f w p.1 in
      let q = block_content_fits s k number reading block content w e in
      subst (TurnedRound s g h sent c) d.3
      (started s g h sent c k v i items reading d.0 d.1 d.2 writing_block_kind order_block_kind number block (with_block s.size k.stripe block content)
      no_bricks (omega arith) (λ e. omega (arith, e)) (λ e. omega (arith, e)) (λ e. absurd (omega (arith, e)))
      (λ _. subst (Piece s block)
      (sym (block_with s.size k.stripe block content q.0 (block_within s.m s.size block k.stripe q.1 q.2)))
      (record { low = q.2; sized = q.0; small = byte_below content small })))

  -- a read of one block starts
  pub read_block_turned : (block : ℕ) → read_block_step s.n s.m s.size s.stripes k number reading block ≡ went w → TurnedRound s g h sent c w
  unfolding read_block_step
  read_block_turned block e =
      let f : ℕ → Clock → Went = λ time clock.
      starting k clock (first_op reading_block_kind read_kind number time block) k.stripe (target_flags s.n block_targets block) in
      let p = passes (read_block_refusal s.n s.m s.size s.stripes k.state number reading block) (drawn_then (draw_of k.state.clock reading) f) w e in
      let d = drawn_went (draw_of k.state.clock reading) f w p.1 in
      subst (TurnedRound s g h sent c) d.3
      (started s g h sent c k v i items reading d.0 d.1 d.2 reading_block_kind read_kind number block k.stripe
      (target_flags s.n block_targets block) (omega arith) (λ e. omega (arith, e)) (λ e. omega (arith, e)) (λ e. absurd (omega (arith, e)))
      (λ e. absurd (omega (arith, e))))

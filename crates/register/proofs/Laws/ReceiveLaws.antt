-- One message at one brick, kind by kind: what the later brick and the reply satisfy.
use mathlib.Core.Path.{◌≡◌, refl, sym, ap, ap₂, subst, ◌∙◌}
use mathlib.Core.Logic.{◌⊎◌, inl, inr}
use mathlib.Core.Bool.{Bool, true, false, cond, not, ◌&&◌, true≢false}
use mathlib.Core.List.{List, ◌∷◌}
use Prim.Native.Nat.{ℕ, suc, ◌-◌, ◌≤◌, ◌<◌}
use native.Mathlib.Omega.{arith}
use native.Mathlib.Decide.{ℕ_discrete, dec_lt}
use lib.Dec.{leb, eqb}
use lib.ListN.{length}
use borrow.Author.Tests.{leb-true, leb-false, eq-eqb, ne_eqb}
use Rattle.byte_lists.proofs.Laws.BoolLaws.{and_left, and_right}
use Rattle.message.specs.Kinds.{read_kind, order_kind, order_read_kind, order_block_kind, write_kind, modify_kind, trim_kind, drop_kind}
use Rattle.message.proofs.Laws.MessageLaws.{not_silent, silent_trim, silent_drop}
use Rattle.settings.specs.Ranges.{SettingsRange}
use Rattle.settings.specs.Refusal.{passed}
use Rattle.settings.specs.Times.{valid_time}
use Rattle.settings.specs.declared.Settings.{Settings}
use Rattle.settings.proofs.Laws.RefusalLaws.{tested}
use Rattle.message.specs.Flags.{member}
use Rattle.message.specs.Messages.{round_right, kind_right, message_refusal, is_silent, stores_entry}
use Rattle.message.specs.declared.Message.{Message}
use Rattle.message.specs.declared.Reply.{Reply}
use Rattle.image.specs.Brick.{Brick, LogEntry, entry_count, time_at, means_at, newest}
use Rattle.image.specs.Brick.{Sound}
use Rattle.image_write.specs.Saving
use Rattle.brick_log.specs.BrickRules.{read_yes, order_yes, write_yes, modify_yes, newest_block, modified_entry, under, lookup, place_for, time_for}
use Rattle.brick_log.specs.BrickRules.{found_for, yes_to, reply_to, brick_after, block_after}
use Rattle.erasure.specs.Code.{coded_of, block_of, with_block}
use Rattle.erasure.specs.Recoding.{recoded_block}
use Rattle.erasure.proofs.Laws.BlockOfLaws.{with_block_stripe}
use Rattle.erasure.proofs.Laws.RecodingLaws.{recoded_is_coded, other_data_blocks_stay, written_block_is_coded}
use Rattle.order.specs.Claim.{◌∈◌}
use Rattle.order.specs.Facts.{Fact, promised, stored, showed}
use Rattle.order.specs.Places.{Suf, whole, above, In}
use Rattle.order.proofs.Laws.PlaceLaws.{in_top}
use Rattle.order.proofs.Laws.ValueLaws.{one_value}
use Rattle.order.specs.Valid.{Launched, Gone, Valid}
use Rattle.order.proofs.Laws.GoneLaws.{gone_up}
use Rattle.register.specs.Runs.{plain, Item, message}
use Rattle.register.proofs.Laws.Invariant.{quorums, Hist, Means, Stands, LogHas, BrickInv, Modifies, MessageInv, Looked, Newest, ReplyInv}
use Rattle.register.proofs.Laws.UpLaws.{Within, in_cons, means_up, stands_up, brick_up}
use Rattle.image.proofs.Laws.LogPlaceLaws.{rises_to, at_most_newest}
use Rattle.register.proofs.Laws.BrickLogLaws.{Grows, grows_not, grows_promised, grows_stored, grows_showed, carried, ok_promised, brick_promised}
use Rattle.register.proofs.Laws.BrickLogLaws.{ok_stored, brick_stored, ok_showed, newest_there, brick_trimmed, brick_dropped, Found, none, entry, found_under}
use Rattle.brick_log.proofs.Laws.AnsweredLaws.{after_trim, after_drop, after_read_lem, yes_read, yes_write, yes_modify, yes_order, no_changes_nothing, write_appends}
use Rattle.brick_log.proofs.Laws.AnsweredLaws.{modify_appends, order_promises, modify_written}
use Rattle.brick.proofs.Laws.BrickLaws.{order_above}
use Rattle.brick.proofs.Laws.BrickLaws.{modified_of_block, modified_of_data, modified_of_parity, modified_time, after_sound, message_time}

-- what a message that is not refused satisfies
pub record Sensible (msg : Message) : Type 0 where
  pub time-valid : valid_time msg.time ≡ true
  pub kind-low : read_kind ≤ msg.kind
  pub kind-high : msg.kind ≤ drop_kind

pub sensible : (n m : ℕ) (msg : Message) → message_refusal n m msg ≡ passed → Sensible msg
unfolding message_refusal kind_right
sensible n m msg e = let w = kinds (ℕ_discrete msg.kind order_read_kind) (ℕ_discrete msg.kind read_kind) (ℕ_discrete msg.kind modify_kind) in
    record { time-valid = message_time n m msg e; kind-low = w.0; kind-high = w.1 }
  where
    right : kind_right n m msg ≡ true
    right = and_right (valid_time msg.time && round_right msg.round) _ (tested _ _ e)

    kinds : Dec (msg.kind ≡ order_read_kind) → Dec (msg.kind ≡ read_kind) → Dec (msg.kind ≡ modify_kind) → (read_kind ≤ msg.kind) × (msg.kind ≤ drop_kind)
    kinds (yes a) b c = (omega arith, omega arith)
    kinds (no a) (yes b) c = (omega arith, omega arith)
    kinds (no a) (no b) (yes c) = (omega arith, omega arith)
    kinds (no a) (no b) (no c) =
        let w : leb read_kind msg.kind && leb msg.kind drop_kind ≡ true =
        rw (ne_eqb msg.kind order_read_kind a, ne_eqb msg.kind read_kind b, ne_eqb msg.kind modify_kind c) at right in
        (leb-true read_kind msg.kind (and_left _ _ w), leb-true msg.kind drop_kind (and_right (leb read_kind msg.kind) _ w))

-- The message is a Write or Modify of time t to brick b', and the answer is yes.
pub record Stores (s : Settings) (b : ℕ) (x : Brick) (msg : Message) (b' t : ℕ) : Type 0 where
  pub brick-is : b ≡ b'
  pub time-is : msg.time ≡ t
  pub kind-is : stores_entry msg.kind ≡ true
  pub yes-is : yes_to s x msg ≡ true

-- What a message leaves.
pub record Received (s : Settings) (g : SettingsRange s) (h : Hist s) (sent : List Item) (b : ℕ) (x : Brick) (msg : Message) (block old out : List ℕ) : Type 0 where
  pub later : Hist s
  pub grows : Grows s g b h later
  pub sound : Sound s (brick_after s b x msg block old)
  pub keeps : BrickInv s g later b (brick_after s b x msg block old)
  -- a store more is that of a yes to this message
  pub stores : (b' t : ℕ) → In (stored b' t) later → In (stored b' t) h ⊎ Stores s b x msg b' t
  pub answers : is_silent msg.kind ≡ false → (new : List Item) → Within sent new
      → ReplyInv s g later new (reply_to s b x msg) (block_after x (place_for b x msg) out)

-- replies: a no, and a yes of each kind
module _ (s : Settings) (g : SettingsRange s) (h : Hist s) (sent : List Item) (r : Reply) (block : List ℕ) (low : r.brick < s.n) where
  pub reply_no : r.yes ≡ false → ReplyInv s g h sent r block
  reply_no e =
      record {
        brick-low = low;
        orders = λ y k. absurd (never y);
        writes = λ y k. absurd (never y);
        modifies = λ y k. absurd (never y);
        reads = λ y k. absurd (never y);
        shows = λ y k d. absurd (never y);
        looks = λ y k. absurd (never y);
        finds = λ y k d. absurd (never y);
        looked = λ y k. absurd (never y);
        joins = λ y k. absurd (never y);
        newest = λ y k. absurd (never y);
        lends = λ y k d. absurd (never y);
      }
    where
      never : r.yes ≡ true → ⊥
      never y = true≢false (sym y ∙ e)

  reply_order : r.kind ≡ order_kind → In (promised r.brick r.time) h → ReplyInv s g h sent r block
  reply_order e p =
      record {
        brick-low = low;
        orders = λ y k. p;
        writes = λ y k. absurd (omega arith);
        modifies = λ y k. absurd (omega arith);
        reads = λ y k. absurd (omega arith);
        shows = λ y k d. absurd (omega arith);
        looks = λ y k. absurd (omega arith);
        finds = λ y k d. absurd (omega arith);
        looked = λ y k. absurd (omega arith);
        joins = λ y k. absurd (omega arith);
        newest = λ y k. absurd (omega arith);
        lends = λ y k d. absurd (omega arith);
      }

  -- Write and Modify
  reply_store : write_kind ≤ r.kind → In (stored r.brick r.time) h → ReplyInv s g h sent r block
  reply_store e p =
      record {
        brick-low = low;
        orders = λ y k. absurd (omega arith);
        writes = λ y k. p;
        modifies = λ y k. p;
        reads = λ y k. absurd (omega arith);
        shows = λ y k d. absurd (omega arith);
        looks = λ y k. absurd (omega arith);
        finds = λ y k d. absurd (omega arith);
        looked = λ y k. absurd (omega arith);
        joins = λ y k. absurd (omega arith);
        newest = λ y k. absurd (omega arith);
        lends = λ y k d. absurd (omega arith);
      }

  reply_read : r.kind ≡ read_kind → In (showed r.brick r.time r.found) h → (r.held ≡ true → Means s h r.found r.brick block)
      → ReplyInv s g h sent r block
  reply_read e p f =
      record {
        brick-low = low;
        orders = λ y k. absurd (omega arith);
        writes = λ y k. absurd (omega arith);
        modifies = λ y k. absurd (omega arith);
        reads = λ y k. p;
        shows = λ y k d. f d;
        looks = λ y k. absurd (omega arith);
        finds = λ y k d. absurd (omega arith);
        looked = λ y k. absurd (omega arith);
        joins = λ y k. absurd (omega arith);
        newest = λ y k. absurd (omega arith);
        lends = λ y k d. absurd (omega arith);
      }

  reply_look : r.kind ≡ order_read_kind → In (promised r.brick r.time) h
      → (r.held ≡ true → (r.found < r.time) × Stands h r.brick r.found × Means s h r.found r.brick block)
      → Looked s g h sent r → ReplyInv s g h sent r block
  reply_look e p f l =
      record {
        brick-low = low;
        orders = λ y k. absurd (omega arith);
        writes = λ y k. absurd (omega arith);
        modifies = λ y k. absurd (omega arith);
        reads = λ y k. absurd (omega arith);
        shows = λ y k d. absurd (omega arith);
        looks = λ y k. p;
        finds = λ y k d. f d;
        looked = λ y k. l;
        joins = λ y k. absurd (omega arith);
        newest = λ y k. absurd (omega arith);
        lends = λ y k d. absurd (omega arith);
      }

  reply_block : r.kind ≡ order_block_kind → In (promised r.brick r.time) h → Newest s g h r
      → (r.held ≡ true → Means s h r.found r.brick block) → ReplyInv s g h sent r block
  reply_block e p l f =
      record {
        brick-low = low;
        orders = λ y k. absurd (omega arith);
        writes = λ y k. absurd (omega arith);
        modifies = λ y k. absurd (omega arith);
        reads = λ y k. absurd (omega arith);
        shows = λ y k d. absurd (omega arith);
        looks = λ y k. absurd (omega arith);
        finds = λ y k d. absurd (omega arith);
        looked = λ y k. absurd (omega arith);
        joins = λ y k. p;
        newest = λ y k. l;
        lends = λ y k d. f d;
      }

module _ {s : Settings} {g : SettingsRange s} {h : Hist s} (sent : List Item) {b : ℕ} {x : Brick} {msg : Message} {block old : List ℕ} (out : List ℕ)
    (v : Valid (quorums s g) h) (i : BrickInv s g h b x) (r : Sound s x) (z : MessageInv s g h b msg block old) (ok : Sensible msg)
    (size : length block ≡ s.size) where
  abbrev After : Type 0
  After = Received s g h sent b x msg block old out

  -- what goes with the reply
  abbrev shown : List ℕ
  shown = block_after x (place_for b x msg) out

  sound_after : Sound s (brick_after s b x msg block old)
  sound_after = after_sound s b x msg block old r ok.time-valid size

  -- a no changes nothing
  no_received : is_silent msg.kind ≡ false → yes_to s x msg ≡ false → After
  unfolding reply_to
  no_received n e =
      record {
        later = h;
        grows = grows_not s g b h v;
        sound = sound_after;
        keeps = subst (BrickInv s g h b) (sym (no_changes_nothing s b x msg block old n e)) i;
        stores = λ b' t m. inl m;
        answers = λ q new w. reply_no s g h new (reply_to s b x msg) shown z.brick-low e;
      }

  -- the newest entry's block goes with the reply, or none
  held_block_lem : (p : ℕ) (a : Bool) → p ≡ cond a (entry_count x) 0 → not (eqb p 0) ≡ true → cond (eqb p 0) out (means_at x (p - 1)) ≡ means_at x (entry_count x - 1)
  held_block_lem p true q d = ap (λ (k : ℕ). cond (eqb k 0) out (means_at x (k - 1))) q ∙ rw (ne_eqb (entry_count x) 0 (λ w. omega (arith, w, r.count_low))) refl
  held_block_lem p false q d = let w : not (eqb 0 0) ≡ true = subst (λ (k : ℕ). not (eqb k 0) ≡ true) q d in let u : ◌≡◌ {A = ℕ} 0 1 = cc in absurd (omega arith)

  -- so a reply that holds a block holds what its time, the newest, stands for
  shows_newest : {later : Hist s} → Suf h later → (a : Bool) → place_for b x msg ≡ cond a (entry_count x) 0 → found_for b x msg ≡ newest x
      → not (eqb (place_for b x msg) 0) ≡ true → Means s later (found_for b x msg) b shown
  unfolding block_after
  shows_newest {later} up a place found d =
      subst (λ (c : ℕ). Means s later c b (cond (eqb (place_for b x msg) 0) out (means_at x (place_for b x msg - 1)))) (sym found)
      (subst (λ (c : List ℕ). Means s later (newest x) b c) (sym (held_block_lem (place_for b x msg) a place d)) (means_up up (newest_there i r).1))

  -- Read
  read_received : msg.kind ≡ read_kind → After
  unfolding reply_to found_for place_for block_after
  read_received e = go (read_yes x) refl
    where
      yes-is : yes_to s x msg ≡ read_yes x
      yes-is = yes_read s x msg e

      found-is : found_for b x msg ≡ newest x
      found-is = rw (eq-eqb msg.kind read_kind e) refl

      place_is : read_yes x ≡ true → place_for b x msg ≡ cond (member msg.targets b) (entry_count x) 0
      place_is y = rw (eq-eqb msg.kind read_kind e, y) refl

      later : Hist s
      later = showed b msg.time (newest x) ∷ h

      shown-only : (b' t : ℕ) → (◌≡◌ {A = Fact (plain s)} (stored b' t) (showed b msg.time (newest x))) ⊎ In (stored b' t) h → In (stored b' t) h
      shown-only b' t (inl q) = let w : ◌≡◌ {A = ℕ} 0 1 = cc in absurd (omega arith)
      shown-only b' t (inr m) = m

      go : (y : Bool) → read_yes x ≡ y → After
      go false y = no_received (not_silent msg.kind (omega arith)) (yes-is ∙ y)
      go true y =
          let gr = grows_showed s g b h v msg.time (newest x) (ok_showed i r msg.time (z.asks (omega arith)) y) in
          record {
            later = later;
            grows = gr;
            sound = sound_after;
            keeps = subst (BrickInv s g later b) (sym (after_read_lem s b x msg block old e)) (brick_up gr.valid (λ a. a) i);
            stores = λ b' t m. inl (shown-only b' t (in_cons m));
            answers = λ n new w.
                reply_read s g later new (reply_to s b x msg) shown z.brick-low e
                (subst (λ (c : ℕ). In (showed b msg.time c) later) (sym found-is) in_top)
                (λ d. shows_newest (above whole) (member msg.targets b) (place_is y) found-is d);
          }

  -- a promise more
  abbrev promising : Hist s
  promising = promised b msg.time ∷ h

  -- what was stored before the promise
  stored_before : (u : ℕ) → Stands promising b u → Stands h b u
  stored_before u (inl q) = inl q
  stored_before u (inr p) = old-fact (in_cons p)
    where
      old-fact : (◌≡◌ {A = Fact (plain s)} (stored b u) (promised b msg.time)) ⊎ In (stored b u) h → Stands h b u
      old-fact (inl q) = let w : ◌≡◌ {A = ℕ} 0 1 = cc in absurd (omega arith)
      old-fact (inr p) = inr p

  -- what the brick has of u is in the log at some place, or gone
  placed : Valid (quorums s g) promising → (u : ℕ) → Stands promising b u → LogHas x u ⊎ Gone (quorums s g) promising u
  placed w u c = by (i.kept u (stored_before u c))
    where
      by : LogHas x u ⊎ Gone (quorums s g) h u → LogHas x u ⊎ Gone (quorums s g) promising u
      by (inl d) = inl d
      by (inr d) = inr (gone_up w (above whole) d)

  -- Order, Order-and-read and the first round of a block write: a yes promises
  orders_received : order_kind ≤ msg.kind → msg.kind ≤ order_block_kind
      → (order_yes x msg.time ≡ true → Valid (quorums s g) promising → (new : List Item) → Within sent new
      → ReplyInv s g promising new (reply_to s b x msg) shown)
      → After
  orders_received low high answer = go (order_yes x msg.time) refl
    where
      yes-is : yes_to s x msg ≡ order_yes x msg.time
      yes-is = yes_order s x msg (λ q. omega (arith, q)) (λ q. omega (arith, q)) (λ q. omega (arith, q))

      promised-only : (b' t : ℕ) → (◌≡◌ {A = Fact (plain s)} (stored b' t) (promised b msg.time)) ⊎ In (stored b' t) h → In (stored b' t) h
      promised-only b' t (inl q) = let w : ◌≡◌ {A = ℕ} 0 1 = cc in absurd (omega arith)
      promised-only b' t (inr m) = m

      go : (y : Bool) → order_yes x msg.time ≡ y → After
      go false y = no_received (not_silent msg.kind (omega arith)) (yes-is ∙ y)
      go true y =
          let q = order_promises s b x msg block old (not_silent msg.kind (omega arith)) (λ q. omega (arith, q)) (λ q. omega (arith, q)) (λ q. omega (arith, q)) (yes-is ∙ y) in
          let gr = grows_promised s g b h v msg.time (ok_promised i r msg.time (z.asks (omega arith)) y) in
          record {
            later = promising;
            grows = gr;
            sound = sound_after;
            keeps = subst (BrickInv s g promising b) (sym q) (brick_promised i r msg.time gr.valid y);
            stores = λ b' t m. inl (promised-only b' t (in_cons m));
            answers = λ n new w. answer y gr.valid new w;
          }

  -- Order
  order_received : msg.kind ≡ order_kind → After
  unfolding reply_to
  order_received e = orders_received (omega arith) (omega arith) (λ y w new into. reply_order s g promising new (reply_to s b x msg) shown z.brick-low e in_top)

  -- the first round of a block write
  block_received : msg.kind ≡ order_block_kind → After
  unfolding reply_to found_for place_for
  block_received e = orders_received (omega arith) (omega arith) answer
    where
      answer : order_yes x msg.time ≡ true → Valid (quorums s g) promising → (new : List Item) → Within sent new
          → ReplyInv s g promising new (reply_to s b x msg) shown
      answer y w new into =
          reply_block s g promising new (reply_to s b x msg) shown z.brick-low e in_top
          (record {
            below = omega (arith, found, order_above x msg.time y);
            stands = subst (λ (c : ℕ). Stands promising b c) (sym found) (stands_up (above whole) (newest_there i r).0);
            nothing-else = λ u l c. here u (placed w u c);
          })
          (λ d. shows_newest (above whole) (eqb b msg.block) place found d)
        where
          found : found_for b x msg ≡ newest x
          found = rw (ne_eqb msg.kind read_kind (λ q. omega (arith, e, q)), eq-eqb msg.kind order_block_kind e, y) refl

          place : place_for b x msg ≡ cond (eqb b msg.block) (entry_count x) 0
          place = rw
              (ne_eqb msg.kind read_kind (λ q. omega (arith, e, q)), ne_eqb msg.kind order_read_kind (λ q. omega (arith, e, q)), eq-eqb msg.kind order_block_kind e, y)
              refl

          here : (u : ℕ) → LogHas x u ⊎ Gone (quorums s g) promising u → (u ≤ found_for b x msg) ⊎ Gone (quorums s g) promising u
          here u (inl (j, l, q)) = inl (omega (arith, found, q, at_most_newest s x r j l))
          here u (inr k) = inr k

  -- Order-and-read
  look_received : message b msg block old ∈ sent → msg.kind ≡ order_read_kind → After
  unfolding reply_to found_for place_for lookup time_for block_after
  look_received was e =
      orders_received (omega arith) (omega arith)
      (λ y w new into. answer w y new into (place_for b x msg) refl
      (subst (Found x msg.max (entry_count x)) (sym (place_is y)) (found_under x msg.max (entry_count x))))
    where
      found-is : found_for b x msg ≡ time_for x (place_for b x msg)
      found-is = rw (ne_eqb msg.kind read_kind (λ q. omega (arith, e, q)), ne_eqb msg.kind order_block_kind (λ q. omega (arith, e, q))) refl

      place_is : order_yes x msg.time ≡ true → place_for b x msg ≡ under x msg.max (entry_count x)
      place_is y = rw (ne_eqb msg.kind read_kind (λ q. omega (arith, e, q)), eq-eqb msg.kind order_read_kind e, y) refl

      asking : (new : List Item) → Within sent new
          → ((u : ℕ) → u < msg.max → LogHas x u ⊎ Gone (quorums s g) promising u
          → ((not (eqb (place_for b x msg) 0) ≡ true) × (u ≤ found_for b x msg)) ⊎ Gone (quorums s g) promising u)
          → Valid (quorums s g) promising → Looked s g promising new (reply_to s b x msg)
      asking new into here w =
          record {
            asked = msg;
            with-block = block;
            with-old = old;
            was-sent = into _ was;
            kind-is = e;
            time-is = refl;
            round_is = refl;
            nothing-else = λ u l m c. here u m (placed w u c);
          }

      answer : Valid (quorums s g) promising → order_yes x msg.time ≡ true → (new : List Item) → Within sent new → (p : ℕ) → place_for b x msg ≡ p → Found x msg.max (entry_count x) p
          → ReplyInv s g promising new (reply_to s b x msg) shown
      answer w y new into p q (none f) =
          reply_look s g promising new (reply_to s b x msg) shown z.brick-low e in_top (λ d. absurd (never d)) (asking new into here w)
        where
          never : not (eqb (place_for b x msg) 0) ≡ true → ⊥
          never d = let k : not (eqb 0 0) ≡ true = subst (λ (a : ℕ). not (eqb a 0) ≡ true) q d in let a : ◌≡◌ {A = ℕ} 0 1 = cc in omega arith

          here : (u : ℕ) → u < msg.max → LogHas x u ⊎ Gone (quorums s g) promising u
              → ((not (eqb (place_for b x msg) 0) ≡ true) × (u ≤ found_for b x msg)) ⊎ Gone (quorums s g) promising u
          here u m (inl k) = absurd (omega (arith, f k.0 k.1, k.2))
          here u m (inr k) = inr k
      answer w y new into p q (entry j jl jm f) =
          reply_look s g promising new (reply_to s b x msg) shown z.brick-low e in_top
          (λ d. (omega (arith, found, under-newest, order_above x msg.time y), has.0, has.1)) (asking new into here w)
        where
          less : suc j - 1 ≡ j
          less = omega arith

          found : found_for b x msg ≡ time_at x j
          found = found-is ∙ ap (λ (k : ℕ). cond (eqb k 0) 0 (time_at x (k - 1))) q
              ∙ rw (ne_eqb (suc j) 0 (λ a. omega (arith, a))) (ap (time_at x) less)

          block_at : cond (eqb (place_for b x msg) 0) out (means_at x (place_for b x msg - 1)) ≡ means_at x j
          block_at = ap (λ (k : ℕ). cond (eqb k 0) out (means_at x (k - 1))) q
              ∙ rw (ne_eqb (suc j) 0 (λ a. omega (arith, a))) (ap (means_at x) less)

          there : Stands h b (time_at x j) × Means s h (time_at x j) b (means_at x j)
          there = i.entries j jl

          under-newest : time_at x j ≤ newest x
          under-newest = at_most_newest s x r j jl

          has : Stands promising b (found_for b x msg) × Means s promising (found_for b x msg) b (cond (eqb (place_for b x msg) 0) out (means_at x (place_for b x msg - 1)))
          has = carried found block_at (stands_up (above whole) there.0, means_up (above whole) there.1)

          held : not (eqb (place_for b x msg) 0) ≡ true
          held = rw (ne_eqb (place_for b x msg) 0 (λ a. omega (arith, a, q))) refl

          here : (u : ℕ) → u < msg.max → LogHas x u ⊎ Gone (quorums s g) promising u
              → ((not (eqb (place_for b x msg) 0) ≡ true) × (u ≤ found_for b x msg)) ⊎ Gone (quorums s g) promising u
          here u m (inr k) = inr k
          here u m (inl k) = by (leb k.0 j) refl
            where
              by : (a : Bool) → leb k.0 j ≡ a → ((not (eqb (place_for b x msg) 0) ≡ true) × (u ≤ found_for b x msg)) ⊎ Gone (quorums s g) promising u
              by true a = inl (held, omega (arith, found, rises_to s x r k.0 j (leb-true k.0 j a) jl, k.2))
              by false a = absurd (omega (arith, f k.0 (leb-false k.0 j a) k.1, k.2))

  -- Write and Modify: a yes appends an entry of the message's time that means what this stands for
  store_received : (msg.kind ≡ write_kind) ⊎ (msg.kind ≡ modify_kind) → (e : LogEntry) → e.time ≡ msg.time
      → Launched h msg.time → write_yes s x msg.time ≡ true → yes_to s x msg ≡ true → Means s h msg.time b e.block
      → brick_after s b x msg block old ≡ Saving.appended x e → After
  unfolding reply_to
  store_received kind e time sent-out y said means after =
      record {
        later = stored b msg.time ∷ h;
        grows = grows_stored s g b h v msg.time (ok_stored i r msg.time sent-out y);
        sound = sound_after;
        keeps = subst (BrickInv s g (stored b msg.time ∷ h) b) (sym after) kept;
        stores = λ b' t m. one_more b' t (in_cons m);
        answers = λ n new w. reply_store s g (stored b msg.time ∷ h) new (reply_to s b x msg) shown z.brick-low (high kind) in_top;
      }
    where
      storing : (msg.kind ≡ write_kind) ⊎ (msg.kind ≡ modify_kind) → stores_entry msg.kind ≡ true
      storing (inl q) = ap stores_entry q ∙ unfold stores_entry in refl
      storing (inr q) = ap stores_entry q ∙ unfold stores_entry in refl

      one_more : (b' t : ℕ) → (◌≡◌ {A = Fact (plain s)} (stored b' t) (stored b msg.time)) ⊎ In (stored b' t) h
          → In (stored b' t) h ⊎ Stores s b x msg b' t
      one_more b' t (inl q) = inr (record { brick-is = cc; time-is = cc; kind-is = storing kind; yes-is = said })
      one_more b' t (inr m) = inl m

      high : (msg.kind ≡ write_kind) ⊎ (msg.kind ≡ modify_kind) → write_kind ≤ msg.kind
      high (inl q) = omega arith
      high (inr q) = omega arith

      kept : BrickInv s g (stored b msg.time ∷ h) b (Saving.appended x e)
      kept =
          subst (λ (t : ℕ). BrickInv s g (stored b t ∷ h) b (Saving.appended x e)) time
          (brick_stored i r e
          (subst (λ (t : ℕ). Valid (quorums s g) (stored b t ∷ h)) (sym time) (grows_stored s g b h v msg.time (ok_stored i r msg.time sent-out y)).valid)
          (subst (λ (t : ℕ). Means s h t b e.block) (sym time) means))

  -- Write
  write_received : msg.kind ≡ write_kind → After
  unfolding Saving.block_entry
  write_received e = go (write_yes s x msg.time) refl
    where
      yes-is : yes_to s x msg ≡ write_yes s x msg.time
      yes-is = yes_write s x msg e

      go : (y : Bool) → write_yes s x msg.time ≡ y → After
      go false y = no_received (not_silent msg.kind (omega arith)) (yes-is ∙ y)
      go true y =
          let c = z.stores e in
          store_received (inl e) (Saving.block_entry msg.time block) refl c.0 y (yes-is ∙ y) c.1 (write_appends s b x msg block old e (yes-is ∙ y))

  -- Modify: its entry is the coded block of the stripe with the new block
  modified_means : Modifies s h msg block old → newest x ≡ msg.old → Means s h msg.time b (modified_entry s b x msg block old).block
  unfolding Saving.block_entry Saving.mark_entry newest_block
  modified_means w same =
      record {
        full = with_block s.size w.full msg.block block;
        value = w.after;
        proper = with_block_stripe s.m s.size w.full msg.block block w.proper size w.piece.small w.piece.low;
        coded = coded (ℕ_discrete b msg.block) (dec_lt b s.m);
      }
    where
      -- the newest block is the coded one of the stripe that was read
      own : newest_block x ≡ block_of s.size (coded_of s.n s.m s.size w.full) b
      own =
          let n = (newest_there i r).1 in
          n.coded ∙ ap (λ (full : List ℕ). block_of s.size (coded_of s.n s.m s.size full) b) (one_value v n.value w.value same)

      coded : Dec (b ≡ msg.block) → Dec (b < s.m)
          → (modified_entry s b x msg block old).block
          ≡ block_of s.size (coded_of s.n s.m s.size (with_block s.size w.full msg.block block)) b
      coded (yes e) l =
          ap (λ (f : LogEntry). f.block) (modified_of_block s b x msg block old e)
          ∙ sym (written_block_is_coded s.n s.m s.size w.full block msg.block g.code w.proper size w.piece.small w.piece.low)
          ∙ ap (λ (c : ℕ). block_of s.size (coded_of s.n s.m s.size (with_block s.size w.full msg.block block)) c) (sym e)
      coded (no n) (yes l) =
          ap (λ (f : LogEntry). f.block) (modified_of_data s b x msg block old n l) ∙ own
          ∙ sym (other_data_blocks_stay s.n s.m s.size w.full block msg.block b g.code w.proper size w.piece.small w.piece.low l n)
      coded (no n) (no l) =
          ap (λ (f : LogEntry). f.block) (modified_of_parity s b x msg block old n (omega arith))
          ∙ ap₂ (λ (a c : List ℕ). recoded_block s.n s.m b msg.block a c block) own w.old-is
          ∙ recoded_is_coded s.n s.m s.size w.full block msg.block b g.code w.proper size w.piece.small w.piece.low z.brick-low

  modify_received : msg.kind ≡ modify_kind → After
  modify_received e = go (modify_yes s x msg.time msg.old) refl
    where
      yes-is : yes_to s x msg ≡ modify_yes s x msg.time msg.old
      yes-is = yes_modify s x msg e

      go : (y : Bool) → modify_yes s x msg.time msg.old ≡ y → After
      go false y = no_received (not_silent msg.kind (omega arith)) (yes-is ∙ y)
      go true y =
          let w = z.modifies e in
          let c = modify_written s x msg.time msg.old y in
          store_received (inr e) (modified_entry s b x msg block old) (modified_time s b x msg block old) w.sent c.1 (yes-is ∙ y)
          (modified_means w c.0) (modify_appends s b x msg block old e (yes-is ∙ y))

  -- Trim
  trim_received : msg.kind ≡ trim_kind → After
  trim_received e =
      record {
        later = h;
        grows = grows_not s g b h v;
        sound = sound_after;
        keeps = subst (BrickInv s g h b) (sym (after_trim s b x msg block old e)) (brick_trimmed i r msg.time (z.trims e).1);
        stores = λ b' t m. inl m;
        answers = λ n new w. absurd (true≢false (sym (silent_trim msg.kind e) ∙ n));
      }

  -- Drop
  drop_received : msg.kind ≡ drop_kind → After
  drop_received e =
      let w = z.drops e in
      record {
        later = h;
        grows = grows_not s g b h v;
        sound = sound_after;
        keeps = subst (BrickInv s g h b) (sym (after_drop s b x msg block old e)) (brick_dropped i r msg.time w.0 w.1);
        stores = λ b' t m. inl m;
        answers = λ n new w. absurd (true≢false (sym (silent_drop msg.kind e) ∙ n));
      }

  -- any message
  pub any_received : message b msg block old ∈ sent → After
  any_received was =
      first (ℕ_discrete msg.kind read_kind) (ℕ_discrete msg.kind order_kind) (ℕ_discrete msg.kind order_read_kind)
    where
      second : order_read_kind < msg.kind → Dec (msg.kind ≡ order_block_kind) → Dec (msg.kind ≡ write_kind) → Dec (msg.kind ≡ modify_kind) → After
      second l (yes e) c d = block_received e
      second l (no b) (yes e) d = write_received e
      second l (no b) (no c) (yes e) = modify_received e
      second l (no b) (no c) (no d) = third (ℕ_discrete msg.kind trim_kind)
        where
          third : Dec (msg.kind ≡ trim_kind) → After
          third (yes e) = trim_received e
          third (no f) = drop_received (omega (arith, ok.kind-high))

      first : Dec (msg.kind ≡ read_kind) → Dec (msg.kind ≡ order_kind) → Dec (msg.kind ≡ order_read_kind) → After
      first (yes e) c d = read_received e
      first (no b) (yes e) d = order_received e
      first (no b) (no c) (yes e) = look_received was e
      first (no b) (no c) (no d) =
          second (omega (arith, ok.kind-low)) (ℕ_discrete msg.kind order_block_kind) (ℕ_discrete msg.kind write_kind) (ℕ_discrete msg.kind modify_kind)

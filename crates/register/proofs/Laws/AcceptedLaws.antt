-- Laws of `specs/NeverRefused` on what was sent: every message and every reply of a run is as its receiver asks for.
use mathlib.Core.Path.{◌≡◌, refl, sym, ap, subst, ◌∙◌}
use mathlib.Core.Logic.{◌⊎◌, inl, inr}
use mathlib.Core.Bool.{Bool, true, false, cond, not, true≢false, ◌&&◌, ◌||◌}
use mathlib.Core.List.Memᴰ
use mathlib.Core.List.{List, [], ◌∷◌, ◌++◌}
use Prim.Native.Nat.{ℕ, zero, suc, ◌*◌, ◌-◌, ◌≤◌, ◌<◌}
use native.Mathlib.Omega.{arith}
use lib.Dec.{eqb, leb, ltb}
use lib.ListN.{length, replicate, length-replicate}
use borrow.Author.Tests.{eqb-true, eqb-false, eq-eqb, ne_eqb, le-leb, lt-ltb, ltb-true, leb-true}
use Rattle.settings.specs.Ranges.{SettingsRange, in_range, stripe_refusal, data_block_refusal}
use Rattle.settings.specs.Refusal.{passed, refuse_unless, first_refusal, bad_block, stray_reply}
use Rattle.settings.specs.Times.{last_coordinator, coordinator_of, valid_time}
use Rattle.settings.specs.declared.Settings.{Settings}
use Rattle.settings.proofs.Laws.RefusalLaws.{tested}
use Rattle.byte_lists.specs.Little.{are_bytes}
use Rattle.byte_lists.proofs.Laws.BoolLaws.{and_left, and_right}
use Rattle.message.specs.Flags.{member}
use Rattle.message.specs.Kinds.{read_kind, order_read_kind, order_block_kind, modify_kind, trim_kind, drop_kind}
use Rattle.message.specs.Messages.{round_right, found_right, kind_right, message_refusal, names_block, message_block_refusal, is_silent, reply_right}
use Rattle.message.specs.declared.Message.{Message}
use Rattle.message.specs.declared.Reply.{Reply}
use Rattle.message.proofs.Laws.MessageLaws.{reply_rest, reply_passed, silent_trim, silent_drop}
use Rattle.image.specs.Brick.{Brick, entry_count, time_at, means_at, newest, saved_time, Sound}
use Rattle.image.specs.Image.{image_size}
use Rattle.image.specs.Parse.{Parsed, Opens, Refuses, brick_in, open_refusal, parse}
use Rattle.image.proofs.Laws.LogPlaceLaws.{newest_at}
use Rattle.image.proofs.Laws.ParseLaws.{range_of, parse_opens, opened}
use Rattle.brick_log.specs.BrickRules.{read_yes, order_yes, lookup, place_for, time_for, found_for, reply_to, block_after}
use Rattle.brick_log.proofs.Laws.AnsweredLaws.{comparison_is_allowed}
use Rattle.brick.specs.Receive
use Rattle.brick.specs.Receive.{Outcome, beside, outcome, receive_refusal, refused_with, given_by, given_number}
use Rattle.brick.specs.Receive.{Answered, Silent}
use Rattle.brick.proofs.Laws.OutcomeLaws.{Fronted, fronted, front_zero, passes}
use Rattle.volume.specs.Rows.{row_size, image_at, in_row, row_refusal, row_outcome}
use Rattle.volume.proofs.Laws.RowLaws.{image_at_length}
use Rattle.coord_record.specs.declared.Coordinator.{Coordinator}
use Rattle.coord_decide.specs.Deciding.{answers}
use Rattle.coord_apply.specs.Answers.{Buffered, Broadcast, Went, Step, refused, went, after_checks, answer_of}
use Rattle.coord_refusals.specs.Checks.{stripe_checks, lengths_right, stray_checks, take_refusal}
use Rattle.coordinator.specs.Routines.{take_step}
use Rattle.coord_laws.proofs.Laws.SoundnessLaws.{good_sound}
use Rattle.order.specs.Claim.{◌∈◌}
use Rattle.register.specs.Runs.{Item, message, reply, World, fresh_set, Event, start_write, start_read, start_write_block, start_read_block, arrives, crashes}
use Rattle.register.specs.Runs.{goes_down, comes_up, Moved, unmoved, to_all, broadcasts, coordinated, replied_with, received, arriving, arriving_at, standing}
use Rattle.register.specs.Runs.{step, next_moved, run_from, run}
use Rattle.register.specs.RefusedEvents.{item_number}
use Rattle.register.specs.NeverRefused.{MessagesAccepted, MessagesAnswered, RepliesOnlyStray}
use Rattle.register.proofs.Laws.BeganLaws.{crash_sends_none}
use Rattle.register.proofs.Laws.BrickEvent.{either}
use Rattle.register.proofs.Laws.BrickLogLaws.{Found, none, entry, found_under}
use Rattle.register.proofs.Laws.NeverRefusedLaws.{Known, AllKnown, step_known, run_known, code_accepted, stripes_accepted, images_open, rows_long}
use Rattle.register.proofs.Laws.ReceiveLaws.{Sensible, sensible}
use Rattle.register.proofs.Laws.SentFitLaws.{AllFit, take_fits, write_fits, read_fits, write_block_fits, read_block_fits}
use Rattle.register.proofs.Laws.TurnLaws.{in_to_all}

-- a message that its brick has no reason to refuse
record MessageFits (s : Settings) (b : ℕ) (msg : Message) (block old : List ℕ) : Type 0 where
  brick-low : b < s.n
  stripe-low : msg.stripe < s.stripes
  right : message_refusal s.n s.m msg ≡ passed
  block-low : names_block msg.kind ≡ true → msg.block < s.m
  block-long : length block ≡ s.size
  old-long : length old ≡ s.size

-- a reply that a coordinator refuses at most as stray
record ReplyFits (s : Settings) (r : Reply) (block : List ℕ) : Type 0 where
  brick-low : r.brick < s.n
  stripe-low : r.stripe < s.stripes
  right : reply_right r ≡ true
  block-long : length block ≡ s.size

abbrev ItemFits : Settings → Item → Type 0
ItemFits s (message b msg block old) = MessageFits s b msg block old
ItemFits s (reply r block) = ReplyFits s r block

named_low : (m : ℕ) (msg : Message) → message_block_refusal m msg ≡ passed → names_block msg.kind ≡ true → msg.block < m
unfolding message_block_refusal data_block_refusal
named_low m msg e n =
    let d : refuse_unless (ltb msg.block m) bad_block ≡ passed = rw n at e in
    ltb-true msg.block m (tested _ _ d)

-- WHAT A COORDINATOR SENDS
broadcasts_fit : (s : Settings) (l : List Broadcast) → AllFit s l → (i : Item) → i ∈ broadcasts s l → ItemFits s i
unfolding broadcasts
broadcasts_fit s [] f i m = absurd (Memᴰ.not-nil m)
broadcasts_fit s (z ∷ l) f i m = go (Memᴰ.append_cases (to_all s z s.n) m) (broadcasts_fit s l (λ y n. f y (Memᴰ.tail n)) i)
  where
    go : (i ∈ to_all s z s.n) ⊎ (i ∈ broadcasts s l) → (i ∈ broadcasts s l → ItemFits s i) → ItemFits s i
    go (inl p) ih =
        let w = in_to_all s z s.n i p in
        let t = f z (Memᴰ.head refl) in
        subst (ItemFits s) (sym w.2)
        (record {
          brick-low = w.1;
          stripe-low = t.stripe-low;
          right = t.right;
          block-low = named_low s.m z.message t.block-right;
          block-long = t.block-long w.0 w.1;
          old-long = t.old-long;
        })
    go (inr p) ih = ih p

-- WHAT A BRICK REPLIES
module _ (s : Settings) (b : ℕ) (x : Brick) (z : Sound s x) (msg : Message) where
  -- the entry whose block goes with a reply is none, or one of the log
  place_either : (P : ℕ → Type 0) → P 0 → ((i : ℕ) → i < entry_count x → P (suc i)) → P (place_for b x msg)
  unfolding place_for lookup
  place_either P p q =
      either P (eqb msg.kind read_kind) _ _ (either P (read_yes x && member msg.targets b) _ _ last p)
      (either P (eqb msg.kind order_read_kind) _ _ (either P (order_yes x msg.time) _ _ (look (found_under x msg.max (entry_count x)) (omega arith)) p)
      (either P (eqb msg.kind order_block_kind) _ _ (either P (order_yes x msg.time && eqb b msg.block) _ _ last p) p))
    where
      last : P (entry_count x)
      last =
          let e : suc (entry_count x - 1) ≡ entry_count x = omega (arith, z.count_low) in
          subst P e (q (entry_count x - 1) (omega (arith, z.count_low)))

      look : {n u : ℕ} → Found x msg.max n u → n ≤ entry_count x → P u
      look (none f) l = p
      look (entry i h f g) l = q i (omega (arith, h, l))

  -- every time of the log may stand in a reply, and so may 0
  saved_found : (t : ℕ) → saved_time t ≡ true → found_right t ≡ true
  unfolding saved_time found_right
  saved_found t e = e

  newest_found : found_right (newest x) ≡ true
  newest_found =
      ap found_right (newest_at x (entry_count x - 1) refl) ∙ saved_found (time_at x (entry_count x - 1)) (z.entries (entry_count x - 1) (omega (arith, z.count_low))).saved

  zero_found : found_right 0 ≡ true
  unfolding found_right
  zero_found = refl

  place_found : found_right (time_for x (place_for b x msg)) ≡ true
  unfolding time_for
  place_found =
      place_either (λ (p : ℕ). found_right (cond (eqb p 0) 0 (time_at x (p - 1))) ≡ true) zero_found
      (λ i l.
      let e : suc i - 1 ≡ i = omega arith in
      rw (ne_eqb (suc i) 0 (λ q. omega (arith, q))) (ap (λ (j : ℕ). found_right (time_at x j)) e ∙ saved_found (time_at x i) (z.entries i l).saved))

  reply_found : found_right (found_for b x msg) ≡ true
  unfolding found_for
  reply_found =
      either (λ (t : ℕ). found_right t ≡ true) (eqb msg.kind read_kind) _ _ newest_found
      (either (λ (t : ℕ). found_right t ≡ true) (eqb msg.kind order_block_kind) _ _
      (either (λ (t : ℕ). found_right t ≡ true) (order_yes x msg.time) _ _ newest_found zero_found) place_found)

  reply_block : (out : List ℕ) → length out ≡ s.size → length (block_after x (place_for b x msg) out) ≡ s.size
  unfolding block_after
  reply_block out h =
      place_either (λ (p : ℕ). length (cond (eqb p 0) out (means_at x (p - 1))) ≡ s.size) h
      (λ i l.
      let e : suc i - 1 ≡ i = omega arith in
      rw (ne_eqb (suc i) 0 (λ q. omega (arith, q))) (ap (λ (j : ℕ). length (means_at x j)) e ∙ (z.entries i l).sized))

  -- the reply to a message that is not refused
  reply_fits : (out : List ℕ) → length out ≡ s.size → b < s.n → msg.stripe < s.stripes → message_refusal s.n s.m msg ≡ passed → is_silent msg.kind ≡ false
      → ReplyFits s (reply_to s b x msg) (block_after x (place_for b x msg) out)
  unfolding reply_to message_refusal
  reply_fits out h low stripe e quiet =
      record {
        brick-low = low;
        stripe-low = stripe;
        right =
            reply_rest (reply_to s b x msg) k.kind-low high
            ∙ (rw (k.time-valid, round_is, reply_found, comparison_is_allowed s x msg) refl);
        block-long = reply_block out h;
      }
    where
      k : Sensible msg
      k = sensible s.n s.m msg e

      round_is : round_right msg.round ≡ true
      round_is = and_right (valid_time msg.time) (round_right msg.round) (and_left _ (kind_right s.n s.m msg) (tested _ _ e))

      high : msg.kind ≤ modify_kind
      high = go (eqb msg.kind trim_kind) (eqb msg.kind drop_kind) refl refl
        where
          at_most : (kind : ℕ) → kind ≤ drop_kind → (kind ≡ trim_kind → ⊥) → (kind ≡ drop_kind → ⊥) → kind ≤ modify_kind
          at_most kind l u v = omega (arith, l, u, v)

          go : (a c : Bool) → eqb msg.kind trim_kind ≡ a → eqb msg.kind drop_kind ≡ c → msg.kind ≤ modify_kind
          go true c ea ec = absurd (true≢false (sym (silent_trim msg.kind (eqb-true msg.kind trim_kind ea)) ∙ quiet))
          go false true ea ec = absurd (true≢false (sym (silent_drop msg.kind (eqb-true msg.kind drop_kind ec)) ∙ quiet))
          go false false ea ec =
              let u = eqb-false msg.kind trim_kind ea in
              let v = eqb-false msg.kind drop_kind ec in
              at_most msg.kind k.kind-high u v

module _ (s : Settings) (b : ℕ) (msg : Message) where
  -- an outcome whose replies are so
  RepliesFit : Outcome → Type 0
  RepliesFit o = (i : Item) → i ∈ replied_with o.given o.out → ItemFits s i

  refused_fits : (number : ℕ) (bytes out : List ℕ) → RepliesFit (refused_with number bytes out)
  unfolding RepliesFit refused_with replied_with
  refused_fits number bytes out i m = absurd (Memᴰ.not-nil m)

  outcome_fits : (bytes block old out : List ℕ) → b < s.n → msg.stripe < s.stripes → length out ≡ s.size → RepliesFit (outcome s b bytes msg block old out)
  unfolding outcome
  outcome_fits bytes block old out low stripe h = go (eqb (receive_refusal s b bytes msg (beside block old out)) passed) refl
    where
      acts : receive_refusal s b bytes msg (beside block old out) ≡ passed → RepliesFit (Receive.accepted s b msg block old bytes out (parse s b bytes))
      acts e =
          let p = passes s b bytes msg (beside block old out) e in
          let is = parse_opens s b bytes p.opens in
          let sound = (opened s b bytes (brick_in s bytes) is).keeps in
          subst (λ (y : Parsed). RepliesFit (Receive.accepted s b msg block old bytes out y)) (sym is)
          (unfold RepliesFit Receive.accepted given_by in answered (brick_in s bytes) sound p.message (is_silent msg.kind) refl)
        where
          answered : (x : Brick) → Sound s x → message_refusal s.n s.m msg ≡ passed → (a : Bool) → is_silent msg.kind ≡ a
              → (i : Item) → i ∈ replied_with (cond a Silent (Answered (reply_to s b x msg))) (block_after x (place_for b x msg) out) → ItemFits s i
          answered x sound r true q i m = unfold replied_with in absurd (Memᴰ.not-nil m)
          answered x sound r false q i m =
              let e : i ≡ reply (reply_to s b x msg) (block_after x (place_for b x msg) out) = unfold replied_with in Memᴰ.eq_of_singleton m in
              subst (ItemFits s) (sym e) (reply_fits s b x sound msg out h low stripe r q)

      go : (a : Bool) → eqb (receive_refusal s b bytes msg (beside block old out)) passed ≡ a
          → RepliesFit
          (cond a (Receive.accepted s b msg block old bytes out (parse s b bytes)) (refused_with (receive_refusal s b bytes msg (beside block old out)) bytes out))
      go true e = acts (eqb-true (receive_refusal s b bytes msg (beside block old out)) passed e)
      go false e = refused_fits (receive_refusal s b bytes msg (beside block old out)) bytes out

  row_fits : (row block old out : List ℕ) → length out ≡ s.size → RepliesFit (row_outcome s b row msg block old out)
  unfolding row_outcome row_refusal RepliesFit in_row
  row_fits row block old out h = go (eqb (row_refusal s b row msg (beside block old out)) passed) refl
    where
      go : (a : Bool) → eqb (row_refusal s b row msg (beside block old out)) passed ≡ a
          → RepliesFit
          (cond a (in_row s msg.stripe row (outcome s b (image_at s msg.stripe row) msg block old out)) (refused_with (row_refusal s b row msg (beside block old out)) row out))
      go true e =
          let f = fronted s s.stripes b (length row) msg (beside block old out) (row_refusal s b row msg (beside block old out)) refl
          (eqb-true (row_refusal s b row msg (beside block old out)) passed e) in
          outcome_fits (image_at s msg.stripe row) block old out f.brick-low f.stripe-low h
      go false e = refused_fits (row_refusal s b row msg (beside block old out)) row out

-- ALL THAT WAS SENT IN A RUN
abbrev AllItemsFit : (s : Settings) → World → Type 0
AllItemsFit s w = (i : Item) → i ∈ w.sent → ItemFits s i

module _ (s : Settings) (range : SettingsRange s) (w : World) (known : AllKnown s w) (f : AllItemsFit s w) where
  more_fit : (new : List Item) → ((i : Item) → i ∈ new → ItemFits s i) → (i : Item) → i ∈ (w.sent ++ new) → ItemFits s i
  more_fit new g i m = go (Memᴰ.append_cases w.sent m)
    where
      go : (i ∈ w.sent) ⊎ (i ∈ new) → ItemFits s i
      go (inl p) = f i p
      go (inr p) = g i p

  coordinated_fit : (c : ℕ) (p : Step) → ((g : Went) → p ≡ went g → AllFit s g.sent) → AllItemsFit s (coordinated s w c p).world
  unfolding coordinated unmoved
  coordinated_fit c (refused number) h = f
  coordinated_fit c (went g) h = more_fit (broadcasts s g.sent) (broadcasts_fit s g.sent (h g refl))

  item_fits : (z : Item) → AllItemsFit s (arriving s w z).world
  unfolding arriving received unmoved RepliesFit
  item_fits (message b msg block old) =
      either (λ (m : Moved s). AllItemsFit s m.world) (w.up b) _ _
      (more_fit _ (row_fits s b msg (w.images b) block old (replicate s.size 0) (length-replicate s.size 0))) f
  item_fits (reply r block) =
      let c = coordinator_of r.time in
      coordinated_fit c _ (λ g e. take_fits s (w.coordinators c) r block (s.n * s.size) g (known c (omega arith)).good e)

  place_fits : (l : List Item) (k : ℕ) → AllItemsFit s (arriving_at s w l k).world
  unfolding arriving_at unmoved
  place_fits [] k = f
  place_fits (z ∷ l) zero = item_fits z
  place_fits (z ∷ l) (suc k) = place_fits l k

  stand_fits : (b : ℕ) (how : Bool) → AllItemsFit s (standing s w b how).world
  unfolding standing unmoved
  stand_fits b how = either (λ (m : Moved s). AllItemsFit s m.world) (ltb b s.n) _ _ f f

  step_fits : (e : Event) → AllItemsFit s (step s w e).world
  unfolding step unmoved
  step_fits (start_write c number reading content) =
      either (λ (m : Moved s). AllItemsFit s m.world) (are_bytes content) _ _ (coordinated_fit c _ (write_fits s range (w.coordinators c) number reading content)) f
  step_fits (start_read c number reading first) = coordinated_fit c _ (read_fits s range (w.coordinators c) number reading first)
  step_fits (start_write_block c number reading block content) =
      either (λ (m : Moved s). AllItemsFit s m.world) (are_bytes content) _ _
      (coordinated_fit c _ (write_block_fits s range (w.coordinators c) number reading block content)) f
  step_fits (start_read_block c number reading block) = coordinated_fit c _ (read_block_fits s range (w.coordinators c) number reading block)
  step_fits (arrives k) = place_fits w.sent k
  step_fits (crashes c left) =
      coordinated_fit c _
      (λ g e z m. absurd (Memᴰ.not-nil {a = z} (subst (λ (l : List Broadcast). z ∈ l) (crash_sends_none s (w.coordinators c) left g e) m)))
  step_fits (goes_down b) = stand_fits b false
  step_fits (comes_up b) = stand_fits b true

from_fits : (s : Settings) → SettingsRange s → (r : Moved s) → AllKnown s r.world → AllItemsFit s r.world → (events : List Event)
    → AllItemsFit s (run_from s r events).world
unfolding run_from next_moved
from_fits s range r known f [] = f
from_fits s range r known f (e ∷ events) =
    from_fits s range (next_moved s r e) (step_known s r.world known e) (step_fits s range r.world known f e) events

run_fits : (s : Settings) → in_range s ≡ true → (events : List Event) → AllItemsFit s (run s events).world
unfolding run run_from fresh_set unmoved
run_fits s e events =
    from_fits s (range_of s e) (unmoved s (fresh_set s)) (run_known s e []) (λ i m. absurd (Memᴰ.not-nil m)) events

-- NO MESSAGE IS REFUSED
open_passes : (s : Settings) (b : ℕ) (l : List ℕ) (x : Brick) → parse s b l ≡ Opens x → open_refusal s b l ≡ passed
unfolding parse
open_passes s b l x e = go (eqb (open_refusal s b l) 0) refl e
  where
    go : (a : Bool) → eqb (open_refusal s b l) 0 ≡ a → cond a (Opens (brick_in s l)) (Refuses (open_refusal s b l)) ≡ Opens x → open_refusal s b l ≡ passed
    go true q h = eqb-true (open_refusal s b l) 0 q
    go false q h = absurd (let z : ◌≡◌ {A = ℕ} 0 1 = cc in omega arith)

module _ (s : Settings) (b : ℕ) (row : List ℕ) (msg : Message) (block old out : List ℕ) (range : SettingsRange s) (f : MessageFits s b msg block old)
    (row-long : length row ≡ row_size s) (out-long : length out ≡ s.size) (x : Brick) (opens : parse s b (image_at s msg.stripe row) ≡ Opens x) where
  front_fits : (images lent : ℕ) → lent ≡ images * image_size s → Fronted s images b lent msg (beside block old out)
  front_fits images lent e =
      record {
        range = range;
        lent_is = e;
        block-is = f.block-long;
        old-is = f.old-long;
        out-is = out-long;
        brick-low = f.brick-low;
        stripe-low = f.stripe-low;
        block-low = f.block-low;
      }

  row_passes : row_refusal s b row msg (beside block old out) ≡ passed
  unfolding row_refusal row_size
  row_passes = front_zero s s.stripes b (length row) msg (beside block old out) (front_fits s.stripes (length row) row-long)

  image_passes : receive_refusal s b (image_at s msg.stripe row) msg (beside block old out) ≡ passed
  unfolding receive_refusal first_refusal
  image_passes =
      let l = image_at_length s msg.stripe row row-long f.stripe-low in
      rw (
        front_zero s 1 b (length (image_at s msg.stripe row)) msg (beside block old out) (front_fits 1 (length (image_at s msg.stripe row)) (omega (arith, l))),
        open_passes s b (image_at s msg.stripe row) x opens,
        f.right,
      )
      refl

  accepted_is : row_outcome s b row msg block old out
      ≡ in_row s msg.stripe row (Receive.accepted s b msg block old (image_at s msg.stripe row) out (Opens x))
  unfolding row_outcome outcome
  accepted_is =
      rw (
        eq-eqb (row_refusal s b row msg (beside block old out)) passed row_passes,
        eq-eqb (receive_refusal s b (image_at s msg.stripe row) msg (beside block old out)) passed image_passes,
        opens,
      )
      refl

  accepted_number : given_number (row_outcome s b row msg block old out).given ≡ passed
  unfolding in_row Receive.accepted given_by
  accepted_number = ap (λ (o : Outcome). given_number o.given) accepted_is ∙ go (is_silent msg.kind)
    where
      go : (a : Bool) → given_number (cond a Silent (Answered (reply_to s b x msg))) ≡ passed
      go true = unfold given_number in refl
      go false = unfold given_number in refl

  answered_by : is_silent msg.kind ≡ false
      → replied_with (row_outcome s b row msg block old out).given (row_outcome s b row msg block old out).out
      ≡ reply (reply_to s b x msg) (block_after x (place_for b x msg) out) ∷ []
  unfolding in_row Receive.accepted given_by replied_with
  answered_by e = ap (λ (o : Outcome). replied_with o.given o.out) accepted_is ∙ (rw e refl)

pub messages_accepted : MessagesAccepted
messages_accepted s e events b msg block old m =
    let f = run_fits s e events (message b msg block old) m in
    let o = images_open s e events msg.stripe b f.stripe-low f.brick-low in
    accepted_number s b ((run s events).world.images b) msg block old (replicate s.size 0) (range_of s e) f (rows_long s e events b f.brick-low)
    (length-replicate s.size 0) o.0 o.1

pub messages_answered : MessagesAnswered
unfolding arriving received
messages_answered s e events b msg block old m up quiet =
    let f = run_fits s e events (message b msg block old) m in
    let o = images_open s e events msg.stripe b f.stripe-low f.brick-low in (
      reply_to s b o.0 msg,
      block_after o.0 (place_for b o.0 msg) (replicate s.size 0),
      rw up
          (ap (λ (l : List Item). (run s events).world.sent ++ l)
          (answered_by s b ((run s events).world.images b) msg block old (replicate s.size 0) (range_of s e) f (rows_long s e events b f.brick-low)
          (length-replicate s.size 0) o.0 o.1 quiet)),
    )

-- A REPLY IS REFUSED ONLY AS STRAY
checked_number : (c : Coordinator) (k : ℕ) (g : Went) → (answer_of c (after_checks k (went g))).refusal ≡ k
unfolding after_checks answer_of
checked_number c k g = go (leb k 0) refl
  where
    go : (a : Bool) → leb k 0 ≡ a → (answer_of c (cond a (went g) (refused k))).refusal ≡ k
    go true e = let l = leb-true k 0 e in omega (arith, l)
    go false e = refl

taken_number : (s : Settings) → in_range s ≡ true → (c : ℕ) → c ≤ last_coordinator → (k : Buffered) → Known s c k → (r : Reply) (block : List ℕ) → ReplyFits s r block
    → take_refusal s.n s.m s.size s.stripes k.state r (length block) (length k.blocks) (length k.stripe) (s.n * s.size)
    ≡ refuse_unless (answers s.n s.m k.state.op k.state.tally r) stray_reply
unfolding take_refusal stray_checks stripe_checks stripe_refusal lengths_right first_refusal
taken_number s e c l k h r block f =
    let n = h.number in
    rw (
      code_accepted s e,
      stripes_accepted s e,
      eq-eqb (length k.blocks) (s.n * s.size) h.long.0,
      eq-eqb (length k.stripe) (s.m * s.size) h.long.1,
      eq-eqb (s.n * s.size) (s.n * s.size) refl,
      held r.held,
      lt-ltb r.brick s.n f.brick-low,
      le-leb k.state.clock.coordinator last_coordinator (omega (arith, n, l)),
      lt-ltb r.stripe s.stripes f.stripe-low,
      good_sound s.n s.m s.size s.stripes k.state h.good,
      sym (reply_passed s.n r true f.brick-low (sym f.right) refl),
    )
    (go (answers s.n s.m k.state.op k.state.tally r))
  where
    held : (a : Bool) → not a || eqb (length block) s.size ≡ true
    held true = eq-eqb (length block) s.size f.block-long
    held false = refl

    go : (a : Bool) → first_refusal (refuse_unless a stray_reply ∷ []) ≡ refuse_unless a stray_reply
    go true = refl
    go false = refl

pub replies_only_stray : RepliesOnlyStray
unfolding item_number take_step
replies_only_stray s e events r block m =
    let c = coordinator_of r.time in
    let l : c ≤ last_coordinator = omega arith in
    checked_number _ _ _
    ∙ taken_number s e c l ((run s events).world.coordinators c) (run_known s e events c l) r block (run_fits s e events (reply r block) m)

-- The ways of a carried message, with what the callees gave as variables.
use mathlib.Core.Path.{◌≡◌, refl, sym, ap, ap₂, subst, ◌∙◌}
use mathlib.Core.Bool.{Bool, true, false}
use mathlib.Core.List.{List, [], ◌++◌, append-nil}
use Prim.Native.Nat.{ℕ, ◌+◌, ◌-◌, ◌*◌, ◌≤◌, ◌<◌}
use native.Mathlib.Omega.{arith}
use lib.ListN.{length, get_or, take, drop, replicate, length-drop}
use lib.Seq.{length-take-le}
use borrow.Author.Tests.{eq-eqb, ne_eqb, lt-ltb, le-ltb}
use borrow.Rule.Slice.PartMut.{put_mid, put_same}
use Rattle.settings.specs.declared.Settings.{Settings}
use Rattle.message.specs.declared.Message.{Message}
use Rattle.message.specs.declared.Reply.{Reply}
use Rattle.image.specs.Image.{image_size}
use Rattle.brick.specs.Receive.{Outcome, outcome_with, receive_refusal}
use Rattle.volume.specs.Rows.{row_size, row_outcome}
use Rattle.brick.proofs.Laws.OutcomeLaws.{outcome_given, outcome_image, outcome_out}
use Rattle.brick.specs.Receive.{Given}
use Rattle.brick.specs.Receive.{Answered, Silent, Refused}
use Rattle.coord_apply.specs.Answers.{Buffered}
use Rattle.register.specs.Runs.{Item, World, Moved, message, arrives, arriving, received, replied_with, put_at, step}
use Rattle.byte_lists.specs.Lists.{put}
use Rattle.byte_lists.proofs.Laws.PutLaws.{put_mid_lem}
use Rattle.std.proofs.lemmas.List.{get_or_default}
use Rattle.bench_state.specs.State.{images_of, up_of, coordinator_kept, world_of}
use Rattle.bench_state.proofs.Laws.BenchRangeLaws.{row_of_one}
use Rattle.bench_state.proofs.Laws.StateLaws.{image_put}
use Rattle.bench_state.specs.declared.Bench.{Bench}
use Rattle.bench_sent.specs.Sent.{is_reply, number_at, message_at, sent_block_at, old_block_at, item_at, items_of}
use Rattle.bench_sent.proofs.Laws.SentRowLaws.{item_message, block_cut, old_cut}
use Rattle.bench_sent.proofs.Laws.SentItemLaws.{items_length, arrives_item}
use Rattle.bench_print.specs.Printing.{printed_into}
use Rattle.bench_rules.specs.Play.{Played, carries, reaches, delivered, happens, refuses, passes}
use Rattle.bench_rules.specs.Turning.{Lent, lent, world_in}
use Rattle.bench_rules.specs.Workers.{Turned}
use Rattle.bench_rules.proofs.Laws.TurningLaws.{turned_nothing, one_event}
use Rattle.bench_rules.specs.declared.After.{After}
use Rattle.bench_carry_message.proofs.Laws.ReplyKeptLaws.{refusal_keeps, room, room_answered}
use Rattle.bench_carry_message.proofs.Laws.PastLimitLaws.{answer_sent, silence, refusal, past_the_limit}
use Rattle.bench_carry_message.specs.Workers.{Lends, Reaching, Settled, may_send, image_in, of_the_size, past_limit, sent_after_message, told_of}
use Rattle.bench_limits.specs.Limits.{last_message, up_flag, image_room, row_bytes, block_place, old_block_place}
use Rattle.image_block.specs.Block.{block_bytes}
use Rattle.settings.specs.Refusal.{bad_number}

-- the ways of `carries` for a message
module _ (s : Settings) (w : World) (k brick : ℕ) (msg : Message) (block old : List ℕ) where
  no_brick : s.n ≤ brick → carries s w k (message brick msg block old) ≡ refuses w bad_number
  unfolding carries
  no_brick h = rw (le-ltb brick s.n h) refl

  down : brick < s.n → w.up brick ≡ false → carries s w k (message brick msg block old) ≡ passes w
  unfolding carries
  down h u = rw (lt-ltb brick s.n h, u) refl

  many : brick < s.n → w.up brick ≡ true → may_send msg.kind (length w.sent) ≡ false → s.stripes ≡ 1 → length block ≡ s.size → length old ≡ s.size
      → carries s w k (message brick msg block old) ≡ refuses w (past_limit (receive_refusal s brick (w.images brick) msg (of_the_size s)))
  unfolding carries reaches
  many h u m one eb eo = rw (lt-ltb brick s.n h, u) (past_the_limit s w k brick (w.images brick) msg block old one eb eo m)

  reached : brick < s.n → w.up brick ≡ true
      → carries s w k (message brick msg block old) ≡ delivered s w k (row_outcome s brick (w.images brick) msg block old (replicate s.size 0)).given
  unfolding carries reaches
  reached h u = rw (lt-ltb brick s.n h, u) refl

  -- the event itself
  arriving_up : w.up brick ≡ true
      → arriving s w (message brick msg block old) ≡ received s w brick (row_outcome s brick (w.images brick) msg block old (replicate s.size 0))
  unfolding arriving
  arriving_up u = rw u refl

-- the fields of the world that the buffers stand for
module _ (b : Bench) (images kept numbers bytes : List ℕ) where
  sent_length : length (world_in b (lent images kept numbers bytes)).sent ≡ b.sent
  unfolding world_in world_of
  sent_length = items_length b.settings.size numbers bytes b.sent

  world_up : (brick : ℕ) (t : Bool) → up_of b.up brick ≡ t → (world_in b (lent images kept numbers bytes)).up brick ≡ t
  unfolding world_in world_of
  world_up brick t e = e

  world_image : (brick : ℕ) → brick < b.settings.n
      → (world_in b (lent images kept numbers bytes)).images brick ≡ take (row_size b.settings) (drop (brick * image_room) images)
  unfolding world_in world_of images_of
  world_image brick h = rw (lt-ltb brick b.settings.n h) refl

  -- an arrival is that of the row's item
  world_arrives : (k : ℕ) → k < b.sent
      → step b.settings (world_in b (lent images kept numbers bytes)) (arrives k)
      ≡ arriving b.settings (world_in b (lent images kept numbers bytes)) (item_at b.settings.size numbers bytes k)
  unfolding world_in world_of step
  world_arrives k h = arrives_item b.settings (world_in b (lent images kept numbers bytes)) b.settings.size numbers bytes b.sent k h

-- a world by its fields
abbrev make : (ℕ → List ℕ) → (ℕ → Bool) → (ℕ → Buffered) → List Item → World
make f g h i = record { images = f; up = g; coordinators = h; sent = i }

-- the world after another image and more items, with the same flags and coordinators
world_with : (b : Bench) (images kept numbers bytes images' image : List ℕ) (brick : ℕ) (more : List Item)
    → images_of b.settings images' ≡ put_at (images_of b.settings images) brick image
    → world_of b images' kept (items_of b.settings.size numbers bytes b.sent ++ more)
    ≡ make (put_at (world_in b (lent images kept numbers bytes)).images brick image) (world_in b (lent images kept numbers bytes)).up
    (world_in b (lent images kept numbers bytes)).coordinators ((world_in b (lent images kept numbers bytes)).sent ++ more)
unfolding world_in world_of
world_with b images kept numbers bytes images' image brick more e =
    ap (λ (g : ℕ → List ℕ). make g (up_of b.up) (coordinator_kept b.settings b.coordinators kept) (items_of b.settings.size numbers bytes b.sent ++ more)) e

world_same : (b : Bench) (images kept numbers bytes images' : List ℕ) → images' ≡ images
    → world_of b images' kept (items_of b.settings.size numbers bytes b.sent ++ []) ≡ world_in b (lent images kept numbers bytes)
unfolding world_in
world_same b images kept numbers bytes images' e =
    ap₂ (λ (g : List ℕ) (i : List Item). world_of b g kept i) e (append-nil (items_of b.settings.size numbers bytes b.sent))

-- a message that its brick received
module _ (b : Bench) (k brick : ℕ) (msg : Message) (images numbers bytes : List ℕ) (l : Lends b images numbers bytes) (q : Reaching b numbers bytes k brick msg) where
  abbrev pub s : Settings
  s = b.settings

  abbrev pub image : List ℕ
  image = take (row_size s) (drop (brick * image_room) images)

  abbrev pub o : Outcome
  o = row_outcome s brick image msg (sent_block_at s.size bytes k) (old_block_at s.size bytes k) (replicate s.size 0)

  image_long : length image ≡ row_size s
  image_long =
      length-take-le (row_size s) (drop (brick * image_room) images)
      (let d = length-drop (brick * image_room) images in
      let a = l.fits.small.bricks in
      let c = l.fits.small.row_fits in
      let t = q.there in
      let n = l.images-long in
      omega (arith, c, n))

  module _ (kept : List ℕ) where
    abbrev pub w : World
    w = world_in b (lent images kept numbers bytes)

    outcome_at : row_outcome s brick (w.images brick) msg (sent_block_at s.size bytes k) (old_block_at s.size bytes k) (replicate s.size 0) ≡ o
    outcome_at =
        ap (λ (i : List ℕ). row_outcome s brick i msg (sent_block_at s.size bytes k) (old_block_at s.size bytes k) (replicate s.size 0))
        (world_image b images kept numbers bytes brick q.there)

    arrives_is : step s w (arrives k) ≡ received s w brick o
    arrives_is =
        world_arrives b images kept numbers bytes k q.sent-before
        ∙ ap (arriving s w) q.item-is
        ∙ arriving_up s w k brick msg (sent_block_at s.size bytes k) (old_block_at s.size bytes k) (world_up b images kept numbers bytes brick true q.is_up)
        ∙ ap (received s w brick) outcome_at

    carries_is : carries s w k (item_at s.size numbers bytes k) ≡ delivered s w k o.given
    carries_is =
        ap (carries s w k) q.item-is
        ∙ reached s w k brick msg (sent_block_at s.size bytes k) (old_block_at s.size bytes k) q.there (world_up b images kept numbers bytes brick true q.is_up)
        ∙ ap (λ (v : Outcome). delivered s w k v.given) outcome_at

    module _ (new block numbers' bytes' : List ℕ) (at : ℕ) (out out' : List ℕ) (r : After) (ei : new ≡ o.image) (eo : block ≡ o.out) (long : length new ≡ row_size s) where
      images_put : images_of s (put (brick * image_room) new images) ≡ put_at (images_of s images) brick o.image
      images_put =
          image_put s l.fits.small images new brick q.there long l.images-long
          ∙ ap (put_at (images_of s images) brick) ei

      -- an answer or silence: the event happens
      happened : (g : Given) → g ≡ o.given → told_of g ≡ [] → Settled b g block numbers bytes at out r numbers' bytes' out'
          → Turned b (lent images kept numbers bytes) at out (happens s w (arrives k) []) r (lent (put (brick * image_room) new images) kept numbers' bytes') out'
      unfolding happens received
      happened g e t d =
          record {
            world_is =
                d.world_is (put (brick * image_room) new images) kept
                ∙ ap₂ (λ (v : Given) (x : List ℕ). world_of b (put (brick * image_room) new images) kept (items_of s.size numbers bytes b.sent ++ replied_with v x)) e eo
                ∙ world_with b images kept numbers bytes (put (brick * image_room) new images) o.image brick (replied_with o.given o.out) images_put
                ∙ sym (ap (λ (m : Moved s). m.world) arrives_is);
            settings-kept = d.settings-kept;
            few = d.few;
            text-is = subst (λ (x : List ℕ). out' ≡ printed_into at x out) t d.text-is;
            used-is = subst (λ (x : List ℕ). r.used ≡ at + length x) t d.used-is;
            short = d.short;
            no-event-keeps = λ z. absurd (one_event (arrives k) z);
          }

      -- a refusal: the image kept its bytes
      refused_there : (n : ℕ) → Refused n ≡ o.given → Settled b (Refused n) block numbers bytes at out r numbers' bytes' out'
          → Turned b (lent images kept numbers bytes) at out (refuses w n) r (lent (put (brick * image_room) new images) kept numbers' bytes') out'
      unfolding refuses replied_with told_of
      refused_there n e d =
          record {
            world_is =
                d.world_is (put (brick * image_room) new images) kept
                ∙ world_same b images kept numbers bytes (put (brick * image_room) new images) back;
            settings-kept = d.settings-kept;
            few = d.few;
            text-is = d.text-is;
            used-is = d.used-is;
            short = d.short;
            no-event-keeps = λ z. (let u = d.no-reply-keeps refl in (u.0, all-lent back u.1 u.2));
          }
        where
          all-lent : {i n' b' : List ℕ} → i ≡ images → n' ≡ numbers → b' ≡ bytes → lent i kept n' b' ≡ lent images kept numbers bytes
          all-lent p x y = cc

          same : new ≡ image
          same = ei ∙ refusal_keeps s brick image msg (sent_block_at s.size bytes k) (old_block_at s.size bytes k) (replicate s.size 0) n (sym e)

          back : put (brick * image_room) new images ≡ images
          back =
              ap (λ (x : List ℕ). put (brick * image_room) x images) same
              ∙ sym (put_mid_lem (brick * image_room) (brick * image_room + row_size s) images image (omega arith) (image_long ∙ (omega arith)))
              ∙ ap (λ (j : ℕ). put_mid (brick * image_room) j images image) (let z : brick * image_room + row_size s - brick * image_room ≡ row_size s = omega arith in z)
              ∙ put_same (brick * image_room) (row_size s) images

      delivered_by : (g : Given) → g ≡ o.given → Settled b g block numbers bytes at out r numbers' bytes' out'
          → Turned b (lent images kept numbers bytes) at out (carries s w k (item_at s.size numbers bytes k)) r (lent (put (brick * image_room) new images) kept numbers' bytes') out'
      unfolding told_of
      delivered_by g e d =
          subst (λ (p : Played). Turned b (lent images kept numbers bytes) at out p r (lent (put (brick * image_room) new images) kept numbers' bytes') out')
          (ap (delivered s w k) e ∙ sym carries_is)
          (by g e d)
        where
          has_room : (a : Reply) → Answered a ≡ o.given → length w.sent < last_message
          has_room a e =
              let h = room_answered b.sent (Answered a) a refl
              (room s brick image msg (sent_block_at s.size bytes k) (old_block_at s.size bytes k) (replicate s.size 0) b.sent (Answered a) l.few q.may-send e) in
              omega (arith, h, sent_length b images kept numbers bytes)

          by : (g : Given) → g ≡ o.given → Settled b g block numbers bytes at out r numbers' bytes' out'
              → Turned b (lent images kept numbers bytes) at out (delivered s w k g) r (lent (put (brick * image_room) new images) kept numbers' bytes') out'
          by (Answered a) e d =
              subst (λ (p : Played). Turned b (lent images kept numbers bytes) at out p r (lent (put (brick * image_room) new images) kept numbers' bytes') out')
              (sym (answer_sent s w k a (has_room a e))) (happened (Answered a) e refl d)
          by Silent e d =
              subst (λ (p : Played). Turned b (lent images kept numbers bytes) at out p r (lent (put (brick * image_room) new images) kept numbers' bytes') out')
              (sym (silence s w k)) (happened Silent e refl d)
          by (Refused n) e d =
              subst (λ (p : Played). Turned b (lent images kept numbers bytes) at out p r (lent (put (brick * image_room) new images) kept numbers' bytes') out')
              (sym (refusal s w k n)) (refused_there n e d)

  -- the parts as the code cuts them
  abbrev pub code_image : List ℕ
  code_image = take (brick * image_room + block_bytes * (s.capacity + 1) - brick * image_room) (drop (brick * image_room) images)

  abbrev pub code_block : List ℕ
  code_block = take (k * row_bytes + block_place + s.size - (k * row_bytes + block_place)) (drop (k * row_bytes + block_place) bytes)

  abbrev pub code_old : List ℕ
  code_old = take (k * row_bytes + old_block_place + s.size - (k * row_bytes + old_block_place)) (drop (k * row_bytes + old_block_place) bytes)

  code_outcome : (zeros : List ℕ) → zeros ≡ replicate s.size 0 → row_outcome s brick code_image msg code_block code_old zeros ≡ o
  unfolding image_size
  code_outcome zeros ez =
      ap (λ (j : ℕ). row_outcome s brick (take j (drop (brick * image_room) images)) msg code_block code_old zeros) cut
      ∙ ap (λ (x : List ℕ). row_outcome s brick image msg x code_old zeros) (block_cut s.size k (k * row_bytes + block_place) (k * row_bytes + block_place + s.size) bytes refl refl)
      ∙ ap (λ (x : List ℕ). row_outcome s brick image msg (sent_block_at s.size bytes k) x zeros)
      (old_cut s.size k (k * row_bytes + old_block_place) (k * row_bytes + old_block_place + s.size) bytes refl refl)
      ∙ ap (row_outcome s brick image msg (sent_block_at s.size bytes k) (old_block_at s.size bytes k)) ez
    where
      cut : brick * image_room + block_bytes * (s.capacity + 1) - brick * image_room ≡ row_size s
      cut = omega (arith, row_of_one s l.fits.small.one-stripe)

  -- what the brick gave and left, settled
  pub deliver_settled : (new block zeros numbers' bytes' : List ℕ) (at : ℕ) (out out' : List ℕ) (r : After) (g : Given) → zeros ≡ replicate s.size 0
      → outcome_with g new block ≡ row_outcome s brick code_image msg code_block code_old zeros → length new ≡ length code_image
      → Settled b g block numbers bytes at out r numbers' bytes' out'
      → (kept : List ℕ) → Turned b (lent images kept numbers bytes) at out (carries s (world_in b (lent images kept numbers bytes)) k (item_at s.size numbers bytes k)) r
      (lent (put_mid (brick * image_room) (brick * image_room + block_bytes * (s.capacity + 1) - brick * image_room) images new) kept numbers' bytes') out'
  unfolding image_size
  deliver_settled new block zeros numbers' bytes' at out out' r g ez eg long d kept =
      let e : outcome_with g new block ≡ o = eg ∙ code_outcome zeros ez in
      subst (λ (i : List ℕ). Turned b (lent images kept numbers bytes) at out (carries s w' k (item_at s.size numbers bytes k)) r (lent i kept numbers' bytes') out')
      (sym (put_mid_lem (brick * image_room) (brick * image_room + block_bytes * (s.capacity + 1)) images new (omega arith) (size ∙ sym cut)))
      (delivered_by kept new block numbers' bytes' at out out' r (outcome_image g new block o e) (outcome_out g new block o e) size g (outcome_given g new block o e) d)
    where
      w' : World
      w' = world_in b (lent images kept numbers bytes)

      cut : brick * image_room + block_bytes * (s.capacity + 1) - brick * image_room ≡ row_size s
      cut = omega (arith, row_of_one s l.fits.small.one-stripe)

      size : length new ≡ row_size s
      size = long ∙ ap (λ (j : ℕ). length (take j (drop (brick * image_room) images))) cut ∙ image_long

  -- the limit holds after it, whatever was lent with the message
  pub deliver_room : (row given old zeros : List ℕ) (g : Given) (new block : List ℕ) → outcome_with g new block ≡ row_outcome s brick row msg given old zeros
      → sent_after_message b.sent g ≤ last_message
  deliver_room row given old zeros g new block e =
      room s brick row msg given old zeros b.sent g l.few q.may-send (outcome_given g new block (row_outcome s brick row msg given old zeros) e)

-- the blocks of a sent row have the block size
module _ (b : Bench) (k : ℕ) (images numbers bytes : List ℕ) (l : Lends b images numbers bytes) (i : k < b.sent) where
  sent_block_long : length (sent_block_at b.settings.size bytes k) ≡ b.settings.size
  unfolding sent_block_at
  sent_block_long =
      length-take-le b.settings.size (drop (k * row_bytes + block_place) bytes)
      (let d = length-drop (k * row_bytes + block_place) bytes in omega (arith, d, i, l.few, l.bytes-long, l.fits.size_fits))

  old_block_long : length (old_block_at b.settings.size bytes k) ≡ b.settings.size
  unfolding old_block_at
  old_block_long =
      length-take-le b.settings.size (drop (k * row_bytes + old_block_place) bytes)
      (let d = length-drop (k * row_bytes + old_block_place) bytes in omega (arith, d, i, l.few, l.bytes-long, l.fits.size_fits))

-- the ways in which it does not come to that
module _ (b : Bench) (k brick : ℕ) (images numbers bytes : List ℕ) (m : is_reply numbers k ≡ false) (eb : brick ≡ number_at numbers k 1) where
  pub item_here : (msg : Message) → msg ≡ message_at numbers bytes k
      → item_at b.settings.size numbers bytes k ≡ message brick msg (sent_block_at b.settings.size bytes k) (old_block_at b.settings.size bytes k)
  item_here msg em = item_message b.settings.size k brick msg (sent_block_at b.settings.size bytes k) (old_block_at b.settings.size bytes k) numbers bytes m eb em refl refl

  module _ (kept : List ℕ) (at : ℕ) (out out' : List ℕ) (r : After) where
    abbrev pub Carried : Type 0
    Carried =
        Turned b (lent images kept numbers bytes) at out (carries b.settings (world_in b (lent images kept numbers bytes)) k (item_at b.settings.size numbers bytes k)) r
        (lent images kept numbers bytes) out'

    by_way : (p : Played) → carries b.settings (world_in b (lent images kept numbers bytes)) k (item_at b.settings.size numbers bytes k) ≡ p
        → Turned b (lent images kept numbers bytes) at out p r (lent images kept numbers bytes) out' → Carried
    by_way p e t = subst (λ (x : Played). Turned b (lent images kept numbers bytes) at out x r (lent images kept numbers bytes) out') (sym e) t

    pub carried_nowhere : b.settings.n ≤ brick → ((l : Lent) → Turned b l at out (refuses (world_in b l) bad_number) r l out') → Carried
    carried_nowhere h t =
        by_way (refuses (world_in b (lent images kept numbers bytes)) bad_number)
        (ap (carries b.settings (world_in b (lent images kept numbers bytes)) k) (item_here (message_at numbers bytes k) refl)
        ∙ no_brick b.settings (world_in b (lent images kept numbers bytes)) k brick (message_at numbers bytes k) (sent_block_at b.settings.size bytes k) (old_block_at b.settings.size bytes k) h)
        (t (lent images kept numbers bytes))

    pub carried_past : (msg : Message) (number : ℕ) → msg ≡ message_at numbers bytes k → Lends b images numbers bytes → k < b.sent → brick < b.settings.n
        → up_of b.up brick ≡ true → may_send msg.kind b.sent ≡ false
        → number ≡ past_limit (receive_refusal b.settings brick (image_in b.settings brick images) msg (of_the_size b.settings))
        → ((l : Lent) → Turned b l at out (refuses (world_in b l) number) r l out') → Carried
    unfolding image_in
    carried_past msg number em l i h u c e t =
        by_way (refuses (world_in b (lent images kept numbers bytes)) number)
        (ap (carries b.settings (world_in b (lent images kept numbers bytes)) k) (item_here msg em)
        ∙ many b.settings (world_in b (lent images kept numbers bytes)) k brick msg (sent_block_at b.settings.size bytes k) (old_block_at b.settings.size bytes k) h
        (world_up b images kept numbers bytes brick true u) (ap (may_send msg.kind) (sent_length b images kept numbers bytes) ∙ c) l.fits.small.one-stripe
        (sent_block_long b k images numbers bytes l i) (old_block_long b k images numbers bytes l i)
        ∙ ap (λ (x : List ℕ). refuses (world_in b (lent images kept numbers bytes)) (past_limit (receive_refusal b.settings brick x msg (of_the_size b.settings))))
        (world_image b images kept numbers bytes brick h)
        ∙ ap (refuses (world_in b (lent images kept numbers bytes))) (sym e))
        (t (lent images kept numbers bytes))

  pub carried_lost : (kept : List ℕ) (at : ℕ) (out : List ℕ) → brick < b.settings.n → up_of b.up brick ≡ false → b.sent ≤ last_message
      → Carried kept at out out (record { bench = b; used = at })
  carried_lost kept at out h u f =
      by_way kept at out out (record { bench = b; used = at }) (passes (world_in b (lent images kept numbers bytes)))
      (ap (carries b.settings (world_in b (lent images kept numbers bytes)) k) (item_here (message_at numbers bytes k) refl)
      ∙ down b.settings (world_in b (lent images kept numbers bytes)) k brick (message_at numbers bytes k) (sent_block_at b.settings.size bytes k) (old_block_at b.settings.size bytes k) h
      (world_up b images kept numbers bytes brick false u))
      (turned_nothing b (lent images kept numbers bytes) at out f)

-- a brick's flag as the code reads it
pub flag_up : (up : List ℕ) (brick d : ℕ) → brick < length up → get_or up brick d ≡ up_flag → up_of up brick ≡ true
unfolding up_of
flag_up up brick d h e = eq-eqb (get_or up brick up_flag) up_flag (get_or_default up brick up_flag d h ∙ e)

pub flag_down : (up : List ℕ) (brick d : ℕ) → brick < length up → (get_or up brick d ≡ up_flag → ⊥) → up_of up brick ≡ false
unfolding up_of
flag_down up brick d h e = ne_eqb (get_or up brick up_flag) up_flag (λ q. e (get_or_default up brick d up_flag h ∙ q))

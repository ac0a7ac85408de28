-- A message reaches its brick: what holds of its stripe goes on to hold.
use mathlib.Core.Path.{◌≡◌, refl, sym, ap, subst, ◌∙◌}
use mathlib.Core.Logic.{◌⊎◌, inl, inr}
use mathlib.Core.Bool.{Bool, true, false, cond, true≢false, ◌||◌}
use mathlib.Core.List.Memᴰ
use mathlib.Core.List.{List, ◌∷◌, ◌++◌}
use Prim.Native.Nat.{ℕ, ◌<◌}
use native.Mathlib.Omega.{arith}
use lib.Dec.{eqb}
use lib.ListN.{length, replicate}
use borrow.Author.Tests.{eqb-true, eqb-false, eq-eqb, ne_eqb}
use Rattle.message.specs.Kinds.{write_kind, modify_kind}
use Rattle.message.specs.Messages.{is_silent, stores_entry}
use Rattle.message.proofs.Laws.MessageLaws.{not_silent}
use Rattle.settings.proofs.Laws.RangeLaws.{in_range_lem}
use Rattle.settings.specs.Ranges.{SettingsRange}
use Rattle.settings.specs.Refusal.{first_refusal, passed}
use Rattle.settings.specs.declared.Settings.{Settings}
use Rattle.settings.proofs.Laws.RefusalLaws.{passed_first, passed_rest}
use Rattle.message.specs.declared.Message.{Message}
use Rattle.image.specs.Brick.{Brick}
use Rattle.image.specs.Parse.{Parsed, Opens, parse}
use Rattle.image.proofs.Laws.ParseLaws.{parse_image}
use Rattle.brick.specs.Receive
use Rattle.brick.specs.Receive.{Outcome, beside, outcome, receive_refusal, refused_with, given_by}
use Rattle.brick.proofs.Laws.OutcomeLaws.{passes}
use Rattle.image.specs.Image.{image_size}
use Rattle.image.proofs.Laws.ImageSoundLaws.{image_length}
use Rattle.brick_log.specs.BrickRules.{place_for, reply_to, brick_after, block_after}
use Rattle.brick.specs.Receive.{Given}
use Rattle.brick.specs.Receive.{Answered, Silent, Refused}
use Rattle.order.specs.Claim.{◌∈◌}
use Rattle.order.specs.Facts.{stored}
use Rattle.order.specs.Places.{whole, In}
use Rattle.register.specs.Runs.{Item, message, put_at, replied_with}
use Rattle.register.proofs.Laws.Invariant.{Hist, ItemInv, ImageInv, View, ViewInv, ToldStored}
use Rattle.register.proofs.Laws.UpLaws.{within_more, item_up, told_sent, coordinator_sent}
use Rattle.register.proofs.Laws.BrickLogLaws.{Grows, grows_not}
use Rattle.register.proofs.Laws.ReceiveLaws.{sensible, Stores, Received, any_received}
use Rattle.register.proofs.Laws.Invariant.{Goes}

-- a function with another value at one place
pub put_here : {A : Type 0} (f : ℕ → A) (k : ℕ) (a : A) → put_at f k a k ≡ a
unfolding put_at
put_here f k a = rw (eq-eqb k k refl) refl

pub put_there : {A : Type 0} (f : ℕ → A) (k : ℕ) (a : A) (j : ℕ) → (j ≡ k → ⊥) → put_at f k a j ≡ f j
unfolding put_at
put_there f k a j n = rw (ne_eqb j k n) refl

-- what holds of both holds of the one that a test picks
pub either : {A : Type 0} (P : A → Type 0) (a : Bool) (x y : A) → P x → P y → P (cond a x y)
either P true x y p q = p
either P false x y p q = q

-- a chain of checks that none refuses
pub first_passed : (k : ℕ) (l : List ℕ) → first_refusal (k ∷ l) ≡ passed → (k ≡ passed) × (first_refusal l ≡ passed)
first_passed k l e = (passed_first k l e, passed_rest k l e)

-- a reply is no message
pub no_message_lem : (given : Given) (out : List ℕ) (b : ℕ) (msg : Message) (block old : List ℕ) → message b msg block old ∈ replied_with given out → ⊥
unfolding replied_with
no_message_lem (Answered r) out b msg block old m = let e = Memᴰ.eq_of_singleton m in let z : ◌≡◌ {A = ℕ} 0 1 = cc in omega arith
no_message_lem Silent out b msg block old m = Memᴰ.not-nil m
no_message_lem (Refused k) out b msg block old m = Memᴰ.not-nil m

-- Write and Modify alone store an entry
pub stores_which : (kind : ℕ) → stores_entry kind ≡ true → (kind ≡ write_kind) ⊎ (kind ≡ modify_kind)
unfolding stores_entry
stores_which kind e = go (eqb kind write_kind) refl e
  where
    go : (a : Bool) → eqb kind write_kind ≡ a → a || eqb kind modify_kind ≡ true → (kind ≡ write_kind) ⊎ (kind ≡ modify_kind)
    go true q w = inl (eqb-true kind write_kind q)
    go false q w = inr (eqb-true kind modify_kind w)

-- and both have a reply
stores_replied : (kind : ℕ) → stores_entry kind ≡ true → is_silent kind ≡ false
stores_replied kind e = go (stores_which kind e)
  where
    go : (kind ≡ write_kind) ⊎ (kind ≡ modify_kind) → is_silent kind ≡ false
    go (inl q) = not_silent kind (omega arith)
    go (inr q) = not_silent kind (omega arith)

-- a view in which brick b has another image, and replies went out
abbrev pub brick_view : (s : Settings) → View s → ℕ → (image : List ℕ) → (replies : List Item) → View s
brick_view s v b image replies = record { images = put_at v.images b image; coordinators = v.coordinators; sent = v.sent ++ replies; seen = v.seen }

module _ (s : Settings) (g : SettingsRange s) (h : Hist s) (v : View s) (i : ViewInv s g h v) where
  -- brick b moves on, and a reply goes out or none
  pub brick_moved : (b : ℕ) (o : Outcome) (h' : Hist s) → Grows s g b h h' → ImageInv s g h' b o.image
      → ((k : Item) → k ∈ replied_with o.given o.out → ItemInv s g h' (v.sent ++ replied_with o.given o.out) k)
      → ((b' t : ℕ) → In (stored b' t) h' → In (stored b' t) h ⊎ ToldStored (v.sent ++ replied_with o.given o.out) b' t)
      → ViewInv s g h' (brick_view s v b o.image (replied_with o.given o.out))
  brick_moved b o h' gr image new more =
      record {
        valid = gr.valid;
        seen-is = gr.same_seen ∙ i.seen-is;
        bricks = λ b' l. at b' l (eqb b' b) refl;
        items = λ k m. item k (Memᴰ.append_cases v.sent m);
        coordinators = λ c.
            coordinator_sent (within_more v.sent replies) (λ b' msg block old m e t. quiet b' msg block old (Memᴰ.append_cases v.sent m))
            (gr.coordinators v.sent c (v.coordinators c) (i.coordinators c));
        told = λ b' t m. tell b' t (more b' t m);
      }
    where
      tell : (b' t : ℕ) → In (stored b' t) h ⊎ ToldStored (v.sent ++ replied_with o.given o.out) b' t
          → ToldStored (v.sent ++ replied_with o.given o.out) b' t
      tell b' t (inl m) = told_sent (within_more v.sent (replied_with o.given o.out)) (i.told b' t m)
      tell b' t (inr m) = m

      replies : List Item
      replies = replied_with o.given o.out

      at : (b' : ℕ) → b' < s.n → (a : Bool) → eqb b' b ≡ a → ImageInv s g h' b' (put_at v.images b o.image b')
      at b' l true e =
          let q = eqb-true b' b e in
          subst (λ (z : ℕ). ImageInv s g h' z (put_at v.images b o.image z)) (sym q)
          (subst (ImageInv s g h' b) (sym (put_here v.images b o.image)) image)
      at b' l false e =
          let n = eqb-false b' b e in
          let w = i.bricks b' l in
          subst (ImageInv s g h' b') (sym (put_there v.images b o.image b' n))
          (record { state = w.state; saved = w.saved; sound = w.sound; keeps = gr.others b' n w.state w.keeps })

      item : (k : Item) → (k ∈ v.sent) ⊎ (k ∈ replies) → ItemInv s g h' (v.sent ++ replies) k
      item k (inl m) = item_up s g gr.valid gr.longer (within_more v.sent replies) k (i.items k m)
      item k (inr m) = new k m

      quiet : (b' : ℕ) (msg : Message) (block old : List ℕ) → (message b' msg block old ∈ v.sent) ⊎ (message b' msg block old ∈ replies)
          → message b' msg block old ∈ v.sent
      quiet b' msg block old (inl m) = m
      quiet b' msg block old (inr m) = absurd (no_message_lem o.given o.out b' msg block old m)

  -- A message of the stripe reaches its brick: what the image of the stripe makes of it.
  pub message_received : (b : ℕ) (msg : Message) (block old : List ℕ) → message b msg block old ∈ v.sent
      → let o = outcome s b (v.images b) msg block old (replicate s.size 0) in
      (length o.image ≡ image_size s) × Goes s g h (brick_view s v b o.image (replied_with o.given o.out))
  unfolding outcome receive_refusal Receive.accepted refused_with given_by replied_with
  message_received b msg block old was = decide (eqb refusal passed) refl
    where
      out : List ℕ
      out = replicate s.size 0

      image : List ℕ
      image = v.images b

      low : b < s.n
      low = (i.items (message b msg block old) was).brick-low

      x : Brick
      x = (i.bricks b low).state

      refusal : ℕ
      refusal = receive_refusal s b image msg (beside block old out)

      opens : parse s b image ≡ Opens x
      opens = ap (parse s b) (i.bricks b low).saved ∙ parse_image s b x (in_range_lem s g) low (i.bricks b low).sound

      -- what an outcome leaves
      Left : Outcome → Type 0
      Left o = (length o.image ≡ image_size s) × Goes s g h (brick_view s v b o.image (replied_with o.given o.out))

      still : Left (refused_with refusal image out)
      still = (
        ap length (i.bricks b low).saved ∙ image_length s b x g (i.bricks b low).sound,
        (h, whole, brick_moved b (refused_with refusal image out) h (grows_not s g b h i.valid) (i.bricks b low) (λ k m. absurd (Memᴰ.not-nil m)) (λ b' t m. inl m)),
      )

      acts : Received s g h v.sent b x msg block old out → Left (Receive.accepted s b msg block old image out (Opens x))
      acts w = (
        image_length s b (brick_after s b x msg block old) g w.sound,
        (
          w.later,
          w.grows.longer,
          brick_moved b (Receive.accepted s b msg block old image out (Opens x)) w.later w.grows
              (record { state = brick_after s b x msg block old; saved = refl; sound = w.sound; keeps = w.keeps }) (λ k m. answered k (is_silent msg.kind) refl m)
              (λ b' t m. tells b' t (is_silent msg.kind) refl (w.stores b' t m)),
        ),
      )
        where
          answered : (k : Item) (a : Bool) → is_silent msg.kind ≡ a
              → k ∈ replied_with (cond a Silent (Answered (reply_to s b x msg))) (block_after x (place_for b x msg) out)
              → ItemInv s g w.later (v.sent ++ replied_with (cond (is_silent msg.kind) Silent (Answered (reply_to s b x msg))) (block_after x (place_for b x msg) out)) k
          answered k true e m = absurd (Memᴰ.not-nil m)
          answered k false e m =
              let q = Memᴰ.eq_of_singleton m in
              subst (ItemInv s g w.later (v.sent ++ replied_with (cond (is_silent msg.kind) Silent (Answered (reply_to s b x msg))) (block_after x (place_for b x msg) out)))
              (sym q)
              (w.answers e _ (within_more v.sent _))

          -- a store more was told by the reply
          tells : (b' t : ℕ) (a : Bool) → is_silent msg.kind ≡ a → In (stored b' t) h ⊎ Stores s b x msg b' t
              → In (stored b' t) h ⊎ ToldStored (v.sent ++ replied_with (cond a Silent (Answered (reply_to s b x msg))) (block_after x (place_for b x msg) out)) b' t
          tells b' t a e (inl m) = inl m
          tells b' t true e (inr z) = absurd (true≢false (sym e ∙ stores_replied msg.kind z.kind-is))
          tells b' t false e (inr z) =
              inr
              (record {
                from = reply_to s b x msg;
                block = _;
                was-sent = Memᴰ.append_right v.sent (Memᴰ.head refl);
                brick-is = unfold reply_to in z.brick-is;
                time-is = unfold reply_to in z.time-is;
                yes-is = unfold reply_to in z.yes-is;
                kind-is = unfold reply_to in z.kind-is;
              })

      acting : refusal ≡ passed → Received s g h v.sent b x msg block old out
      acting e =
          let a = passes s b image msg (beside block old out) e in
          any_received v.sent out i.valid (i.bricks b low).keeps (i.bricks b low).sound (i.items (message b msg block old) was)
          (sensible s.n s.m msg a.message) a.front.block-is was

      decide : (a : Bool) → eqb refusal passed ≡ a
          → Left (cond a (Receive.accepted s b msg block old image out (parse s b image)) (refused_with refusal image out))
      decide true e =
          subst (λ (z : Parsed). Left (Receive.accepted s b msg block old image out z)) (sym opens)
          (acts (acting (eqb-true refusal passed e)))
      decide false e = still

-- A message reaches its brick: on the stripe its image goes on, and on any other nothing changes.
use mathlib.Core.Path.{◌≡◌, refl, sym, ap, subst, ◌∙◌}
use mathlib.Core.Bool.{Bool, true, false, cond}
use mathlib.Core.List.Memᴰ
use mathlib.Core.List.{List, [], ◌++◌, append-nil}
use Prim.Native.Nat.{ℕ, ◌<◌}
use lib.Dec.{eqb}
use lib.ListN.{length, replicate}
use borrow.Author.Tests.{eqb-true, eqb-false, eq-eqb, ne_eqb}
use Rattle.settings.specs.Ranges.{SettingsRange}
use Rattle.settings.specs.Refusal.{passed}
use Rattle.settings.specs.declared.Settings.{Settings}
use Rattle.message.specs.Messages.{is_silent}
use Rattle.message.specs.declared.Message.{Message}
use Rattle.image.specs.Brick.{Brick}
use Rattle.image.specs.Image.{image_size}
use Rattle.image.specs.Parse.{Parsed, Opens, Refuses, parse}
use Rattle.brick.specs.Receive
use Rattle.brick.specs.Receive.{Outcome, beside, outcome, receive_refusal, refused_with, given_by}
use Rattle.brick.specs.Receive.{Given}
use Rattle.brick.specs.Receive.{Answered, Silent, Refused}
use Rattle.brick.proofs.Laws.OutcomeLaws.{fronted}
use Rattle.brick_log.specs.BrickRules.{reply_to}
use Rattle.volume.specs.Rows.{row_size, image_at, with_image, in_row, row_refusal, row_outcome}
use Rattle.volume.proofs.Laws.RowLaws.{image_here}
use Rattle.volume.proofs.Laws.RowTheoremLaws.{other_stripes_stay}
use Rattle.order.specs.Claim.{◌∈◌}
use Rattle.order.specs.Places.{whole}
use Rattle.register.specs.Runs.{Item, message, Moved, unmoved, joined, put_at, replied_with, received, arriving}
use Rattle.register.proofs.Laws.BrickEvent.{brick_view, message_received}
use Rattle.register.proofs.Laws.Invariant.{Hist, Goes, item_on, items_on, viewed, view, Inv}
use Rattle.register.proofs.Laws.StripeViewLaws.{items_append, items_all, items_none, in_items, goes_unmoved}

-- a brick's reply has the stripe of the message
module _ (s : Settings) (b : ℕ) (msg : Message) (j : ℕ) where
  -- an answer whose replies are of that stripe
  Stays : Given → Type 0
  Stays given = (out : List ℕ) (i : Item) → i ∈ replied_with given out → item_on j i ≡ eqb msg.stripe j

  refused_on : (number : ℕ) → Stays (Refused number)
  unfolding Stays replied_with
  refused_on number out i m = absurd (Memᴰ.not-nil m)

  given_on : (x : Brick) → Stays (given_by s b x msg)
  unfolding given_by Stays replied_with
  given_on x = go (is_silent msg.kind)
    where
      go : (a : Bool) (out : List ℕ) (i : Item) → i ∈ replied_with (cond a Silent (Answered (reply_to s b x msg))) out → item_on j i ≡ eqb msg.stripe j
      go true out i m = absurd (Memᴰ.not-nil m)
      go false out i m = ap (item_on j) (Memᴰ.eq_of_singleton m) ∙ (unfold item_on reply_to in refl)

  accepted_on : (block old bytes out : List ℕ) (p : Parsed) → Stays (Receive.accepted s b msg block old bytes out p).given
  unfolding Receive.accepted refused_with
  accepted_on block old bytes out (Opens x) = given_on x
  accepted_on block old bytes out (Refuses number) = refused_on number

  outcome_on : (bytes block old out : List ℕ) → Stays (outcome s b bytes msg block old out).given
  unfolding outcome refused_with
  outcome_on bytes block old out = go (eqb (receive_refusal s b bytes msg (beside block old out)) passed)
    where
      go : (a : Bool)
          → Stays
          (cond a (Receive.accepted s b msg block old bytes out (parse s b bytes)) (refused_with (receive_refusal s b bytes msg (beside block old out)) bytes out)).given
      go true = accepted_on block old bytes out (parse s b bytes)
      go false = refused_on (receive_refusal s b bytes msg (beside block old out))

  row_on : (row block old out : List ℕ) → Stays (row_outcome s b row msg block old out).given
  unfolding row_outcome in_row refused_with
  row_on row block old out = go (eqb (row_refusal s b row msg (beside block old out)) passed)
    where
      go : (a : Bool)
          → Stays
          (cond a (in_row s msg.stripe row (outcome s b (image_at s msg.stripe row) msg block old out)) (refused_with (row_refusal s b row msg (beside block old out)) row out)).given
      go true = outcome_on (image_at s msg.stripe row) block old out
      go false = refused_on (row_refusal s b row msg (beside block old out))

  replies_on : (given : Given) (out : List ℕ) → Stays given → (i : Item) → i ∈ replied_with given out → item_on j i ≡ eqb msg.stripe j
  unfolding Stays
  replies_on given out f i m = f out i m

  pub row_replies_on : (row block old out : List ℕ) (i : Item)
      → let o = row_outcome s b row msg block old out in i ∈ replied_with o.given o.out → item_on j i ≡ eqb msg.stripe j
  row_replies_on row block old out i m =
      let o = row_outcome s b row msg block old out in replies_on o.given o.out (row_on row block old out) i m

module _ (s : Settings) (k : ℕ) (r : Moved s) (b : ℕ) where
  -- what an outcome changes in the view
  view_received : (o : Outcome) (image : List ℕ) (replies : List Item) → image_at s k o.image ≡ image
      → items_on k (replied_with o.given o.out) ≡ replies
      → view k (joined s r (received s r.world b o)) ≡ brick_view s (view k r) b image replies
  unfolding view received put_at
  view_received o image replies e q =
      λ i.
      record {
        images = λ (b' : ℕ). at b' i;
        coordinators = λ (c : ℕ). viewed k (r.world.coordinators c);
        sent = (items_append k r.world.sent (replied_with o.given o.out) ∙ ap (λ (l : List Item). items_on k r.world.sent ++ l) q) i;
        seen = append-nil (r.seen k) i;
      }
    where
      at : (b' : ℕ) → image_at s k (cond (eqb b' b) o.image (r.world.images b')) ≡ cond (eqb b' b) image (image_at s k (r.world.images b'))
      at b' = go (eqb b' b)
        where
          go : (a : Bool) → image_at s k (cond a o.image (r.world.images b')) ≡ cond a image (image_at s k (r.world.images b'))
          go true = e
          go false = refl

  -- nothing of the stripe changes
  view_kept : brick_view s (view k r) b ((view k r).images b) [] ≡ view k r
  unfolding view put_at
  view_kept =
      λ i.
      record {
        images = λ (b' : ℕ). at b' (eqb b' b) refl i;
        coordinators = λ (c : ℕ). viewed k (r.world.coordinators c);
        sent = append-nil (items_on k r.world.sent) i;
        seen = r.seen k;
      }
    where
      at : (b' : ℕ) (a : Bool) → eqb b' b ≡ a → cond a (image_at s k (r.world.images b)) (image_at s k (r.world.images b')) ≡ image_at s k (r.world.images b')
      at b' true e = ap (λ (z : ℕ). image_at s k (r.world.images z)) (sym (eqb-true b' b e))
      at b' false e = refl

  module _ (g : SettingsRange s) (h : Hist s) (i : Inv s g k h r) where
    stays_so : (o : Outcome) → image_at s k o.image ≡ image_at s k (r.world.images b) → items_on k (replied_with o.given o.out) ≡ []
        → Goes s g h (view k (joined s r (received s r.world b o)))
    unfolding view
    stays_so o e q = subst (Goes s g h) (sym (view_received o (image_at s k (r.world.images b)) [] e q ∙ view_kept)) (h, whole, i)

    -- A message reaches its brick, on whatever stripe.
    pub message_arrives : (msg : Message) (block old : List ℕ) → message b msg block old ∈ r.world.sent
        → Goes s g h (view k (joined s r (arriving s r.world (message b msg block old))))
    unfolding arriving row_outcome row_refusal row_size in_row refused_with replied_with items_on item_on view
    message_arrives msg block old was = up (r.world.up b)
      where
        row : List ℕ
        row = r.world.images b

        out : List ℕ
        out = replicate s.size 0

        o : Outcome
        o = row_outcome s b row msg block old out

        elsewhere : (msg.stripe ≡ k → ⊥) → Goes s g h (view k (joined s r (received s r.world b o)))
        elsewhere n =
            stays_so o (other_stripes_stay s b row msg block old out k (λ z. n (sym z)))
            (items_none k (replied_with o.given o.out)
            (λ z m. row_replies_on s b msg k row block old out z m ∙ ne_eqb msg.stripe k n))

        here : msg.stripe ≡ k → Goes s g h (view k (joined s r (received s r.world b o)))
        here e = dec (eqb number passed) refl
          where
            number : ℕ
            number = row_refusal s b row msg (beside block old out)

            -- what the image of the stripe makes of it
            own : Outcome
            own = outcome s b (image_at s k row) msg block old out

            moved : (length own.image ≡ image_size s) × Goes s g h (brick_view s (view k r) b own.image (replied_with own.given own.out))
            moved = message_received s g h (view k r) i b msg block old (in_items k r.world.sent (message b msg block old) was (eq-eqb msg.stripe k e))

            -- the outcome at the stripe's number in the row
            at : ℕ → Outcome
            at j = outcome s b (image_at s j row) msg block old out

            dec : (a : Bool) → eqb number passed ≡ a
                → Goes s g h
                (view k (joined s r (received s r.world b (cond a (in_row s msg.stripe row (outcome s b (image_at s msg.stripe row) msg block old out)) (refused_with number row out)))))
            dec true q =
                let f = fronted s s.stripes b (length row) msg (beside block old out) number refl (eqb-true number passed q) in
                let low : k < s.stripes = subst (λ (j : ℕ). j < s.stripes) e f.stripe-low in
                subst (Goes s g h)
                (sym
                (view_received (in_row s msg.stripe row (at msg.stripe)) own.image (replied_with own.given own.out)
                (ap (λ (j : ℕ). image_at s k (with_image s j (at j).image row)) e ∙ image_here s k own.image row moved.0 f.lent_is low)
                (ap (λ (j : ℕ). items_on k (replied_with (at j).given (at j).out)) e
                ∙ items_all k (replied_with own.given own.out)
                (λ z m. replies_on s b msg k own.given own.out (outcome_on s b msg k (image_at s k row) block old out) z m ∙ eq-eqb msg.stripe k e))))
                moved.1
            dec false q = stays_so (refused_with number row out) refl refl

        on : (a : Bool) → eqb msg.stripe k ≡ a → Goes s g h (view k (joined s r (received s r.world b o)))
        on true e = here (eqb-true msg.stripe k e)
        on false e = elsewhere (eqb-false msg.stripe k e)

        up : (a : Bool) → Goes s g h (view k (joined s r (cond a (received s r.world b o) (unmoved s r.world))))
        up true = on (eqb msg.stripe k) refl
        up false = goes_unmoved s g k h r i

-- Laws of `specs/RefusedEvents`.
use mathlib.Core.Path.{◌≡◌, refl, ap, ap₂, ◌∙◌}
use mathlib.Core.Logic.{◌≢◌}
use mathlib.Core.Bool.{Bool, true, false, cond}
use mathlib.Core.List.{List, [], ◌∷◌, ◌++◌, append-nil}
use Prim.Native.Nat.{ℕ, zero, suc}
use lib.Dec.{ltb, eqb}
use lib.ListN.{replicate}
use Rattle.settings.specs.Refusal.{passed, refuse_unless, bad_number, bad_line}
use Rattle.settings.specs.declared.Settings.{Settings}
use Rattle.byte_lists.specs.Little.{are_bytes}
use Rattle.message.specs.Messages.{is_silent}
use Rattle.message.specs.declared.Message.{Message}
use Rattle.image.specs.Parse.{Parsed, Opens, Refuses, parse}
use Rattle.brick.specs.Receive
use Rattle.brick.specs.Receive.{Outcome, beside, outcome, receive_refusal, refused_with, given_by, given_number}
use Rattle.brick.specs.Receive.{Answered, Silent}
use Rattle.brick_log.specs.BrickRules.{reply_to}
use Rattle.volume.specs.Rows.{image_at, with_image, in_row, row_refusal, row_outcome}
use Rattle.volume.proofs.Laws.RowLaws.{image_back}
use Rattle.coord_apply.specs.Answers.{Step, refused, went, answer_of}
use Rattle.register.specs.Runs.{Item, message, reply, World, Left, start_write, start_read, start_write_block, start_read_block, arrives, crashes, goes_down, comes_up}
use Rattle.register.specs.Runs.{Moved, unmoved, put_at, coordinated, replied_with, received, arriving, arriving_at, standing, left_by, step}
use Rattle.register.specs.RefusedEvents.{routine_number, item_number, arrival_number, event_number, RefusedEventsChangeNothing, LostAtADownBrick}
use Rattle.register.proofs.Laws.DriverLaws.{put_same}

-- What a brick refuses leaves its image, and no reply.
pub record Kept (bytes : List ℕ) (o : Outcome) : Type 0 where
  pub image-is : o.image ≡ bytes
  pub no-reply : (out : List ℕ) → replied_with o.given out ≡ []

opened_kept : (s : Settings) (b : ℕ) (msg : Message) (block old bytes out : List ℕ) (p : Parsed)
    → given_number (Receive.accepted s b msg block old bytes out p).given ≢ passed → Kept bytes (Receive.accepted s b msg block old bytes out p)
unfolding Receive.accepted refused_with given_by given_number replied_with
opened_kept s b msg block old bytes out (Refuses number) n = record { image-is = refl; no-reply = λ _. refl }
opened_kept s b msg block old bytes out (Opens x) n = absurd (n (go (is_silent msg.kind)))
  where
    go : (a : Bool) → given_number (cond a Silent (Answered (reply_to s b x msg))) ≡ passed
    go true = refl
    go false = refl

pub refused_kept : (s : Settings) (b : ℕ) (bytes : List ℕ) (msg : Message) (block old out : List ℕ)
    → given_number (outcome s b bytes msg block old out).given ≢ passed → Kept bytes (outcome s b bytes msg block old out)
unfolding outcome refused_with replied_with
refused_kept s b bytes msg block old out = go (eqb number passed)
  where
    number : ℕ
    number = receive_refusal s b bytes msg (beside block old out)

    go : (a : Bool)
        → given_number (cond a (Receive.accepted s b msg block old bytes out (parse s b bytes)) (refused_with number bytes out)).given ≢ passed
        → Kept bytes (cond a (Receive.accepted s b msg block old bytes out (parse s b bytes)) (refused_with number bytes out))
    go true n = opened_kept s b msg block old bytes out (parse s b bytes) n
    go false n = record { image-is = refl; no-reply = λ _. refl }

-- the same of a row of images: the image of the stripe is put back as it was
pub row_refused_kept : (s : Settings) (b : ℕ) (row : List ℕ) (msg : Message) (block old out : List ℕ)
    → given_number (row_outcome s b row msg block old out).given ≢ passed → Kept row (row_outcome s b row msg block old out)
unfolding row_outcome in_row refused_with replied_with
row_refused_kept s b row msg block old out = go (eqb number passed)
  where
    number : ℕ
    number = row_refusal s b row msg (beside block old out)

    acted : Outcome
    acted = outcome s b (image_at s msg.stripe row) msg block old out

    go : (a : Bool)
        → given_number (cond a (in_row s msg.stripe row acted) (refused_with number row out)).given ≢ passed
        → Kept row (cond a (in_row s msg.stripe row acted) (refused_with number row out))
    go true n =
        let k = refused_kept s b (image_at s msg.stripe row) msg block old out n in
        record {
          image-is = ap (λ (l : List ℕ). with_image s msg.stripe l row) k.image-is ∙ image_back s msg.stripe row;
          no-reply = k.no-reply;
        }
    go false n = record { image-is = refl; no-reply = λ _. refl }

-- a brick that keeps its image and gives no reply leaves the world as it was
pub kept_unmoved : (s : Settings) (w : World) (b : ℕ) (o : Outcome) → Kept (w.images b) o → received s w b o ≡ unmoved s w
unfolding received unmoved
kept_unmoved s w b o k =
    ap₂ makes (ap (put_at w.images b) k.image-is ∙ put_same w.images b)
    (ap (λ (l : List Item). w.sent ++ l) (k.no-reply o.out) ∙ append-nil w.sent)
  where
    makes : (ℕ → List ℕ) → List Item → Moved s
    makes images l = record { world = record { images = images; up = w.up; coordinators = w.coordinators; sent = l }; seen = λ (k : ℕ). [] }

module _ (s : Settings) (w : World) where
  -- a coordinator's routine that refuses
  step_kept : (c : ℕ) (p : Step) → routine_number w c p ≢ passed → coordinated s w c p ≡ unmoved s w
  unfolding coordinated answer_of
  step_kept c (refused number) n = refl
  step_kept c (went g) n = absurd (n refl)

  -- a crash, whatever it leaves in the buffers
  crash_kept : (c : ℕ) (left : Left) (p : Step) → routine_number w c p ≢ passed → coordinated s w c (left_by s left p) ≡ unmoved s w
  unfolding coordinated answer_of left_by
  crash_kept c left (refused number) n = refl
  crash_kept c left (went g) n = absurd (n refl)

  item_kept : (i : Item) → item_number s w i ≢ passed → arriving s w i ≡ unmoved s w
  unfolding item_number arriving
  item_kept (message b msg block old) n = go (w.up b) n
    where
      o : Outcome
      o = row_outcome s b (w.images b) msg block old (replicate s.size 0)

      go : (a : Bool) → cond a (given_number o.given) passed ≢ passed → cond a (received s w b o) (unmoved s w) ≡ unmoved s w
      go true n = kept_unmoved s w b o (row_refused_kept s b (w.images b) msg block old (replicate s.size 0) n)
      go false n = refl
  item_kept (reply r block) n = step_kept _ _ n

  place_kept : (l : List Item) (k : ℕ) → arrival_number s w l k ≢ passed → arriving_at s w l k ≡ unmoved s w
  unfolding arrival_number arriving_at
  place_kept [] k n = refl
  place_kept (i ∷ l) zero n = item_kept i n
  place_kept (i ∷ l) (suc k) n = place_kept l k n

  -- a brick that is there is never refused
  standing_kept : (b : ℕ) (how : Bool) → refuse_unless (ltb b s.n) bad_number ≢ passed → standing s w b how ≡ unmoved s w
  unfolding standing
  standing_kept b how = go (ltb b s.n) _
    where
      go : (a : Bool) (m : Moved s) → refuse_unless a bad_number ≢ passed → cond a m (unmoved s w) ≡ unmoved s w
      go true m n = absurd (n refl)
      go false m n = refl

  -- a start with its content: of bytes, it is refused by the routine
  content_kept : (c : ℕ) (p : Step) (a : Bool) → cond a (routine_number w c p) bad_line ≢ passed → cond a (coordinated s w c p) (unmoved s w) ≡ unmoved s w
  content_kept c p true n = step_kept c p n
  content_kept c p false n = refl

pub refused_events_change_nothing : RefusedEventsChangeNothing
unfolding event_number step
refused_events_change_nothing s w (start_write c stripe reading content) n = content_kept s w c _ (are_bytes content) n
refused_events_change_nothing s w (start_read c stripe reading first) n = step_kept s w c _ n
refused_events_change_nothing s w (start_write_block c stripe reading block content) n = content_kept s w c _ (are_bytes content) n
refused_events_change_nothing s w (start_read_block c stripe reading block) n = step_kept s w c _ n
refused_events_change_nothing s w (arrives k) n = place_kept s w w.sent k n
refused_events_change_nothing s w (crashes c left) n = crash_kept s w c left _ n
refused_events_change_nothing s w (goes_down b) n = standing_kept s w b false n
refused_events_change_nothing s w (comes_up b) n = standing_kept s w b true n

pub lost_at_a_down_brick : LostAtADownBrick
unfolding arriving
lost_at_a_down_brick s w b msg block old e = rw e refl

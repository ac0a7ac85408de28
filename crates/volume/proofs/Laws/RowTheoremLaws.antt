-- A message at a brick of a volume leaves the other images alone, and does not look at them.
use mathlib.Core.Path.{◌≡◌, refl, sym, ap, ◌∙◌}
use mathlib.Core.Bool.{Bool, true, false}
use mathlib.Core.List.{List, ◌++◌, append-nil}
use Prim.Native.Nat.{ℕ, ◌+◌, ◌*◌}
use native.Mathlib.Omega.{arith}
use lib.Dec.{eqb}
use lib.ListN.{length, take, drop}
use lib.Seq.{take_all, drop-length}
use borrow.Author.Tests.{eqb-true, eqb-false, ne_eqb}
use Rattle.settings.specs.Refusal.{passed}
use Rattle.settings.specs.declared.Settings.{Settings}
use Rattle.message.specs.declared.Message.{Message}
use Rattle.byte_lists.specs.Lists.{put}
use Rattle.byte_lists.proofs.Laws.PutLaws.{put_is}
use Rattle.image.specs.Image.{image_size}
use Rattle.brick.specs.Receive.{Beside, beside, Outcome, outcome_with, front_refusal, refused_with, outcome}
use Rattle.brick.specs.Receive.{Refused}
use Rattle.brick.proofs.Laws.OutcomeLaws.{Fronted, fronted, ends_early}
use Rattle.brick.proofs.Laws.OutcomeLengthLaws.{outcome_length}
use Rattle.volume.specs.Rows.{row_size, image_at, with_image, in_row, row_refusal, row_outcome}
use Rattle.volume.specs.RowTheorem.{OtherStripesStay, RowKeepsItsLength, DamagedOthersStopNothing, OneImageIsARowOfOne}
use Rattle.volume.proofs.Laws.RowLaws.{image_at_length, with_length, image_here, image_there}

-- the two ways of a message
module _ (s : Settings) (brick : ℕ) (row : List ℕ) (msg : Message) (block old out : List ℕ) where
  pub row_refused : (row_refusal s brick row msg (beside block old out) ≡ passed → ⊥)
      → row_outcome s brick row msg block old out ≡ refused_with (row_refusal s brick row msg (beside block old out)) row out
  unfolding row_outcome
  row_refused z = rw (ne_eqb (row_refusal s brick row msg (beside block old out)) passed z) refl

  module _ (z : row_refusal s brick row msg (beside block old out) ≡ passed) where
    pub row_acted : row_outcome s brick row msg block old out ≡ in_row s msg.stripe row (outcome s brick (image_at s msg.stripe row) msg block old out)
    unfolding row_outcome
    row_acted = rw z refl

    pub row_fronted : Fronted s s.stripes brick (length row) msg (beside block old out)
    unfolding row_refusal
    row_fronted = fronted s s.stripes brick (length row) msg (beside block old out) _ refl z

    pub row_long : length row ≡ row_size s
    unfolding row_size
    row_long = row_fronted.lent_is

    -- the later image of the message's stripe
    pub later_long : length (outcome s brick (image_at s msg.stripe row) msg block old out).image ≡ image_size s
    later_long =
        outcome_length s brick (image_at s msg.stripe row) msg block old out
        ∙ image_at_length s msg.stripe row row_long row_fronted.stripe-low

    pub acted_here : image_at s msg.stripe (row_outcome s brick row msg block old out).image
        ≡ (outcome s brick (image_at s msg.stripe row) msg block old out).image
    unfolding in_row
    acted_here =
        ap (λ (o : Outcome). image_at s msg.stripe o.image) row_acted
        ∙ image_here s msg.stripe _ row later_long row_long row_fronted.stripe-low

    acted_there : (j : ℕ) → (j ≡ msg.stripe → ⊥) → image_at s j (row_outcome s brick row msg block old out).image ≡ image_at s j row
    unfolding in_row
    acted_there j n =
        ap (λ (o : Outcome). image_at s j o.image) row_acted
        ∙ image_there s msg.stripe _ row later_long row_long row_fronted.stripe-low j n

    acted_length : length (row_outcome s brick row msg block old out).image ≡ length row
    unfolding in_row
    acted_length = ap (λ (o : Outcome). length o.image) row_acted ∙ with_length s msg.stripe _ row later_long row_long row_fronted.stripe-low

  -- refused or not
  by_way : {P : Type 0} → (row_refusal s brick row msg (beside block old out) ≡ passed → P)
      → ((row_refusal s brick row msg (beside block old out) ≡ passed → ⊥) → P) → P
  by_way {P} f g = go (eqb (row_refusal s brick row msg (beside block old out)) passed) refl
    where
      go : (b : Bool) → eqb (row_refusal s brick row msg (beside block old out)) passed ≡ b → P
      go true e = f (eqb-true (row_refusal s brick row msg (beside block old out)) passed e)
      go false e = g (eqb-false (row_refusal s brick row msg (beside block old out)) passed e)

pub other_stripes_stay : OtherStripesStay
unfolding refused_with
other_stripes_stay s brick row msg block old out j n =
    by_way s brick row msg block old out (λ z. acted_there s brick row msg block old out z j n)
    (λ z. ap (λ (o : Outcome). image_at s j o.image) (row_refused s brick row msg block old out z))

pub row_keeps_its_length : RowKeepsItsLength
unfolding refused_with
row_keeps_its_length s brick row msg block old out =
    by_way s brick row msg block old out (λ z. acted_length s brick row msg block old out z)
    (λ z. ap (λ (o : Outcome). length o.image) (row_refused s brick row msg block old out z))

-- the row is refused by its length alone
same_refusal : (s : Settings) (brick : ℕ) (row row' : List ℕ) (msg : Message) (b : Beside) → length row ≡ length row'
    → row_refusal s brick row msg b ≡ row_refusal s brick row' msg b
unfolding row_refusal
same_refusal s brick row row' msg b e = ap (λ (k : ℕ). front_refusal s s.stripes brick k msg b) e

pub damaged_others_stop_nothing : DamagedOthersStopNothing
unfolding refused_with in_row
damaged_others_stop_nothing s brick row row' msg block old out e h =
    by_way s brick row msg block old out (λ z.
    let p = row_acted s brick row msg block old out z in
    let p' = row_acted s brick row' msg block old out (sym same ∙ z) in (
      ap (λ (o : Outcome). o.given) p ∙ ap (λ (o : Outcome). o.given) told ∙ sym (ap (λ (o : Outcome). o.given) p'),
      ap (λ (o : Outcome). o.out) p ∙ ap (λ (o : Outcome). o.out) told ∙ sym (ap (λ (o : Outcome). o.out) p'),
      acted_here s brick row msg block old out z ∙ ap (λ (o : Outcome). o.image) told ∙ sym (acted_here s brick row' msg block old out (sym same ∙ z)),
    )) (λ z.
    let p = row_refused s brick row msg block old out z in
    let p' = row_refused s brick row' msg block old out (λ q. z (same ∙ q)) in (
      ap (λ (o : Outcome). o.given) p ∙ ap Refused same ∙ sym (ap (λ (o : Outcome). o.given) p'),
      ap (λ (o : Outcome). o.out) p ∙ sym (ap (λ (o : Outcome). o.out) p'),
      ap (λ (o : Outcome). image_at s msg.stripe o.image) p ∙ h ∙ sym (ap (λ (o : Outcome). image_at s msg.stripe o.image) p'),
    ))
  where
    same : row_refusal s brick row msg (beside block old out) ≡ row_refusal s brick row' msg (beside block old out)
    same = same_refusal s brick row row' msg (beside block old out) e

    -- what the image of the stripe makes of it
    told : outcome s brick (image_at s msg.stripe row) msg block old out ≡ outcome s brick (image_at s msg.stripe row') msg block old out
    told = ap (λ (l : List ℕ). outcome s brick l msg block old out) h

-- a row of one image
image_of_one : (s : Settings) (row : List ℕ) → length row ≡ image_size s → image_at s 0 row ≡ row
unfolding image_at
image_of_one s row e = let z : 0 * image_size s ≡ 0 = omega arith in ap (λ (k : ℕ). take (image_size s) (drop k row)) z ∙ take_all (image_size s) row (omega (arith, e))

with_one : (s : Settings) (image row : List ℕ) → length image ≡ length row → with_image s 0 image row ≡ image
unfolding with_image
with_one s image row e =
    let z : 0 * image_size s ≡ 0 = omega arith in
    ap (λ (k : ℕ). put k image row) z ∙ put_is 0 image row
    ∙ ap (λ (k : ℕ). image ++ drop k row) (let a : 0 + length image ≡ length row = omega (arith, e) in a)
    ∙ ap (λ (l : List ℕ). image ++ l) (drop-length row) ∙ append-nil image

pub one_image_is_a_row_of_one : OneImageIsARowOfOne
unfolding refused_with in_row row_refusal
one_image_is_a_row_of_one s brick row msg block old out one = by_way s brick row msg block old out acted refused
  where
    acted : row_refusal s brick row msg (beside block old out) ≡ passed → row_outcome s brick row msg block old out ≡ outcome s brick row msg block old out
    acted z =
        let f = row_fronted s brick row msg block old out z in
        let first : msg.stripe ≡ 0 = omega (arith, f.stripe-low, one) in
        let long : length row ≡ image_size s = f.lent_is ∙ ap (λ (k : ℕ). k * image_size s) one ∙ (let a : 1 * image_size s ≡ image_size s = omega arith in a) in
        row_acted s brick row msg block old out z
        ∙ ap (λ (k : ℕ). in_row s k row (outcome s brick (image_at s k row) msg block old out)) first
        ∙ ap (λ (l : List ℕ). in_row s 0 row (outcome s brick l msg block old out)) (image_of_one s row long)
        ∙ ap (λ (l : List ℕ). outcome_with (outcome s brick row msg block old out).given l (outcome s brick row msg block old out).out)
        (with_one s (outcome s brick row msg block old out).image row (outcome_length s brick row msg block old out))

    refused : (row_refusal s brick row msg (beside block old out) ≡ passed → ⊥) → row_outcome s brick row msg block old out ≡ outcome s brick row msg block old out
    refused z =
        row_refused s brick row msg block old out z
        ∙ ends_early s brick row msg block old out _ (ap (λ (k : ℕ). front_refusal s k brick (length row) msg (beside block old out)) one) z

-- A message leaves an image of the length of the one that was lent.
use mathlib.Core.Path.{◌≡◌, refl, sym, ap, ◌∙◌}
use mathlib.Core.Bool.{Bool, true, false, cond}
use mathlib.Core.List.{List}
use Prim.Native.Nat.{ℕ}
use lib.Dec.{eqb}
use lib.ListN.{length}
use borrow.Author.Tests.{eqb-true}
use Rattle.settings.specs.Refusal.{passed}
use Rattle.settings.specs.declared.Settings.{Settings}
use Rattle.message.specs.declared.Message.{Message}
use Rattle.image.specs.Parse.{Parsed, brick_in, parse}
use Rattle.image.proofs.Laws.ImageSoundLaws.{image_length}
use Rattle.image.proofs.Laws.ParseLaws.{opened, parse_opens}
use Rattle.brick_log.specs.BrickRules.{brick_after}
use Rattle.brick.specs.Receive.{beside, receive_refusal, refused_with, accepted, outcome}
use Rattle.brick.proofs.Laws.BrickLaws.{after_sound, message_time}
use Rattle.brick.proofs.Laws.OutcomeLaws.{passes}

module _ (s : Settings) (brick : ℕ) (bytes : List ℕ) (msg : Message) (block old out : List ℕ) where
  -- where nothing is refused: the image of the brick after the message
  acted_length : receive_refusal s brick bytes msg (beside block old out) ≡ passed
      → length (accepted s brick msg block old bytes out (parse s brick bytes)).image ≡ length bytes
  unfolding accepted
  acted_length z =
      let p = passes s brick bytes msg (beside block old out) z in
      let is = parse_opens s brick bytes p.opens in
      let time = message_time s.n s.m msg p.message in
      let o = opened s brick bytes (brick_in s bytes) is in
      ap (λ (q : Parsed). length (accepted s brick msg block old bytes out q).image) is
      ∙ image_length s brick (brick_after s brick (brick_in s bytes) msg block old) o.range (after_sound s brick (brick_in s bytes) msg block old o.keeps time p.front.block-is)
      ∙ sym o.long

  pub outcome_length : length (outcome s brick bytes msg block old out).image ≡ length bytes
  unfolding outcome refused_with
  outcome_length = go (eqb (receive_refusal s brick bytes msg (beside block old out)) passed) refl
    where
      go : (b : Bool) → eqb (receive_refusal s brick bytes msg (beside block old out)) passed ≡ b
          → length
          (cond b (accepted s brick msg block old bytes out (parse s brick bytes))
          (refused_with (receive_refusal s brick bytes msg (beside block old out)) bytes out)
          ).image
          ≡ length bytes
      go true e = acted_length (eqb-true (receive_refusal s brick bytes msg (beside block old out)) passed e)
      go false e = refl

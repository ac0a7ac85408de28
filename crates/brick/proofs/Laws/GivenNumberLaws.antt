-- The number of an answer is that of the first refusal.
use mathlib.Core.Path.{◌≡◌, refl, sym, ap, ◌∙◌}
use mathlib.Core.Bool.{Bool, true, false, cond}
use mathlib.Core.List.{List}
use Prim.Native.Nat.{ℕ}
use lib.Dec.{eqb}
use borrow.Author.Tests.{eqb-true}
use Rattle.settings.specs.declared.Settings.{Settings}
use Rattle.message.specs.Messages.{is_silent}
use Rattle.message.specs.declared.Message.{Message}
use Rattle.image.specs.Parse.{Parsed, Opens, brick_in, parse}
use Rattle.image.proofs.Laws.ParseLaws.{parse_opens}
use Rattle.image.specs.Brick.{Brick}
use Rattle.brick_log.specs.BrickRules.{reply_to}
use Rattle.brick.specs.Receive.{beside, receive_refusal, refused_with, given_by, accepted, outcome}
use Rattle.brick.specs.Receive.{given_number}
use Rattle.brick.specs.Receive.{Answered, Silent}
use Rattle.brick.proofs.Laws.OutcomeLaws.{passes}

-- what an image that opens gives has number 0
acted_number : (s : Settings) (brick : ℕ) (msg : Message) (block old bytes out : List ℕ) (x : Brick)
    → given_number (accepted s brick msg block old bytes out (Opens x)).given ≡ 0
unfolding given_number accepted given_by
acted_number s brick msg block old bytes out x = go (is_silent msg.kind)
  where
    go : (b : Bool) → given_number (cond b Silent (Answered (reply_to s brick x msg))) ≡ 0
    go true = refl
    go false = refl

-- The answer's number is the first refusal's.
pub outcome_number : (s : Settings) (brick : ℕ) (bytes : List ℕ) (msg : Message) (block old out : List ℕ)
    → given_number (outcome s brick bytes msg block old out).given ≡ receive_refusal s brick bytes msg (beside block old out)
unfolding outcome given_number refused_with
outcome_number s brick bytes msg block old out =
    go (eqb (receive_refusal s brick bytes msg (beside block old out)) 0) refl
  where
    go : (b : Bool) → eqb (receive_refusal s brick bytes msg (beside block old out)) 0 ≡ b
        → given_number
        (cond b (accepted s brick msg block old bytes out (parse s brick bytes))
        (refused_with (receive_refusal s brick bytes msg (beside block old out)) bytes out)
        ).given
        ≡ receive_refusal s brick bytes msg (beside block old out)
    go true e =
        let z = eqb-true (receive_refusal s brick bytes msg (beside block old out)) 0 e in
        ap (λ (p : Parsed). given_number (accepted s brick msg block old bytes out p).given)
        (parse_opens s brick bytes (passes s brick bytes msg (beside block old out) z).opens)
        ∙ acted_number s brick msg block old bytes out (brick_in s bytes)
        ∙ sym z
    go false e = refl

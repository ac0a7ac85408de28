-- Document 01, "The saved brick": "A crash falls between steps, and a brick that comes up goes on from its image as saved." Proved in
-- `proofs/Laws/BrickLaws`.
use Rattle.std.specs.Prelude.{◌≡◌, cond, List, ℕ, eqb}
use Rattle.settings.specs.Refusal.{passed}
use Rattle.settings.specs.declared.Settings.{Settings}
use Rattle.message.specs.declared.Message.{Message}
use Rattle.image.specs.Brick.{Brick}
use Rattle.image.specs.Parse.{Opens, parse}
use Rattle.brick_log.specs.BrickRules.{brick_after}
use Rattle.brick.specs.Receive.{beside, receive_refusal, outcome}

-- An image that opens, opens again after any message: as the brick after that message, and after a refused one as the brick before.
abbrev pub OpensAgain : Type 0
OpensAgain =
    (s : Settings) (brick : ℕ) (bytes : List ℕ) (x : Brick) (msg : Message) (block old out : List ℕ) → parse s brick bytes ≡ Opens x
    → parse s brick (outcome s brick bytes msg block old out).image
    ≡ Opens (cond (eqb (receive_refusal s brick bytes msg (beside block old out)) passed) (brick_after s brick x msg block old) x)

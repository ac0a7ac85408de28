-- Document 02, E5: "A brick's reply gains the comparison that said no". The answer itself is that of document 01 and of E2, kind by kind, and the
-- comparison is one that refusal 10 lets pass. Proved in `proofs/Laws/AnsweredLaws`.
use Rattle.std.specs.Prelude.{◌≡◌, Bool, true, cond, eqb}
use Rattle.settings.specs.declared.Settings.{Settings}
use Rattle.message.specs.Kinds.{read_kind, write_kind, modify_kind}
use Rattle.message.specs.Messages.{comparison_right}
use Rattle.message.specs.declared.Message.{Message}
use Rattle.image.specs.Brick.{Brick}
use Rattle.brick_log.specs.BrickRules.{read_yes, order_yes, write_yes, modify_yes, yes_to, comparison_to}

-- a yes to Read, to Write, to Modify, and to an Order of any kind
unfoldable pub yes_by_kind : Settings → Brick → Message → Bool
yes_by_kind s x msg =
    cond (eqb msg.kind read_kind) (read_yes x)
    (cond (eqb msg.kind write_kind) (write_yes s x msg.time)
    (cond (eqb msg.kind modify_kind) (modify_yes s x msg.time msg.old) (order_yes x msg.time)))

-- None of the three comparisons says no exactly where that kind's own sentence says yes.
abbrev pub AnswersAsBefore : Type 0
AnswersAsBefore = (s : Settings) (x : Brick) (msg : Message) → yes_to s x msg ≡ yes_by_kind s x msg

-- What a brick names is never refused as 10: none on a yes, and on a no one that the message's kind allows.
abbrev pub ComparisonIsAllowed : Type 0
ComparisonIsAllowed = (s : Settings) (x : Brick) (msg : Message) → comparison_right msg.kind (yes_to s x msg) (comparison_to s x msg) ≡ true

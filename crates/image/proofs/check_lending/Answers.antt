use Rattle.std.proofs.Common.{arith}
use Rattle.std.proofs.lemmas.Grind.{common_steps}
use Rattle.settings.specs.Ranges.{settings_refusal}
use Rattle.settings.specs.Refusal.{first_refusal}
use Rattle.image.specs.Image.{image_size}
use Rattle.image.specs.Opening.{lending_refusal}
use Rattle.image.proofs.check_lending.Goals as goal

pub returns-in_err-set-clause-value : goal.returns-in_err-set-clause-value
unfolding lending_refusal first_refusal settings_refusal image_size
returns-in_err-set-clause-value c = grind (arith, common_steps)

pub returns-then-len-s-clause-value : goal.returns-then-len-s-clause-value
unfolding lending_refusal first_refusal settings_refusal image_size
returns-then-len-s-clause-value c = grind (arith, common_steps)

pub returns-then-s-brick-clause-value : goal.returns-then-s-brick-clause-value
unfolding lending_refusal first_refusal settings_refusal image_size
returns-then-s-brick-clause-value c = grind (arith, common_steps)

pub returns-clause-value : goal.returns-clause-value
unfolding lending_refusal first_refusal settings_refusal image_size
returns-clause-value c = grind (arith, common_steps)

pub returns-clause-member : goal.returns-clause-member
unfolding lending_refusal first_refusal settings_refusal image_size
returns-clause-member c = grind (arith, common_steps)

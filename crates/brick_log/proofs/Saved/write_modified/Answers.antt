use Rattle.brick_log.proofs.Laws.LogChangeLaws.{modified_own, modified_mark, modified_parity}
use Rattle.brick_log.proofs.Saved.write_modified.Goals as goal

pub returns-then-self-msg : goal.returns-then-self-msg
returns-then-self-msg c = modified_own _ _ _ _ c.requires.log_ready _ _ _ c.if-self-msg.true _ _ c.write_entry.ensures

pub returns-then-self : goal.returns-then-self
returns-then-self c =
    modified_mark _ _ _ _ c.requires.log_ready _ _ _ c.if-self-msg.false c.if-self.true _ _ c.write_mark.ensures

pub returns-else-self : goal.returns-else-self
returns-else-self c =
    modified_parity _ _ _ _ c.requires.log_ready _ _ _ c.if-self-msg.false c.if-self.false _ _ c.write_recoded.ensures

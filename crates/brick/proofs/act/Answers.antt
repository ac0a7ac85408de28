use Rattle.brick.proofs.Laws.BrickActLaws.{said_yes, remove_ready, place_low, speaks, said_is, acts_removed, acts_nothing, acts_reply}
use Rattle.brick.proofs.act.Goals as goal

pub remove-requires-clause-remove_ready : goal.remove-requires-clause-remove_ready
remove-requires-clause-remove_ready c =
    let p = c.requires in remove_ready _ _ _ _ _ _ p.log_ready p.ahead _ c.in-Remove.is

pub returns-in-Remove : goal.returns-in-Remove
returns-in-Remove c =
    let p = c.requires in acts_removed _ _ _ _ _ _ p.log_ready p.ahead _ _ _ _ _ c.in-Remove.is c.remove.ensures

pub returns-in-Nothing : goal.returns-in-Nothing
returns-in-Nothing c = let p = c.requires in acts_nothing _ _ _ _ _ _ p.log_ready p.ahead _ _ _ c.in-Nothing.is

pub give-requires-clause-in_image : goal.give-requires-clause-in_image
give-requires-clause-in_image c =
    let p = c.requires in place_low _ _ _ _ _ _ p.log_ready p.ahead _ _ c.in-Answer.is

pub change-requires-clause-kind_value : goal.change-requires-clause-kind_value
change-requires-clause-kind_value c =
    let p = c.requires in (
      speaks _ _ _ _ _ _ p.log_ready p.ahead _ _ c.in-Answer.is,
      p.block_lt_m,
      said_is _ _ _ _ _ _ p.log_ready p.ahead _ c.comparison_of-said.ensures,
    )

pub returns-in-Answer : goal.returns-in-Answer
returns-in-Answer c =
    let p = c.requires in
    rw (c.is_some.ensures, said_yes _ _ c.is_none.ensures, c.number_of.ensures)
    (acts_reply _ _ _ _ _ _ p.log_ready p.ahead _ _ _ _ _ _ _ _ c.in-Answer.is c.comparison_of-said.ensures c.change.ensures c.give.ensures)

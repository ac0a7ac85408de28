use Rattle.coord_apply.proofs.Laws.ActLaws.{recover_enough, acted_at, acted_abort, acted_give, acted_look, acted_store, acted_modify, acted_finish}
use Rattle.coord_record.specs.Records.{no_bricks}
use Rattle.coord_apply.proofs.act.Goals as goal

pub recover_and_store-requires-clause-coded_len : goal.recover_and_store-requires-clause-coded_len
recover_and_store-requires-clause-coded_len c = (c.requires.coded_len, recover_enough _ _ _ _ _ _ c.in-Recover.is c.requires.d_value)

pub returns-in-Abort : goal.returns-in-Abort
returns-in-Abort c = acted_at _ _ _ _ _ _ _ _ _ _ c.in-Abort.is (acted_abort _ _ _ _ _ _ _ _ c.abort.ensures)

pub returns-in-Give : goal.returns-in-Give
returns-in-Give c = acted_at _ _ _ _ _ _ _ _ _ _ c.in-Give.is (acted_give _ _ _ _ _ _ _ _ _ c.give.ensures.stripe_after c.give.ensures.value)

pub returns-in-Look : goal.returns-in-Look
returns-in-Look c = acted_at _ _ _ _ _ _ _ _ _ _ c.in-Look.is (acted_look _ _ _ _ _ _ _ _ _ c.look.ensures)

pub returns-in-Store : goal.returns-in-Store
unfolding no_bricks
returns-in-Store c = acted_at _ _ _ _ _ _ _ _ _ _ c.in-Store.is (acted_store _ _ _ _ _ _ _ _ _ c.store.ensures.coded_after c.store.ensures.value)

pub returns-in-Modify : goal.returns-in-Modify
unfolding no_bricks
returns-in-Modify c = acted_at _ _ _ _ _ _ _ _ _ _ c.in-Modify.is (acted_modify _ _ _ _ _ _ _ _ _ c.open.ensures)

pub returns-in-Finish : goal.returns-in-Finish
returns-in-Finish c = acted_at _ _ _ _ _ _ _ _ _ _ c.in-Finish.is (acted_finish _ _ _ _ _ _ _ _ c.finish.ensures)

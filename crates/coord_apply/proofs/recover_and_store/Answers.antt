use Rattle.coord_apply.proofs.Laws.ActLaws.{acted_recover, acted_disagreed}
use Rattle.coord_apply.proofs.recover_and_store.Goals as goal

pub returns-then-recover : goal.returns-then-recover
returns-then-recover c =
    acted_recover _ _ _ _ _ _ _ _ _ c.recover.result _ _ c.recover.ensures.value c.if-recover.true c.recover.ensures.stripe_after
    c.store_found.ensures.coded_after c.store_found.ensures.value

pub returns : goal.returns
returns c =
    acted_disagreed _ _ _ _ _ _ _ _ _ c.recover.result _ c.recover.ensures.value c.if-recover.false c.recover.ensures.stripe_after c.abort.ensures

use mathlib.Core.Path.{sym, ◌∙◌}
use native.Mathlib.Omega.{arith}
use Rattle.brick_log.proofs.Laws.LogChangeLaws.{told_none, told_some, change_none, change_read, free_to_write, change_write, free_to_modify, change_modify, change_order}
use Rattle.brick_log.proofs.Saved.change.Goals as goal

pub returns-then-is_some : goal.returns-then-is_some
returns-then-is_some c =
    let p = c.requires in
    change_none _ _ _ _ p.log_ready _ _ _ _ p.kind_value.2 p.kind_value.0 (told_some _ (sym c.is_some.ensures ∙ c.if-is_some.true))

pub returns-in-1 : goal.returns-in-1
returns-in-1 c = let p = c.requires in change_read _ _ _ _ p.log_ready _ _ _ _ p.kind_value.2 c.in-1.is

pub write-requires-clause-block_len : goal.write-requires-clause-block_len
write-requires-clause-block_len c =
    let p = c.requires in
    (p.block_len.0, free_to_write _ _ _ _ p.log_ready _ _ p.kind_value.2 (told_none _ (sym c.is_some.ensures ∙ c.if-is_some.false)) c.in-5.is)

pub returns-in-5 : goal.returns-in-5
returns-in-5 c =
    let p = c.requires in
    change_write _ _ _ _ p.log_ready _ _ _ _ p.kind_value.2 (told_none _ (sym c.is_some.ensures ∙ c.if-is_some.false)) _ c.in-5.is c.write.ensures

pub modify-requires-clause-block_lt_m : goal.modify-requires-clause-block_lt_m
modify-requires-clause-block_lt_m c =
    let p = c.requires in
    (p.kind_value.1 c.in-6.is, free_to_modify _ _ _ _ p.log_ready _ _ p.kind_value.2 (told_none _ (sym c.is_some.ensures ∙ c.if-is_some.false)) c.in-6.is)

pub returns-in-6 : goal.returns-in-6
returns-in-6 c =
    let p = c.requires in
    change_modify _ _ _ _ p.log_ready _ _ _ _ p.kind_value.2 (told_none _ (sym c.is_some.ensures ∙ c.if-is_some.false)) _ c.in-6.is c.modify.ensures

pub returns-in_default : goal.returns-in_default
returns-in_default c =
    let p = c.requires in
    change_order _ _ _ _ p.log_ready _ _ _ _ p.kind_value.2 (told_none _ (sym c.is_some.ensures ∙ c.if-is_some.false)) _ p.kind_value.0 (λ q. omega (arith, q))
    (λ q. omega (arith, q)) (λ q. omega (arith, q)) c.order.ensures

use Rattle.std.proofs.Common.{rules, sym, ◌∙◌}
use Rattle.bench_parse.proofs.Laws.ReadLineLaws.{carry_none, carry_not, carry_is}
use Rattle.bench_parse.proofs.carry_from.Goals as goal

pub returns-then-line-at : goal.returns-then-line-at
returns-then-line-at c = search (rules, carry_none)

pub returns-then-not-all_numbers : goal.returns-then-not-all_numbers
returns-then-not-all_numbers c = carry_not _ _ (search rules) (sym c.all_numbers.ensures ∙ c.if-not-all_numbers.true)

pub returns : goal.returns
returns c = carry_is _ _ (search rules) (search rules) (search rules) (sym c.all_numbers.ensures ∙ c.if-not-all_numbers.false)

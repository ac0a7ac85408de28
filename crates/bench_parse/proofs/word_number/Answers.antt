use Rattle.std.proofs.Common.{rules, sym, ◌∙◌}
use Rattle.bench_parse.proofs.Laws.NumeralLaws.{numeral_more}
use Rattle.bench_parse.specs.Lines.{is_digit}
use Rattle.bench_parse.proofs.word_number.Goals as goal

pub loop-x-preserved : goal.loop-x-preserved
unfolding is_digit
loop-x-preserved c = numeral_more _ _ _ c.loop-x.invariant (search rules) (sym c.is_ascii_digit.ensures.value ∙ c.if-not-is_ascii_digit.false)

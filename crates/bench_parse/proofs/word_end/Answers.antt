use Rattle.std.proofs.Common.{rules, ◌≡◌, length, drop, nat_eq, sym, ◌∙◌, arith, length-drop}
use borrow.Author.Tests.{tests}
use Rattle.std.proofs.lemmas.List.{take_rest}
use Rattle.std.proofs.lemmas.Iterator.{YieldsList-from_slice}
use Rattle.std.proofs.lemmas.Iterator.Search.{position_from_yields_List}
use Rattle.bench_parse.proofs.Laws.WordLaws.{space_found, no_space_found}
use Rattle.bench_parse.specs.Lines.{space}
use Rattle.bench_parse.specs.Workers.{word_length}
use Rattle.bench_parse.proofs.word_end.Goals as goal

pub returns-in-Some-clause-place : goal.returns-in-Some-clause-place
returns-in-Some-clause-place c =
    let k : c.in-Some.k ≡ word_length (drop c.args.at c.args.line.now) =
    space_found _ _ (sym c.in-Some.is ∙ position_from_yields_List (λ x. nat_eq x space) _ _ _ c.position.ensures.ran
    (YieldsList-from_slice _ (c.iter.ensures.rest ∙ take_rest c.args.line.now c.args.at)) (λ x b q k. search (rules, tests))) in
    omega arith

pub returns-in-None-clause-place : goal.returns-in-None-clause-place
returns-in-None-clause-place c =
    let k : length (drop c.args.at c.args.line.now) ≡ word_length (drop c.args.at c.args.line.now) =
    no_space_found _ (sym c.in-None.is ∙ position_from_yields_List (λ x. nat_eq x space) _ _ _ c.position.ensures.ran
    (YieldsList-from_slice _ (c.iter.ensures.rest ∙ take_rest c.args.line.now c.args.at)) (λ x b q k. search (rules, tests))) in
    omega (arith, length-drop c.args.at c.args.line.now)

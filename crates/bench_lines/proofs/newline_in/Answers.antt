use Rattle.std.proofs.Common.{rules, nat_eq}
use borrow.Author.Tests.{tests}
use Rattle.std.proofs.lemmas.Iterator.{YieldsList-from_slice}
use Rattle.std.proofs.lemmas.Iterator.Search.{position_from_yields_List}
use Rattle.bench_print.specs.Printing.{newline}
use Rattle.bench_lines.proofs.Laws.CutLaws.{newline_found}
use Rattle.bench_lines.proofs.newline_in.Goals as goal

pub returns : goal.returns
returns c =
    newline_found _ _
    (position_from_yields_List (λ x. nat_eq x newline) _ _ _ c.position.ensures.ran
    (YieldsList-from_slice c.args.bytes.now c.iter.ensures.rest) (λ x b q k. search (rules, tests)))

use Rattle.std.proofs.Common.{rules, ◌∙◌}
use borrow.Author.Tests.{tests, le-ltb}
use Rattle.std.proofs.lemmas.List.{take_rest}
use Rattle.std.proofs.lemmas.Iterator.{YieldsList-from_slice}
use Rattle.std.proofs.lemmas.Iterator.Search.{all_from_yields_List}
use Rattle.bench_parse.specs.Lines.{is_hex}
use Rattle.bench_parse.proofs.Laws.HexLaws.{hexes_are, hexes_none}
use Rattle.bench_parse.proofs.hex_from.Goals as goal

pub returns-then-at-line : goal.returns-then-at-line
returns-then-at-line c =
    hexes_are _ _ _ (search rules) (all_from_yields_List is_hex _ _ _ c.all.ensures.ran
    (YieldsList-from_slice _ (c.iter.ensures.rest ∙ take_rest c.args.line.now c.args.at)) (λ x b q k. search (rules, tests)))

pub returns-else-at-line : goal.returns-else-at-line
returns-else-at-line c = rw (le-ltb _ _ c.if-at-line.false) (hexes_none _ _ c.if-at-line.false)

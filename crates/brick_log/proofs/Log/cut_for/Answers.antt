use mathlib.Core.Path.{sym, ◌∙◌}
use native.Mathlib.Omega.{arith}
use lib.Dec.{ltb}
use lib.ListN.{take}
use Rattle.std.proofs.Common.{◌-◌, rules, tests}
use Rattle.std.proofs.lemmas.Iterator.{YieldsList-from_slice}
use Rattle.std.proofs.lemmas.Iterator.Consumers.{count_from_yields_List}
use Rattle.std.proofs.lemmas.Iterator.Search.{YieldsList-from_take_while}
use Rattle.std.proofs.lemmas.List.Folds.{length-prefix_len}
use Rattle.image.specs.declared.Entry.{Entry}
use Rattle.brick_log.proofs.Laws.LookLaws.{cut_prefix}
use Rattle.brick_log.proofs.Log.cut_for.Goals as goal

pub returns : goal.returns
returns c =
    let under = λ (e : Entry). ltb e.time c.args.time in
    let some = take (c.args.self.now.count - 1) c.args.self.now.entries in
    count_from_yields_List c.take_while.result _ c.count.ensures.ran
    (YieldsList-from_take_while _ under (YieldsList-from_slice some (cc)) c.take_while.ensures.closure c.take_while.ensures.done
    (λ x b q k. search (rules, tests)))
    ∙ length-prefix_len under some
    ∙ sym (cut_prefix c.args.self.now.entries c.args.self.now.count c.args.time (omega arith))

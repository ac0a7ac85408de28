use native.Mathlib.Omega.{arith}
use lib.Dec.{eqb}
use Rattle.std.proofs.Common.{rules, tests}
use Rattle.image.specs.Opening.{blank}
use Rattle.image.specs.declared.Entry.{Entry}
use Rattle.brick_log.proofs.Laws.SearchLaws.{searched_back}
use Rattle.brick_log.proofs.Log.find_time.Goals as goal

pub returns : goal.returns
returns c =
    searched_back (λ (e : Entry). eqb e.time c.args.time) blank c.args.self.now.entries c.args.self.now.count _ _ _ (omega arith) (cc)
    c.rposition.ensures.ran (λ x b q k. search (rules, tests))

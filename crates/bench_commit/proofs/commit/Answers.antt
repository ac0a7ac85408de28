use Rattle.std.proofs.Common.{arith, ◌≡◌}
use Rattle.settings.specs.Refusal.{number_of_refusal}
use Rattle.bench_commit.proofs.Laws.CommitLaws.{answers_refused}
use Rattle.coord_refusals.proofs.Laws.RefusedLaws.{number_positive}
use Rattle.bench_commit.proofs.commit.Goals as goal

pub returns-in_default : goal.returns-in_default
returns-in_default c = λ old.
    rw c.unwrap_err.ensures
    (answers_refused _ _ _ _ _ _ _ _ _ _ _ c.requires.seats _ _
    (λ (z : number_of_refusal c.unwrap_err.result ≡ 0). let p = number_positive c.unwrap_err.result in omega arith) c.refuse_as.ensures)

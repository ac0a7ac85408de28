use mathlib.Core.Path.{refl}
use Rattle.bench_player.proofs.Laws.PlayerRefusalLaws.{none_waits, none_accepted}
use borrow.Author.Rules.{rules}
use Rattle.bench_player.proofs.no_set.Statement.{statement}
use Rattle.bench_player.proofs.no_set.Tie as tie

new-bench-requires : tie.Need-new_bench-requires
new-bench-requires c κs = search rules

returns : tie.Need-returns
returns c = (λ l events. none_waits _ _ l events c.new_bench.ensures refl, none_accepted _ _ c.new_bench.ensures refl)

pub no_set_spec : {M : Type 1} → statement M
no_set_spec = tie.close (tie.spec new-bench-requires returns)

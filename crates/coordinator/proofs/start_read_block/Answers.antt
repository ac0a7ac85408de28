use Rattle.coordinator.proofs.Laws.RoutineLaws.{passed_on, read_block_call_lem, start_refused, start_answered, block_brick}
use native.Mathlib.Omega.{arith}
use mathlib.Core.Path.{refl, ap, ◌∙◌}
use Prim.Native.Nat.{ℕ}
use Rattle.coord_tally.specs.Counting.{target_flags}
use Rattle.coordinator.specs.Workers.{started}
use Rattle.message.specs.Kinds.{block_targets}
use Rattle.coordinator.proofs.start_read_block.Goals as goal

pub returns-in_err-code : goal.returns-in_err-code
returns-in_err-code c = λ blocks stripe coded.
    rw (passed_on _ _ c.from_residual.ensures.1)
    (read_block_call_lem _ _ _ _ _ _ _ blocks stripe coded _ _ (start_refused _ _ _ _ _ _ _ blocks stripe coded _ _ _ c.in_err-code.ensures.value))

pub target_flags-targets-requires : goal.target_flags-targets-requires
target_flags-targets-requires c =
    let b = block_brick _ _ _ _ _ _ _ _ c.in_ok-code.ensures.value refl in omega (arith, b, c.in_ok-code.ensures.code.0)

pub returns : goal.returns
returns c = λ blocks stripe coded.
    read_block_call_lem _ _ _ _ _ _ _ blocks stripe coded _ _
    (start_answered _ _ _ _ _ _ _ blocks stripe coded _ _ c.in_ok-code.ensures.value _
    (c.start.ensures
    ∙ ap (started c.args.c _ _ _ _ _)
    (c.target_flags-targets.ensures ∙ ap (λ (k : ℕ). target_flags k block_targets c.args.block) c.in_ok-code.ensures.code.0)) refl refl)

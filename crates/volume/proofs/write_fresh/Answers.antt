use mathlib.Core.Path.{refl}
use Rattle.brick.proofs.Laws.OutcomeLaws.{refusal_number}
use Rattle.volume.proofs.Laws.RowCallLaws.{lent_row, fresh_row_refused, fresh_row_written}
use Rattle.volume.proofs.write_fresh.Goals as goal

pub fill_row-requires : goal.fill_row-requires
fill_row-requires c =
    let e = lent_row _ _ _ _ c.in_ok-check_row.ensures refl in
    record { settings_range = e.range; brick_lt_n = e.brick-low; images_len = e.long }

pub returns-in_err-check_row-clause-images_after : goal.returns-in_err-check_row-clause-images_after
returns-in_err-check_row-clause-images_after c = fresh_row_refused _ _ _ _ c.in_err-check_row.ensures (refusal_number c.in_err-check_row.field-0.0)

pub returns-clause-images_after : goal.returns-clause-images_after
returns-clause-images_after c = fresh_row_written _ _ _ _ _ c.in_ok-check_row.ensures refl c.fill_row.ensures

use mathlib.Core.Path.{◌≡◌, refl, sym}
use native.Mathlib.Omega.{arith}
use Rattle.std.proofs.Common.{rules}
use Rattle.settings.specs.Refusal.{number_of_refusal}
use Rattle.brick.specs.Receive.{Refused, given_in}
use Rattle.brick.proofs.Laws.OutcomeLaws.{fronted, refusal_number}
use Rattle.settings.proofs.Laws.RangeLaws.{settings_passed}
use Rattle.byte_lists.proofs.Laws.StackLaws.{part_length}
use Rattle.volume.proofs.Laws.RowCallLaws.{rows_setting, rows_front, rows_acted, image_room_lem}
use Rattle.volume.proofs.receive.Goals as goal

pub returns-in_err-check : goal.returns-in_err-check
returns-in_err-check c =
    let r = c.in_err-check.field-0.0 in
    let e : given_in c.from_residual.result ≡ Refused (number_of_refusal r) = search rules in
    rw e (rows_setting _ _ _ _ _ _ _ _ c.in_err-check.ensures (refusal_number r))

pub check_front-requires : goal.check_front-requires
check_front-requires c = (settings_passed c.args.s (sym c.in_ok-check.ensures)).stripes-high

pub returns-in_err-check_front : goal.returns-in_err-check_front
returns-in_err-check_front c =
    let r = c.in_err-check_front.field-0.0 in
    let e : given_in c.from_residual-in_err-check_front.result ≡ Refused (number_of_refusal r) = search rules in
    rw e (rows_front _ _ _ _ _ _ _ _ c.in_err-check_front.ensures (refusal_number r))

pub overflow_add-room : goal.overflow_add-room
overflow_add-room c = let g = (fronted _ _ _ _ _ _ _ c.in_ok-check_front.ensures refl).range in omega arith

pub overflow_mul-room : goal.overflow_mul-room
overflow_mul-room c = let g = (fronted _ _ _ _ _ _ _ c.in_ok-check_front.ensures refl).range in omega arith

pub overflow_mul-at : goal.overflow_mul-at
overflow_mul-at c =
    let g = image_room_lem _ _ _ _ _ _ (fronted _ _ _ _ _ _ _ c.in_ok-check_front.ensures refl) refl in omega arith

pub overflow_add-end : goal.overflow_add-end
overflow_add-end c =
    let g = image_room_lem _ _ _ _ _ _ (fronted _ _ _ _ _ _ _ c.in_ok-check_front.ensures refl) refl in omega arith

pub slice_bounds-receive-end : goal.slice_bounds-receive-end
slice_bounds-receive-end c =
    let g = image_room_lem _ _ _ _ _ _ (fronted _ _ _ _ _ _ _ c.in_ok-check_front.ensures refl) refl in omega arith

pub returns : goal.returns
returns c =
    rows_acted c.args.s c.args.brick c.args.images.now c.args.msg c.args.block.now c.args.old.now c.args.out.now _
    c.in_ok-check_front.ensures refl _ refl _ _ _ c.receive.auto.image
    (part_length _ _ _ (image_room_lem _ _ _ _ _ _ (fronted _ _ _ _ _ _ _ c.in_ok-check_front.ensures refl) refl)) c.receive.ensures

use Rattle.std.proofs.Common.{refl}
use Rattle.image.proofs.Laws.OpenLaws.{nonzero}
use Rattle.image_write.proofs.Laws.FreshImageLaws.{fresh_refused, fresh_written}
use Rattle.image_write.proofs.write_fresh.Goals as goal

pub returns-in_err-member-clause-image_after : goal.returns-in_err-member-clause-image_after
returns-in_err-member-clause-image_after c = fresh_refused _ _ _ _ c.in_err-member.ensures.value (nonzero c.in_err-member.field-0.0)

pub returns-clause-image_after : goal.returns-clause-image_after
returns-clause-image_after c =
    let m = c.in_ok-member.ensures.member in
    fresh_written _ _ _ _ _ c.in_ok-member.ensures.value refl (rw (m.0, m.1) at c.fill_fresh.ensures)

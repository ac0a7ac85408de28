use Rattle.std.proofs.Common.{◌≡◌, List, ℕ, length, take, drop, refl, sym, arith, length-take}
use Rattle.std.proofs.lemmas.Grind.{common_steps}
use Rattle.settings.specs.declared.Settings.{Settings}
use Rattle.image.specs.Image.{image_size}
use Rattle.image.specs.Parse.{image_block_at, count_in, promise_in}
use Rattle.image_block.specs.Block.{block_bytes}
use Rattle.image.proofs.Laws.OpenLaws.{LentImage, lent, lending_err, open_unchecked, open_scan, open_unfit, open_done}
use Rattle.image.proofs.Laws.HubLaws.{hub}
use Rattle.image.proofs.open.Goals as goal

first-at : (l : List ℕ) → take block_bytes (drop 0 l) ≡ image_block_at l 0
unfolding image_block_at
first-at l = refl

pub returns-in_err-member-clause-value : goal.returns-in_err-member-clause-value
returns-in_err-member-clause-value c = grind (arith, common_steps, lending_err)

long : (s : Settings) (brick : ℕ) (l : List ℕ) → LentImage s brick (length l) → length (take block_bytes l) ≡ block_bytes
unfolding image_size
long s brick l e = omega (arith, e.long, length-take {A = ℕ} block_bytes l)

lent_at : (c : goal.In_ok-member) → LentImage c.args.s c.args.brick (length c.args.image.now)
lent_at c = lent _ _ _ _ c.in_ok-member.ensures.value refl

pub slice_bounds-t-end : goal.slice_bounds-t-end
slice_bounds-t-end c = omega (arith, long _ _ _ (lent_at c))

pub check_holds-requires : goal.check_holds-requires
check_holds-requires c = long _ _ _ (lent_at c)

pub returns-then-not-check_holds-clause-value : goal.returns-then-not-check_holds-clause-value
returns-then-not-check_holds-clause-value c = open_unchecked _ _ _ _ (lent _ _ _ _ c.in_ok-member.ensures.value refl) (first-at _) (sym c.if-not-check_holds.ensures)

pub read2-requires : goal.read2-requires
read2-requires c = omega (arith, long _ _ _ (lent _ _ _ _ c.in_ok-member.ensures.value refl))

pub read8-requires : goal.read8-requires
read8-requires c = omega (arith, long _ _ _ (lent _ _ _ _ c.in_ok-member.ensures.value refl))

pub returns-in_err-log-clause-value : goal.returns-in_err-log-clause-value
unfolding count_in promise_in
returns-in_err-log-clause-value c =
    let m = c.in_ok-member.ensures.member in
    let q =
    open_scan _ _ _ _ (lent _ _ _ _ c.in_ok-member.ensures.value refl) (first-at _) (sym c.if-not-check_holds.ensures) _ _ c.read2.ensures.0 c.read8.ensures
    c.in_err-log.field-0.0 (rw m.0 at c.in_err-log.ensures.value) in
    grind (arith, common_steps, q)

pub head_fits-requires : goal.head_fits-requires
head_fits-requires c = long _ _ _ (lent _ _ _ _ c.in_ok-member.ensures.value refl)

pub returns-then-not-head_fits-clause-value : goal.returns-then-not-head_fits-clause-value
unfolding count_in promise_in
returns-then-not-head_fits-clause-value c =
    let m = c.in_ok-member.ensures.member in
    open_unfit _ _ _ _ (lent _ _ _ _ c.in_ok-member.ensures.value refl) (first-at _) (sym c.if-not-check_holds.ensures) _ _ c.read2.ensures.0 c.read8.ensures
    (rw m.0 at c.in_ok-log.ensures.value) (sym (rw (m.0, m.1) at c.if-not-head_fits.ensures))

pub returns-clause-value : goal.returns-clause-value
unfolding count_in promise_in
returns-clause-value c =
    let m = c.in_ok-member.ensures.member in
    open_done _ _ _ _ (lent _ _ _ _ c.in_ok-member.ensures.value refl) (first-at _) (sym c.if-not-check_holds.ensures) _ _ c.read2.ensures.0 c.read8.ensures
    (rw m.0 at c.in_ok-log.ensures.value) _ (rw m.0 at c.in_ok-log.ensures.log) (sym (rw (m.0, m.1) at c.if-not-head_fits.ensures))

pub returns-clause-opened : goal.returns-clause-opened
returns-clause-opened c = hub _ _ _ _ _ (returns-clause-value c) refl

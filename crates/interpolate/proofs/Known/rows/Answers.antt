use Rattle.std.proofs.Common.{arith, ◌≡◌, ◌+◌, ◌*◌, ◌≤◌, ◌∙◌, length}
use native.Mathlib.Nat.{suc-mul, zero-mul, mul-le-mul_right}
use Rattle.byte_lists.proofs.Laws.StackLaws.{stacked_none, stacked_more, stacked_all, part_length}
use Rattle.interpolate.specs.Values.{blocks_at}
use Rattle.interpolate.proofs.Known.rows.Goals as goal

pub loop-x-init : goal.loop-x-init
loop-x-init c = rw (zero-mul _) (stacked_none _ _ _)

pub loop-x-preserved : goal.loop-x-preserved
loop-x-preserved c =
    let x = c.loop-x.x in
    let size = c.args.self.now.size in
    let h = mul-le-mul_right size c.loop-x-test.true in
    let next : (x + 1) * size ≡ x * size + size = omega (arith, suc-mul x size) in
    let within : x * size + size ≤ length c.loop-x.out = omega (arith, h, suc-mul x size, c.loop-x.invariant.size-kept, c.requires.0) in
    let long = part_length size c.loop-x.out (x * size) within in
    rw next
    (stacked_more _ size _ _ _ _ _ c.loop-x.invariant within (c.row.auto.out ∙ long)
    c.row.ensures)

pub returns : goal.returns
unfolding blocks_at
returns c = stacked_all _ _ _ _ _ _ _ c.loop-x.invariant c.loop-x-test.false c.loop-x.auto.x-end c.requires.0

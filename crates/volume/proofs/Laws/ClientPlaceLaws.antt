-- Client blocks and pairs of a stripe and a data block are the same things, one to one.
use mathlib.Core.Path.{◌∙◌}
use Prim.Native.Nat.{ℕ, ◌*◌, ◌/◌, ◌≤◌, ◌<◌}
use native.Mathlib.Nat.{mod-lt, mod-eq_of_lt, div-eq_of_lt, div-add-mod', div-lt_iff_lt-mul, mul-add-div_right, mul-add-mod_self_right, mul_comm, suc-mul}
use native.Mathlib.Nat.{mul-le-mul_right}
use native.Mathlib.Omega.{arith}
use borrow.Author.Tests.{lt-ltb, ltb-true}
use Rattle.settings.specs.Ranges.{stripe_refusal, data_block_refusal}
use Rattle.settings.proofs.Laws.RefusalLaws.{tested}
use Rattle.image.proofs.Laws.ParseLaws.{range_of}
use Rattle.volume.specs.ClientPlaces.{stripe_of, data_block_of, client_block, client_blocks, client_refusal}
use Rattle.volume.specs.PlaceTheorem.{ClientBlockHasItsPlace, PlaceHasItsClientBlock, ClientBlockIsAccepted}

-- below S × m, divided by S it is below m
pub block_low_lem : (stripes m v : ℕ) → 1 ≤ stripes → v < stripes * m → v / stripes < m
block_low_lem stripes m v p h = (div-lt_iff_lt-mul {k = stripes} {x = v} {y = m} p).1 (let c = mul_comm m stripes in omega (arith, c, h))

pub client_block_has_its_place : ClientBlockHasItsPlace
unfolding stripe_of data_block_of client_block client_blocks
client_block_has_its_place s e v h =
    let p = (range_of s e).stripes-low in
    (mod-lt v p, block_low_lem s.stripes s.m v p h, div-add-mod' v s.stripes)

pub place_has_its_client_block : PlaceHasItsClientBlock
unfolding stripe_of data_block_of client_block client_blocks
place_has_its_client_block s e stripe block h k =
    let p = (range_of s e).stripes-low in
    let a = mul-le-mul_right s.stripes k in
    let b = suc-mul block s.stripes in
    let c = mul_comm s.m s.stripes in (
      omega (arith, a, b, c, h),
      mul-add-mod_self_right block s.stripes stripe ∙ mod-eq_of_lt h,
      mul-add-div_right p block stripe ∙ (let z = div-eq_of_lt h in omega (arith, z)),
    )

pub client_block_is_accepted : ClientBlockIsAccepted
unfolding client_refusal stripe_refusal data_block_refusal
client_block_is_accepted s e v h =
    let p = client_block_has_its_place s e v (ltb-true v (client_blocks s) (tested _ _ h)) in
    (rw (lt-ltb (stripe_of s v) s.stripes p.0), rw (lt-ltb (data_block_of s v) s.m p.1))

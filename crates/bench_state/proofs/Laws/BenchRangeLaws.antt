-- Settings within the bench's limits.
use mathlib.Core.Path.{◌≡◌, sym, ap, ◌∙◌}
use mathlib.Core.Bool.{Bool, true, ◌&&◌}
use Prim.Native.Nat.{ℕ, ◌≤◌}
use native.Mathlib.Omega.{arith}
use native.Mathlib.Nat.{mul-le-mul}
use lib.Dec.{leb}
use borrow.Author.Tests.{leb-true, eqb-true}
use Rattle.settings.specs.Ranges.{in_range, settings_refusal}
use Rattle.settings.proofs.Laws.RangeLaws.{settings_passed}
use Rattle.byte_lists.proofs.Laws.BoolLaws.{and_left, and_right}
use Rattle.settings.specs.Refusal.{refuse_unless, bad_setting}
use Rattle.settings.specs.declared.Settings.{Settings}
use Rattle.settings.proofs.Laws.RefusalLaws.{tested}
use Rattle.image.specs.Image.{image_size}
use Rattle.volume.specs.Rows.{row_size}
use Rattle.bench_state.specs.State.{bench_limits, bench_range}
use Rattle.bench_state.specs.Workers.{bench_refusal}
use Rattle.bench_state.specs.Workers.{Fits}
use Rattle.bench_limits.specs.Limits.{bench_bricks, bench_capacity, bench_size, bench_stripes}

-- a row of the bench is one image
pub row_of_one : (s : Settings) → s.stripes ≡ bench_stripes → row_size s ≡ image_size s
unfolding row_size
row_of_one s e = rw e (omega arith)

pub bench_fits : (s : Settings) → bench_range s ≡ true → Fits s
unfolding bench_range bench_limits settings_refusal image_size
bench_fits s e =
    let r = and_left (in_range s) _ e in
    let t = and_right (in_range s) _ e in
    let u = and_left _ _ t in
    let n = leb-true s.n bench_bricks (and_left _ _ (and_left _ _ u)) in
    let z = leb-true s.size bench_size (and_right (leb s.n bench_bricks) _ (and_left _ _ u)) in
    let k = leb-true s.capacity bench_capacity (and_right (leb s.n bench_bricks && leb s.size bench_size) _ u) in
    let o = eqb-true s.stripes bench_stripes (and_right (leb s.n bench_bricks && leb s.size bench_size && leb s.capacity bench_capacity) _ t) in
    let g = settings_passed s (ap (λ (b : Bool). refuse_unless b bad_setting) r) in
    let m : s.m ≤ bench_bricks = (let h = g.code.m-high in omega arith) in
    let i = row_of_one s o in
    record {
      in-range = r;
      range = g;
      small =
          record {
            bricks = n;
            blocks-fit = mul-le-mul n z;
            stripe-fits = mul-le-mul m z;
            log-fits = k;
            one-stripe = o;
            row_fits = omega (arith, i, k);
          };
      size_fits = z;
    }

pub bench_passed : (s : Settings) (k : ℕ) → k ≡ bench_refusal s → k ≡ 0 → Fits s
unfolding bench_refusal
bench_passed s k e z = bench_fits s (tested (bench_range s) _ (sym e ∙ z))

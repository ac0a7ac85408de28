-- A brick goes down or comes up, with what the callees gave as variables.
use mathlib.Core.Path.{◌≡◌, refl, sym, ap, subst, ◌∙◌}
use mathlib.Core.Bool.{Bool, true, false, cond}
use mathlib.Core.List.{List}
use Prim.Native.Nat.{ℕ, ◌≤◌, ◌<◌}
use native.Mathlib.Omega.{arith}
use lib.Dec.{eqb}
use lib.ListN.{length}
use borrow.Author.Tests.{lt-ltb, le-ltb}
use Rattle.bench_limits.specs.Limits.{bench_bricks, last_message, up_flag}
use Rattle.bench_print.proofs.Laws.WrittenLaws.{written_nothing}
use Rattle.bench_rules.specs.Play.{refuses, happens, switches}
use Rattle.bench_rules.specs.Turning.{Lent, world_in}
use Rattle.bench_rules.specs.Workers.{Turned, Lined}
use Rattle.bench_rules.proofs.Laws.TurningLaws.{one_event}
use Rattle.bench_rules.specs.declared.After.{After}
use Rattle.bench_state.specs.State.{world_of}
use Rattle.bench_state.specs.Workers.{Fits, with_up}
use Rattle.bench_state.specs.declared.Bench.{Bench}
use Rattle.bench_state.proofs.Laws.StateLaws.{up_put}
use Rattle.register.specs.Runs.{World, Event, goes_down, comes_up, step, standing}
use Rattle.settings.specs.Refusal.{bad_number}

-- a brick goes down or comes up
pub switched : (b : Bench) (l : Lent) (out : List ℕ) (brick flag : ℕ) (e : Event) (bench : Bench) → Fits b.settings → b.sent ≤ last_message → brick < b.settings.n
    → step b.settings (world_in b l) e ≡ standing b.settings (world_in b l) brick (eqb flag up_flag) → length b.up ≡ bench_bricks → bench ≡ with_up b brick flag
    → Lined b l out (switches b.settings (world_in b l) brick e) (record { bench = bench; used = 0 }) l out
unfolding switches happens standing world_in world_of with_up
switched b l out brick flag e bench fits few h q four eb =
    subst (λ (x : Bench). Lined b l out (switches b.settings (world_in b l) brick e) (record { bench = x; used = 0 }) l out) (sym eb)
    (rw (lt-ltb brick b.settings.n h)
    (record {
      world_is = ap make (up_put b.up brick flag (let a = fits.small.bricks in omega arith)) ∙ sym (rw q (rw (lt-ltb brick b.settings.n h) refl));
      settings-kept = refl;
      few = few;
      text-is = sym (written_nothing 0 out);
      used-is = refl;
      within = omega arith;
      no-event-keeps = λ z. absurd (one_event e z);
    }))
  where
    make : (ℕ → Bool) → World
    make f = record { images = (world_in b l).images; up = f; coordinators = (world_in b l).coordinators; sent = (world_in b l).sent }

-- by its flag
pub switch_flag : (b : Bench) (l : Lent) (out : List ℕ) (brick flag : ℕ) (bench : Bench) → Fits b.settings → b.sent ≤ last_message → brick < b.settings.n
    → length b.up ≡ bench_bricks → bench ≡ with_up b brick flag
    → Lined b l out (switches b.settings (world_in b l) brick (cond (eqb flag up_flag) (comes_up brick) (goes_down brick))) (record { bench = bench; used = 0 }) l out
unfolding step
switch_flag b l out brick flag bench fits few h four eb =
    switched b l out brick flag (cond (eqb flag up_flag) (comes_up brick) (goes_down brick)) bench fits few h (go (eqb flag up_flag)) four eb
  where
    go : (t : Bool) → step b.settings (world_in b l) (cond t (comes_up brick) (goes_down brick)) ≡ standing b.settings (world_in b l) brick t
    go true = refl
    go false = refl

pub switch_past : (b : Bench) (l : Lent) (out out' : List ℕ) (brick : ℕ) (e : Event) (r : After) → b.settings.n ≤ brick
    → Turned b l 0 out (refuses (world_in b l) bad_number) r l out' → Turned b l 0 out (switches b.settings (world_in b l) brick e) r l out'
unfolding switches
switch_past b l out out' brick e r h t = rw (le-ltb brick b.settings.n h) t

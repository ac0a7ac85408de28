-- The short ways: one refusal, or nothing.
use mathlib.Core.Path.{◌≡◌, refl, sym, ap, ◌∙◌}
use mathlib.Core.List.{List, [], ◌∷◌}
use Prim.Native.Nat.{ℕ, ◌+◌, ◌≤◌}
use native.Mathlib.Omega.{arith}
use lib.ListN.{length}
use Rattle.bench_print.proofs.Laws.WrittenLaws.{written_nothing}
use Rattle.bench_state.specs.declared.Bench.{Bench}
use Rattle.register.specs.Runs.{Event}
use Rattle.bench_rules.specs.Play.{Played, passes}
use Rattle.bench_rules.specs.Turning.{Lent, world_in}
use Rattle.bench_rules.specs.Workers.{Turned, Lined}
use Rattle.bench_rules.specs.declared.After.{After}
use Rattle.bench_limits.specs.Limits.{last_message}

-- nothing
pub turned_nothing : (b : Bench) (l : Lent) (at : ℕ) (out : List ℕ) → b.sent ≤ last_message → Turned b l at out (passes (world_in b l)) (record { bench = b; used = at }) l out
unfolding passes
turned_nothing b l at out f =
    record {
      world_is = refl;
      settings-kept = refl;
      few = f;
      text-is = sym (written_nothing at out);
      used-is = omega arith;
      short = omega arith;
      no-event-keeps = λ q. (refl, refl);
    }

-- a part of a line at the beginning of the printed text
pub turned_lined : (b : Bench) (l l' : Lent) (out out' : List ℕ) (p : Played) (r : After) → Turned b l 0 out p r l' out' → Lined b l out p r l' out'
turned_lined b l l' out out' p r t =
    record {
      world_is = t.world_is;
      settings-kept = t.settings-kept;
      few = t.few;
      text-is = t.text-is;
      used-is = t.used-is ∙ (let e : 0 + length p.printed ≡ length p.printed = omega arith in e);
      within = (let a = t.short in omega arith);
      no-event-keeps = t.no-event-keeps;
    }

-- an event is some event
pub one_event : (e : Event) → e ∷ [] ≡ [] → ⊥
one_event e q = let z = ap length q in absurd (omega arith)

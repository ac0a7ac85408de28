-- What a line does, part by part.
use mathlib.Core.Path.{◌≡◌}
use mathlib.Core.Logic.{◌⊎◌}
use mathlib.Core.Bool.{false}
use mathlib.Core.List.{List, [], ◌∷◌, ◌++◌}
use Prim.Native.Nat.{ℕ, ◌≤◌}
use lib.ListN.{length}
use Rattle.settings.specs.declared.Settings.{Settings}
use Rattle.coord_record.specs.Records.{reading_kind, writing_kind}
use Rattle.coord_record.specs.declared.Op.{Op}
use Rattle.order.specs.Claim.{Ending, Seen}
use Rattle.register.specs.Runs.{plain, World, Event, step}
use Rattle.register.specs.RunLetters.{letter_at}
use Rattle.bench_rules.specs.Play.{Played, refuses, passes, happens, and_then}
use Rattle.bench_order.specs.Report.{Part, plays_part}
use Rattle.bench_order.specs.ScriptTheorem.{starts_on_block}
use Rattle.bench_order.proofs.Laws.ToldLaws.{told}
use Rattle.bench_limits.specs.Limits.{bench_stripe, last_message}

-- The operation of this kind and time runs on the bench's stripe: it is a read or a write.
pub record Ran (op : Op) (kind time : ℕ) : Type 0 where
  pub time-is : op.time ≡ time
  pub kind-is : op.kind ≡ kind
  pub stripe-is : op.stripe ≡ bench_stripe
  pub known : (kind ≡ reading_kind) ⊎ (kind ≡ writing_kind)

-- "message 127": so many are sent at most
unfoldable pub FewSent : World → Type 0
FewSent w = length w.sent ≤ last_message

-- A part of a line is refused, or passes, or is an event that happens by the runs' own step and starts no operation on one block. At such an
-- event the bench prints what is seen at that very event on its stripe, of the operation that ran at its coordinator; nothing is seen on
-- another; and no message past 127 is sent.
pub data Does (s : Settings) (w : World) : Played → Type 0 where
  refusing : (number : ℕ) → Does s w (refuses w number)
  passing : Does s w (passes w)
  happening : (e : Event) (c kind : ℕ) → starts_on_block e ≡ false → (FewSent w → FewSent (step s w e).world)
      → ((time : ℕ) (how : Ending (plain s)) → (step s w e).seen bench_stripe ≡ Seen.ended time how ∷ [] → Ran (w.coordinators c).state.op kind time)
      → ((stripe : ℕ) → (stripe ≡ bench_stripe → ⊥) → (step s w e).seen stripe ≡ [])
      → Does s w (happens s w e (told s c kind (letter_at s w e) ((step s w e).seen bench_stripe)))

-- What a line does is what its parts do, one after the other.
pub data Parts (s : Settings) : World → List Part → Played → Type 0 where
  none : (w : World) → Parts s w [] (passes w)
  one : (w : World) (part : Part) → Does s w (plays_part s w part) → Parts s w (part ∷ []) (plays_part s w part)
  both : (w : World) (xs ys : List Part) (p q : Played) → Parts s w xs p → Parts s p.world ys q → Parts s w (xs ++ ys) (and_then p q)

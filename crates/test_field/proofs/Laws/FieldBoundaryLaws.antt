-- The ways through a probed draw: d is what the clock gave.
use mathlib.Core.Path.{◌≡◌, refl, ap, ◌∙◌}
use mathlib.Core.List.{List, [], ◌∷◌}
use Prim.Native.Nat.{ℕ}
use lib.ListN.{length, set}
use borrow.Author.Tests.{eq-eqb, ne_eqb}
use Rattle.byte_lists.proofs.Laws.PutLaws.{stores}
use Rattle.test_field.specs.FieldBoundary.{drawn_numbers, clock_of, draw_written, draw_given, draw_at}
use Rattle.settings.specs.Refusal.{passed, bad_length}
use Rattle.settings.specs.Times.{draw_of, number_of}
use Rattle.settings.specs.declared.Clock.{Clock}
use Rattle.settings.specs.Times.{Draw}
use Rattle.settings.specs.Times.{Drawn, Refused}

two : (a b : ℕ) (out : List ℕ) → length out ≡ drawn_numbers → set (set out 0 a) 1 b ≡ a ∷ b ∷ []
two a b out h = stores (a ∷ b ∷ []) out h

module _ (c l r : ℕ) (out : List ℕ) where
  pub draw_short : (length out ≡ drawn_numbers → ⊥) → record { number = bad_length; drawn = out } ≡ draw_at c l r out
  unfolding draw_at
  draw_short h = rw (ne_eqb (length out) drawn_numbers h) refl

  whole : (d : Draw) → length out ≡ drawn_numbers → d ≡ draw_of (clock_of c l) r → draw_given d out ≡ draw_at c l r out
  unfolding draw_at
  whole d h e = rw (eq-eqb (length out) drawn_numbers h, ← e) refl

  pub draw_refused_at : (number : ℕ) → length out ≡ drawn_numbers → Refused number ≡ draw_of (clock_of c l) r
      → record { number = number; drawn = out } ≡ draw_at c l r out
  unfolding draw_given draw_written number_of
  draw_refused_at number h e = whole (Refused number) h e

  pub draw_given_at : (t : ℕ) (next : Clock) → length out ≡ drawn_numbers → Drawn t next ≡ draw_of (clock_of c l) r
      → record { number = passed; drawn = set (set out 0 t) 1 next.last } ≡ draw_at c l r out
  unfolding draw_given draw_written number_of
  draw_given_at t next h e = ap (λ (x : List ℕ). record { number = passed; drawn = x }) (two t next.last out h) ∙ whole (Drawn t next) h e

pub ruleset draw_ways = (draw_short, draw_refused_at, draw_given_at)

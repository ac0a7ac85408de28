-- What callers use of a line that was read.
use mathlib.Core.Path.{◌≡◌, sym, ap, subst, ◌∙◌}
use mathlib.Core.List.{List, [], ◌∷◌}
use Prim.Native.Nat.{ℕ, ◌+◌, ◌≤◌, ◌<◌}
use native.Mathlib.Omega.{arith}
use lib.ListN.{length, drop}
use Rattle.bench_parse.specs.Lines.{numbers_of, set_line, write_line, read_line, carry_line, crash_line, down_line, up_line, no_line, reads}
use Rattle.bench_parse.specs.Workers.{words_from, line_of, CarryFrom, HexFrom, LineSound, NumberAt}
use Rattle.bench_parse.proofs.Laws.WordLaws.{from_here, from_none}
use Rattle.bench_parse.specs.declared.Line as code
use Rattle.bench_parse.specs.declared.Line.TheVariants.{Set, Write, Read, Carry, Crash, Down, Up, Unread}
use Rattle.bench_parse.specs.declared.Number.{Number}
use Rattle.bench_parse.specs.Workers.{CarryRest}

-- What the line says, by the answer r.
module _ (r : code.Line) (l : List ℕ) (m : line_of r l ≡ reads l) where
  pub said_set : (n m' size capacity : ℕ) → r ≡ Set n m' size capacity → reads l ≡ set_line n m' size capacity
  unfolding line_of
  said_set n m' size capacity e = sym m ∙ ap (λ (x : code.Line). line_of x l) e

  pub said_write : (c clock at : ℕ) → r ≡ Write c clock at → reads l ≡ write_line c clock (drop at l)
  unfolding line_of
  said_write c clock at e = sym m ∙ ap (λ (x : code.Line). line_of x l) e

  pub said_read : (c clock brick : ℕ) → r ≡ Read c clock brick → reads l ≡ read_line c clock brick
  unfolding line_of
  said_read c clock brick e = sym m ∙ ap (λ (x : code.Line). line_of x l) e

  pub said_carry : (at : ℕ) → r ≡ Carry at → LineSound r l → reads l ≡ carry_line (numbers_of (words_from l at))
  unfolding line_of LineSound
  said_carry at e s =
      let c : CarryFrom l at = subst (λ (x : code.Line). LineSound x l) e s in
      sym m ∙ ap (λ (x : code.Line). line_of x l) e ∙ ap (λ (ws : List (List ℕ)). carry_line (numbers_of ws)) (sym (from_here l at c.within))

  pub said_crash : (c : ℕ) → r ≡ Crash c → reads l ≡ crash_line c
  unfolding line_of
  said_crash c e = sym m ∙ ap (λ (x : code.Line). line_of x l) e

  pub said_down : (b : ℕ) → r ≡ Down b → reads l ≡ down_line b
  unfolding line_of
  said_down b e = sym m ∙ ap (λ (x : code.Line). line_of x l) e

  pub said_up : (b : ℕ) → r ≡ Up b → reads l ≡ up_line b
  unfolding line_of
  said_up b e = sym m ∙ ap (λ (x : code.Line). line_of x l) e

  pub said_nothing : r ≡ Unread → reads l ≡ no_line
  unfolding line_of
  said_nothing e = sym m ∙ ap (λ (x : code.Line). line_of x l) e

-- the places that an answer names
pub hex_place : (r : code.Line) (l : List ℕ) (c clock at : ℕ) → r ≡ Write c clock at → LineSound r l → HexFrom l at
unfolding LineSound
hex_place r l c clock at e s = subst (λ (x : code.Line). LineSound x l) e s

pub number_place : (r : code.Line) (l : List ℕ) (at : ℕ) → r ≡ Carry at → LineSound r l → CarryFrom l at
unfolding LineSound
number_place r l at e s = subst (λ (x : code.Line). LineSound x l) e s

pub rest_first : (l : List ℕ) (at : ℕ) → CarryFrom l at → CarryRest l at
rest_first l at c = record { high = omega (arith, c.within); begins = λ h. c }

pub rest_next : (l : List ℕ) (at : ℕ) (k : Number) → NumberAt l at k → CarryRest l (k.end + 1)
rest_next l at k n = record { high = omega (arith, n.ends); begins = λ h. n.later (omega arith) }

pub rest_splits : (l : List ℕ) (at : ℕ) (k : Number) → at ≤ length l → NumberAt l at k
    → numbers_of (words_from l at) ≡ k.value ∷ numbers_of (words_from l (k.end + 1))
rest_splits l at k h n = ap numbers_of (from_here l at h) ∙ n.splits

pub rest_none : (l : List ℕ) (at : ℕ) → length l < at → numbers_of (words_from l at) ≡ []
unfolding numbers_of
rest_none l at h = ap numbers_of (from_none l at h)

-- What a call of `read` answered, as the code tests it, and the turn that follows.
use mathlib.Core.Path.{◌≡◌, refl, sym, subst, ◌∙◌, ap}
use mathlib.Core.Bool.{Bool, true, false, true≢false}
use mathlib.Core.List.{List}
use Prim.Native.Nat.{ℕ, zero, suc, min, ◌≤◌}
use lib.IntN.{ℤ, pos, negsuc}
use lib.ListN.{length, take}
use mir.Syntax.{w32}
use mir.Val.{SFits, to_z, of_z}
use mir.Facts.{to_z-of_z}
use Rattle.std.specs.Prelude.{Option, None, Some}
use Rattle.std.specs.Io.KnownBytes.{Consumes, Keeps}
use Rattle.std.proofs.lemmas.List.{take_min}
use Rattle.bench_rules.specs.Turning.{Lent}
use Rattle.bench_io.specs.declared.Answer as code
use Rattle.bench_io.specs.declared.Answer.TheVariants as answer
use Rattle.bench_io.specs.Workers.{got_of, tells_again, goes_on, at_end, cannot_read, read_status, arrived, Interrupts, ChunkPlayed, PlayedLast, TurnMade, came, ended, failed}
use Rattle.bench_io.specs.declared.Pass.{Pass}
use Rattle.bench_io.proofs.Laws.PassLaws.{nothing_passed}

-- errno's number, as the code tests it
module _ (error : ℤ) (fits : SFits w32 error) where
  pub interrupts : of_z w32 error ≡ 4 → Interrupts error true
  interrupts e = record { only = λ t. sym (ap (to_z w32) (sym e) ∙ to_z-of_z fits); always = λ t. refl }

  pub interrupts_not : (of_z w32 error ≡ 4 → ⊥) → Interrupts error false
  interrupts_not h = record { only = λ t. absurd (true≢false (sym t)); always = λ t. absurd (h (ap (of_z w32) t)) }

-- at the end of the input no byte came
pub none_arrived : (got : ℤ) (interrupted : Bool) → read_status got interrupted ≡ at_end → arrived got ≡ 0
unfolding read_status arrived
none_arrived (pos zero) interrupted e = refl
none_arrived (pos (suc k)) interrupted e = cc e
none_arrived (negsuc k) interrupted e = refl

-- The turn that follows an answer.
some_came : (n : ℕ) → (n ≡ 0 → ⊥) → read_status (pos n) false ≡ goes_on
unfolding read_status
some_came zero h = absurd (h refl)
some_came (suc n) h = refl

module _ (chunk line : List ℕ) (p : Pass) (l : Lent) (out : List ℕ) (a : code.Answer) where
  pub turn_came : (n m : ℕ) (r : Pass) (line' : List ℕ) (l' : Lent) (out' : List ℕ) → a ≡ answer.Came n → (n ≡ 0 → ⊥) → m ≡ min n (length chunk)
      → ChunkPlayed (take m chunk) line p.held p.bench l out r line' l' out'
      → TurnMade (got_of a) (tells_again a) chunk line p l out r line' l' out'
  unfolding arrived
  turn_came n m r line' l' out' e h k q =
      subst (λ (x : code.Answer). TurnMade (got_of x) (tells_again x) chunk line p l out r line' l' out') (sym e)
      (came (some_came n h) (subst (λ (t : List ℕ). ChunkPlayed t line p.held p.bench l out r line' l' out') (ap (λ (j : ℕ). take j chunk) k ∙ take_min n chunk) q))

  pub turn_ended : (r : Pass) (l' : Lent) (out' : List ℕ) → a ≡ answer.Came 0 → PlayedLast line p.held p.bench l out r l' out'
      → TurnMade (got_of a) (tells_again a) chunk line p l out r line l' out'
  unfolding read_status
  turn_ended r l' out' e q =
      subst (λ (x : code.Answer). TurnMade (got_of x) (tells_again x) chunk line p l out r line l' out') (sym e) (ended refl q)

  pub turn_again : a ≡ answer.Interrupted → p.held ≤ length line
      → TurnMade (got_of a) (tells_again a) chunk line p l out (record { bench = p.bench; held = p.held; status = goes_on }) line l out
  unfolding read_status arrived
  turn_again e h =
      subst (λ (x : code.Answer). TurnMade (got_of x) (tells_again x) chunk line p l out (record { bench = p.bench; held = p.held; status = goes_on }) line l out)
      (sym e) (came refl (nothing_passed line p.held p.bench l out h))

  pub turn_failed : a ≡ answer.Failed
      → TurnMade (got_of a) (tells_again a) chunk line p l out (record { bench = p.bench; held = p.held; status = cannot_read }) line l out
  unfolding read_status
  turn_failed e =
      subst (λ (x : code.Answer). TurnMade (got_of x) (tells_again x) chunk line p l out (record { bench = p.bench; held = p.held; status = cannot_read }) line l out)
      (sym e) (failed refl refl refl)

-- The bytes that came, where it is known which the reader has left: all that the call gave, or none where it failed.
pub came_bytes : (old new : Option (List ℕ)) (chunk : List ℕ) (n : ℕ) → Consumes old new (take n chunk) → Consumes old new (take (arrived (pos n)) chunk)
unfolding arrived
came_bytes old new chunk n c = c

pub came_none : (old new : Option (List ℕ)) (chunk : List ℕ) → Keeps old new → Consumes old new (take (arrived (negsuc 0)) chunk)
unfolding arrived
came_none None new chunk k = tt
came_none (Some xs) None chunk k = k
came_none (Some xs) (Some ys) chunk k = sym k

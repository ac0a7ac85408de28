-- Why the program stops, by the last turn of its chain.
use mathlib.Core.Path.{◌≡◌, refl, sym, ap, subst, ◌∙◌}
use mathlib.Core.Bool.{Bool, true, false, cond}
use mathlib.Core.List.{List, [], ◌∷◌, ◌++◌}
use Prim.Native.Nat.{ℕ, zero, suc}
use native.Mathlib.Omega.{arith}
use lib.IntN.{ℤ, pos, negsuc}
use lib.ListN.{length, take, length-append}
use Rattle.bench_io.specs.Counts.{Moved}
use Rattle.bench_rules.specs.Turning.{Lent}
use Rattle.bench_io.specs.Workers.{goes_on, at_end, cannot_read, cannot_write, write_status, read_status, arrived, left_with}
use Rattle.bench_io.specs.Workers.{TurnMade, came, ended, failed, Turns, none, next}
use Rattle.bench_io.specs.declared.Pass.{Pass}
use Rattle.bench_io.specs.declared.Standing.{Standing}
use Rattle.bench_io.proofs.Laws.PassLaws.{last_not_on}
use Rattle.bench_io.specs.StopTheorem.{answers, GoOn, start, then, Stops, at_the_end, not_read, not_written, used_up, TheStatusTellsWhy}

-- what the last answer was, by how the program stands
data Ends (l : List ℤ) : Standing → Type 0 where
  on : Ends l goes_on
  zero_read : (before : List ℤ) → GoOn before → l ≡ before ++ pos 0 ∷ [] → Ends l at_end
  none_read : (before : List ℤ) → GoOn before → l ≡ before ++ negsuc 0 ∷ [] → Ends l cannot_read
  none_written : Ends l cannot_write

end_answer_lem : (got : ℤ) (interrupted : Bool) → read_status got interrupted ≡ at_end → got ≡ pos 0
unfolding read_status
end_answer_lem (pos zero) interrupted e = refl
end_answer_lem (pos (suc k)) interrupted e = cc e
end_answer_lem (negsuc k) true e = cc e
end_answer_lem (negsuc k) false e = cc e

failed_answer : (got : ℤ) (interrupted : Bool) (most : ℕ) → read_status got interrupted ≡ cannot_read → Moved most got → got ≡ negsuc 0
unfolding read_status
failed_answer (pos zero) interrupted most e m = cc e
failed_answer (pos (suc k)) interrupted most e m = cc e
failed_answer (negsuc k) interrupted most e m = ap negsuc m

module _ (before : List ℤ) (b : GoOn before) where
  by_writing : (l : List ℤ) (written : Bool) (status : Standing) → status ≡ write_status written → Ends l status
  unfolding write_status
  by_writing l true status e = subst (Ends l) (sym e) on
  by_writing l false status e = subst (Ends l) (sym e) none_written

  by_ending : (got : ℤ) (written : Bool) (status : Standing) → got ≡ pos 0 → status ≡ cond written at_end cannot_write → Ends (before ++ got ∷ []) status
  by_ending got true status g e = subst (Ends (before ++ got ∷ [])) (sym e) (zero_read before b (ap (λ (z : ℤ). before ++ z ∷ []) g))
  by_ending got false status g e = subst (Ends (before ++ got ∷ [])) (sym e) none_written

  by_failing : (got : ℤ) (status : Standing) → got ≡ negsuc 0 → status ≡ cannot_read → Ends (before ++ got ∷ []) status
  by_failing got status g e = subst (Ends (before ++ got ∷ [])) (sym e) (none_read before b (ap (λ (z : ℤ). before ++ z ∷ []) g))

  by_turn : {got : ℤ} {interrupted : Bool} {chunk line out line' out' : List ℕ} {p r : Pass} {l l' : Lent} → Moved (length chunk) got
      → TurnMade got interrupted chunk line p l out r line' l' out' → Ends (before ++ got ∷ []) r.status
  by_turn {got} m (came e q) = by_writing (before ++ got ∷ []) q.written _ q.status-is
  by_turn {got} {interrupted} m (ended e q) = by_ending got q.written _ (end_answer_lem got interrupted e) q.status-is
  by_turn {got} {interrupted} {chunk} m (failed e f o) = by_failing got _ (failed_answer got interrupted (length chunk) e m) f

went_on : {got : ℤ} {interrupted : Bool} {chunk line out line' out' : List ℕ} {p r : Pass} {l l' : Lent}
    → TurnMade got interrupted chunk line p l out r line' l' out' → r.status ≡ goes_on → read_status got interrupted ≡ goes_on
went_on (came e q) g = e
went_on (ended e q) g = absurd (last_not_on q.written _ q.status-is g)
went_on (failed e f b) g = cc (f, g)

-- a chain after which the program goes on has only such answers
turns_on : {p₀ : Pass} {l₀ : Lent} {line₀ out₀ : List ℕ} {p : Pass} {l : Lent} {text line out : List ℕ} {chunks : List (List ℕ)}
    (ts : Turns p₀ line₀ l₀ out₀ chunks text p line l out) → p.status ≡ goes_on → GoOn (answers ts)
unfolding answers
turns_on none e = start
turns_on (next got interrupted chunk ts o moved t) e = then got interrupted (turns_on ts o) (went_on t e)

turns_end : {p₀ : Pass} {l₀ : Lent} {line₀ out₀ : List ℕ} {p : Pass} {l : Lent} {text line out : List ℕ} {chunks : List (List ℕ)} → p₀.status ≡ goes_on
    → (ts : Turns p₀ line₀ l₀ out₀ chunks text p line l out) → Ends (answers ts) p.status
unfolding answers
turns_end e none = subst (Ends []) (sym e) on
turns_end e (next got interrupted chunk ts o moved t) = by_turn (answers ts) (turns_on ts o) moved t

-- an answer for each turn
answers_many : {p₀ : Pass} {l₀ : Lent} {line₀ out₀ : List ℕ} {p : Pass} {l : Lent} {text line out : List ℕ} {chunks : List (List ℕ)}
    (ts : Turns p₀ line₀ l₀ out₀ chunks text p line l out) → length (answers ts) ≡ length chunks
unfolding answers
answers_many none = refl
answers_many (next {chunks = cs} got interrupted chunk ts o moved t) =
    omega (arith, answers_many ts, length-append (answers ts) (got ∷ []), length-append cs (take (arrived got) chunk ∷ []))

pub the_status_tells_why : TheStatusTellsWhy
unfolding left_with
the_status_tells_why left r = go r.status (subst (Ends (answers r.ran.turns)) r.ran.status-is (turns_end refl r.ran.turns)) refl
  where
    go : (status : Standing) → Ends (answers r.ran.turns) status → r.status ≡ status → Stops r
    go status on q = used_up (answers_many r.ran.turns ∙ r.ran.stopped q) (r.left_is ∙ ap left_with q)
    go status (zero_read before b e) q = at_the_end before b e (r.left_is ∙ ap left_with q)
    go status (none_read before b e) q = not_read before b e (r.left_is ∙ ap left_with q)
    go status none_written q = not_written q (r.left_is ∙ ap left_with q)

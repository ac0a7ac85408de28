-- What a clock gives.
use mathlib.Core.Path.{◌≡◌, refl, sym, ap, subst, ◌∙◌}
use mathlib.Core.Bool.{Bool, true, false, cond}
use Prim.Native.Nat.{ℕ, ◌%◌, ◌≤◌, ◌<◌}
use native.Mathlib.Omega.{arith}
use lib.Dec.{leb, ltb}
use borrow.Author.Tests.{lt-ltb, le-leb, ltb-false, leb-true, leb-false}
use Rattle.settings.specs.Times.{max_count, no_upper_end, coordinator_count, last_coordinator, time_of, valid_time, next_count, draw_refusal, advanced, draw_of, number_of, Draws, Gave}
use Rattle.settings.specs.Refusal.{passed, bad_number, bad_record, bad_reading, clock_spent}
use Rattle.settings.specs.declared.Clock.{Clock}
use Rattle.settings.specs.Times.{Drawn, Refused}

pub draw_passed : (c : Clock) (reading k : ℕ) → k ≡ draw_refusal c reading → k ≡ 0 → Draws c reading
unfolding draw_refusal
draw_passed c reading k e z =
    go (ltb last_coordinator c.coordinator) (ltb max_count c.last) (ltb max_count reading) (leb max_count c.last) refl refl refl refl (sym e ∙ z)
  where
    go : (a b d f : Bool) → ltb last_coordinator c.coordinator ≡ a → ltb max_count c.last ≡ b → ltb max_count reading ≡ d → leb max_count c.last ≡ f
        → ◌≡◌ {A = ℕ} (cond a bad_number (cond b bad_record (cond d bad_reading (cond f clock_spent passed)))) 0 → Draws c reading
    go true b d f ea eb ed ef r = absurd (omega arith)
    go false true d f ea eb ed ef r = absurd (omega arith)
    go false false true f ea eb ed ef r = absurd (omega arith)
    go false false false true ea eb ed ef r = absurd (omega arith)
    go false false false false ea eb ed ef r =
        record {
          coordinator-high = ltb-false last_coordinator c.coordinator ea;
          last-high = leb-false max_count c.last ef;
          reading-high = ltb-false max_count reading ed;
        }

-- The ways through a draw: k is what the refusal gave.
pub draw_refused : (c : Clock) (reading k : ℕ) → k ≡ draw_refusal c reading → (k ≡ 0 → ⊥) → Refused k ≡ draw_of c reading
unfolding draw_of
draw_refused c reading k e h =
    subst (λ (r : ℕ). Refused k ≡ cond (leb r 0) (Drawn (time_of (next_count c.last reading) c.coordinator) (advanced c reading)) (Refused r)) e
    (go (leb k 0) refl)
  where
    go : (b : Bool) → leb k 0 ≡ b
        → Refused k ≡ cond b (Drawn (time_of (next_count c.last reading) c.coordinator) (advanced c reading)) (Refused k)
    go true l = absurd (h (omega (arith, leb-true k 0 l)))
    go false l = refl

pub draw_given_lem : (c : Clock) (reading k n t : ℕ) → k ≡ draw_refusal c reading → k ≡ 0 → n ≡ next_count c.last reading
    → t ≡ time_of n c.coordinator → Drawn t (record { coordinator = c.coordinator; last = n }) ≡ draw_of c reading
unfolding draw_of advanced
draw_given_lem c reading k n t e z en et = go (leb (draw_refusal c reading) 0) (le-leb (draw_refusal c reading) 0 (omega arith))
  where
    go : (b : Bool) → b ≡ true
        → Drawn t (record { coordinator = c.coordinator; last = n })
        ≡ cond b (Drawn (time_of (next_count c.last reading) c.coordinator) (advanced c reading)) (Refused (draw_refusal c reading))
    go true l = cc
    go false l = cc

pub gave : (c : Clock) (reading t : ℕ) (next : Clock) → draw_of c reading ≡ Drawn t next → Gave c reading t next
unfolding draw_of advanced
gave c reading t next e = go (leb (draw_refusal c reading) 0) refl e
  where
    go : (b : Bool) → leb (draw_refusal c reading) 0 ≡ b
        → cond b (Drawn (time_of (next_count c.last reading) c.coordinator) (advanced c reading)) (Refused (draw_refusal c reading)) ≡ Drawn t next
        → Gave c reading t next
    go true l d =
        let is-next : advanced c reading ≡ next = cc in
        record {
          drew = draw_passed c reading (draw_refusal c reading) refl (omega (arith, leb-true (draw_refusal c reading) 0 l));
          time = cc;
          same = cc;
          count = cc;
        }
    go false l d = let z : ◌≡◌ {A = ℕ} 0 1 = cc in absurd (omega arith)

-- A drawn time is a valid time,
pub drawn_valid : (c : Clock) (reading t : ℕ) (next : Clock) → draw_of c reading ≡ Drawn t next → valid_time t ≡ true
unfolding valid_time max_count no_upper_end time_of next_count
drawn_valid c reading t next e =
    let g = gave c reading t next e in
    let low : coordinator_count ≤ t = omega (arith, g.time, g.count) in
    let high : t < no_upper_end = omega (arith, g.time, g.count, g.drew.coordinator-high, g.drew.last-high, g.drew.reading-high) in
    rw (le-leb coordinator_count t low, lt-ltb t no_upper_end high)

-- above every time whose count the clock had reached before, whoever's it is,
pub drawn_above : (c : Clock) (reading t : ℕ) (next : Clock) → draw_of c reading ≡ Drawn t next → time_of c.last last_coordinator < t
unfolding time_of next_count
drawn_above c reading t next e = let g = gave c reading t next e in omega (arith, g.time, g.count)

-- and its remainder by their number is the coordinator's number:
pub drawn_own : (c : Clock) (reading t : ℕ) (next : Clock) → draw_of c reading ≡ Drawn t next → t % coordinator_count ≡ c.coordinator
unfolding time_of
drawn_own c reading t next e = let g = gave c reading t next e in omega (arith, g.time, g.drew.coordinator-high)

-- so the times of two coordinators differ.
pub drawn_differ : (c d : Clock) (r s t u : ℕ) (c' d' : Clock) → draw_of c r ≡ Drawn t c' → draw_of d s ≡ Drawn u d'
    → (c.coordinator ≡ d.coordinator → ⊥) → t ≡ u → ⊥
drawn_differ c d r s t u c' d' e f different same =
    different (sym (drawn_own c r t c' e) ∙ ap (λ (x : ℕ). x % coordinator_count) same ∙ drawn_own d s u d' f)

-- an answer's number is the refusal's
pub draw_number : (c : Clock) (reading : ℕ) → number_of (draw_of c reading) ≡ draw_refusal c reading
unfolding draw_of number_of
draw_number c reading = go (leb (draw_refusal c reading) 0) refl
  where
    go : (b : Bool) → leb (draw_refusal c reading) 0 ≡ b
        → number_of (cond b (Drawn (time_of (next_count c.last reading) c.coordinator) (advanced c reading)) (Refused (draw_refusal c reading)))
        ≡ draw_refusal c reading
    go true l = omega (arith, leb-true (draw_refusal c reading) 0 l)
    go false l = refl

-- The ways through the checks, and what passing them says.
use mathlib.Core.Path.{◌≡◌, refl, sym, ◌∙◌}
use mathlib.Core.Bool.{true}
use mathlib.Core.List.{List, [], ◌∷◌, ◌++◌}
use Prim.Native.Nat.{ℕ, zero, suc, ◌*◌, ◌≤◌, ◌<◌}
use native.Mathlib.Nat.{mul-le-mul_right}
use native.Mathlib.Omega.{arith}
use lib.Dec.{leb}
use borrow.Author.Tests.{eq-eqb, ne_eqb, leb-true, ltb-true}
use Rattle.coord_record.specs.Sound.{sound_record}
use Rattle.coord_record.proofs.Laws.SoundPartLaws.{sound_parts}
use Rattle.coord_record.specs.Records.{idle_kind}
use Rattle.coord_record.specs.declared.Coordinator.{Coordinator}
use Rattle.coord_refusals.specs.Checks.{record_checks, stripe_checks, block_checks, start_checks}
use Rattle.settings.specs.Ranges.{CodeRange, max_bricks, stripe_refusal, data_block_refusal}
use Rattle.settings.specs.Refusal.{first_refusal, refuse_unless, number_of_refusal, bad_number, bad_record, busy}
use Rattle.settings.specs.Times.{draw_refusal, last_coordinator}
use Rattle.settings.specs.declared.Refusal.{Refusal}
use Rattle.settings.specs.declared.Refusal.TheVariants.{BadSetting, BadLength, BadNumber, BadBrickSet, BadCheck, BadRecord, BadReading, ClockSpent}
use Rattle.settings.specs.declared.Refusal.TheVariants.{Busy, BadMessage, StrayReply, BadLine, BadStripe, BadBlock, BlocksDisagree}
use Rattle.settings.proofs.Laws.RangeLaws.{stripe_passed}
use Rattle.settings.proofs.Laws.RefusalLaws.{first_stop, first_pass, passed_first, passed_rest, tested}

-- checks that more follow: a refusal among them is the first of all, else the first of the rest
joined_stop : (l more : List ℕ) (k : ℕ) → k ≡ first_refusal l → (k ≡ 0 → ⊥) → k ≡ first_refusal (l ++ more)
unfolding first_refusal
joined_stop [] more k e h = absurd (h e)
joined_stop (zero ∷ l) more k e h = joined_stop l more k e h
joined_stop (suc j ∷ l) more k e h = e

joined_pass : (l more : List ℕ) (k : ℕ) → k ≡ first_refusal l → k ≡ 0 → first_refusal (l ++ more) ≡ first_refusal more
unfolding first_refusal
joined_pass [] more k e z = refl
joined_pass (zero ∷ l) more k e z = joined_pass l more k e z
joined_pass (suc j ∷ l) more k e z = absurd (omega arith)

-- no refusal has the number 0
pub number_positive : (r : Refusal) → 0 < number_of_refusal r
number_positive BadSetting = omega arith
number_positive BadLength = omega arith
number_positive BadNumber = omega arith
number_positive BadBrickSet = omega arith
number_positive BadCheck = omega arith
number_positive BadRecord = omega arith
number_positive BadReading = omega arith
number_positive ClockSpent = omega arith
number_positive Busy = omega arith
number_positive BadMessage = omega arith
number_positive StrayReply = omega arith
number_positive BadLine = omega arith
number_positive BadStripe = omega arith
number_positive BadBlock = omega arith
number_positive BlocksDisagree = omega arith

-- the first check refuses, or passes and leaves it to the rest
pub stopped : (r : Refusal) (k : ℕ) (rest : List ℕ) → number_of_refusal r ≡ k → number_of_refusal r ≡ first_refusal (k ∷ rest)
stopped r k rest e = rw (← e) (first_stop (number_of_refusal r) rest (λ z. let p = number_positive r in omega arith))

pub passed_on : (v k : ℕ) (rest : List ℕ) → 0 ≡ k → v ≡ first_refusal rest → v ≡ first_refusal (k ∷ rest)
passed_on v k rest z e = rw (first_pass k rest (omega arith)) e

pub none_left : 0 ≡ first_refusal []
unfolding first_refusal
none_left = refl

refused : (r : Refusal) → number_of_refusal r ≡ 0 → ⊥
refused r z = let p = number_positive r in omega arith

-- checks that more follow, two and three
pub two_stopped : (r : Refusal) (i j : ℕ) (more : List ℕ) → number_of_refusal r ≡ first_refusal (i ∷ j ∷ []) → number_of_refusal r ≡ first_refusal (i ∷ j ∷ more)
two_stopped r i j more e = joined_stop (i ∷ j ∷ []) more (number_of_refusal r) e (refused r)

pub two_passed : (v i j : ℕ) (more : List ℕ) → 0 ≡ first_refusal (i ∷ j ∷ []) → v ≡ first_refusal more → v ≡ first_refusal (i ∷ j ∷ more)
two_passed v i j more z e = e ∙ sym (joined_pass (i ∷ j ∷ []) more 0 z refl)

pub three_stopped : (r : Refusal) (i j k : ℕ) (more : List ℕ) → number_of_refusal r ≡ first_refusal (i ∷ j ∷ k ∷ [])
    → number_of_refusal r ≡ first_refusal (i ∷ j ∷ k ∷ more)
three_stopped r i j k more e = joined_stop (i ∷ j ∷ k ∷ []) more (number_of_refusal r) e (refused r)

pub three_passed : (v i j k : ℕ) (more : List ℕ) → 0 ≡ first_refusal (i ∷ j ∷ k ∷ []) → v ≡ first_refusal more → v ≡ first_refusal (i ∷ j ∷ k ∷ more)
three_passed v i j k more z e = e ∙ sym (joined_pass (i ∷ j ∷ k ∷ []) more 0 z refl)

-- what a chain of checks, made with `?`, needs to be the first refusal of its list
pub ruleset checks = (stopped, passed_on, none_left, two_stopped, two_passed, three_stopped, three_passed)

-- what a record that passes satisfies
pub record Recorded (n m size stripes : ℕ) (c : Coordinator) : Type 0 where
  pub number-low : c.clock.coordinator ≤ last_coordinator
  pub is-sound : sound_record n m size stripes c ≡ true

pub record_passes : (n m size stripes : ℕ) (c : Coordinator) (more : List ℕ) → first_refusal (record_checks n m size stripes c more) ≡ 0
    → Recorded n m size stripes c × (first_refusal more ≡ 0)
unfolding record_checks
record_passes n m size stripes c more e =
    let a = passed_first (refuse_unless (leb c.clock.coordinator last_coordinator) bad_number) (refuse_unless (sound_record n m size stripes c) bad_record ∷ more) e in
    let b = passed_rest (refuse_unless (leb c.clock.coordinator last_coordinator) bad_number) (refuse_unless (sound_record n m size stripes c) bad_record ∷ more) e in
    let d = tested (sound_record n m size stripes c) _ (passed_first (refuse_unless (sound_record n m size stripes c) bad_record) more b) in (
      record {
        number-low = leb-true c.clock.coordinator last_coordinator (tested (leb c.clock.coordinator last_coordinator) _ a);
        is-sound = d;
      },
      passed_rest (refuse_unless (sound_record n m size stripes c) bad_record) more b,
    )

-- a stripe that passes is below the count, and the record passes without it
pub stripe_passes : (n m size stripes : ℕ) (c : Coordinator) (number : ℕ) (more : List ℕ) → first_refusal (stripe_checks n m size stripes c number more) ≡ 0
    → (number < stripes) × (first_refusal (record_checks n m size stripes c more) ≡ 0)
unfolding stripe_checks record_checks
stripe_passes n m size stripes c number more e =
    let a = passed_first (refuse_unless (leb c.clock.coordinator last_coordinator) bad_number) _ e in
    let b = passed_rest (refuse_unless (leb c.clock.coordinator last_coordinator) bad_number) _ e in (
      stripe_passed stripes number (passed_first (stripe_refusal stripes number) _ b),
      first_pass (refuse_unless (leb c.clock.coordinator last_coordinator) bad_number) _ a ∙ passed_rest (stripe_refusal stripes number) _ b,
    )

-- a data block that passes is below m
data_block_passed : (m block : ℕ) → data_block_refusal m block ≡ 0 → block < m
unfolding data_block_refusal
data_block_passed m block e = ltb-true block m (tested _ _ e)

-- a block that passes is below m, and the stripe's checks pass without it
pub block_passes : (n m size stripes : ℕ) (c : Coordinator) (number block : ℕ) (more : List ℕ) → first_refusal (block_checks n m size stripes c number block more) ≡ 0
    → (block < m) × (first_refusal (stripe_checks n m size stripes c number more) ≡ 0)
unfolding block_checks stripe_checks
block_passes n m size stripes c number block more e =
    let a = passed_first (refuse_unless (leb c.clock.coordinator last_coordinator) bad_number) _ e in
    let b = passed_rest (refuse_unless (leb c.clock.coordinator last_coordinator) bad_number) _ e in
    let d = passed_first (stripe_refusal stripes number) _ b in
    let g = passed_rest (stripe_refusal stripes number) _ b in (
      data_block_passed m block (passed_first (data_block_refusal m block) _ g),
      first_pass (refuse_unless (leb c.clock.coordinator last_coordinator) bad_number) _ a
          ∙ first_pass (stripe_refusal stripes number) _ d
          ∙ passed_rest (data_block_refusal m block) _ g,
    )

-- any start: l are its checks before its draw, and then it asks for a reading in range, a count left, no operation
module _ (l : List ℕ) (c : Coordinator) (reading bad : ℕ) (e : bad ≡ first_refusal l) where
  pub start_stops : (bad ≡ 0 → ⊥) → bad ≡ first_refusal (l ++ start_checks c reading)
  start_stops h = joined_stop l (start_checks c reading) bad e h

  pub start_goes : bad ≡ 0 → first_refusal (l ++ start_checks c reading) ≡ first_refusal (start_checks c reading)
  start_goes z = joined_pass l (start_checks c reading) bad e z

  pub start_late : (k : ℕ) → bad ≡ 0 → k ≡ draw_refusal c.clock reading → (k ≡ 0 → ⊥) → k ≡ first_refusal (l ++ start_checks c reading)
  unfolding start_checks
  start_late k z ek h = rw (start_goes z, ← ek) (first_stop k _ h)

  pub start_busy : bad ≡ 0 → draw_refusal c.clock reading ≡ 0 → (c.op.kind ≡ idle_kind → ⊥) → busy ≡ first_refusal (l ++ start_checks c reading)
  unfolding start_checks first_refusal
  start_busy z k h = sym (start_goes z ∙ rw (k, ne_eqb c.op.kind idle_kind h))

  pub start_passes : bad ≡ 0 → draw_refusal c.clock reading ≡ 0 → c.op.kind ≡ idle_kind → 0 ≡ first_refusal (l ++ start_checks c reading)
  unfolding start_checks first_refusal
  start_passes z k h = sym (start_goes z ∙ rw (k, eq-eqb c.op.kind idle_kind h))

pub lengths_fit : (n m size : ℕ) → CodeRange n m size → (m * size ≤ 4096) × (n * size ≤ 4096)
lengths_fit n m size r =
    let few : m ≤ max_bricks = omega (arith, r.m-high, r.n-high) in
    let a = mul-le-mul_right size few in let b = mul-le-mul_right size r.n-high in
    (omega (arith, r.size-high), omega (arith, r.size-high))

-- a stripe's record that passes has its first brick among the n
pub first_within : (n m size stripes number : ℕ) (c : Coordinator) → 0 ≡ first_refusal (stripe_checks n m size stripes c number []) → c.op.first < n
first_within n m size stripes number c e =
    let q = stripe_passes n m size stripes c number [] (sym e) in
    let p = sound_parts n m size stripes c (record_passes n m size stripes c [] q.1).0.is-sound in
    p.first-low

-- what the checks of a reply need beside
pub ruleset stray = (checks, first_within)

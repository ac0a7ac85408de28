-- The statements of `specs/IdleTheorem`.
use mathlib.Core.Path.{◌≡◌, refl, sym, subst, ◌∙◌}
use mathlib.Core.Bool.{Bool, true, false, true≢false}
use mathlib.Core.Logic.{◌≢◌}
use mathlib.Core.List.{List, [], ◌∷◌}
use Prim.Native.Nat.{ℕ, zero, suc}
use lib.Dec.{leb}
use borrow.Author.Tests.{le-leb}
use Rattle.coord_record.specs.Records.{idle_with}
use Rattle.coord_record.specs.Sound.{sound_record}
use Rattle.coord_record.specs.declared.Coordinator.{Coordinator}
use Rattle.coord_record.specs.declared.Geometry.{Geometry}
use Rattle.coord_record.proofs.Laws.SoundPartLaws.{sound_parts, made_for}
use Rattle.settings.specs.Ranges.{code_refusal, stripe_count_refusal}
use Rattle.settings.specs.Refusal.{passed, first_refusal, refuse_unless, bad_number, bad_record}
use Rattle.settings.specs.Times.{last_coordinator, max_count}
use Rattle.settings.proofs.Laws.RefusalLaws.{passed_first, passed_rest}
use Rattle.coord_refusals.specs.Checks.{record_checks, stripe_checks, write_checks, read_checks, block_checks, write_block_checks, read_block_checks, stray_checks}
use Rattle.coord_refusals.specs.Checks.{write_refusal, read_refusal, write_block_refusal, read_block_refusal, take_refusal, crash_refusal}
use Rattle.coord_refusals.specs.IdleTheorem.{made_refusal, RefusedByAll, OutOfRangeIsRefused, OutOfRangeNumber}
use Rattle.coord_refusals.proofs.Laws.RefusedLaws.{Recorded, record_passes, stripe_passes, block_passes}

-- with settings, number and count of a record that passes nothing is wrong
module _ (n m size stripes : ℕ) (c : Coordinator) where
  made_passes : code_refusal n m size ≡ passed → stripe_count_refusal stripes ≡ passed → Recorded n m size stripes c
      → made_refusal c.geometry c.clock ≡ passed
  unfolding made_refusal first_refusal
  made_passes a b r =
      let p = sound_parts n m size stripes c r.is-sound in
      let g = sym (made_for n m size stripes c.geometry p.made-for) in
      let code : code_refusal c.geometry.n c.geometry.m c.geometry.size ≡ 0 =
      subst (λ (h : Geometry). code_refusal h.n h.m h.size ≡ 0) g a in
      let count : stripe_count_refusal c.geometry.stripes ≡ 0 = subst (λ (h : Geometry). stripe_count_refusal h.stripes ≡ 0) g b in
      rw (code, count, le-leb c.clock.coordinator last_coordinator r.number-low, le-leb c.clock.last max_count p.last-low) refl

  -- all routines begin with the settings, and the record's checks are among the rest
  module _ (rest : List ℕ) (e : first_refusal (code_refusal n m size ∷ stripe_count_refusal stripes ∷ rest) ≡ passed) where
    rest_passes : first_refusal rest ≡ passed
    rest_passes = passed_rest (stripe_count_refusal stripes) rest (passed_rest (code_refusal n m size) _ e)

    by_record : (more : List ℕ) → first_refusal (record_checks n m size stripes c more) ≡ passed → made_refusal c.geometry c.clock ≡ passed
    by_record more f =
        made_passes (passed_first (code_refusal n m size) _ e) (passed_first (stripe_count_refusal stripes) rest (passed_rest (code_refusal n m size) _ e))
        (record_passes n m size stripes c more f).0

    by_stripe : (number : ℕ) (more : List ℕ) → first_refusal (stripe_checks n m size stripes c number more) ≡ passed → made_refusal c.geometry c.clock ≡ passed
    by_stripe number more f = by_record more (stripe_passes n m size stripes c number more f).1

    by_block : (number block : ℕ) (more : List ℕ) → first_refusal (block_checks n m size stripes c number block more) ≡ passed
        → made_refusal c.geometry c.clock ≡ passed
    by_block number block more f = by_stripe number more (block_passes n m size stripes c number block more f).1

  all_refuse : made_refusal c.geometry c.clock ≢ passed → RefusedByAll n m size stripes c
  unfolding write_refusal read_refusal write_block_refusal read_block_refusal take_refusal crash_refusal write_checks read_checks write_block_checks read_block_checks stray_checks
  all_refuse wrong =
      record {
        write = λ number reading bytes stripe e. wrong (by_stripe _ e number _ (passed_rest _ _ (rest_passes _ e)));
        read = λ number reading first e. wrong (by_stripe _ e number _ (passed_rest _ _ (rest_passes _ e)));
        write-block = λ number reading block bytes stripe e. wrong (by_block _ e number block _ (passed_rest _ _ (rest_passes _ e)));
        read-block = λ number reading block e. wrong (by_block _ e number block _ (rest_passes _ e));
        take = λ r block blocks stripe coded e. wrong (by_stripe _ e r.stripe _ (passed_rest _ _ (passed_rest _ _ (rest_passes _ e))));
        crash = λ e. wrong (by_record _ e [] (rest_passes _ e));
      }

pub out_of_range_is_refused : OutOfRangeIsRefused
unfolding idle_with
out_of_range_is_refused g clock wrong n m size stripes = all_refuse n m size stripes (idle_with g clock) wrong

-- a record whose last count is too high is not sound
count_unsound : (n m size stripes : ℕ) (c : Coordinator) → leb c.clock.last max_count ≡ false → sound_record n m size stripes c ≡ false
count_unsound n m size stripes c high = go (sound_record n m size stripes c) refl
  where
    go : (b : Bool) → sound_record n m size stripes c ≡ b → b ≡ false
    go true e = absurd (true≢false (sym (le-leb c.clock.last max_count (sound_parts n m size stripes c e).last-low) ∙ high))
    go false e = refl

-- so the last check of a crash refuses where that of the count does
last_check : (a b : ℕ) (low counted sound : Bool) → (counted ≡ false → sound ≡ false)
    → first_refusal (a ∷ b ∷ refuse_unless low bad_number ∷ refuse_unless counted bad_record ∷ []) ≢ passed
    → first_refusal (a ∷ b ∷ refuse_unless low bad_number ∷ refuse_unless sound bad_record ∷ [])
    ≡ first_refusal (a ∷ b ∷ refuse_unless low bad_number ∷ refuse_unless counted bad_record ∷ [])
unfolding first_refusal
last_check (suc a) b low counted sound h wrong = refl
last_check zero (suc b) low counted sound h wrong = refl
last_check zero zero false counted sound h wrong = refl
last_check zero zero true true sound h wrong = absurd (wrong refl)
last_check zero zero true false sound h wrong = rw (h refl) refl

pub out_of_range_number : OutOfRangeNumber
unfolding idle_with made_refusal crash_refusal record_checks
out_of_range_number g clock wrong =
    last_check (code_refusal g.n g.m g.size) (stripe_count_refusal g.stripes) (leb clock.coordinator last_coordinator) (leb clock.last max_count) _
    (count_unsound g.n g.m g.size g.stripes (idle_with g clock)) wrong

-- A coordinator that has begun nothing: whatever its last count, what it begins is what one with last count 0 begins by a higher reading; replies
-- are refused, and a crash changes nothing.
use mathlib.Core.Path.{◌≡◌, refl, sym, ap, ap₂, subst, ◌∙◌}
use mathlib.Core.Bool.{Bool, true, false, cond}
use mathlib.Core.List.{List, [], append-nil}
use Prim.Native.Nat.{ℕ}
use native.Mathlib.Omega.{arith}
use lib.Dec.{leb}
use borrow.Author.Tests.{le-leb, le-ltb, lt-leb}
use Rattle.settings.specs.Times.{max_count, last_coordinator, time_of, next_count, draw_refusal, draw_of, Draws}
use Rattle.settings.specs.declared.Clock.{Clock}
use Rattle.settings.specs.Times.{Draw}
use Rattle.settings.specs.declared.Settings.{Settings}
use Rattle.settings.proofs.Laws.TimeLaws.{draw_given_lem, gave}
use Rattle.message.specs.declared.Reply.{Reply}
use Rattle.coord_record.specs.Records.{no_op, idle_with}
use Rattle.coord_record.specs.Sound.{time_right, rules_kept, filled_right, sound_record}
use Rattle.coord_refusals.specs.Checks.{stripe_checks, write_checks, read_checks, block_checks, read_block_checks, write_block_checks, start_checks}
use Rattle.coord_refusals.specs.Checks.{write_refusal, read_refusal, read_block_refusal, write_block_refusal, crash_refusal}
use Rattle.coord_apply.specs.Acts.{starting}
use Rattle.coord_apply.specs.Answers.{Buffered, Went, Step, refused, went, after_checks, nothing_seen}
use Rattle.coordinator.specs.Routines.{take_step, crashed, crash_step, drawn_then, write_step, read_step, write_block_step, read_block_step}
use Rattle.coord_laws.proofs.Laws.SoundnessLaws.{passes, drawn_went}
use Rattle.coord_laws.proofs.Laws.StepRunLaws.{took}
use Rattle.order.specs.Claim.{Seen}
use Rattle.register.specs.Runs.{plain, Item, World, Moved, unmoved, on_stripe, seen_of, broadcasts, coordinated}
use Rattle.register.specs.Driver.{cut_of, back_with}
use Rattle.register.specs.CallLoop.{idle_at, Alike, equal, begun_nothing}
use Rattle.register.proofs.Laws.DriverLaws.{put_same, seen_nowhere}

draws_zero : (c : Clock) (reading : ℕ) → Draws c reading → draw_refusal c reading ≡ 0
unfolding draw_refusal
draws_zero c reading d =
    rw (
      le-ltb last_coordinator c.coordinator d.coordinator-high,
      le-ltb max_count c.last (omega (arith, d.last-high)),
      le-ltb max_count reading d.reading-high,
      lt-leb max_count c.last d.last-high,
    ) refl

module _ (c last reading : ℕ) where
  abbrev old : Clock
  old = record { coordinator = c; last = last }

  abbrev new : Clock
  new = record { coordinator = c; last = 0 }

  module _ (d : Draws old reading) where
    new_draws : Draws new (next_count last reading)
    unfolding next_count
    new_draws =
        record {
          coordinator-high = d.coordinator-high;
          last-high = omega (arith, d.last-high);
          reading-high = omega (arith, d.last-high, d.reading-high);
        }

    same_number : draw_refusal old reading ≡ draw_refusal new (next_count last reading)
    same_number = draws_zero old reading d ∙ sym (draws_zero new (next_count last reading) new_draws)

    -- "count = the larger of the reading and last count + 1"
    same_draw : draw_of new (next_count last reading) ≡ draw_of old reading
    unfolding next_count
    same_draw =
        let n = next_count last reading in
        sym (draw_given_lem new n 0 n (time_of n c) (sym (draws_zero new n new_draws)) refl (omega arith) refl)
        ∙ draw_given_lem old reading 0 n (time_of n c) (sym (draws_zero old reading d)) refl refl refl

  -- a start that was not refused drew this
  first_goes : (bad bad' : ℕ) (f : ℕ → Clock → Went) (g : Went) → (Draws old reading → bad ≡ bad') → after_checks bad (drawn_then (draw_of old reading) f) ≡ went g
      → after_checks bad' (drawn_then (draw_of new (next_count last reading)) f) ≡ went g
  first_goes bad bad' f g same e =
      let p = passes bad (drawn_then (draw_of old reading) f) g e in
      let d = drawn_went (draw_of old reading) f g p.1 in
      let drew = (gave old reading d.0 d.1 d.2).drew in
      ap₂ (λ (b : ℕ) (x : Draw). after_checks b (drawn_then x f)) (sym (same drew)) (same_draw drew) ∙ e

module _ (s : Settings) (c last reading : ℕ) (blocks stripe : List ℕ) where
  abbrev k : Buffered
  k = idle_at s c last blocks stripe

  abbrev j : Buffered
  j = idle_at s c 0 blocks stripe

  same_sound : Draws (record { coordinator = c; last = last }) reading
      → sound_record s.n s.m s.size s.stripes k.state ≡ sound_record s.n s.m s.size s.stripes j.state
  unfolding sound_record rules_kept time_right filled_right idle_with no_op
  same_sound d = rw (le-leb last max_count (omega (arith, d.last-high)), le-leb 0 max_count (omega arith)) refl

  write_first : (number : ℕ) (content : List ℕ) (g : Went) → write_step s.n s.m s.size s.stripes k number reading content ≡ went g
      → write_step s.n s.m s.size s.stripes j number (next_count last reading) content ≡ went g
  unfolding write_step starting idle_with write_refusal write_checks stripe_checks start_checks
  write_first number content g e = first_goes c last reading _ _ _ g (λ d. rw (same_sound d, same_number c last reading d) refl) e

  read_first : (number first : ℕ) (g : Went) → read_step s.n s.m s.size s.stripes k number reading first ≡ went g
      → read_step s.n s.m s.size s.stripes j number (next_count last reading) first ≡ went g
  unfolding read_step starting idle_with read_refusal read_checks stripe_checks start_checks
  read_first number first g e = first_goes c last reading _ _ _ g (λ d. rw (same_sound d, same_number c last reading d) refl) e

  write_block_first : (number block : ℕ) (content : List ℕ) (g : Went)
      → write_block_step s.n s.m s.size s.stripes k number reading block content ≡ went g
      → write_block_step s.n s.m s.size s.stripes j number (next_count last reading) block content ≡ went g
  unfolding write_block_step starting idle_with write_block_refusal write_block_checks block_checks start_checks
  write_block_first number block content g e = first_goes c last reading _ _ _ g (λ d. rw (same_sound d, same_number c last reading d) refl) e

  read_block_first : (number block : ℕ) (g : Went) → read_block_step s.n s.m s.size s.stripes k number reading block ≡ went g
      → read_block_step s.n s.m s.size s.stripes j number (next_count last reading) block ≡ went g
  unfolding read_block_step starting idle_with read_block_refusal read_block_checks block_checks start_checks
  read_block_first number block g e = first_goes c last reading _ _ _ g (λ d. rw (same_sound d, same_number c last reading d) refl) e

-- a start that goes on at one of two coordinators that are alike goes on in the same way at the other, by some reading
abbrev Starts : (s : Settings) → (c : ℕ) → (ℕ → Buffered → Step) → Type 0
Starts s c q =
    (last reading : ℕ) (blocks stripe : List ℕ) (g : Went) → q reading (idle_at s c last blocks stripe) ≡ went g
    → q (next_count last reading) (idle_at s c 0 blocks stripe) ≡ went g

module _ (s : Settings) (c : ℕ) (k j : Buffered) where
  starts_alike : (q : ℕ → Buffered → Step) → Starts s c q → Alike s c k j → (reading : ℕ) (g : Went) → q reading k ≡ went g
      → (reading' : ℕ) × (q reading' j ≡ went g)
  starts_alike q first (equal e) reading g h = (reading, subst (λ (x : Buffered). q reading x ≡ went g) e h)
  starts_alike q first (begun_nothing last blocks stripe ek ej) reading g h = (
    next_count last reading,
    subst (λ (x : Buffered). q (next_count last reading) x ≡ went g) (sym ej)
        (first last reading blocks stripe g (subst (λ (x : Buffered). q reading x ≡ went g) ek h)),
  )

  pub write_alike : Alike s c k j → (number reading : ℕ) (content : List ℕ) (g : Went) → write_step s.n s.m s.size s.stripes k number reading content ≡ went g
      → (reading' : ℕ) × (write_step s.n s.m s.size s.stripes j number reading' content ≡ went g)
  write_alike a number reading content g e =
      starts_alike (λ (reading : ℕ) (x : Buffered). write_step s.n s.m s.size s.stripes x number reading content)
      (λ last reading blocks stripe. write_first s c last reading blocks stripe number content) a reading g e

  pub read_alike : Alike s c k j → (number reading first : ℕ) (g : Went) → read_step s.n s.m s.size s.stripes k number reading first ≡ went g
      → (reading' : ℕ) × (read_step s.n s.m s.size s.stripes j number reading' first ≡ went g)
  read_alike a number reading first g e =
      starts_alike (λ (reading : ℕ) (x : Buffered). read_step s.n s.m s.size s.stripes x number reading first)
      (λ last reading blocks stripe. read_first s c last reading blocks stripe number first) a reading g e

  pub write_block_alike : Alike s c k j → (number reading block : ℕ) (content : List ℕ) (g : Went)
      → write_block_step s.n s.m s.size s.stripes k number reading block content ≡ went g
      → (reading' : ℕ) × (write_block_step s.n s.m s.size s.stripes j number reading' block content ≡ went g)
  write_block_alike a number reading block content g e =
      starts_alike (λ (reading : ℕ) (x : Buffered). write_block_step s.n s.m s.size s.stripes x number reading block content)
      (λ last reading blocks stripe. write_block_first s c last reading blocks stripe number block content) a reading g e

  pub read_block_alike : Alike s c k j → (number reading block : ℕ) (g : Went) → read_block_step s.n s.m s.size s.stripes k number reading block ≡ went g
      → (reading' : ℕ) × (read_block_step s.n s.m s.size s.stripes j number reading' block ≡ went g)
  read_block_alike a number reading block g e =
      starts_alike (λ (reading : ℕ) (x : Buffered). read_block_step s.n s.m s.size s.stripes x number reading block)
      (λ last reading blocks stripe. read_block_first s c last reading blocks stripe number block) a reading g e

  -- no reply is taken where nothing runs
  pub take_alike : Alike s c k j → (x : Reply) (block : List ℕ) (coded : ℕ) (g : Went) → take_step s.n s.m s.size s.stripes k x block coded ≡ went g
      → take_step s.n s.m s.size s.stripes j x block coded ≡ went g
  unfolding idle_with no_op
  take_alike (equal e) x block coded g h = subst (λ (y : Buffered). take_step s.n s.m s.size s.stripes y x block coded ≡ went g) e h
  take_alike (begun_nothing last blocks stripe ek ej) x block coded g h =
      let t = took s.n s.m s.size s.stripes (idle_at s c last blocks stripe) x block coded g
      (subst (λ (y : Buffered). take_step s.n s.m s.size s.stripes y x block coded ≡ went g) ek h) in
      absurd (omega (arith, t.answer.of-phase, t.reply.kind-low))

-- a crash of an idle coordinator, refused or not
idle_crashed : (s : Settings) (c last : ℕ) (blocks stripe : List ℕ)
    → crashed s.n (idle_at s c last blocks stripe) ≡ record { next = idle_at s c last blocks stripe; sent = []; seen = nothing_seen }
unfolding crashed idle_with no_op
idle_crashed s c last blocks stripe = refl

pub idle_crash : (s : Settings) (w : World) (c last : ℕ) (blocks stripe : List ℕ) → w.coordinators c ≡ idle_at s c last blocks stripe
    → coordinated s w c (crash_step s.n s.m s.size s.stripes (w.coordinators c)) ≡ unmoved s w
unfolding crash_step after_checks coordinated unmoved broadcasts seen_of nothing_seen
idle_crash s w c last blocks stripe e =
    ap (λ (g : Went). coordinated s w c (after_checks bad (went g))) is ∙ go (leb bad 0)
  where
    bad : ℕ
    bad = crash_refusal s.n s.m s.size s.stripes (w.coordinators c).state

    nothing : Went
    nothing = record { next = w.coordinators c; sent = []; seen = nothing_seen }

    is : crashed s.n (w.coordinators c) ≡ nothing
    is = subst (λ (x : Buffered). crashed s.n x ≡ record { next = x; sent = []; seen = nothing_seen }) (sym e) (idle_crashed s c last blocks stripe)

    makes : (ℕ → Buffered) → List Item → (ℕ → List (Seen (plain s))) → Moved s
    makes f l seen = record { world = record { images = w.images; up = w.up; coordinators = f; sent = l }; seen = seen }

    go : (t : Bool) → coordinated s w c (cond t (went nothing) (refused bad)) ≡ unmoved s w
    go true =
        ap₂ (λ (f : ℕ → Buffered) (l : List Item). makes f l (on_stripe 0 [])) (put_same w.coordinators c) (append-nil w.sent)
        ∙ ap (makes w.coordinators w.sent) (seen_nowhere 0)
    go false = refl

-- power fails at both of two that are alike
pub back_alike : (s : Settings) (c : ℕ) (k j : Buffered) (blocks stripe : List ℕ) → Alike s c k j
    → (on_stripe k.state.op.stripe (cut_of s k.state.op) ≡ on_stripe j.state.op.stripe (cut_of s j.state.op))
    × Alike s c (back_with s c k.state blocks stripe) (back_with s c j.state blocks stripe)
unfolding back_with idle_with
back_alike s c k j blocks stripe (equal e) = (
  ap (λ (x : Buffered). on_stripe x.state.op.stripe (cut_of s x.state.op)) e,
  equal (ap (λ (x : Buffered). back_with s c x.state blocks stripe) e),
)
back_alike s c k j blocks stripe (begun_nothing last blocks' stripe' ek ej) = (
  ap (λ (x : Buffered). on_stripe x.state.op.stripe (cut_of s x.state.op)) ek
      ∙ sym (ap (λ (x : Buffered). on_stripe x.state.op.stripe (cut_of s x.state.op)) ej),
  begun_nothing last blocks stripe (ap (λ (x : Buffered). back_with s c x.state blocks stripe) ek) (ap (λ (x : Buffered). back_with s c x.state blocks stripe) ej),
)

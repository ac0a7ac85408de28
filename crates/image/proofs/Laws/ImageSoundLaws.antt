-- The rules of a brick as a test and as a record, and the blocks of its image.
use mathlib.Core.Path.{◌≡◌, refl, ap, ◌∙◌}
use mathlib.Core.Bool.{Bool, true, false, cond, not, ◌&&◌, ◌||◌}
use Prim.Native.Nat.{ℕ, zero, suc, ◌+◌, ◌-◌, ◌≤◌, ◌<◌}
use native.Mathlib.Omega.{arith}
use lib.Dec.{leb, ltb, eqb}
use lib.ListN.{length}
use borrow.Author.Tests.{lt-ltb, le-ltb, le-leb, leb-true, ltb-true, eqb-true, eq-eqb}
use Rattle.settings.specs.Ranges.{SettingsRange}
use Rattle.byte_lists.proofs.Laws.BoolLaws.{and_left, and_right}
use Rattle.settings.specs.Times.{valid_time, no_upper_end, time_of}
use Rattle.settings.specs.declared.Settings.{Settings}
use Rattle.image_block.specs.Block.{head_block, entry_block, mark_block, unused_block}
use Rattle.image_block.proofs.Laws.LayoutLaws.{head_length, entry_length, mark_length, unused_length}
use Rattle.byte_lists.specs.Lists.{same}
use Rattle.byte_lists.proofs.Laws.SameLaws.{same_true, same_of}
use Rattle.image.specs.Brick.{Brick, entry_count, time_at, means_at, mark_at, saved_time, rises_at, mark_sound, entry_sound, count_sound, sound_brick}
use Rattle.byte_lists.proofs.Laws.EachLaws.{each_at, each_all}
use Rattle.image.specs.Image.{slot_block, image_block, image_of, image_size}
use Rattle.image.proofs.Laws.ImageLaws.{Even, stacked_at, stacked_length}
use Rattle.image.specs.Parse.{image_block_at}
use Rattle.image.specs.Brick.{EntrySound, Sound}
use Rattle.image_block.specs.Block.{block_bytes}

-- a number that is 0 or a valid time is below "no upper end"
pub saved_high : (t : ℕ) → saved_time t ≡ true → t < no_upper_end
unfolding saved_time valid_time no_upper_end
saved_high t e = go (eqb t 0) refl e
  where
    go : (b : Bool) → eqb t 0 ≡ b → b || (leb (time_of 1 0) t && ltb t (no_upper_end)) ≡ true → t < no_upper_end
    go true z v = let n : t ≡ 0 = eqb-true t 0 z in omega arith
    go false z v = ltb-true t (no_upper_end) (and_right (leb (time_of 1 0) t) _ v)

-- a mark's rule as a test and as a record
mark_soundness : (x : Brick) (i : ℕ) → mark_sound x i ≡ true → mark_at x i ≡ true → (0 < i) × (means_at x i ≡ means_at x (i - 1))
unfolding mark_sound
mark_soundness x i e m =
    let f : ltb 0 i && same (means_at x i) (means_at x (i - 1)) ≡ true = rw m at e in
    (ltb-true 0 i (and_left _ _ f), same_true _ _ (and_right (ltb 0 i) _ f))

mark_again : (x : Brick) (i : ℕ) → (mark_at x i ≡ true → (0 < i) × (means_at x i ≡ means_at x (i - 1))) → mark_sound x i ≡ true
unfolding mark_sound
mark_again x i f = go (mark_at x i) f
  where
    go : (b : Bool) → (b ≡ true → (0 < i) × (means_at x i ≡ means_at x (i - 1))) → not b || (ltb 0 i && same (means_at x i) (means_at x (i - 1))) ≡ true
    go false g = refl
    go true g = rw (lt-ltb 0 i (g refl).0) (same_of _ _ (g refl).1)

pub entry_soundness : (s : Settings) (x : Brick) (i : ℕ) → entry_sound s x i ≡ true → EntrySound s x i
unfolding entry_sound
entry_soundness s x i e =
    let f = and_left (saved_time (time_at x i) && rises_at x i && eqb (length (means_at x i)) s.size) _ e in
    record {
      saved = and_left _ _ (and_left _ _ f);
      rises = and_right (saved_time (time_at x i)) _ (and_left _ _ f);
      sized = eqb-true _ _ (and_right (saved_time (time_at x i) && rises_at x i) _ f);
      marked = mark_soundness x i (and_right (saved_time (time_at x i) && rises_at x i && eqb (length (means_at x i)) s.size) _ e);
    }

pub soundness : (s : Settings) (x : Brick) → sound_brick s x ≡ true → Sound s x
unfolding sound_brick count_sound
soundness s x e =
    let a = and_left (count_sound s (entry_count x) && saved_time x.promise) _ e in
    let c = and_left (count_sound s (entry_count x)) _ a in
    record {
      count_low = leb-true 1 (entry_count x) (and_left _ _ c);
      count-high = leb-true (entry_count x) s.capacity (and_right (leb 1 (entry_count x)) _ c);
      promise-saved = and_right (count_sound s (entry_count x)) _ a;
      entries = λ i h. entry_soundness s x i
          (each_at (entry_sound s x) (entry_count x) i (and_right (count_sound s (entry_count x) && saved_time x.promise) _ e) h);
    }

pub sound_again : (s : Settings) (x : Brick) → Sound s x → sound_brick s x ≡ true
unfolding sound_brick count_sound entry_sound
sound_again s x r =
    rw (le-leb 1 (entry_count x) r.count_low, le-leb (entry_count x) s.capacity r.count-high, r.promise-saved)
    (each_all (entry_sound s x) (entry_count x) each)
  where
    each : (i : ℕ) → i < entry_count x → saved_time (time_at x i) && rises_at x i && eqb (length (means_at x i)) s.size && mark_sound x i ≡ true
    each i h = let n = r.entries i h in rw (n.saved, n.rises, eq-eqb _ _ n.sized) (mark_again x i n.marked)

module _ (s : Settings) (brick : ℕ) (x : Brick) where
  pub block_0 : image_block s brick x 0 ≡ head_block s brick (entry_count x) x.promise
  unfolding image_block
  block_0 = refl

  pub block_slot : (i : ℕ) → i < entry_count x → image_block s brick x (suc i) ≡ slot_block s x i
  unfolding image_block
  block_slot i h = rw (lt-ltb i (entry_count x) h) refl

  pub slot_held : (i : ℕ) → mark_at x i ≡ false → slot_block s x i ≡ entry_block (time_at x i) (means_at x i)
  unfolding slot_block
  slot_held i e = rw e refl

  pub slot_marked : (i : ℕ) → mark_at x i ≡ true → slot_block s x i ≡ mark_block (time_at x i) s.size
  unfolding slot_block
  slot_marked i e = rw e refl

  pub block_unused : (i : ℕ) → entry_count x ≤ i → image_block s brick x (suc i) ≡ unused_block
  unfolding image_block
  block_unused i h = rw (le-ltb i (entry_count x) h) refl

module _ (s : Settings) (brick : ℕ) (x : Brick) (range : SettingsRange s) (r : Sound s x) where
  pub blocks_even : Even (image_block s brick x) (s.capacity + 1)
  unfolding image_block
  blocks_even zero h = head_length s brick (entry_count x) x.promise
  blocks_even (suc i) h = go (ltb i (entry_count x)) refl
    where
      slot-length : i < entry_count x → (m : Bool) → mark_at x i ≡ m → length (slot_block s x i) ≡ block_bytes
      slot-length q true e = ap length (slot_marked s brick x i e) ∙ mark_length (time_at x i) s.size
      slot-length q false e =
          ap length (slot_held s brick x i e) ∙ entry_length (time_at x i) (means_at x i) (omega (arith, (r.entries i q).sized, range.code.size-high))

      go : (b : Bool) → ltb i (entry_count x) ≡ b → length (cond b (slot_block s x i) unused_block) ≡ block_bytes
      go true e = slot-length (ltb-true i (entry_count x) e) (mark_at x i) refl
      go false e = unused_length

  pub image_length : length (image_of s brick x) ≡ image_size s
  unfolding image_of image_size
  image_length = stacked_length (image_block s brick x) (s.capacity + 1) blocks_even

  pub image_block_lem : (k : ℕ) → k ≤ s.capacity → image_block_at (image_of s brick x) k ≡ image_block s brick x k
  unfolding image_of
  image_block_lem k h = stacked_at (image_block s brick x) (s.capacity + 1) k blocks_even (omega arith)

-- The image of a brick reads back as that brick, and what opens is the image of what it opens to.
use mathlib.Core.Path.{◌≡◌, refl, sym, ap, subst, ◌∙◌}
use mathlib.Core.Bool.{Bool, true, false, cond, ◌&&◌}
use mathlib.Core.List.{List, [], ◌∷◌}
use Prim.Native.Nat.{ℕ, zero, suc, ◌+◌, ◌-◌, ◌^◌, ◌≤◌, ◌<◌}
use native.Mathlib.Omega.{arith}
use native.Mathlib.Nat.{add-zero}
use lib.Dec.{ltb, eqb}
use lib.ListN.{length, take, drop, get_or}
use lib.Seq.{ext_get_or}
use borrow.Author.Tests.{le-ltb, ltb-true, lt-ltb, eqb-true, eq-eqb, ne_eqb}
use Rattle.settings.specs.Ranges.{in_range, settings_refusal}
use Rattle.settings.specs.Ranges.{SettingsRange}
use Rattle.settings.proofs.Laws.RangeLaws.{settings_passed}
use Rattle.settings.specs.Refusal.{refuse_unless, first_refusal}
use Rattle.settings.specs.declared.Settings.{Settings}
use Rattle.byte_lists.specs.Little.{number}
use Rattle.image_block.specs.Block.{head_block, entry_block, checked, entry_body, head_body, mark_block, mark_body, unused_block, unused_body, mark_kind}
use Rattle.byte_lists.specs.Lists.{same}
use Rattle.image_block.proofs.Laws.LayoutLaws.{head_count, head_promise, entry_time, entry_held, entry_kind_lem, mark_time, mark_kind_lem}
use Rattle.image_block.proofs.Laws.CheckLaws.{sealed_checked}
use Rattle.byte_lists.proofs.Laws.SameLaws.{same_true, same_of}
use Rattle.image.specs.Brick.{Brick, no_entry, entry_count, time_at, means_at, mark_at, sound_brick}
use Rattle.byte_lists.specs.Each.{each}
use Rattle.byte_lists.proofs.Laws.EachLaws.{each_all}
use Rattle.image.specs.Image.{slot_block, image_block, image_of, image_size}
use Rattle.image.specs.Parse.{image_block_at, count_in, promise_in, time_in, held_in, mark_in, holder_in, entry_in, entries_in, brick_in, checked_at, is_image, open_refusal, Opens, Refuses, parse}
use Rattle.image.specs.Brick.{Sound}
use Rattle.image.proofs.Laws.ImageSoundLaws.{soundness, sound_again, saved_high, block_0, block_slot, slot_held, slot_marked, image_block_lem, image_length}
use Rattle.image.specs.Workers.{ImageOpened}
use Rattle.image_block.specs.Block.{count_bytes, count_from, held_from, promise_from, time_bytes, time_from}
use Rattle.settings.specs.Refusal.{bad_check, bad_length, bad_number, bad_record, bad_setting, passed}
use Rattle.settings.specs.Times.{no_upper_end}

pub range_of : (s : Settings) → in_range s ≡ true → SettingsRange s
unfolding settings_refusal
range_of s e = settings_passed s (rw e refl)

pub entries_length : (size : ℕ) (l : List ℕ) (k n : ℕ) → length (entries_in size l k n) ≡ n
unfolding entries_in
entries_length size l k zero = refl
entries_length size l k (suc n) = ap suc (entries_length size l (suc k) n)

pub entries_at : (size : ℕ) (l : List ℕ) (k n i : ℕ) → i < n → get_or (entries_in size l k n) i no_entry ≡ entry_in size l (k + i)
unfolding entries_in
entries_at size l k zero i h = absurd (omega arith)
entries_at size l k (suc n) zero h = ap (entry_in size l) (sym (add-zero k))
entries_at size l k (suc n) (suc i) h =
    let e : suc k + i ≡ k + suc i = omega arith in
    entries_at size l (suc k) n i (omega arith) ∙ ap (entry_in size l) e

-- the count of what is read
pub count_in_lem : (s : Settings) (l : List ℕ) → entry_count (brick_in s l) ≡ count_in (image_block_at l 0)
unfolding entry_count brick_in
count_in_lem s l = entries_length s.size l 0 (count_in (image_block_at l 0))

-- a block of the log tells whether it is a mark
entry_read : (time : ℕ) (block : List ℕ) → mark_in (entry_block time block) ≡ false
unfolding mark_in
entry_read time block = ap (λ (k : ℕ). eqb k mark_kind) (entry_kind_lem time block)

mark_read : (time size : ℕ) → mark_in (mark_block time size) ≡ true
unfolding mark_in
mark_read time size = ap (λ (k : ℕ). eqb k mark_kind) (mark_kind_lem time size)

module _ (s : Settings) (brick : ℕ) (x : Brick) (range : SettingsRange s) (r : Sound s x) where
  head_at : image_block_at (image_of s brick x) 0 ≡ head_block s brick (entry_count x) x.promise
  head_at = image_block_lem s brick x range r 0 (omega arith) ∙ block_0 s brick x

  count_back : count_in (image_block_at (image_of s brick x) 0) ≡ entry_count x
  unfolding count_in
  count_back =
      ap (λ (h : List ℕ). number (take count_bytes (drop count_from h))) head_at
      ∙ head_count s brick (entry_count x) x.promise (omega (arith, r.count-high, range.capacity-high))

  promise_back : promise_in (image_block_at (image_of s brick x) 0) ≡ x.promise
  unfolding promise_in no_upper_end
  promise_back =
      ap (λ (h : List ℕ). number (take time_bytes (drop promise_from h))) head_at
      ∙ head_promise s brick (entry_count x) x.promise (omega (arith, saved_high x.promise r.promise-saved))

  -- the block of entry i
  slot_at : (i : ℕ) → i < entry_count x → image_block_at (image_of s brick x) (i + 1) ≡ slot_block s x i
  slot_at i h =
      let e : i + 1 ≡ suc i = omega arith in
      ap (image_block_at (image_of s brick x)) e ∙ image_block_lem s brick x range r (suc i) (omega (arith, r.count-high)) ∙ block_slot s brick x i h

  time_back : (i : ℕ) → i < entry_count x → time_in (image_block_at (image_of s brick x) (i + 1)) ≡ time_at x i
  unfolding time_in no_upper_end
  time_back i h = ap (λ (b : List ℕ). number (take time_bytes (drop time_from b))) (slot_at i h) ∙ go (mark_at x i) refl
    where
      low : time_at x i < 2 ^ 64
      low = omega (arith, saved_high (time_at x i) (r.entries i h).saved)

      go : (m : Bool) → mark_at x i ≡ m → number (take time_bytes (drop time_from (slot_block s x i))) ≡ time_at x i
      go true e =
          ap (λ (b : List ℕ). number (take time_bytes (drop time_from b))) (slot_marked s brick x i e) ∙ mark_time (time_at x i) s.size low
      go false e =
          ap (λ (b : List ℕ). number (take time_bytes (drop time_from b))) (slot_held s brick x i e) ∙ entry_time (time_at x i) (means_at x i) low

  mark_back : (i : ℕ) → i < entry_count x → mark_in (image_block_at (image_of s brick x) (i + 1)) ≡ mark_at x i
  mark_back i h = ap mark_in (slot_at i h) ∙ go (mark_at x i) refl
    where
      go : (m : Bool) → mark_at x i ≡ m → mark_in (slot_block s x i) ≡ mark_at x i
      go true e = ap mark_in (slot_marked s brick x i e) ∙ mark_read (time_at x i) s.size ∙ sym e
      go false e = ap mark_in (slot_held s brick x i e) ∙ entry_read (time_at x i) (means_at x i) ∙ sym e

  -- an entry with a block holds what it means, and a mark means what the one below it does
  own_back : (i : ℕ) → i < entry_count x → mark_at x i ≡ false → held_in s.size (image_block_at (image_of s brick x) (i + 1)) ≡ means_at x i
  unfolding held_in
  own_back i h e =
      ap (λ (b : List ℕ). take s.size (drop held_from b)) (slot_at i h ∙ slot_held s brick x i e)
      ∙ entry_held (time_at x i) (means_at x i) s.size (r.entries i h).sized

  held_back : (i : ℕ) → i < entry_count x → held_in s.size (image_block_at (image_of s brick x) (holder_in (image_of s brick x) i)) ≡ means_at x i
  unfolding holder_in
  held_back zero h = own_back zero h (go (mark_at x zero) refl)
    where
      go : (m : Bool) → mark_at x zero ≡ m → mark_at x zero ≡ false
      go false e = e
      go true e = absurd (omega (arith, ((r.entries zero h).marked e).0))
  held_back (suc i) h = go (mark_at x (suc i)) refl (held_back i (omega arith))
    where
      back : mark_in (image_block_at (image_of s brick x) (i + 2)) ≡ mark_at x (suc i)
      back = let e : i + 2 ≡ suc i + 1 = omega arith in ap (λ (k : ℕ). mark_in (image_block_at (image_of s brick x) k)) e ∙ mark_back (suc i) h

      go : (m : Bool) → mark_at x (suc i) ≡ m
          → held_in s.size (image_block_at (image_of s brick x) (holder_in (image_of s brick x) i)) ≡ means_at x i
          → held_in s.size (image_block_at (image_of s brick x)
          (cond (mark_in (image_block_at (image_of s brick x) (i + 2))) (holder_in (image_of s brick x) i) (i + 2))) ≡ means_at x (suc i)
      go true e ih =
          let p : suc i - 1 ≡ i = omega arith in
          rw (back ∙ e) (ih ∙ sym (((r.entries (suc i) h).marked e).1 ∙ ap (means_at x) p))
      go false e ih =
          let p : i + 2 ≡ suc i + 1 = omega arith in
          rw (back ∙ e) (ap (λ (k : ℕ). held_in s.size (image_block_at (image_of s brick x) k)) p ∙ own_back (suc i) h e)

  entry_back : (i : ℕ) → i < entry_count x → entry_in s.size (image_of s brick x) i ≡ get_or x.log i no_entry
  unfolding entry_in time_at means_at mark_at
  entry_back i h =
      let t = time_back i h in
      let b = held_back i h in
      let m = mark_back i h in
      λ j. record { time = t j; block = b j; mark = m j }

  log_back : entries_in s.size (image_of s brick x) 0 (entry_count x) ≡ x.log
  unfolding entry_count
  log_back =
      ext_get_or no_entry (entries_in s.size (image_of s brick x) 0 (entry_count x)) x.log (entries_length s.size (image_of s brick x) 0 (entry_count x))
      (λ i h. each i (subst (λ (k : ℕ). i < k) (entries_length s.size (image_of s brick x) 0 (entry_count x)) h))
    where
      each : (i : ℕ) → i < entry_count x → get_or (entries_in s.size (image_of s brick x) 0 (entry_count x)) i no_entry ≡ get_or x.log i no_entry
      each i h =
          let e : 0 + i ≡ i = omega arith in
          entries_at s.size (image_of s brick x) 0 (entry_count x) i h ∙ ap (entry_in s.size (image_of s brick x)) e ∙ entry_back i h

  pub brick_back : brick_in s (image_of s brick x) ≡ x
  unfolding brick_in
  brick_back =
      let l = ap (λ (k : ℕ). entries_in s.size (image_of s brick x) 0 k) count_back ∙ log_back in
      λ j. record { promise = promise_back j; log = l j }

-- The ways through the refusal of an image.
module _ (s : Settings) (brick : ℕ) (l : List ℕ) where
  pub refusal_3 : in_range s ≡ true → length l ≡ image_size s → s.n ≤ brick → open_refusal s brick l ≡ bad_number
  unfolding open_refusal first_refusal
  refusal_3 a b c = rw (a, eq-eqb (length l) (image_size s) b, le-ltb brick s.n c) refl

  pub refusal_5 : in_range s ≡ true → length l ≡ image_size s → brick < s.n → each (checked_at l) (s.capacity + 1) ≡ false → open_refusal s brick l ≡ bad_check
  unfolding open_refusal first_refusal
  refusal_5 a b c d = rw (a, eq-eqb (length l) (image_size s) b, lt-ltb brick s.n c, d) refl

  pub refusal_6 : in_range s ≡ true → length l ≡ image_size s → brick < s.n → each (checked_at l) (s.capacity + 1) ≡ true
      → is_image s brick l ≡ false → open_refusal s brick l ≡ bad_record
  unfolding open_refusal first_refusal
  refusal_6 a b c d e = rw (a, eq-eqb (length l) (image_size s) b, lt-ltb brick s.n c, d, e) refl

  pub refusal_0 : in_range s ≡ true → length l ≡ image_size s → brick < s.n → each (checked_at l) (s.capacity + 1) ≡ true
      → is_image s brick l ≡ true → open_refusal s brick l ≡ passed
  unfolding open_refusal first_refusal
  refusal_0 a b c d e = rw (a, eq-eqb (length l) (image_size s) b, lt-ltb brick s.n c, d, e) refl

  pub parse_refuses : (k : ℕ) → open_refusal s brick l ≡ k → (k ≡ 0 → ⊥) → parse s brick l ≡ Refuses k
  unfolding parse
  parse_refuses k e z = rw (e, ne_eqb k 0 z) refl

  pub parse_opens : open_refusal s brick l ≡ passed → parse s brick l ≡ Opens (brick_in s l)
  unfolding parse
  parse_opens e = rw e refl

  -- What opens is the image of what it opens to.
  pub opened : (x : Brick) → parse s brick l ≡ Opens x → ImageOpened s brick l x
  unfolding parse open_refusal first_refusal is_image
  opened x e =
      go (in_range s) (eqb (length l) (image_size s)) (ltb brick s.n) (each (checked_at l) (s.capacity + 1))
      (sound_brick s (brick_in s l)) (same (image_of s brick (brick_in s l)) l) refl refl refl refl refl refl e
    where
      go : (a b c d f g : Bool) → in_range s ≡ a → eqb (length l) (image_size s) ≡ b → ltb brick s.n ≡ c → each (checked_at l) (s.capacity + 1) ≡ d
          → sound_brick s (brick_in s l) ≡ f → same (image_of s brick (brick_in s l)) l ≡ g
          → (let r : ℕ = first_refusal (refuse_unless a bad_setting ∷ refuse_unless b bad_length ∷ refuse_unless c bad_number ∷ refuse_unless d bad_check ∷ refuse_unless (f && g) bad_record ∷ []) in
          cond (eqb r 0) (Opens (brick_in s l)) (Refuses r)) ≡ Opens x
          → ImageOpened s brick l x
      go false b c d f g ea eb ec ed ef eg h = let z : ◌≡◌ {A = ℕ} 0 1 = cc in absurd (omega arith)
      go true false c d f g ea eb ec ed ef eg h = let z : ◌≡◌ {A = ℕ} 0 1 = cc in absurd (omega arith)
      go true true false d f g ea eb ec ed ef eg h = let z : ◌≡◌ {A = ℕ} 0 1 = cc in absurd (omega arith)
      go true true true false f g ea eb ec ed ef eg h = let z : ◌≡◌ {A = ℕ} 0 1 = cc in absurd (omega arith)
      go true true true true false g ea eb ec ed ef eg h = let z : ◌≡◌ {A = ℕ} 0 1 = cc in absurd (omega arith)
      go true true true true true false ea eb ec ed ef eg h = let z : ◌≡◌ {A = ℕ} 0 1 = cc in absurd (omega arith)
      go true true true true true true ea eb ec ed ef eg h =
          let i : x ≡ brick_in s l = cc in
          record {
            in-range = ea;
            range = range_of s ea;
            long = eqb-true (length l) (image_size s) eb;
            brick-low = ltb-true brick s.n ec;
            checks = ed;
            is_read = i;
            keeps = subst (λ (y : Brick). Sound s y) (sym i) (soundness s (brick_in s l) ef);
            is-image = sym (ap (λ (y : Brick). image_of s brick y) i ∙ same_true _ _ eg);
          }

-- every block of an image is checked
image_checked : (s : Settings) (brick : ℕ) (x : Brick) → SettingsRange s → Sound s x → (k : ℕ) → k < s.capacity + 1 → checked_at (image_of s brick x) k ≡ true
unfolding checked_at image_block slot_block head_block entry_block mark_block unused_block
image_checked s brick x range r k h = ap checked (image_block_lem s brick x range r k (omega arith)) ∙ go k
  where
    go : (k : ℕ) → checked (image_block s brick x k) ≡ true
    go zero = sealed_checked (head_body s brick (entry_count x) x.promise)
    go (suc i) = pick (ltb i (entry_count x))
      where
        form : (m : Bool) → checked (cond m (mark_block (time_at x i) s.size) (entry_block (time_at x i) (means_at x i))) ≡ true
        form true = sealed_checked (mark_body (time_at x i) s.size)
        form false = sealed_checked (entry_body (time_at x i) (means_at x i))

        pick : (b : Bool) → checked (cond b (slot_block s x i) unused_block) ≡ true
        pick true = form (mark_at x i)
        pick false = sealed_checked unused_body

-- Saving a brick and opening it gives the brick back.
pub parse_image : (s : Settings) (brick : ℕ) (x : Brick) → in_range s ≡ true → brick < s.n → Sound s x → parse s brick (image_of s brick x) ≡ Opens x
unfolding is_image
parse_image s brick x a b r =
    let range = range_of s a in
    let back = brick_back s brick x range r in
    let is : sound_brick s (brick_in s (image_of s brick x)) && same (image_of s brick (brick_in s (image_of s brick x))) (image_of s brick x) ≡ true =
    rw (back, sound_again s x r, same_of (image_of s brick x) (image_of s brick x) refl) refl in
    parse_opens s brick (image_of s brick x)
    (refusal_0 s brick (image_of s brick x) a (image_length s brick x range r) b
    (each_all (checked_at (image_of s brick x)) (s.capacity + 1) (image_checked s brick x range r)) is)
    ∙ ap Opens back

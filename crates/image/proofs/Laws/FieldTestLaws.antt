-- The tests on single blocks, taken together, are the test that the bytes are a brick's image.
use mathlib.Core.Path.{◌≡◌, refl, sym, ap, ap₂, ◌∙◌}
use mathlib.Core.Bool.{Bool, true, false, cond, not, ◌&&◌, ◌||◌}
use mathlib.Core.List.{List}
use Prim.Native.Nat.{ℕ, zero, suc, ◌+◌, ◌-◌, ◌≤◌, ◌<◌}
use native.Mathlib.Omega.{arith}
use native.Mathlib.Numerals.{add-one}
use lib.Dec.{leb, ltb, eqb}
use lib.ListN.{length, drop, get_or, length-take, length-drop}
use borrow.Author.Tests.{lt-ltb, le-ltb, le-leb, leb-true, ltb-true, ltb-false}
use Rattle.settings.specs.Ranges.{SettingsRange}
use Rattle.byte_lists.proofs.Laws.BoolLaws.{and_left, and_right}
use Rattle.settings.specs.declared.Settings.{Settings}
use Rattle.image_block.specs.Block.{sealed, head_body, head_block, entry_body, entry_block, mark_body, mark_block, unused_body, unused_block}
use Rattle.byte_lists.specs.Lists.{same}
use Rattle.image_block.proofs.Laws.CheckLaws.{checked_sealed, sealed_body}
use Rattle.byte_lists.proofs.Laws.SameLaws.{same_true, same_of}
use Rattle.image.specs.Brick.{Brick, LogEntry, no_entry, entry_count, time_at, means_at, mark_at, saved_time, rises_at, count_sound, sound_brick}
use Rattle.byte_lists.specs.Each.{each}
use Rattle.byte_lists.proofs.Laws.EachLaws.{each_at, each_all}
use Rattle.image.specs.Image.{slot_block, image_block, image_of, image_size}
use Rattle.image.proofs.Laws.ImageLaws.{stacked_ext, stacked_of, block_length}
use Rattle.image.specs.Parse.{image_block_at, count_in, promise_in, time_in, held_in, mark_in, holder_in, entry_in, brick_in, checked_at, is_image}
use Rattle.image.proofs.Laws.ParseLaws.{entries_at, count_in_lem}
use Rattle.image.specs.Workers.{rises, head_fits, slot_fits, form_low, form_body}
use Rattle.image.specs.Workers.{slot_at}
use Rattle.image.specs.Brick.{Sound, EntrySound}
use Rattle.image.proofs.Laws.ImageSoundLaws.{soundness, sound_again, image_block_lem, block_0, block_slot, block_unused}
use Rattle.image_block.specs.Block.{block_bytes, check_bytes, held_from}
use Rattle.settings.specs.Ranges.{max_size}

both_ways : (a b : Bool) → (a ≡ true → b ≡ true) → (b ≡ true → a ≡ true) → a ≡ b
both_ways true true f g = refl
both_ways true false f g = sym (f refl)
both_ways false true f g = g refl
both_ways false false f g = refl

and_both : (a b : Bool) → a ≡ true → b ≡ true → a && b ≡ true
and_both a b e f = rw (e, f) refl

-- entry i of what is read
at_in : (s : Settings) (l : List ℕ) (i : ℕ) → i < count_in (image_block_at l 0) → get_or (brick_in s l).log i no_entry ≡ entry_in s.size l i
unfolding brick_in
at_in s l i h =
    let e : 0 + i ≡ i = omega arith in
    entries_at s.size l 0 (count_in (image_block_at l 0)) i h ∙ ap (entry_in s.size l) e

pub time_in_lem : (s : Settings) (l : List ℕ) (i : ℕ) → i < count_in (image_block_at l 0) → time_at (brick_in s l) i ≡ time_in (image_block_at l (i + 1))
unfolding time_at entry_in
time_in_lem s l i h = ap (λ (x : LogEntry). x.time) (at_in s l i h)

pub held_in_lem : (s : Settings) (l : List ℕ) (i : ℕ) → i < count_in (image_block_at l 0)
    → means_at (brick_in s l) i ≡ held_in s.size (image_block_at l (holder_in l i))
unfolding means_at entry_in
held_in_lem s l i h = ap (λ (x : LogEntry). x.block) (at_in s l i h)

pub mark_in_lem : (s : Settings) (l : List ℕ) (i : ℕ) → i < count_in (image_block_at l 0) → mark_at (brick_in s l) i ≡ mark_in (image_block_at l (i + 1))
unfolding mark_at entry_in
mark_in_lem s l i h = ap (λ (x : LogEntry). x.mark) (at_in s l i h)

-- the block that an entry means is its own or one below
pub holder_own : (l : List ℕ) (i : ℕ) → mark_in (image_block_at l (i + 1)) ≡ false → holder_in l i ≡ i + 1
unfolding holder_in
holder_own l zero e = refl
holder_own l (suc i) e =
    let p : suc i + 1 ≡ i + 2 = omega arith in
    rw (ap (λ (k : ℕ). mark_in (image_block_at l k)) (sym p) ∙ e) (sym p)

holder_below : (l : List ℕ) (i : ℕ) → mark_in (image_block_at l (suc i + 1)) ≡ true → holder_in l (suc i) ≡ holder_in l i
unfolding holder_in
holder_below l i e = let p : suc i + 1 ≡ i + 2 = omega arith in rw (ap (λ (k : ℕ). mark_in (image_block_at l k)) (sym p) ∙ e) refl

holder_high : (l : List ℕ) (i : ℕ) → holder_in l i ≤ i + 1
unfolding holder_in
holder_high l zero = omega arith
holder_high l (suc i) = go (mark_in (image_block_at l (i + 2))) (holder_high l i)
  where
    go : (b : Bool) → holder_in l i ≤ i + 1 → cond b (holder_in l i) (i + 2) ≤ suc i + 1
    go true h = omega arith
    go false h = omega arith

-- an entry's form, as it stands in a brick
form_is : (s : Settings) (x : Brick) (i : ℕ) → slot_block s x i ≡ sealed (cond (mark_at x i) (mark_body (time_at x i) s.size) (entry_body (time_at x i) (means_at x i)))
unfolding slot_block entry_block mark_block
form_is s x i = go (mark_at x i)
  where
    go : (b : Bool) → cond b (sealed (mark_body (time_at x i) s.size)) (sealed (entry_body (time_at x i) (means_at x i)))
        ≡ sealed (cond b (mark_body (time_at x i) s.size) (entry_body (time_at x i) (means_at x i)))
    go true = refl
    go false = refl

-- ... and as it is read
form_in : (s : Settings) (l : List ℕ) (i : ℕ) → i < count_in (image_block_at l 0)
    → cond (mark_at (brick_in s l) i) (mark_body (time_at (brick_in s l) i) s.size) (entry_body (time_at (brick_in s l) i) (means_at (brick_in s l) i))
    ≡ form_body s.size (image_block_at l (i + 1)) (time_in (image_block_at l (i + 1)))
unfolding form_body
form_in s l i h = rw (mark_in_lem s l i h, time_in_lem s l i h) (go (mark_in (image_block_at l (i + 1))) refl)
  where
    go : (b : Bool) → mark_in (image_block_at l (i + 1)) ≡ b
        → cond b (mark_body (time_in (image_block_at l (i + 1))) s.size) (entry_body (time_in (image_block_at l (i + 1))) (means_at (brick_in s l) i))
        ≡ cond b (mark_body (time_in (image_block_at l (i + 1))) s.size) (entry_body (time_in (image_block_at l (i + 1))) (held_in s.size (image_block_at l (i + 1))))
    go true e = refl
    go false e =
        ap (entry_body (time_in (image_block_at l (i + 1))))
        (held_in_lem s l i h ∙ ap (λ (k : ℕ). held_in s.size (image_block_at l k)) (holder_own l i e))

unused_is : unused_block ≡ sealed unused_body
unfolding unused_block
unused_is = refl

held_size : (size : ℕ) (b : List ℕ) → size ≤ max_size → length b ≡ block_bytes → length (held_in size b) ≡ size
unfolding held_in
held_size size b h n =
    let d = length-drop held_from b in
    let t = length-take size (drop held_from b) in
    omega arith

-- the parts of a slot's test
record Slot (size : ℕ) (t : List ℕ) (time i last : ℕ) : Type 0 where
  saved : saved_time time ≡ true
  rising : rises i last time ≡ true
  low : mark_in t ≡ true → 0 < i
  body : drop check_bytes t ≡ form_body size t time

low_parts : (t : List ℕ) (i : ℕ) → form_low t i ≡ true → mark_in t ≡ true → 0 < i
unfolding form_low
low_parts t i e m = ltb-true 0 i (rw m at e)

low_again : (t : List ℕ) (i : ℕ) → (mark_in t ≡ true → 0 < i) → form_low t i ≡ true
unfolding form_low
low_again t i f = go (mark_in t) f
  where
    go : (b : Bool) → (b ≡ true → 0 < i) → not b || ltb 0 i ≡ true
    go false g = refl
    go true g = lt-ltb 0 i (g refl)

slot_parts : (size : ℕ) (t : List ℕ) (time i n last : ℕ) → i < n → slot_fits size t time i n last ≡ true → Slot size t time i last
unfolding slot_fits
slot_parts size t time i n last h e =
    let f : saved_time time && rises i last time && form_low t i && same (drop check_bytes t) (form_body size t time) ≡ true = rw (lt-ltb i n h) at e in
    let k = and_left (saved_time time && rises i last time && form_low t i) _ f in
    let g = and_left (saved_time time && rises i last time) _ k in
    record {
      saved = and_left (saved_time time) _ g;
      rising = and_right (saved_time time) _ g;
      low = low_parts t i (and_right (saved_time time && rises i last time) _ k);
      body = same_true _ _ (and_right (saved_time time && rises i last time && form_low t i) _ f);
    }

slot_again : (size : ℕ) (t : List ℕ) (time i n last : ℕ) → i < n → Slot size t time i last → slot_fits size t time i n last ≡ true
unfolding slot_fits
slot_again size t time i n last h p = rw (lt-ltb i n h, p.saved, p.rising, low_again t i p.low) (same_of _ _ p.body)

free_parts : (size : ℕ) (t : List ℕ) (time i n last : ℕ) → n ≤ i → slot_fits size t time i n last ≡ true → drop check_bytes t ≡ unused_body
unfolding slot_fits
free_parts size t time i n last h e = same_true _ _ (rw (le-ltb i n h) at e)

free_again : (size : ℕ) (t : List ℕ) (time i n last : ℕ) → n ≤ i → drop check_bytes t ≡ unused_body → slot_fits size t time i n last ≡ true
unfolding slot_fits
free_again size t time i n last h e = rw (le-ltb i n h) (same_of _ _ e)

rises_in : (s : Settings) (l : List ℕ) (i : ℕ) → i < count_in (image_block_at l 0)
    → rises_at (brick_in s l) i ≡ rises i (time_in (image_block_at l i)) (time_in (image_block_at l (i + 1)))
unfolding rises_at rises
rises_in s l zero h = refl
rises_in s l (suc i) h =
    let p : suc i - 1 ≡ i = omega arith in
    let before : time_at (brick_in s l) (suc i - 1) ≡ time_in (image_block_at l (suc i)) =
    ap (λ (k : ℕ). time_at (brick_in s l) k) p ∙ time_in_lem s l i (omega arith) ∙ ap (λ (k : ℕ). time_in (image_block_at l k)) (add-one i) in
    ap₂ (λ (a b : ℕ). eqb (suc i) 0 || ltb a b) before (time_in_lem s l (suc i) h)

module _ (s : Settings) (brick : ℕ) (l : List ℕ) (range : SettingsRange s) (long : length l ≡ image_size s)
    (checks : each (checked_at l) (s.capacity + 1) ≡ true) where
  blocks : (k : ℕ) → k < s.capacity + 1 → length (image_block_at l k) ≡ block_bytes
  unfolding image_size
  blocks k h = block_length l (s.capacity + 1) k long h

  sealed_at : (k : ℕ) (body : List ℕ) → k < s.capacity + 1 → drop check_bytes (image_block_at l k) ≡ body → image_block_at l k ≡ sealed body
  unfolding checked_at
  sealed_at k body h e = checked_sealed (image_block_at l k) body (blocks k h) (each_at (checked_at l) (s.capacity + 1) k checks h) e

  n : ℕ
  n = count_in (image_block_at l 0)

  x : Brick
  x = brick_in s l

  -- the tests pass: the fields make a brick that keeps to the rules
  slots_sound : count_sound s n ≡ true → saved_time (promise_in (image_block_at l 0)) ≡ true → each (slot_at s.size l n) s.capacity ≡ true → Sound s x
  unfolding n x slot_at count_sound brick_in
  slots_sound c p slots =
      let few = leb-true 1 n (and_left _ _ c) in
      let many = leb-true n s.capacity (and_right (leb 1 n) _ c) in
      let m = count_in_lem s l in
      record {
        count_low = omega arith;
        count-high = omega arith;
        promise-saved = p;
        entries = λ i h. each i (omega (arith, h)) (omega (arith, h));
      }
    where
      marked : (i : ℕ) → i < n → (mark_in (image_block_at l (i + 1)) ≡ true → 0 < i) → mark_in (image_block_at l (i + 1)) ≡ true
          → (0 < i) × (means_at x i ≡ means_at x (i - 1))
      marked zero h f m = absurd (omega (arith, f m))
      marked (suc i) h f m =
          let p : suc i - 1 ≡ i = omega arith in (
            f m,
            held_in_lem s l (suc i) h ∙ ap (λ (k : ℕ). held_in s.size (image_block_at l k)) (holder_below l i m)
                ∙ sym (ap (means_at x) p ∙ held_in_lem s l i (omega arith)),
          )

      each : (i : ℕ) → i < n → i < s.capacity → EntrySound s x i
      each i h b =
          let q = slot_parts s.size (image_block_at l (i + 1)) (time_in (image_block_at l (i + 1))) i n (time_in (image_block_at l i)) h
          (each_at (slot_at s.size l n) s.capacity i slots b) in
          record {
            saved = ap saved_time (time_in_lem s l i h) ∙ q.saved;
            rises = rises_in s l i h ∙ q.rising;
            sized = ap length (held_in_lem s l i h)
                ∙ held_size s.size (image_block_at l (holder_in l i)) range.code.size-high (blocks (holder_in l i) (omega (arith, holder_high l i)));
            marked = λ m. marked i h q.low (sym (mark_in_lem s l i h) ∙ m);
          }

  -- ... whose blocks stand there
  block_same : count_sound s n ≡ true → drop check_bytes (image_block_at l 0) ≡ head_body s brick n (promise_in (image_block_at l 0))
      → each (slot_at s.size l n) s.capacity ≡ true → (k : ℕ) → k < s.capacity + 1 → image_block s brick x k ≡ image_block_at l k
  unfolding n x slot_at brick_in head_block
  block_same c head slots zero h =
      block_0 s brick x
      ∙ ap (λ (m : ℕ). head_block s brick m (promise_in (image_block_at l 0))) (count_in_lem s l)
      ∙ sym (sealed_at 0 (head_body s brick n (promise_in (image_block_at l 0))) h head)
  block_same c head slots (suc i) h = go (ltb i n) refl
    where
      b : i < s.capacity
      b = omega arith

      one : image_block_at l (suc i) ≡ image_block_at l (i + 1)
      one = ap (λ (k : ℕ). image_block_at l k) (sym (add-one i))

      here : slot_fits s.size (image_block_at l (i + 1)) (time_in (image_block_at l (i + 1))) i n (time_in (image_block_at l i)) ≡ true
      here = each_at (slot_at s.size l n) s.capacity i slots b

      go : (t : Bool) → ltb i n ≡ t → image_block s brick x (suc i) ≡ image_block_at l (suc i)
      go true e =
          let h₁ = ltb-true i n e in
          let q = slot_parts s.size (image_block_at l (i + 1)) (time_in (image_block_at l (i + 1))) i n (time_in (image_block_at l i)) h₁ here in
          block_slot s brick x i (omega (arith, count_in_lem s l))
          ∙ form_is s x i
          ∙ ap sealed (form_in s l i h₁)
          ∙ sym (sealed_at (i + 1) (form_body s.size (image_block_at l (i + 1)) (time_in (image_block_at l (i + 1)))) (omega arith) q.body)
          ∙ sym one
      go false e =
          let h₁ = ltb-false i n e in
          block_unused s brick x i (omega (arith, count_in_lem s l))
          ∙ unused_is
          ∙ sym (sealed_at (i + 1) unused_body (omega arith)
          (free_parts s.size (image_block_at l (i + 1)) (time_in (image_block_at l (i + 1))) i n (time_in (image_block_at l i)) h₁ here))
          ∙ sym one

  -- the other way: what stands there is a brick's image, so the tests pass
  stands : Sound s x → image_of s brick x ≡ l → (k : ℕ) → k < s.capacity + 1 → image_block_at l k ≡ image_block s brick x k
  stands r e k h = ap (λ (m : List ℕ). image_block_at m k) (sym e) ∙ image_block_lem s brick x range r k (omega arith)

  image_slot : Sound s x → image_of s brick x ≡ l → (i : ℕ) → i < s.capacity → slot_at s.size l n i ≡ true
  unfolding n x slot_at
  image_slot r e i b = go (ltb i n) refl
    where
      at : image_block_at l (i + 1) ≡ image_block s brick x (suc i)
      at = stands r e (i + 1) (omega arith) ∙ ap (λ (k : ℕ). image_block s brick x k) (add-one i)

      go : (t : Bool) → ltb i n ≡ t → slot_fits s.size (image_block_at l (i + 1)) (time_in (image_block_at l (i + 1))) i n (time_in (image_block_at l i)) ≡ true
      go true w =
          let h₁ = ltb-true i n w in
          let q = r.entries i (omega (arith, count_in_lem s l)) in
          slot_again s.size (image_block_at l (i + 1)) (time_in (image_block_at l (i + 1))) i n (time_in (image_block_at l i)) h₁
          (record {
            saved = ap saved_time (sym (time_in_lem s l i h₁)) ∙ q.saved;
            rising = sym (rises_in s l i h₁) ∙ q.rises;
            low = λ m. (q.marked (mark_in_lem s l i h₁ ∙ m)).0;
            body = ap (λ (z : List ℕ). drop check_bytes z) (at ∙ block_slot s brick x i (omega (arith, count_in_lem s l)) ∙ form_is s x i)
                ∙ sealed_body _
                ∙ form_in s l i h₁;
          })
      go false w =
          let h₁ = ltb-false i n w in
          free_again s.size (image_block_at l (i + 1)) (time_in (image_block_at l (i + 1))) i n (time_in (image_block_at l i)) h₁
          (ap (λ (z : List ℕ). drop check_bytes z) (at ∙ block_unused s brick x i (omega (arith, count_in_lem s l)) ∙ unused_is) ∙ sealed_body unused_body)

  image_head : Sound s x → image_of s brick x ≡ l → head_fits s brick (image_block_at l 0) n (promise_in (image_block_at l 0)) ≡ true
  unfolding n x head_fits count_sound brick_in head_block
  image_head r e =
      let m = count_in_lem s l in
      rw (le-leb 1 n (omega (arith, r.count_low)), le-leb n s.capacity (omega (arith, r.count-high)), r.promise-saved)
      (same_of _ _
      (ap (λ (z : List ℕ). drop check_bytes z) (stands r e 0 (omega arith) ∙ block_0 s brick x)
      ∙ sealed_body (head_body s brick (entry_count x) x.promise)
      ∙ ap (λ (k : ℕ). head_body s brick k x.promise) m))

  image_tests : Sound s x → image_of s brick x ≡ l
      → head_fits s brick (image_block_at l 0) n (promise_in (image_block_at l 0)) && each (slot_at s.size l n) s.capacity ≡ true
  image_tests r e =
      and_both (head_fits s brick (image_block_at l 0) n (promise_in (image_block_at l 0))) _ (image_head r e)
      (each_all (slot_at s.size l n) s.capacity (image_slot r e))

  pub tests_image : head_fits s brick (image_block_at l 0) (count_in (image_block_at l 0)) (promise_in (image_block_at l 0)) && each (slot_at s.size l (count_in (image_block_at l 0))) s.capacity
      ≡ is_image s brick l
  unfolding n x head_fits is_image image_size image_of
  tests_image = both_ways _ _ there back
    where
      there : head_fits s brick (image_block_at l 0) n (promise_in (image_block_at l 0)) && each (slot_at s.size l n) s.capacity ≡ true
          → sound_brick s x && same (image_of s brick x) l ≡ true
      there e =
          let f = and_left (head_fits s brick (image_block_at l 0) n (promise_in (image_block_at l 0))) _ e in
          let slots = and_right (head_fits s brick (image_block_at l 0) n (promise_in (image_block_at l 0))) _ e in
          let g = and_left (count_sound s n && saved_time (promise_in (image_block_at l 0))) _ f in
          let head = same_true _ _ (and_right (count_sound s n && saved_time (promise_in (image_block_at l 0))) _ f) in
          let c = and_left (count_sound s n) _ g in
          let p = and_right (count_sound s n) _ g in
          and_both (sound_brick s x) _ (sound_again s x (slots_sound c p slots))
          (same_of _ _ (stacked_ext (image_block s brick x) (image_block_at l) (s.capacity + 1) (block_same c head slots) ∙ stacked_of l (s.capacity + 1) long))

      back : sound_brick s x && same (image_of s brick x) l ≡ true
          → head_fits s brick (image_block_at l 0) n (promise_in (image_block_at l 0)) && each (slot_at s.size l n) s.capacity ≡ true
      back e =
          let r = soundness s x (and_left (sound_brick s x) _ e) in
          let same-l = same_true (image_of s brick x) l (and_right (sound_brick s x) _ e) in
          image_tests r same-l

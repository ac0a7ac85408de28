-- Entries taken out of a log: those below stay, those above move down, and the lowest of these has its block where it must. By place, and at
-- the image. A Trim and a Drop are both such a step.
use mathlib.Core.Path.{◌≡◌, refl, sym, ap, ap₂, subst, ◌∙◌}
use mathlib.Core.Bool.{Bool, true, false, cond, not, ◌&&◌}
use mathlib.Core.List.{List, [], ◌∷◌, ◌++◌}
use Prim.Native.Nat.{ℕ, zero, suc, ◌+◌, ◌-◌, ◌*◌, ◌≤◌, ◌<◌}
use native.Mathlib.Omega.{arith}
use native.Mathlib.Decide.{ℕ_discrete, dec_lt}
use lib.Dec.{leb, ltb, eqb}
use borrow.Author.Tests.{lt-ltb, le-ltb, le-leb, lt-leb, eq-eqb, ne_eqb}
use lib.ListN.{length, take, drop, get_or, length-append, length-take, length-drop, get_or-append, take-append-drop}
use lib.Seq.{get_or-take, get_or-drop, get_or-append-add}
use Rattle.settings.specs.declared.Settings.{Settings}
use Rattle.image.specs.Brick.{Brick, LogEntry, no_entry, entry_count, time_at, means_at, mark_at, saved_time, Sound}
use Rattle.image.proofs.Laws.LogPlaceLaws.{rises_above, sound_of}
use Rattle.settings.specs.Ranges.{SettingsRange}
use Rattle.byte_lists.specs.Lists.{put}
use Rattle.image_block.specs.Block.{block_bytes, head_block, entry_block, unused_block}
use Rattle.image_block.proofs.Laws.LayoutLaws.{head_length, entry_length}
use Rattle.image.specs.Image.{image_block, image_of}
use Rattle.image.specs.Parse.{image_block_at, held_in}
use Rattle.image.proofs.Laws.ImageSoundLaws.{block_slot, slot_held, block_unused}
use Rattle.image_write.specs.Saving.{block_entry, lowest_held}
use Rattle.image_write.proofs.Laws.LowestLaws.{lowest_length, lowest_time, lowest_block}
use Rattle.image_write.specs.Workers.{held_if, removed, held_own, shifted, cleared}
use Rattle.image_write.proofs.Laws.BlocksLaws.{Blocks, blocks_put, blocks_ext, blocks_is, placed, placed_there, placed_other}
use Rattle.image_write.proofs.Laws.BlocksLaws.{cleared_of, shifted_of, cleared_blocks, shifted_blocks}
use Rattle.image_write.proofs.Laws.ImageStepLaws.{image_blocks, slot_same}

-- the lowest entry has its block, the others are as they were
lowest_mark : (log : List LogEntry) → (get_or (lowest_held log) 0 no_entry).mark ≡ false
unfolding lowest_held block_entry no_entry
lowest_mark [] = refl
lowest_mark (e ∷ log) = refl

lowest_above : (log : List LogEntry) (i : ℕ) → get_or (lowest_held log) (suc i) no_entry ≡ get_or log (suc i) no_entry
unfolding lowest_held
lowest_above [] i = refl
lowest_above (e ∷ log) i = refl

lowest_none : (log : List LogEntry) → (get_or log 0 no_entry).mark ≡ false → log ≡ lowest_held log
unfolding lowest_held block_entry
lowest_none [] h = refl
lowest_none (e ∷ log) h = ap (λ (f : LogEntry). f ∷ log) (λ j. record { time = e.time; block = e.block; mark = h j })

-- or all is as it was
pub held_length_lem : (held : Bool) (log : List LogEntry) → length (held_if held log) ≡ length log
unfolding held_if
held_length_lem true log = lowest_length log
held_length_lem false log = refl

pub held_time : (held : Bool) (log : List LogEntry) (i : ℕ) → (get_or (held_if held log) i no_entry).time ≡ (get_or log i no_entry).time
unfolding held_if
held_time true log i = lowest_time log i
held_time false log i = refl

pub held_means : (held : Bool) (log : List LogEntry) (i : ℕ) → (get_or (held_if held log) i no_entry).block ≡ (get_or log i no_entry).block
unfolding held_if
held_means true log i = lowest_block log i
held_means false log i = refl

held_lowest : (log : List LogEntry) → (get_or (held_if true log) 0 no_entry).mark ≡ false
unfolding held_if
held_lowest log = lowest_mark log

held_not : (log : List LogEntry) → held_if false log ≡ log
unfolding held_if
held_not log = refl

held_as_it_was : (log : List LogEntry) → (get_or log 0 no_entry).mark ≡ false → held_if true log ≡ log
unfolding held_if
held_as_it_was log e = sym (lowest_none log e)

held_above : (held : Bool) (log : List LogEntry) (i : ℕ) → get_or (held_if held log) (suc i) no_entry ≡ get_or log (suc i) no_entry
unfolding held_if
held_above true log i = lowest_above log i
held_above false log i = refl

pub removed_promise : (x : Brick) (from d : ℕ) (held : Bool) → (removed x from d held).promise ≡ x.promise
unfolding removed
removed_promise x from d held = refl

module _ (x : Brick) (from d : ℕ) (held : Bool) (within : from + d ≤ entry_count x) where
  front : length (take from x.log) ≡ from
  unfolding entry_count
  front = let t = length-take from x.log in omega (arith, within)

  pub removed_count : entry_count (removed x from d held) ≡ entry_count x - d
  unfolding entry_count removed
  removed_count =
      let a = length-append (take from x.log) (held_if held (drop (from + d) x.log)) in
      let h = held_length_lem held (drop (from + d) x.log) in
      let r = length-drop (from + d) x.log in
      omega (arith, front, within)

  -- below them
  pub removed_below : (i : ℕ) → i < from → get_or (removed x from d held).log i no_entry ≡ get_or x.log i no_entry
  unfolding removed
  removed_below i h =
      get_or-append (take from x.log) (held_if held (drop (from + d) x.log)) no_entry i (omega (arith, front, h))
      ∙ get_or-take from x.log i no_entry h

  -- above them, counted from the first that stays
  removed_rest : (i : ℕ) → get_or (removed x from d held).log (from + i) no_entry ≡ get_or (held_if held (drop (from + d) x.log)) i no_entry
  unfolding removed
  removed_rest i =
      ap (λ (k : ℕ). get_or (take from x.log ++ held_if held (drop (from + d) x.log)) (k + i) no_entry) (sym front)
      ∙ get_or-append-add (take from x.log) (held_if held (drop (from + d) x.log)) i no_entry

  pub removed_time : (i : ℕ) → time_at (removed x from d held) (from + i) ≡ time_at x (from + d + i)
  unfolding time_at
  removed_time i =
      ap (λ (e : LogEntry). e.time) (removed_rest i) ∙ held_time held (drop (from + d) x.log) i
      ∙ ap (λ (e : LogEntry). e.time) (get_or-drop (from + d) x.log i no_entry)

  pub removed_means : (i : ℕ) → means_at (removed x from d held) (from + i) ≡ means_at x (from + d + i)
  unfolding means_at
  removed_means i =
      ap (λ (e : LogEntry). e.block) (removed_rest i) ∙ held_means held (drop (from + d) x.log) i
      ∙ ap (λ (e : LogEntry). e.block) (get_or-drop (from + d) x.log i no_entry)

  pub removed_above : (i : ℕ) → get_or (removed x from d held).log (from + suc i) no_entry ≡ get_or x.log (from + d + suc i) no_entry
  removed_above i =
      removed_rest (suc i) ∙ held_above held (drop (from + d) x.log) i ∙ get_or-drop (from + d) x.log (suc i) no_entry

  pub removed_lowest : held ≡ true → mark_at (removed x from d held) (from + 0) ≡ false
  unfolding mark_at
  removed_lowest e =
      ap (λ (f : LogEntry). f.mark) (removed_rest 0)
      ∙ ap (λ (b : Bool). (get_or (held_if b (drop (from + d) x.log)) 0 no_entry).mark) e
      ∙ held_lowest (drop (from + d) x.log)

  pub removed_as_it_was : held ≡ false → (i : ℕ) → get_or (removed x from d held).log (from + i) no_entry ≡ get_or x.log (from + d + i) no_entry
  removed_as_it_was e i =
      removed_rest i
      ∙ ap (λ (b : Bool). get_or (held_if b (drop (from + d) x.log)) i no_entry) e
      ∙ ap (λ (l : List LogEntry). get_or l i no_entry) (held_not (drop (from + d) x.log))
      ∙ get_or-drop (from + d) x.log i no_entry

  pub removed_mark : held ≡ false → (i : ℕ) → mark_at (removed x from d held) (from + i) ≡ mark_at x (from + d + i)
  unfolding mark_at
  removed_mark e i = ap (λ (f : LogEntry). f.mark) (removed_as_it_was e i)

-- taking nothing out
pub removed_none : (x : Brick) (from : ℕ) → removed x from 0 false ≡ x
unfolding removed
removed_none x from =
    let z : from + 0 ≡ from = omega arith in
    ap (λ (l : List LogEntry). record { promise = x.promise; log = l })
    (ap (λ (l : List LogEntry). take from x.log ++ l) (held_not (drop (from + 0) x.log) ∙ ap (λ (k : ℕ). drop k x.log) z)
    ∙ take-append-drop from x.log)

-- where no mark stands right above, it has its block
pub removed_no_mark : (x : Brick) (from d : ℕ) (held : Bool) → mark_at x (from + d) ≡ false → removed x from d held ≡ removed x from d false
unfolding removed mark_at
removed_no_mark x from d held e =
    ap (λ (l : List LogEntry). record { promise = x.promise; log = take from x.log ++ l }) (go held ∙ sym (held_not (drop (from + d) x.log)))
  where
    lowest : (get_or (drop (from + d) x.log) 0 no_entry).mark ≡ false
    lowest =
        let z : from + d + 0 ≡ from + d = omega arith in
        ap (λ (f : LogEntry). f.mark) (get_or-drop (from + d) x.log 0 no_entry) ∙ ap (λ (k : ℕ). (get_or x.log k no_entry).mark) z ∙ e

    go : (b : Bool) → held_if b (drop (from + d) x.log) ≡ drop (from + d) x.log
    go true = held_as_it_was (drop (from + d) x.log) lowest
    go false = held_not (drop (from + d) x.log)

-- so what holds it in the image tells whether it must be given its block
pub removed_by_holder : (x : Brick) (from d holder : ℕ) → (holder ≡ from + d + 1 → mark_at x (from + d) ≡ false)
    → removed x from d true ≡ removed x from d (not (eqb holder (from + d + 1)))
removed_by_holder x from d holder own = go (ℕ_discrete holder (from + d + 1))
  where
    go : Dec (holder ≡ from + d + 1) → removed x from d true ≡ removed x from d (not (eqb holder (from + d + 1)))
    go (yes q) = rw (eq-eqb holder (from + d + 1) q) (removed_no_mark x from d true (own q))
    go (no q) = rw (ne_eqb holder (from + d + 1) q) refl

-- where an entry that stays was before
unfoldable pub moved : (from d i : ℕ) → ℕ
moved from d i = cond (ltb i from) i (i + d)

pub moved_below : (from d i : ℕ) → i < from → moved from d i ≡ i
unfolding moved
moved_below from d i h = rw (lt-ltb i from h) refl

pub moved_above : (from d i : ℕ) → from ≤ i → moved from d i ≡ i + d
unfolding moved
moved_above from d i h = rw (le-ltb i from h) refl

module _ (x : Brick) (from d : ℕ) (held : Bool) (within : from + d ≤ entry_count x) where
  -- what an entry says is as it was
  by_place : (A : Type 0) (f : LogEntry → A)
      → ((i : ℕ) → f (get_or (removed x from d held).log (from + i) no_entry) ≡ f (get_or x.log (from + d + i) no_entry))
      → (i : ℕ) → f (get_or (removed x from d held).log i no_entry) ≡ f (get_or x.log (moved from d i) no_entry)
  by_place A f above i = go (dec_lt i from)
    where
      go : Dec (i < from) → f (get_or (removed x from d held).log i no_entry) ≡ f (get_or x.log (moved from d i) no_entry)
      go (yes h) =
          ap f (removed_below x from d held within i h) ∙ ap (λ (k : ℕ). f (get_or x.log k no_entry)) (sym (moved_below from d i h))
      go (no h) =
          let a : i ≡ from + (i - from) = omega (arith, h) in
          let b : from + d + (i - from) ≡ i + d = omega (arith, h) in
          ap (λ (k : ℕ). f (get_or (removed x from d held).log k no_entry)) a
          ∙ above (i - from)
          ∙ ap (λ (k : ℕ). f (get_or x.log k no_entry)) (b ∙ sym (moved_above from d i (omega (arith, h))))

  pub time_moved : (i : ℕ) → time_at (removed x from d held) i ≡ time_at x (moved from d i)
  unfolding time_at
  time_moved i = by_place ℕ (λ (e : LogEntry). e.time) (λ j. removed_time x from d held within j) i

  pub means_moved : (i : ℕ) → means_at (removed x from d held) i ≡ means_at x (moved from d i)
  unfolding means_at
  means_moved i = by_place (List ℕ) (λ (e : LogEntry). e.block) (λ j. removed_means x from d held within j) i

  -- a place that stays comes from a place of the log, and not from one that went
  pub moved_low : (i : ℕ) → i < entry_count (removed x from d held) → moved from d i < entry_count x
  moved_low i h = go (dec_lt i from)
    where
      go : Dec (i < from) → moved from d i < entry_count x
      go (yes w) = omega (arith, within, moved_below from d i w)
      go (no w) = omega (arith, within, h, removed_count x from d held within, moved_above from d i (omega (arith, w)))

  -- A brick that keeps to the rules keeps to them, if one entry stays and a mark right above those that went has its block below.
  pub removed_sound : (s : Settings) → Sound s x → d < entry_count x
      → (from + d < entry_count x → mark_at (removed x from d held) from ≡ true → (0 < from) × (means_at x (from + d) ≡ means_at x (from - 1)))
      → Sound s (removed x from d held)
  unfolding mark_at
  removed_sound s r some lowest =
      sound_of s (removed x from d held) (omega (arith, count)) (omega (arith, count, r.count-high))
      (ap saved_time (removed_promise x from d held) ∙ r.promise-saved)
      (λ i h. ap saved_time (time_moved i) ∙ (r.entries (moved from d i) (moved_low i h)).saved)
      rise
      (λ i h. ap length (means_moved i) ∙ (r.entries (moved from d i) (moved_low i h)).sized)
      mark
    where
      count : entry_count (removed x from d held) ≡ entry_count x - d
      count = removed_count x from d held within

      later : (i : ℕ) → moved from d i < moved from d (suc i)
      later i = go (dec_lt i from) (dec_lt (suc i) from)
        where
          go : Dec (i < from) → Dec (suc i < from) → moved from d i < moved from d (suc i)
          go (yes a) (yes b) = omega (arith, moved_below from d i a, moved_below from d (suc i) b)
          go (yes a) (no b) = omega (arith, moved_below from d i a, moved_above from d (suc i) (omega (arith, b)))
          go (no a) b = omega (arith, moved_above from d i (omega (arith, a)), moved_above from d (suc i) (omega (arith, a)))

      rise : (i : ℕ) → suc i < entry_count (removed x from d held) → time_at (removed x from d held) i < time_at (removed x from d held) (suc i)
      rise i h = omega (arith, time_moved i, time_moved (suc i), rises_above s x r (moved from d i) (moved from d (suc i)) (later i) (moved_low (suc i) h))

      mark : (i : ℕ) → i < entry_count (removed x from d held) → mark_at (removed x from d held) i ≡ true
          → (0 < i) × (means_at (removed x from d held) i ≡ means_at (removed x from d held) (i - 1))
      mark i h m = go (dec_lt i from) (ℕ_discrete i from)
        where
          low : i < entry_count x - d
          low = omega (arith, h, count)

          go : Dec (i < from) → Dec (i ≡ from) → (0 < i) × (means_at (removed x from d held) i ≡ means_at (removed x from d held) (i - 1))
          go (yes a) b =
              let w = (r.entries i (omega (arith, a, within))).marked (ap (λ (e : LogEntry). e.mark) (sym (removed_below x from d held within i a)) ∙ m) in (
                w.0,
                means_moved i ∙ ap (means_at x) (moved_below from d i a) ∙ w.1
                    ∙ sym (means_moved (i - 1) ∙ ap (means_at x) (moved_below from d (i - 1) (omega (arith, a)))),
              )
          go (no a) (yes b) =
              let w = lowest (omega (arith, b, low)) (ap (λ (k : ℕ). (get_or (removed x from d held).log k no_entry).mark) (sym b) ∙ m) in
              let here : moved from d i ≡ from + d = moved_above from d i (omega (arith, a)) ∙ ap (λ (k : ℕ). k + d) b in
              let next : moved from d (i - 1) ≡ from - 1 =
              moved_below from d (i - 1) (omega (arith, b, w.0)) ∙ ap (λ (k : ℕ). k - 1) b in
              (omega (arith, b, w.0), means_moved i ∙ ap (means_at x) here ∙ w.1 ∙ sym (means_moved (i - 1) ∙ ap (means_at x) next))
          go (no a) (no b) =
              let k : from + suc (i - from - 1) ≡ i = omega (arith, a, b) in
              let j : from + d + suc (i - from - 1) ≡ i + d = omega (arith, a, b) in
              let here : get_or (removed x from d held).log i no_entry ≡ get_or x.log (i + d) no_entry =
              ap (λ (n : ℕ). get_or (removed x from d held).log n no_entry) (sym k) ∙ removed_above x from d held within (i - from - 1)
              ∙ ap (λ (n : ℕ). get_or x.log n no_entry) j in
              let w = (r.entries (i + d) (omega (arith, low))).marked (ap (λ (e : LogEntry). e.mark) (sym here) ∙ m) in
              let next : i + d - 1 ≡ i - 1 + d = omega (arith, a, b) in (
                omega (arith, a, b),
                means_moved i ∙ ap (means_at x) (moved_above from d i (omega (arith, a))) ∙ w.1 ∙ ap (means_at x) next
                    ∙ sym (means_moved (i - 1) ∙ ap (means_at x) (moved_above from d (i - 1) (omega (arith, a, b)))),
              )

-- The entry right above those that go has its block elsewhere: in block `holder` of the image.
pub record Above (s : Settings) (brick : ℕ) (x : Brick) (from d holder lowest : ℕ) : Type 0 where
  pub low : from + d < entry_count x
  pub lowest-is : lowest ≡ time_at x (from + d)
  pub means : held_in s.size (image_block_at (image_of s brick x) holder) ≡ means_at x (from + d)

removed_head : (s : Settings) (brick : ℕ) (x : Brick) (from d : ℕ) (held : Bool)
    → head_block s brick (entry_count (removed x from d held)) x.promise ≡ image_block s brick (removed x from d held) 0
unfolding removed image_block
removed_head s brick x from d held = refl

module _ (s : Settings) (brick : ℕ) (x : Brick) (from d : ℕ) (held : Bool) (within : from + d ≤ entry_count x) where
  -- the blocks of the image once the entry right above has its block in its own place, where it must
  ready : ℕ → List ℕ
  ready = placed (image_block s brick x) (from + d + 1) (image_block s brick (removed x from d held) (from + 1))

  count : entry_count (removed x from d held) ≡ entry_count x - d
  count = removed_count x from d held within

  stay_below : (i : ℕ) → i < from → ready (suc i) ≡ image_block s brick (removed x from d held) (suc i)
  unfolding ready
  stay_below i h =
      placed_other (image_block s brick x) (from + d + 1) (image_block s brick (removed x from d held) (from + 1)) (suc i) (λ q. omega (arith, q, h))
      ∙ block_slot s brick x i (omega (arith, h, within))
      ∙ slot_same s x (removed x from d held) i i (sym (removed_below x from d held within i h))
      ∙ sym (block_slot s brick (removed x from d held) i (omega (arith, h, within, count)))

  move_down : (i : ℕ) → from ≤ i → i < entry_count x - d → ready (suc i + d) ≡ image_block s brick (removed x from d held) (suc i)
  unfolding ready
  move_down i a h = go (ℕ_discrete i from)
    where
      go : Dec (i ≡ from) → ready (suc i + d) ≡ image_block s brick (removed x from d held) (suc i)
      go (yes q) =
          let m : suc i + d ≡ from + d + 1 = omega (arith, q) in
          let n : from + 1 ≡ suc i = omega (arith, q) in
          ap ready m
          ∙ placed_there (image_block s brick x) (from + d + 1) (image_block s brick (removed x from d held) (from + 1))
          ∙ ap (image_block s brick (removed x from d held)) n
      go (no q) =
          let m : suc i + d ≡ suc (i + d) = omega arith in
          let j : from + d + suc (i - from - 1) ≡ i + d = omega (arith, q, a) in
          let k : i ≡ from + suc (i - from - 1) = omega (arith, q, a) in
          placed_other (image_block s brick x) (from + d + 1) (image_block s brick (removed x from d held) (from + 1)) (suc i + d) (λ w. q (omega (arith, w)))
          ∙ ap (image_block s brick x) m
          ∙ block_slot s brick x (i + d) (omega (arith, h))
          ∙ slot_same s x (removed x from d held) (i + d) i
          (sym
          (ap (λ (n : ℕ). get_or (removed x from d held).log n no_entry) k ∙ removed_above x from d held within (i - from - 1)
          ∙ ap (λ (n : ℕ). get_or x.log n no_entry) j))
          ∙ sym (block_slot s brick (removed x from d held) i (omega (arith, h, count)))

  ready_above : (i : ℕ) → entry_count x ≤ i → ready (suc i) ≡ unused_block
  unfolding ready
  ready_above i h = go (ℕ_discrete i (from + d))
    where
      go : Dec (i ≡ from + d) → ready (suc i) ≡ unused_block
      go (yes q) =
          let m : suc i ≡ from + d + 1 = omega (arith, q) in
          let n : from + 1 ≡ suc from = omega arith in
          ap ready m
          ∙ placed_there (image_block s brick x) (from + d + 1) (image_block s brick (removed x from d held) (from + 1))
          ∙ ap (image_block s brick (removed x from d held)) n
          ∙ block_unused s brick (removed x from d held) from (omega (arith, h, q, within, count))
      go (no q) =
          placed_other (image_block s brick x) (from + d + 1) (image_block s brick (removed x from d held) (from + 1)) (suc i) (λ w. q (omega (arith, w)))
          ∙ block_unused s brick x i h

  removed_block : (i : ℕ)
      → cleared_of (shifted_of ready from d (entry_count x - (from + d))) (entry_count x - d + 1) (entry_count x + 1) (suc i)
      ≡ image_block s brick (removed x from d held) (suc i)
  unfolding cleared_of shifted_of
  removed_block i = go (dec_lt i from) (dec_lt i (entry_count x - d)) (dec_lt i (entry_count x))
    where
      go : Dec (i < from) → Dec (i < entry_count x - d) → Dec (i < entry_count x)
          → cond (leb (entry_count x - d + 1) (suc i) && ltb (suc i) (entry_count x + 1)) unused_block
          (cond (leb (from + 1) (suc i) && leb (suc i) (from + (entry_count x - (from + d)))) (ready (suc i + d)) (ready (suc i)))
          ≡ image_block s brick (removed x from d held) (suc i)
      go (yes a) b c =
          rw (lt-leb (entry_count x - d + 1) (suc i) (omega (arith, a, within)), lt-leb (from + 1) (suc i) (omega (arith, a)))
          (stay_below i a)
      go (no a) (yes b) c =
          rw (
            lt-leb (entry_count x - d + 1) (suc i) (omega (arith, b)),
            le-leb (from + 1) (suc i) (omega (arith, a)),
            le-leb (suc i) (from + (entry_count x - (from + d))) (omega (arith, a, b)),
          )
          (move_down i (omega (arith, a)) b)
      go (no a) (no b) (yes c) =
          rw (le-leb (entry_count x - d + 1) (suc i) (omega (arith, b)), lt-ltb (suc i) (entry_count x + 1) (omega (arith, c)))
          (sym (block_unused s brick (removed x from d held) i (omega (arith, b, count))))
      go (no a) (no b) (no c) =
          rw (
            le-leb (entry_count x - d + 1) (suc i) (omega (arith, b)),
            le-ltb (suc i) (entry_count x + 1) (omega (arith, c)),
            le-leb (from + 1) (suc i) (omega (arith, a)),
            lt-leb (suc i) (from + (entry_count x - (from + d))) (omega (arith, b, within)),
          )
          (ready_above i (omega (arith, c)) ∙ sym (block_unused s brick (removed x from d held) i (omega (arith, b, count))))

  -- the kept entries are moved down, what is freed is cleared, and the head is written
  ready_written : (l₀ l₁ l₂ l₃ : List ℕ) → Sound s x → Blocks ready (s.capacity + 1) l₀
      → l₁ ≡ shifted from d (entry_count x - (from + d)) l₀
      → l₂ ≡ cleared (entry_count x - d + 1) (entry_count x + 1 - (entry_count x - d + 1)) l₁
      → l₃ ≡ put 0 (head_block s brick (entry_count x - d) x.promise) l₂
      → l₃ ≡ image_of s brick (removed x from d held)
  unfolding image_of
  ready_written l₀ l₁ l₂ l₃ r own shift clear e =
      e ∙ blocks_is (image_block s brick (removed x from d held)) (s.capacity + 1) _
      (blocks_ext (placed freed 0 head) (image_block s brick (removed x from d held)) (s.capacity + 1) _ each
      (blocks_put freed (s.capacity + 1) 0 head l₂ (omega arith) (head_length s brick (entry_count x - d) x.promise)
      (cleared_blocks (shifted_of ready from d (entry_count x - (from + d))) (s.capacity + 1) (entry_count x - d + 1) (entry_count x + 1) l₁ l₂ (omega arith)
      (omega (arith, r.count-high)) clear
      (shifted_blocks ready (s.capacity + 1) from d (entry_count x - (from + d)) l₀ l₁ (omega (arith, r.count-high, within)) shift own))))
    where
      head : List ℕ
      head = head_block s brick (entry_count x - d) x.promise

      freed : ℕ → List ℕ
      freed = cleared_of (shifted_of ready from d (entry_count x - (from + d))) (entry_count x - d + 1) (entry_count x + 1)

      each : (k : ℕ) → k < s.capacity + 1 → placed freed 0 head k ≡ image_block s brick (removed x from d held) k
      each zero h =
          placed_there freed 0 head ∙ ap (λ (k : ℕ). head_block s brick k x.promise) (sym count) ∙ removed_head s brick x from d held
      each (suc i) h = placed_other freed 0 head (suc i) (λ q. omega (arith, q)) ∙ removed_block i

  -- nothing to do for the entry right above, or there is none
  stays_ready : SettingsRange s → Sound s x → held ≡ false → Blocks ready (s.capacity + 1) (image_of s brick x)
  unfolding ready
  stays_ready range r e =
      blocks_ext (image_block s brick x) ready (s.capacity + 1) (image_of s brick x) (λ k h. each k (ℕ_discrete k (from + d + 1))) (image_blocks s brick x range r)
    where
      a : from + d + 1 ≡ suc (from + d)
      a = omega arith

      b : from + 1 ≡ suc from
      b = omega arith

      same : Dec (from + d < entry_count x) → image_block s brick x (suc (from + d)) ≡ image_block s brick (removed x from d held) (suc from)
      same (yes h) =
          let m : from + d + 0 ≡ from + d = omega arith in
          let n : from ≡ from + 0 = omega arith in
          block_slot s brick x (from + d) h
          ∙ slot_same s x (removed x from d held) (from + d) from
          (sym
          (ap (λ (k : ℕ). get_or (removed x from d held).log k no_entry) n ∙ removed_as_it_was x from d held within e 0
          ∙ ap (λ (k : ℕ). get_or x.log k no_entry) m))
          ∙ sym (block_slot s brick (removed x from d held) from (omega (arith, h, count)))
      same (no h) =
          block_unused s brick x (from + d) (omega (arith, h)) ∙ sym (block_unused s brick (removed x from d held) from (omega (arith, h, within, count)))

      each : (k : ℕ) → Dec (k ≡ from + d + 1) → image_block s brick x k ≡ ready k
      each k (yes z) =
          ap (image_block s brick x) (z ∙ a) ∙ same (dec_lt (from + d) (entry_count x)) ∙ ap (image_block s brick (removed x from d held)) (sym b)
          ∙ sym (placed_there (image_block s brick x) (from + d + 1) (image_block s brick (removed x from d held) (from + 1)))
          ∙ ap ready (sym z)
      each k (no z) = sym (placed_other (image_block s brick x) (from + d + 1) (image_block s brick (removed x from d held) (from + 1)) k z)

  -- it gets its block
  given_ready : (holder lowest : ℕ) → SettingsRange s → Sound s x → held ≡ true → Above s brick x from d holder lowest
      → Blocks ready (s.capacity + 1)
      (put (block_bytes * (from + d + 1)) (entry_block lowest (held_in s.size (image_block_at (image_of s brick x) holder))) (image_of s brick x))
  unfolding ready
  given_ready holder lowest range r e q =
      subst (λ (b : List ℕ). Blocks ready (s.capacity + 1) (put (block_bytes * (from + d + 1)) b (image_of s brick x))) (sym same)
      (blocks_put (image_block s brick x) (s.capacity + 1) (from + d + 1) (image_block s brick (removed x from d held) (from + 1)) (image_of s brick x)
      (omega (arith, q.low, r.count-high)) (sym (ap length same) ∙ long) (image_blocks s brick x range r))
    where
      block : List ℕ
      block = entry_block lowest (held_in s.size (image_block_at (image_of s brick x) holder))

      here : from + d + 0 ≡ from + d
      here = omega arith

      first : from + 0 ≡ from
      first = omega arith

      same : block ≡ image_block s brick (removed x from d held) (from + 1)
      same =
          let n : from + 1 ≡ suc from = omega arith in
          ap₂ (λ (t : ℕ) (b : List ℕ). entry_block t b) q.lowest-is q.means
          ∙ sym
          (ap (image_block s brick (removed x from d held)) n
          ∙ block_slot s brick (removed x from d held) from (omega (arith, q.low, count))
          ∙ slot_held s brick (removed x from d held) from (ap (mark_at (removed x from d held)) (sym first) ∙ removed_lowest x from d held within e)
          ∙ ap₂ (λ (t : ℕ) (b : List ℕ). entry_block t b)
          (ap (time_at (removed x from d held)) (sym first) ∙ removed_time x from d held within 0 ∙ ap (time_at x) here)
          (ap (means_at (removed x from d held)) (sym first) ∙ removed_means x from d held within 0 ∙ ap (means_at x) here))

      long : length block ≡ block_bytes
      long =
          ap length (ap (entry_block lowest) q.means)
          ∙ entry_length lowest (means_at x (from + d)) (omega (arith, (r.entries (from + d) q.low).sized, range.code.size-high))

-- The d entries from place `from` on go: the entry right above gets its block, where another block of the image holds it.
pub removed_written : (s : Settings) (brick : ℕ) (x : Brick) (from d holder lowest : ℕ) (l₀ l₁ l₂ l₃ : List ℕ) → SettingsRange s → Sound s x
    → from + d ≤ entry_count x → ((holder ≡ from + d + 1 → ⊥) → Above s brick x from d holder lowest)
    → l₀ ≡ held_own s.size (from + d + 1) holder lowest (image_of s brick x)
    → l₁ ≡ shifted from d (entry_count x - (from + d)) l₀
    → l₂ ≡ cleared (entry_count x - d + 1) (entry_count x + 1 - (entry_count x - d + 1)) l₁
    → l₃ ≡ put 0 (head_block s brick (entry_count x - d) x.promise) l₂
    → l₃ ≡ image_of s brick (removed x from d (not (eqb holder (from + d + 1))))
unfolding held_own
removed_written s brick x from d holder lowest l₀ l₁ l₂ l₃ range r within above hold shift clear e =
    ready_written s brick x from d (not (eqb holder (from + d + 1))) within l₀ l₁ l₂ l₃ r (own (ℕ_discrete holder (from + d + 1))) shift clear e
  where
    own : Dec (holder ≡ from + d + 1) → Blocks (ready s brick x from d (not (eqb holder (from + d + 1))) within) (s.capacity + 1) l₀
    own (yes q) =
        subst (Blocks (ready s brick x from d (not (eqb holder (from + d + 1))) within) (s.capacity + 1))
        (sym (hold ∙ rw (eq-eqb holder (from + d + 1) q) refl))
        (stays_ready s brick x from d (not (eqb holder (from + d + 1))) within range r (ap not (eq-eqb holder (from + d + 1) q)))
    own (no q) =
        subst (Blocks (ready s brick x from d (not (eqb holder (from + d + 1))) within) (s.capacity + 1))
        (sym (hold ∙ rw (ne_eqb holder (from + d + 1) q) refl))
        (given_ready s brick x from d (not (eqb holder (from + d + 1))) within holder lowest range r (ap not (ne_eqb holder (from + d + 1) q)) (above q))

-- The ways through the steps of a brick, at its image.
use mathlib.Core.Path.{◌≡◌, refl, sym, ap, ap₂, ◌∙◌}
use mathlib.Core.Bool.{Bool, true, false, cond}
use mathlib.Core.List.{List}
use Prim.Native.Nat.{ℕ, ◌+◌, ◌-◌, ◌*◌, ◌≤◌, ◌<◌}
use native.Mathlib.Omega.{arith}
use lib.Dec.{eqb, ltb}
use lib.ListN.{length, take, drop}
use borrow.Author.Tests.{lt-ltb, le-ltb, eq-eqb, ne_eqb}
use Rattle.message.specs.Messages.{is_silent}
use Rattle.message.specs.declared.Message.{Message}
use Rattle.settings.specs.declared.Settings.{Settings}
use Rattle.image_block.specs.Block.{head_block, entry_block, mark_block}
use Rattle.byte_lists.specs.Lists.{put}
use Rattle.image.specs.Brick.{Brick, LogEntry, entry_count, means_at, Sound}
use Rattle.image.specs.Image.{image_of, image_size}
use Rattle.image.specs.Parse.{brick_in, image_block_at, held_in}
use Rattle.image.proofs.Laws.FitLaws.{held_bytes}
use Rattle.image.proofs.Laws.HolderLaws.{meant}
use Rattle.image_write.specs.Workers.{slot_of, cleared, shifted, held_own}
use Rattle.image_write.specs.Saving.{with_promise, appended, block_entry, mark_entry}
use Rattle.image_write.proofs.Laws.ImageStepLaws.{promise_written, append_placed, slot_block_lem, slot_mark, slot_long}
use Rattle.image_write.proofs.Laws.RemovedLaws.{Above, removed_written}
use Rattle.erasure.specs.Recoding.{recoded_block}
use Rattle.erasure.proofs.Laws.RecodingLaws.{recoded_length}
use Rattle.std.specs.Prelude.{Option, Some, None, is_some}
use Rattle.brick_answer.specs.Comparisons.{comparison_in}
use Rattle.brick_answer.specs.declared.Comparison.{Comparison}
use Rattle.brick_answer.specs.declared.Comparison.TheVariants.{NewerTime, PromiseAhead, FullLog}
use Rattle.brick_log.specs.BrickRules.{newest_block, modified_entry, yes_to, comparison_to, brick_after}
use Rattle.brick_log.proofs.Laws.AnsweredLaws.{after_read_lem, yes_write, yes_modify, said_none, said_one, no_changes_nothing, write_appends, modify_appends}
use Rattle.brick_log.proofs.Laws.AnsweredLaws.{order_promises, write_free, modify_written}
use Rattle.brick_log.specs.Workers.{LogReady, RemoveReady, removed_by}
use Rattle.brick_log.specs.declared.Known.{Known}
use Rattle.brick_log.specs.declared.Removal.{Removal}
use Rattle.image_block.specs.Block.{block_bytes, held_from}
use Rattle.message.specs.Kinds.{read_kind, write_kind, modify_kind, no_comparison}

-- what Modify appends has the block size
pub modified_sized : (s : Settings) (brick : ℕ) (x : Brick) (msg : Message) (new old : List ℕ) → Sound s x → length new ≡ s.size
    → length (modified_entry s brick x msg new old).block ≡ s.size
unfolding modified_entry block_entry mark_entry newest_block
modified_sized s brick x msg new old r size = go (eqb brick msg.block) (ltb brick s.m)
  where
    newest-size : length (means_at x (entry_count x - 1)) ≡ s.size
    newest-size = (r.entries (entry_count x - 1) (omega (arith, r.count_low))).sized

    go : (a b : Bool) → length (cond a (block_entry msg.time new)
        (cond b (mark_entry x msg.time) (block_entry msg.time (recoded_block s.n s.m brick msg.block (newest_block x) old new)))).block ≡ s.size
    go true b = size
    go false true = newest-size
    go false false = recoded_length s.n s.m brick msg.block (newest_block x) old new ∙ newest-size

module _ (s : Settings) (brick : ℕ) (l : List ℕ) (k : Known) (r : LogReady s brick l k) where
  -- another promise: the head is written
  pub order_moved : (t : ℕ) (after : List ℕ) → after ≡ put 0 (head_block s brick k.count t) l → after ≡ image_of s brick (with_promise (brick_in s l) t)
  order_moved t after w =
      w
      ∙ ap₂ (λ (c : ℕ) (y : List ℕ). put 0 (head_block s brick c t) y) r.counts r.saved.is-image
      ∙ promise_written s brick (brick_in s l) r.saved.range r.saved.keeps t

  -- an entry more: its block and the head are written
  stored : (e : LogEntry) (n at : ℕ) (l₁ after : List ℕ) → k.count < s.capacity → length e.block ≡ s.size
      → n ≡ k.count + 1 → at ≡ block_bytes * n → l₁ ≡ put at (slot_of s.size e) l → after ≡ put 0 (head_block s brick n k.promise) l₁
      → after ≡ image_of s brick (appended (brick_in s l) e)
  stored e n at l₁ after free size en ea w₁ w₂ =
      let nx : n ≡ entry_count (brick_in s l) + 1 = omega (arith, r.counts) in
      let ax : at ≡ block_bytes * (entry_count (brick_in s l) + 1) = omega (arith, nx) in
      w₂
      ∙ ap₂ (λ (c : ℕ) (y : List ℕ). put 0 (head_block s brick c k.promise) y) nx
      (w₁ ∙ ap₂ (λ (c : ℕ) (y : List ℕ). put c (slot_of s.size e) y) ax r.saved.is-image)
      ∙ ap (λ (p : ℕ). put 0 (head_block s brick (entry_count (brick_in s l) + 1) p)
      (put (block_bytes * (entry_count (brick_in s l) + 1)) (slot_of s.size e) (image_of s brick (brick_in s l))))
      r.promises
      ∙ append_placed s brick (brick_in s l) e r.saved.range r.saved.keeps (omega (arith, r.counts))
      (slot_long s.size e (omega (arith, size, r.saved.range.code.size-high)))

  pub write_moved : (t n at : ℕ) (block l₁ after : List ℕ) → k.count < s.capacity → length block ≡ s.size
      → n ≡ k.count + 1 → at ≡ block_bytes * n → l₁ ≡ put at (entry_block t block) l → after ≡ put 0 (head_block s brick n k.promise) l₁
      → after ≡ image_of s brick (appended (brick_in s l) (block_entry t block))
  write_moved t n at block l₁ after free size en ea w₁ w₂ =
      stored (block_entry t block) n at l₁ after free (unfold block_entry in size) en ea
      (w₁ ∙ ap (λ (b : List ℕ). put at b l) (sym (slot_block_lem s.size t block))) w₂

  module _ (msg : Message) (block old : List ℕ) where
    pub modify_moved : (n : ℕ) (l₁ after : List ℕ) → k.count < s.capacity → length block ≡ s.size → n ≡ k.count + 1
        → l₁ ≡ put (block_bytes * (k.count + 1)) (slot_of s.size (modified_entry s brick (brick_in s l) msg block old)) l
        → after ≡ put 0 (head_block s brick n k.promise) l₁
        → after ≡ image_of s brick (appended (brick_in s l) (modified_entry s brick (brick_in s l) msg block old))
    modify_moved n l₁ after free size en w₁ w₂ =
        stored (modified_entry s brick (brick_in s l) msg block old) n (block_bytes * (k.count + 1)) l₁ after free
        (modified_sized s brick (brick_in s l) msg block old r.saved.keeps size) en (omega arith) w₁ w₂

    -- the three entries of Modify
    pub modified_own : brick ≡ msg.block → (l₁ : List ℕ) (at : ℕ) → l₁ ≡ put at (entry_block msg.time block) l
        → l₁ ≡ put at (slot_of s.size (modified_entry s brick (brick_in s l) msg block old)) l
    unfolding modified_entry
    modified_own e l₁ at w = w ∙ ap (λ (b : List ℕ). put at b l) (sym (rw (eq-eqb brick msg.block e) (slot_block_lem s.size msg.time block)))

    pub modified_mark : (brick ≡ msg.block → ⊥) → brick < s.m → (l₁ : List ℕ) (at : ℕ) → l₁ ≡ put at (mark_block msg.time s.size) l
        → l₁ ≡ put at (slot_of s.size (modified_entry s brick (brick_in s l) msg block old)) l
    unfolding modified_entry
    modified_mark n h l₁ at w =
        w ∙ ap (λ (b : List ℕ). put at b l)
        (sym (rw (ne_eqb brick msg.block n, lt-ltb brick s.m h) (slot_mark s.size (brick_in s l) msg.time)))

    pub modified_parity : (brick ≡ msg.block → ⊥) → s.m ≤ brick → (l₁ : List ℕ) (at : ℕ)
        → l₁ ≡ put at (entry_block msg.time (recoded_block s.n s.m brick msg.block (newest_block (brick_in s l)) old block)) l
        → l₁ ≡ put at (slot_of s.size (modified_entry s brick (brick_in s l) msg block old)) l
    unfolding modified_entry
    modified_parity n h l₁ at w =
        w ∙ ap (λ (b : List ℕ). put at b l)
        (sym (rw (ne_eqb brick msg.block n, le-ltb brick s.m h) (slot_block_lem s.size msg.time _)))

  -- the newest entry's block, where it stands in the image
  pub holder_high : k.holder ≤ k.count
  holder_high =
      let m = meant s brick l (brick_in s l) r.saved (entry_count (brick_in s l) - 1) (omega (arith, r.saved.keeps.count_low)) in
      omega (arith, m.high, r.holders, r.counts, r.saved.keeps.count_low)

  newest_held : (a e : ℕ) → a ≡ block_bytes * k.holder + held_from → e ≡ a + s.size → take (e - a) (drop a l) ≡ newest_block (brick_in s l)
  unfolding newest_block
  newest_held a e ea ee =
      let m = meant s brick l (brick_in s l) r.saved (entry_count (brick_in s l) - 1) (omega (arith, r.saved.keeps.count_low)) in
      let n : e - a ≡ s.size = omega arith in
      ap₂ (λ (i j : ℕ). take i (drop j l)) n ea ∙ held_bytes l s.size k.holder r.saved.range.code.size-high
      ∙ ap (λ (h : ℕ). held_in s.size (image_block_at l h)) r.holders ∙ m.means

  pub recoded_written : (a e t j : ℕ) (block old out after : List ℕ) → a ≡ block_bytes * k.holder + held_from → e ≡ a + s.size
      → out ≡ recoded_block s.n s.m brick j (take (e - a) (drop a l)) old block
      → after ≡ put (block_bytes * (k.count + 1)) (entry_block t out) l
      → after ≡ put (block_bytes * (k.count + 1))
      (entry_block t (recoded_block s.n s.m brick j (newest_block (brick_in s l)) old block)) l
  recoded_written a e t j block old out after ea ee eo w =
      w ∙ ap (λ (b : List ℕ). put (block_bytes * (k.count + 1)) (entry_block t b) l)
      (eo ∙ ap (λ (b : List ℕ). recoded_block s.n s.m brick j b old block) (newest_held a e ea ee))

  -- the blocks that are looked at where another block holds the entry right above are there
  pub remove_places : (p : Removal) → RemoveReady (brick_in s l) k p → (p.cut ≡ 0 → ⊥) → (p.holder ≡ p.from + p.cut + 1 → ⊥)
      → (block_bytes * (p.from + p.cut + 1 + 1) ≤ length l) × (block_bytes * (p.holder + 1) ≤ length l)
  unfolding image_size
  remove_places p ready some other =
      let above = ready.above some other in
      let m = meant s brick l (brick_in s l) r.saved (p.from + p.cut) (omega (arith, r.counts, above.low)) in (
        omega (arith, r.saved.long, r.high, above.low),
        omega (arith, r.saved.long, r.high, above.low, m.high, above.holder-is),
      )

  -- entries less: the entry right above gets its block, the others above move down, what is freed is cleared, and the head is written
  pub remove_moved : (p : Removal) (l₀ l₁ l₂ after : List ℕ) → RemoveReady (brick_in s l) k p → (p.cut ≡ 0 → ⊥)
      → l₀ ≡ held_own s.size (p.from + p.cut + 1) p.holder p.lowest l
      → l₁ ≡ shifted p.from p.cut (k.count - (p.from + p.cut)) l₀
      → l₂ ≡ cleared (k.count - p.cut + 1) (k.count + 1 - (k.count - p.cut + 1)) l₁
      → after ≡ put 0 (head_block s brick (k.count - p.cut) k.promise) l₂
      → after ≡ image_of s brick (removed_by (brick_in s l) p)
  unfolding removed_by
  remove_moved p l₀ l₁ l₂ after ready some hold shift clear w =
      removed_written s brick (brick_in s l) p.from p.cut p.holder p.lowest l₀ l₁ l₂ after r.saved.range r.saved.keeps
      (omega (arith, r.counts, ready.within)) above
      (hold ∙ ap (held_own s.size (p.from + p.cut + 1) p.holder p.lowest) r.saved.is-image)
      (shift ∙ ap (λ (c : ℕ). shifted p.from p.cut (c - (p.from + p.cut)) l₀) r.counts)
      (clear ∙ ap (λ (c : ℕ). cleared (c - p.cut + 1) (c + 1 - (c - p.cut + 1)) l₁) r.counts)
      (w ∙ ap₂ (λ (c q : ℕ). put 0 (head_block s brick (c - p.cut) q) l₂) r.counts r.promises)
      ∙ ap (image_of s brick) (sym (rw (ne_eqb p.cut 0 some) refl))
    where
      above : (p.holder ≡ p.from + p.cut + 1 → ⊥) → Above s brick (brick_in s l) p.from p.cut p.holder p.lowest
      above other =
          let e = ready.above some other in
          let low : p.from + p.cut < entry_count (brick_in s l) = omega (arith, r.counts, e.low) in
          record {
            low = low;
            lowest-is = e.lowest-is;
            means = ap₂ (λ (y : List ℕ) (h : ℕ). held_in s.size (image_block_at y h)) (sym r.saved.is-image) e.holder-is
                ∙ (meant s brick l (brick_in s l) r.saved (p.from + p.cut) low).means;
          }

  -- nothing goes
  pub remove_none : (p : Removal) → p.cut ≡ 0 → l ≡ image_of s brick (removed_by (brick_in s l) p)
  unfolding removed_by
  remove_none p e = r.saved.is-image ∙ ap (image_of s brick) (sym (rw (eq-eqb p.cut 0 e) refl))

-- a comparison says no where it has a number
pub told_none : (said : Option Comparison) → is_some said ≡ false → comparison_in said ≡ no_comparison
told_none None e = refl
told_none (Some c) e = cc

pub told_some : (said : Option Comparison) → is_some said ≡ true → comparison_in said ≡ no_comparison → ⊥
told_some None e q = cc
told_some (Some NewerTime) e q = omega (arith, q)
told_some (Some PromiseAhead) e q = omega (arith, q)
told_some (Some FullLog) e q = omega (arith, q)

-- a yes, by what the comparison said; where something is stored an entry is free
module _ (s : Settings) (brick : ℕ) (l : List ℕ) (k : Known) (r : LogReady s brick l k) (msg : Message)
    (said : ℕ) (e : said ≡ comparison_to s (brick_in s l) msg) (z : said ≡ no_comparison) where
  yes_told : yes_to s (brick_in s l) msg ≡ true
  yes_told = said_none s (brick_in s l) msg said e z

  pub free_to_write : msg.kind ≡ write_kind → k.count < s.capacity
  free_to_write q =
      let f = write_free s (brick_in s l) msg.time (sym (yes_write s (brick_in s l) msg q) ∙ yes_told) in omega (arith, f, r.counts)

  pub free_to_modify : msg.kind ≡ modify_kind → k.count < s.capacity
  free_to_modify q =
      let y = modify_written s (brick_in s l) msg.time msg.old (sym (yes_modify s (brick_in s l) msg q) ∙ yes_told) in
      let f = write_free s (brick_in s l) msg.time y.1 in omega (arith, f, r.counts)

-- the ways through a change
module _ (s : Settings) (brick : ℕ) (l : List ℕ) (k : Known) (r : LogReady s brick l k) (msg : Message) (block old : List ℕ)
    (said : ℕ) (e : said ≡ comparison_to s (brick_in s l) msg) where
  -- the image of the brick after the message
  changed : (y : Brick) (image : List ℕ) → brick_after s brick (brick_in s l) msg block old ≡ y → image ≡ image_of s brick y
      → image ≡ image_of s brick (brick_after s brick (brick_in s l) msg block old)
  changed y image q w = w ∙ ap (image_of s brick) (sym q)

  pub change_none : is_silent msg.kind ≡ false → (said ≡ no_comparison → ⊥) → l ≡ image_of s brick (brick_after s brick (brick_in s l) msg block old)
  change_none n d =
      changed (brick_in s l) l (no_changes_nothing s brick (brick_in s l) msg block old n (said_one s (brick_in s l) msg said e d)) r.saved.is-image

  pub change_read : msg.kind ≡ read_kind → l ≡ image_of s brick (brick_after s brick (brick_in s l) msg block old)
  change_read q = changed (brick_in s l) l (after_read_lem s brick (brick_in s l) msg block old q) r.saved.is-image

  module _ (z : said ≡ no_comparison) where
    pub change_write : (image : List ℕ) → msg.kind ≡ write_kind → image ≡ image_of s brick (appended (brick_in s l) (block_entry msg.time block))
        → image ≡ image_of s brick (brick_after s brick (brick_in s l) msg block old)
    change_write image q w = changed _ image (write_appends s brick (brick_in s l) msg block old q (yes_told s brick l k r msg said e z)) w

    pub change_modify : (image : List ℕ) → msg.kind ≡ modify_kind
        → image ≡ image_of s brick (appended (brick_in s l) (modified_entry s brick (brick_in s l) msg block old))
        → image ≡ image_of s brick (brick_after s brick (brick_in s l) msg block old)
    change_modify image q w = changed _ image (modify_appends s brick (brick_in s l) msg block old q (yes_told s brick l k r msg said e z)) w

    pub change_order : (image : List ℕ) → is_silent msg.kind ≡ false → (msg.kind ≡ read_kind → ⊥) → (msg.kind ≡ write_kind → ⊥) → (msg.kind ≡ modify_kind → ⊥)
        → image ≡ image_of s brick (with_promise (brick_in s l) msg.time) → image ≡ image_of s brick (brick_after s brick (brick_in s l) msg block old)
    change_order image a b c d w = changed _ image (order_promises s brick (brick_in s l) msg block old a c d b (yes_told s brick l k r msg said e z)) w

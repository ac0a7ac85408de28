-- The image after each change of a brick: which blocks were written.
use mathlib.Core.Path.{◌≡◌, refl, sym, ap, ◌∙◌}
use mathlib.Core.Bool.{Bool, true, false, cond}
use mathlib.Core.List.{List, [], ◌∷◌}
use Prim.Native.Nat.{ℕ, zero, suc, ◌+◌, ◌*◌, ◌≤◌, ◌<◌}
use native.Mathlib.Omega.{arith}
use native.Mathlib.Decide.{ℕ_discrete, dec_lt}
use lib.Dec.{ltb}
use lib.ListN.{length, get_or, length-append, get_or-append}
use lib.Seq.{get_or_at}
use Rattle.settings.specs.Ranges.{SettingsRange, max_size}
use Rattle.settings.specs.declared.Settings.{Settings}
use Rattle.image_block.specs.Block.{head_block, entry_block, mark_block, unused_block}
use Rattle.byte_lists.specs.Lists.{put}
use Rattle.image_block.proofs.Laws.LayoutLaws.{head_length, entry_length, mark_length}
use Rattle.image.specs.Brick.{Brick, LogEntry, no_entry, entry_count, time_at, means_at, mark_at}
use Rattle.image.specs.Image.{slot_block, image_block, image_of, image_size}
use Rattle.image.specs.Brick.{Sound}
use Rattle.image.proofs.Laws.ImageSoundLaws.{image_length, image_block_lem, block_slot, block_unused}
use Rattle.image_write.proofs.Laws.BlocksLaws.{Blocks, blocks_put, blocks_ext, blocks_is, placed, placed_there, placed_other}
use Rattle.image_write.specs.Saving.{with_promise, appended, block_entry, mark_entry}
use Rattle.image_write.specs.Workers.{slot_of}
use Rattle.image_block.specs.Block.{block_bytes}

pub image_blocks : (s : Settings) (brick : ℕ) (x : Brick) → SettingsRange s → Sound s x → Blocks (image_block s brick x) (s.capacity + 1) (image_of s brick x)
unfolding image_size
image_blocks s brick x range r =
    record { long = image_length s brick x range r; at = λ k h. image_block_lem s brick x range r k (omega (arith, h)) }

-- two bricks with the same log have the same blocks but for the head
same_block : (s : Settings) (brick : ℕ) (x y : Brick) → x.log ≡ y.log → (i : ℕ) → image_block s brick x (suc i) ≡ image_block s brick y (suc i)
unfolding image_block slot_block entry_count time_at means_at mark_at
same_block s brick x y e i =
    ap
    (λ (l : List LogEntry). cond (ltb i (length l))
    (cond (get_or l i no_entry).mark (mark_block (get_or l i no_entry).time s.size) (entry_block (get_or l i no_entry).time (get_or l i no_entry).block))
    unused_block)
    e

module _ (s : Settings) (brick : ℕ) (x : Brick) (range : SettingsRange s) (r : Sound s x) where
  -- an Order writes the head
  pub promise_written : (t : ℕ) → put 0 (head_block s brick (entry_count x) t) (image_of s brick x) ≡ image_of s brick (with_promise x t)
  unfolding image_of with_promise entry_count image_block
  promise_written t =
      blocks_is (image_block s brick (with_promise x t)) (s.capacity + 1) (put 0 (head_block s brick (entry_count x) t) (image_of s brick x))
      (blocks_ext (placed (image_block s brick x) 0 (head_block s brick (entry_count x) t)) (image_block s brick (with_promise x t)) (s.capacity + 1) _ each
      (blocks_put (image_block s brick x) (s.capacity + 1) 0 (head_block s brick (entry_count x) t) (image_of s brick x) (omega arith)
      (head_length s brick (entry_count x) t) (image_blocks s brick x range r)))
    where
      each : (k : ℕ) → k < s.capacity + 1 → placed (image_block s brick x) 0 (head_block s brick (entry_count x) t) k ≡ image_block s brick (with_promise x t) k
      each zero h = placed_there (image_block s brick x) 0 (head_block s brick (entry_count x) t)
      each (suc i) h =
          placed_other (image_block s brick x) 0 (head_block s brick (entry_count x) t) (suc i) (λ q. omega (arith, q))
          ∙ same_block s brick x (with_promise x t) refl i

-- a promise leaves the entries
pub promised_promise : (x : Brick) (t : ℕ) → (with_promise x t).promise ≡ t
unfolding with_promise
promised_promise x t = refl

pub promised_count : (x : Brick) (t : ℕ) → entry_count (with_promise x t) ≡ entry_count x
unfolding entry_count with_promise
promised_count x t = refl

pub promised_time : (x : Brick) (t i : ℕ) → time_at (with_promise x t) i ≡ time_at x i
unfolding time_at with_promise
promised_time x t i = refl

pub promised_mark : (x : Brick) (t i : ℕ) → mark_at (with_promise x t) i ≡ mark_at x i
unfolding mark_at with_promise
promised_mark x t i = refl

pub promised_means : (x : Brick) (t i : ℕ) → means_at (with_promise x t) i ≡ means_at x i
unfolding means_at with_promise
promised_means x t i = refl

-- the entries of a log with one more
pub appended_promise : (x : Brick) (e : LogEntry) → (appended x e).promise ≡ x.promise
unfolding appended
appended_promise x e = refl

pub appended_count : (x : Brick) (e : LogEntry) → entry_count (appended x e) ≡ entry_count x + 1
unfolding entry_count appended
appended_count x e = length-append x.log (e ∷ [])

appended_old : (x : Brick) (e : LogEntry) (i : ℕ) → i < entry_count x → get_or (appended x e).log i no_entry ≡ get_or x.log i no_entry
unfolding entry_count appended
appended_old x e i h = get_or-append x.log (e ∷ []) no_entry i h

appended_new : (x : Brick) (e : LogEntry) → get_or (appended x e).log (entry_count x) no_entry ≡ e
unfolding entry_count appended
appended_new x e = get_or_at x.log e [] no_entry (length x.log) refl

pub appended_time_old : (x : Brick) (e : LogEntry) (i : ℕ) → i < entry_count x → time_at (appended x e) i ≡ time_at x i
unfolding time_at
appended_time_old x e i h = ap (λ (f : LogEntry). f.time) (appended_old x e i h)

pub appended_means_old : (x : Brick) (e : LogEntry) (i : ℕ) → i < entry_count x → means_at (appended x e) i ≡ means_at x i
unfolding means_at
appended_means_old x e i h = ap (λ (f : LogEntry). f.block) (appended_old x e i h)

pub appended_mark_old : (x : Brick) (e : LogEntry) (i : ℕ) → i < entry_count x → mark_at (appended x e) i ≡ mark_at x i
unfolding mark_at
appended_mark_old x e i h = ap (λ (f : LogEntry). f.mark) (appended_old x e i h)

pub appended_time_new : (x : Brick) (e : LogEntry) → time_at (appended x e) (entry_count x) ≡ e.time
unfolding time_at
appended_time_new x e = ap (λ (f : LogEntry). f.time) (appended_new x e)

pub appended_means_new : (x : Brick) (e : LogEntry) → means_at (appended x e) (entry_count x) ≡ e.block
unfolding means_at
appended_means_new x e = ap (λ (f : LogEntry). f.block) (appended_new x e)

pub appended_mark_new : (x : Brick) (e : LogEntry) → mark_at (appended x e) (entry_count x) ≡ e.mark
unfolding mark_at
appended_mark_new x e = ap (λ (f : LogEntry). f.mark) (appended_new x e)

appended_head : (s : Settings) (brick : ℕ) (x : Brick) (e : LogEntry)
    → head_block s brick (entry_count (appended x e)) x.promise ≡ image_block s brick (appended x e) 0
unfolding appended image_block
appended_head s brick x e = refl

slot_of_lem : (s : Settings) (x : Brick) (i : ℕ) → slot_block s x i ≡ slot_of s.size (get_or x.log i no_entry)
unfolding slot_block slot_of time_at means_at mark_at
slot_of_lem s x i = refl

-- two entries alike have the same block
pub slot_same : (s : Settings) (x y : Brick) (i j : ℕ) → get_or x.log i no_entry ≡ get_or y.log j no_entry → slot_block s x i ≡ slot_block s y j
slot_same s x y i j e = slot_of_lem s x i ∙ ap (slot_of s.size) e ∙ sym (slot_of_lem s y j)

module _ (s : Settings) (brick : ℕ) (x : Brick) (e : LogEntry) where
  append_block : (i : ℕ) → placed (image_block s brick x) (entry_count x + 1) (slot_of s.size e) (suc i) ≡ image_block s brick (appended x e) (suc i)
  append_block i = go (ℕ_discrete i (entry_count x))
    where
      go : Dec (i ≡ entry_count x) → placed (image_block s brick x) (entry_count x + 1) (slot_of s.size e) (suc i) ≡ image_block s brick (appended x e) (suc i)
      go (yes q) =
          let n : suc i ≡ entry_count x + 1 = omega (arith, q) in
          ap (λ (k : ℕ). placed (image_block s brick x) (entry_count x + 1) (slot_of s.size e) k) n
          ∙ placed_there (image_block s brick x) (entry_count x + 1) (slot_of s.size e)
          ∙ ap (slot_of s.size) (sym (ap (λ (k : ℕ). get_or (appended x e).log k no_entry) q ∙ appended_new x e))
          ∙ sym (slot_of_lem s (appended x e) i)
          ∙ sym (block_slot s brick (appended x e) i (omega (arith, q, appended_count x e)))
      go (no q) = placed_other (image_block s brick x) (entry_count x + 1) (slot_of s.size e) (suc i) (λ w. q (omega (arith, w))) ∙ other (dec_lt i (entry_count x))
        where
          other : Dec (i < entry_count x) → image_block s brick x (suc i) ≡ image_block s brick (appended x e) (suc i)
          other (yes h) =
              block_slot s brick x i h
              ∙ slot_same s x (appended x e) i i (sym (appended_old x e i h))
              ∙ sym (block_slot s brick (appended x e) i (omega (arith, h, appended_count x e)))
          other (no h) =
              let past : entry_count x + 1 ≤ i = omega (arith, h, q) in
              block_unused s brick x i (omega (arith, past))
              ∙ sym (block_unused s brick (appended x e) i (omega (arith, past, appended_count x e)))

  -- an entry more: its block and the head are written
  pub append_placed : SettingsRange s → Sound s x → entry_count x < s.capacity → length (slot_of s.size e) ≡ block_bytes
      → put 0 (head_block s brick (entry_count x + 1) x.promise) (put (block_bytes * (entry_count x + 1)) (slot_of s.size e) (image_of s brick x))
      ≡ image_of s brick (appended x e)
  unfolding image_of
  append_placed range r free long =
      blocks_is (image_block s brick (appended x e)) (s.capacity + 1) _
      (blocks_ext (placed (placed (image_block s brick x) (entry_count x + 1) (slot_of s.size e)) 0 head) (image_block s brick (appended x e)) (s.capacity + 1) _ each
      (blocks_put (placed (image_block s brick x) (entry_count x + 1) (slot_of s.size e)) (s.capacity + 1) 0 head _ (omega arith)
      (head_length s brick (entry_count x + 1) x.promise)
      (blocks_put (image_block s brick x) (s.capacity + 1) (entry_count x + 1) (slot_of s.size e) (image_of s brick x) (omega arith) long
      (image_blocks s brick x range r))))
    where
      head : List ℕ
      head = head_block s brick (entry_count x + 1) x.promise

      each : (k : ℕ) → k < s.capacity + 1
          → placed (placed (image_block s brick x) (entry_count x + 1) (slot_of s.size e)) 0 (head_block s brick (entry_count x + 1) x.promise) k
          ≡ image_block s brick (appended x e) k
      each zero h =
          placed_there (placed (image_block s brick x) (entry_count x + 1) (slot_of s.size e)) 0 (head_block s brick (entry_count x + 1) x.promise)
          ∙ ap (λ (k : ℕ). head_block s brick k x.promise) (sym (appended_count x e))
          ∙ appended_head s brick x e
      each (suc i) h =
          placed_other (placed (image_block s brick x) (entry_count x + 1) (slot_of s.size e)) 0 (head_block s brick (entry_count x + 1) x.promise) (suc i)
          (λ q. omega (arith, q))
          ∙ append_block i

-- with a block, or a mark
pub slot_block_lem : (size t : ℕ) (block : List ℕ) → slot_of size (block_entry t block) ≡ entry_block t block
unfolding slot_of block_entry
slot_block_lem size t block = refl

pub slot_mark : (size : ℕ) (x : Brick) (t : ℕ) → slot_of size (mark_entry x t) ≡ mark_block t size
unfolding slot_of mark_entry
slot_mark size x t = refl

pub slot_long : (size : ℕ) (e : LogEntry) → length e.block ≤ max_size → length (slot_of size e) ≡ block_bytes
unfolding slot_of
slot_long size e h = go e.mark
  where
    go : (b : Bool) → length (cond b (mark_block e.time size) (entry_block e.time e.block)) ≡ block_bytes
    go true = mark_length e.time size
    go false = entry_length e.time e.block (omega arith)

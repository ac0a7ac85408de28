-- The loop over the blocks after the head.
use mathlib.Core.Path.{◌≡◌, refl, sym, ap, ap₂, ◌∙◌}
use mathlib.Core.Bool.{Bool, true, false, ◌&&◌}
use mathlib.Core.List.{List, [], ◌∷◌, ◌++◌, append_assoc}
use Prim.Native.Nat.{ℕ, zero, suc, ◌+◌, ◌-◌, ◌*◌, ◌<◌}
use native.Mathlib.Omega.{arith}
use native.Mathlib.Numerals.{add-one}
use lib.ListN.{take, drop, set, replicate}
use lib.Seq.{set_at}
use Rattle.image_block.specs.Block.{checked}
use Rattle.byte_lists.specs.Each.{each}
use Rattle.byte_lists.proofs.Laws.EachLaws.{each_none, each_more, each_not}
use Rattle.image.specs.Parse.{image_block_at, checked_at, time_in, mark_in}
use Rattle.image.specs.Opening.{row_of, blank, entry_for}
use Rattle.image.specs.Workers.{rises, slot_fits}
use Rattle.image.specs.declared.Entry.{Entry}
use Rattle.image.proofs.Laws.HubLaws.{row_length}
use Rattle.image.specs.Workers.{check_after, slot_at, entry_at, scan_refusal}
use Rattle.settings.specs.Refusal.{first_refusal, passed, bad_check, bad_record}
use Rattle.image_block.specs.Block.{block_bytes}
use Rattle.settings.specs.Ranges.{max_capacity}

-- what holds before block i + 1 is read
pub record Scanning (size : ℕ) (l : List ℕ) (n : ℕ) (fits : Bool) (last i : ℕ) (log : List Entry) : Type 0 where
  pub so-checked : each (check_after l) i ≡ true
  pub so-fit : fits ≡ each (slot_at size l n) i
  pub before : 0 < i → last ≡ time_in (image_block_at l i)
  pub logged : log ≡ row_of (entry_at l n) i ++ replicate (max_capacity - i) blank

pub scanning_none : (size : ℕ) (l : List ℕ) (n : ℕ) (b : Entry) (log : List Entry) → b ≡ entry_for 0 false 0 0 → log ≡ replicate max_capacity b
    → Scanning size l n true 0 0 log
unfolding row_of entry_for
scanning_none size l n b log e k =
    record {
      so-checked = each_none (check_after l);
      so-fit = sym (each_none (slot_at size l n));
      before = λ h. absurd (omega (arith, h));
      logged = k ∙ ap (λ (x : Entry). replicate max_capacity x) e;
    }

-- the part of the image that the loop reads
pub part_is : (l : List ℕ) (at k : ℕ) → at ≡ block_bytes * k → take (at + block_bytes - at) (drop at l) ≡ image_block_at l k
unfolding image_block_at
part_is l at k e = let n : at + block_bytes - at ≡ block_bytes = omega arith in ap₂ (λ (a b : ℕ). take a (drop b l)) n e

-- one more entry of the log
row_more : (f : ℕ → Entry) (i : ℕ) (log : List Entry) → i < max_capacity → log ≡ row_of f i ++ replicate (max_capacity - i) blank
    → set log i (f i) ≡ row_of f (i + 1) ++ replicate (max_capacity - (i + 1)) blank
unfolding row_of
row_more f i log h e =
    let n : max_capacity - i ≡ suc (max_capacity - (i + 1)) = omega arith in
    ap (λ (x : List Entry). set x i (f i)) (e ∙ ap (λ (k : ℕ). row_of f i ++ replicate k blank) n)
    ∙ set_at (row_of f i) blank (replicate (max_capacity - (i + 1)) blank) (f i) i (row_length f i)
    ∙ sym (append_assoc (row_of f i) (f i ∷ []) (replicate (max_capacity - (i + 1)) blank))
    ∙ ap (λ (k : ℕ). row_of f k ++ replicate (max_capacity - (i + 1)) blank) (sym (add-one i))

-- the time before it, which the loop carries
slot_last : (size : ℕ) (l : List ℕ) (n i last : ℕ) → (0 < i → last ≡ time_in (image_block_at l i))
    → slot_fits size (image_block_at l (i + 1)) (time_in (image_block_at l (i + 1))) i n last ≡ slot_at size l n i
unfolding slot_at slot_fits rises
slot_last size l n zero last b = refl
slot_last size l n (suc i) last b = ap (λ (x : ℕ). slot_fits size (image_block_at l (suc i + 1)) (time_in (image_block_at l (suc i + 1))) (suc i) n x) (b (omega arith))

module _ (size : ℕ) (l : List ℕ) (n : ℕ) (fits : Bool) (last i : ℕ) (log : List Entry) (h : i < max_capacity) (r : Scanning size l n fits last i log) where
  pub scanning_more : (t : List ℕ) (holds fits' mark : Bool) (time : ℕ) (entry : Entry) → t ≡ image_block_at l (i + 1) → holds ≡ checked t → holds ≡ true
      → time ≡ time_in t → fits' ≡ fits && slot_fits size t time i n last → mark ≡ mark_in t → entry ≡ entry_for time mark i n
      → Scanning size l n fits' time (i + 1) (set log i entry)
  unfolding check_after checked_at entry_at
  scanning_more t holds fits' mark time entry et eh h1 em ef ek ee =
      let tm : time ≡ time_in (image_block_at l (i + 1)) = em ∙ ap time_in et in
      let fit_is : slot_fits size t time i n last ≡ slot_at size l n i =
      ap₂ (λ (a : List ℕ) (b : ℕ). slot_fits size a b i n last) et tm ∙ slot_last size l n i last r.before in
      record {
        so-checked = each_more (check_after l) i ∙ rw r.so-checked (sym (ap checked et) ∙ sym eh ∙ h1);
        so-fit = ef ∙ ap₂ (λ (a b : Bool). a && b) r.so-fit fit_is ∙ sym (each_more (slot_at size l n) i);
        before = λ z. tm;
        logged = ap (λ (x : Entry). set log i x) (ee ∙ ap₂ (λ (k : ℕ) (b : Bool). entry_for k b i n) tm (ek ∙ ap mark_in et))
            ∙ row_more (entry_at l n) i log (omega arith) r.logged;
      }

  -- 5: the check of a block fails
  pub scan_unchecked : (cap : ℕ) (t : List ℕ) (holds : Bool) → i < cap → t ≡ image_block_at l (i + 1) → holds ≡ checked t → holds ≡ false
      → bad_check ≡ scan_refusal size cap l n
  unfolding check_after checked_at scan_refusal first_refusal
  scan_unchecked cap t holds b et eh h0 = rw (each_not (check_after l) cap i b (sym (ap checked et) ∙ sym eh ∙ h0)) refl

-- 6: all checks hold, and a block is not as it should be
pub scan_unfit : (size cap : ℕ) (l : List ℕ) (n last : ℕ) (log : List Entry) (fits : Bool) → fits ≡ false → Scanning size l n fits last cap log → bad_record ≡ scan_refusal size cap l n
unfolding scan_refusal first_refusal
scan_unfit size cap l n last log fits f r = rw (r.so-checked, sym r.so-fit ∙ f) refl

pub scan_passed : (size cap : ℕ) (l : List ℕ) (n last : ℕ) (log : List Entry) (fits : Bool) → fits ≡ true → Scanning size l n fits last cap log → passed ≡ scan_refusal size cap l n
unfolding scan_refusal first_refusal
scan_passed size cap l n last log fits f r = rw (r.so-checked, sym r.so-fit ∙ f) refl

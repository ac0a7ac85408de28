-- The ways through an opening.
use mathlib.Core.Path.{◌≡◌, refl, sym, ap, ap₂, ◌∙◌}
use mathlib.Core.Bool.{Bool, true, false, ◌&&◌, and-false}
use mathlib.Core.List.{List, [], ◌∷◌, ◌++◌, append-nil}
use Prim.Native.Nat.{ℕ, zero, suc, ◌+◌, ◌-◌, ◌≤◌, ◌<◌}
use native.Mathlib.Omega.{arith}
use native.Mathlib.Numerals.{add-one}
use lib.Dec.{leb, ltb, eqb}
use lib.ListN.{length, replicate}
use lib.Seq.{append_snoc}
use native.Mathlib.Nat.{add-zero}
use native.Mathlib.Decide.{dec_lt}
use borrow.Author.Tests.{ltb-true, le-ltb, leb-true, eqb-true}
use Rattle.settings.specs.Ranges.{in_range}
use Rattle.settings.specs.Refusal.{refuse_unless, first_refusal}
use Rattle.settings.specs.Ranges.{SettingsRange}
use Rattle.byte_lists.proofs.Laws.BoolLaws.{and_left, and_right}
use Rattle.settings.specs.declared.Settings.{Settings}
use Rattle.image_block.specs.Block.{checked}
use Rattle.image.specs.Brick.{entry_count, time_at, mark_at, count_sound}
use Rattle.byte_lists.specs.Each.{each}
use Rattle.byte_lists.proofs.Laws.EachLaws.{each_at, each_all, each_not}
use Rattle.image.specs.Image.{image_size}
use Rattle.std.specs.Prelude.{Ok, Err}
use Rattle.settings.specs.Refusal.{number_of_refusal}
use Rattle.settings.specs.declared.Refusal.{Refusal}
use Rattle.settings.specs.declared.Refusal.TheVariants.{BadSetting, BadLength, BadNumber, BadBrickSet, BadCheck, BadRecord, BadReading}
use Rattle.settings.specs.declared.Refusal.TheVariants.{ClockSpent, Busy, BadMessage, StrayReply, BadLine, BadStripe, BadBlock, BlocksDisagree}
use Rattle.image.specs.Parse.{Parsed}
use Rattle.image.specs.Opening.{opening_in}
use Rattle.image.specs.Parse.{image_block_at, count_in, promise_in, time_in, mark_in, brick_in, checked_at, is_image, open_refusal, Refuses, parse}
use Rattle.image.proofs.Laws.ParseLaws.{range_of, count_in_lem, refusal_0, refusal_5, refusal_6, parse_opens, parse_refuses}
use Rattle.image.specs.Opening.{row_of, blank, entry_for, entry_of, working_log, opening, lending_refusal}
use Rattle.image.specs.Workers.{head_fits}
use Rattle.image.specs.Workers.{check_after, slot_at, entry_at, scan_refusal, scanned_log}
use Rattle.image.proofs.Laws.FieldTestLaws.{tests_image, time_in_lem, mark_in_lem}
use Rattle.image.specs.declared.Entry.{Entry}
use Rattle.image.specs.ImageAnswers.{Opening}
use Rattle.image.specs.ImageAnswers.{Opened}
use Rattle.settings.specs.Ranges.{max_capacity}
use Rattle.settings.specs.Refusal.{bad_check, bad_length, bad_number, bad_record, bad_setting}

-- what passes the first refusals
pub record LentImage (s : Settings) (brick len : ℕ) : Type 0 where
  pub in-range : in_range s ≡ true
  pub range : SettingsRange s
  pub long : len ≡ image_size s
  pub brick-low : brick < s.n

pub lent : (s : Settings) (brick len k : ℕ) → k ≡ lending_refusal s brick len → k ≡ 0 → LentImage s brick len
unfolding lending_refusal first_refusal
lent s brick len k e z = go (in_range s) (eqb len (image_size s)) (ltb brick s.n) refl refl refl (sym e ∙ z)
  where
    go : (a b c : Bool) → in_range s ≡ a → eqb len (image_size s) ≡ b → ltb brick s.n ≡ c
        → ◌≡◌ {A = ℕ} (first_refusal (refuse_unless a bad_setting ∷ refuse_unless b bad_length ∷ refuse_unless c bad_number ∷ [])) 0 → LentImage s brick len
    go false b c ea eb ec r = absurd (omega arith)
    go true false c ea eb ec r = absurd (omega arith)
    go true true false ea eb ec r = absurd (omega arith)
    go true true true ea eb ec r =
        record { in-range = ea; range = range_of s ea; long = eqb-true len (image_size s) eb; brick-low = ltb-true brick s.n ec }

pub lending_parse : (s : Settings) (brick : ℕ) (l : List ℕ) (k : ℕ) → k ≡ lending_refusal s brick (length l) → (k ≡ 0 → ⊥) → parse s brick l ≡ Refuses k
unfolding lending_refusal open_refusal first_refusal
lending_parse s brick l k e z = parse_refuses s brick l k (go (in_range s) (eqb (length l) (image_size s)) (ltb brick s.n) e) z
  where
    go : (a b c : Bool) → k ≡ first_refusal (refuse_unless a bad_setting ∷ refuse_unless b bad_length ∷ refuse_unless c bad_number ∷ [])
        → first_refusal (refuse_unless a bad_setting ∷ refuse_unless b bad_length ∷ refuse_unless c bad_number ∷ refuse_unless (each (checked_at l) (s.capacity + 1)) bad_check ∷ refuse_unless
        (is_image s brick l) bad_record ∷ []) ≡ k
    go false b c r = sym r
    go true false c r = sym r
    go true true false r = sym r
    go true true true r = absurd (z r)

-- all checks: the head's and the others
checks_all : (l : List ℕ) (n : ℕ) → checked_at l 0 ≡ true → each (check_after l) n ≡ true → each (checked_at l) (n + 1) ≡ true
unfolding check_after
checks_all l n h t = each_all (checked_at l) (n + 1) each
  where
    each : (k : ℕ) → k < n + 1 → checked_at l k ≡ true
    each zero b = h
    each (suc i) b = ap (λ (k : ℕ). checked_at l k) (sym (add-one i)) ∙ each_at (check_after l) n i t (omega arith)

checks_fail : (l : List ℕ) (n : ℕ) → each (check_after l) n ≡ false → each (checked_at l) (n + 1) ≡ false
unfolding check_after
checks_fail l n f = go (each (checked_at l) (n + 1)) refl
  where
    go : (b : Bool) → each (checked_at l) (n + 1) ≡ b → each (checked_at l) (n + 1) ≡ false
    go true e = e ∙ sym (each_all (check_after l) n (λ i h. each_at (checked_at l) (n + 1) (i + 1) e (omega (arith, h)))) ∙ f
    go false e = e

-- the working log that the loop made
row_ext : (f g : ℕ → Entry) (n : ℕ) → ((i : ℕ) → i < n → f i ≡ g i) → row_of f n ≡ row_of g n
unfolding row_of
row_ext f g zero e = refl
row_ext f g (suc n) e = ap₂ (λ (a : List Entry) (b : Entry). a ++ b ∷ []) (row_ext f g n (λ i h. e i (omega arith))) (e n (omega arith))

row_blank : (f : ℕ → Entry) (n j : ℕ) → ((i : ℕ) → n ≤ i → f i ≡ blank) → row_of f (n + j) ≡ row_of f n ++ replicate j blank
unfolding row_of
row_blank f n zero e = ap (λ (k : ℕ). row_of f k) (add-zero n) ∙ sym (append-nil (row_of f n))
row_blank f n (suc j) e =
    let m : n + suc j ≡ suc n + j = omega arith in
    ap (λ (k : ℕ). row_of f k) m
    ∙ row_blank f (suc n) j (λ i h. e i (omega (arith, h)))
    ∙ ap (λ (b : Entry). (row_of f n ++ b ∷ []) ++ replicate j blank) (e n (omega arith))
    ∙ append_snoc (row_of f n) blank (replicate j blank)

entry_past : (time : ℕ) (mark : Bool) (i n : ℕ) → n ≤ i → entry_for time mark i n ≡ blank
unfolding entry_for
entry_past time mark i n h = rw (le-ltb i n h) refl

working : (s : Settings) (l : List ℕ) → s.capacity ≤ max_capacity → count_in (image_block_at l 0) ≤ s.capacity
    → row_of (entry_at l (count_in (image_block_at l 0))) s.capacity ++ replicate (max_capacity - s.capacity) blank ≡ working_log (brick_in s l)
unfolding working_log entry_at entry_of
working s l c h =
    let m : s.capacity + (max_capacity - s.capacity) ≡ max_capacity = omega arith in
    ap (λ (a : List Entry). a ++ replicate (max_capacity - s.capacity) blank) (row_ext (entry_at l (count_in (image_block_at l 0))) (entry_of (brick_in s l)) s.capacity (λ i b. each i))
    ∙ sym (row_blank (entry_of (brick_in s l)) s.capacity (max_capacity - s.capacity) past)
    ∙ ap (λ (k : ℕ). row_of (entry_of (brick_in s l)) k) m
  where
    past : (i : ℕ) → s.capacity ≤ i → entry_for (time_at (brick_in s l) i) (mark_at (brick_in s l) i) i (entry_count (brick_in s l)) ≡ blank
    past i b = entry_past _ _ i (entry_count (brick_in s l)) (omega (arith, b, count_in_lem s l))

    each : (i : ℕ) → entry_for (time_in (image_block_at l (i + 1))) (mark_in (image_block_at l (i + 1))) i (count_in (image_block_at l 0))
        ≡ entry_for (time_at (brick_in s l) i) (mark_at (brick_in s l) i) i (entry_count (brick_in s l))
    each i = go (dec_lt i (count_in (image_block_at l 0)))
      where
        go : Dec (i < count_in (image_block_at l 0))
            → entry_for (time_in (image_block_at l (i + 1))) (mark_in (image_block_at l (i + 1))) i (count_in (image_block_at l 0))
            ≡ entry_for (time_at (brick_in s l) i) (mark_at (brick_in s l) i) i (entry_count (brick_in s l))
        go (yes b) = rw (time_in_lem s l i b, mark_in_lem s l i b, count_in_lem s l) refl
        go (no b) = entry_past _ _ i _ (omega (arith, b)) ∙ sym (entry_past _ _ i (entry_count (brick_in s l)) (omega (arith, b, count_in_lem s l)))

-- a scan that passes
scan_fits : (size cap : ℕ) (l : List ℕ) (n : ℕ) → 0 ≡ scan_refusal size cap l n → (each (check_after l) cap ≡ true) × (each (slot_at size l n) cap ≡ true)
unfolding scan_refusal first_refusal
scan_fits size cap l n q = go (each (check_after l) cap) (each (slot_at size l n) cap) q
  where
    go : (a b : Bool) → 0 ≡ first_refusal (refuse_unless a bad_check ∷ refuse_unless b bad_record ∷ []) → (a ≡ true) × (b ≡ true)
    go false b w = absurd (omega arith)
    go true false w = absurd (omega arith)
    go true true w = (refl, refl)

head_count_high : (s : Settings) (brick : ℕ) (t : List ℕ) (n promise : ℕ) → head_fits s brick t n promise ≡ true → n ≤ s.capacity
unfolding head_fits count_sound
head_count_high s brick t n promise e = leb-true n s.capacity (and_right (leb 1 n) _ (and_left _ _ (and_left _ _ e)))

-- a refusal has a number
pub nonzero : (r : Refusal) → number_of_refusal r ≡ 0 → ⊥
nonzero BadSetting e = absurd (omega arith)
nonzero BadLength e = absurd (omega arith)
nonzero BadNumber e = absurd (omega arith)
nonzero BadBrickSet e = absurd (omega arith)
nonzero BadCheck e = absurd (omega arith)
nonzero BadRecord e = absurd (omega arith)
nonzero BadReading e = absurd (omega arith)
nonzero ClockSpent e = absurd (omega arith)
nonzero Busy e = absurd (omega arith)
nonzero BadMessage e = absurd (omega arith)
nonzero StrayReply e = absurd (omega arith)
nonzero BadLine e = absurd (omega arith)
nonzero BadStripe e = absurd (omega arith)
nonzero BadBlock e = absurd (omega arith)
nonzero BlocksDisagree e = absurd (omega arith)

-- a refused parse, as the code gives it
pub opening_err : (p : Parsed) (r : Refusal) → p ≡ Refuses (number_of_refusal r) → opening_in (Err r) ≡ opening p
unfolding opening
opening_err p r e = sym (ap opening e)

pub lending_err : (s : Settings) (brick : ℕ) (l : List ℕ) (r : Refusal) → number_of_refusal r ≡ lending_refusal s brick (length l)
    → opening_in (Err r) ≡ opening (parse s brick l)
lending_err s brick l r e = opening_err (parse s brick l) r (lending_parse s brick l (number_of_refusal r) e (nonzero r))

-- With t the head's block, n and promise its fields:
module _ (s : Settings) (brick : ℕ) (l t : List ℕ) (e : LentImage s brick (length l)) (first : t ≡ image_block_at l 0) where
  -- 5: the head's check fails
  pub open_unchecked : checked t ≡ false → opening_in (Err BadCheck) ≡ opening (parse s brick l)
  unfolding checked_at
  open_unchecked f =
      opening_err (parse s brick l) BadCheck (parse_refuses s brick l bad_check
      (refusal_5 s brick l e.in-range e.long e.brick-low (each_not (checked_at l) (s.capacity + 1) 0 (omega arith) (sym (ap checked first) ∙ f)))
      (λ z. omega (arith, z)))

  module _ (held : checked t ≡ true) (n promise : ℕ) (en : n ≡ count_in t) (ep : promise ≡ promise_in t) where
    all_checks : each (check_after l) s.capacity ≡ true → each (checked_at l) (s.capacity + 1) ≡ true
    unfolding checked_at
    all_checks c = checks_all l s.capacity (sym (ap checked first) ∙ held) c

    n_is : n ≡ count_in (image_block_at l 0)
    n_is = en ∙ ap count_in first

    promise_is : promise ≡ promise_in (image_block_at l 0)
    promise_is = ep ∙ ap promise_in first

    tested : each (check_after l) s.capacity ≡ true → head_fits s brick t n promise && each (slot_at s.size l n) s.capacity ≡ is_image s brick l
    tested c =
        ap₂ (λ (a b : Bool). a && b)
        (ap (λ (b : List ℕ). head_fits s brick b n promise) first
        ∙ ap₂ (λ (a b : ℕ). head_fits s brick (image_block_at l 0) a b) n_is promise_is)
        (ap (λ (k : ℕ). each (slot_at s.size l k) s.capacity) n_is)
        ∙ tests_image s brick l e.range e.long (all_checks c)

    -- 5 or 6: another block is refused
    pub open_scan : (r : Refusal) → number_of_refusal r ≡ scan_refusal s.size s.capacity l n → opening_in (Err r) ≡ opening (parse s brick l)
    unfolding scan_refusal first_refusal
    open_scan r q =
        opening_err (parse s brick l) r (parse_refuses s brick l (number_of_refusal r)
        (go (each (check_after l) s.capacity) (each (slot_at s.size l n) s.capacity) refl refl q) (nonzero r))
      where
        go : (a b : Bool) → each (check_after l) s.capacity ≡ a → each (slot_at s.size l n) s.capacity ≡ b
            → number_of_refusal r ≡ first_refusal (refuse_unless a bad_check ∷ refuse_unless b bad_record ∷ []) → open_refusal s brick l ≡ number_of_refusal r
        go false b ea eb w = refusal_5 s brick l e.in-range e.long e.brick-low (checks_fail l s.capacity ea) ∙ sym w
        go true false ea eb w =
            refusal_6 s brick l e.in-range e.long e.brick-low (all_checks ea)
            (sym (tested ea) ∙ ap (λ (b : Bool). head_fits s brick t n promise && b) eb ∙ and-false (head_fits s brick t n promise)) ∙ sym w
        go true true ea eb w = absurd (nonzero r w)

    module _ (passed : 0 ≡ scan_refusal s.size s.capacity l n) where
      -- 6: the head is not as it should be
      pub open_unfit : head_fits s brick t n promise ≡ false → opening_in (Err BadRecord) ≡ opening (parse s brick l)
      open_unfit f =
          let c = scan_fits s.size s.capacity l n passed in
          opening_err (parse s brick l) BadRecord (parse_refuses s brick l bad_record
          (refusal_6 s brick l e.in-range e.long e.brick-low (all_checks c.0)
          (sym (tested c.0) ∙ ap (λ (b : Bool). b && each (slot_at s.size l n) s.capacity) f))
          (λ z. omega (arith, z)))

      -- it opens
      pub open_done : (log : List Entry) → log ≡ scanned_log s.capacity l n → head_fits s brick t n promise ≡ true
          → opening_in (Ok (record { head = record { count = n; promise = promise }; log = log })) ≡ opening (parse s brick l)
      unfolding opening brick_in
      open_done log lg h =
          let c = scan_fits s.size s.capacity l n passed in
          let few : count_in (image_block_at l 0) ≤ s.capacity = omega (arith, n_is, head_count_high s brick t n promise h) in
          let lg' : log ≡ working_log (brick_in s l) =
          lg
          ∙ ap (λ (k : ℕ). row_of (entry_at l k) s.capacity ++ replicate (max_capacity - s.capacity) blank) n_is
          ∙ working s l e.range.capacity-high few in
          let cn : n ≡ entry_count (brick_in s l) = n_is ∙ sym (count_in_lem s l) in
          made cn promise_is lg'
          ∙ ap opening (sym (parse_opens s brick l
          (refusal_0 s brick l e.in-range e.long e.brick-low (all_checks c.0) (sym (tested c.0) ∙ ap₂ (λ (a b : Bool). a && b) h c.1))))
        where
          made : n ≡ entry_count (brick_in s l) → promise ≡ promise_in (image_block_at l 0) → log ≡ working_log (brick_in s l)
              → ◌≡◌ {A = Opening} (record { answer = Opened (record { count = n; promise = promise }); log = log })
              (record { answer = Opened (record { count = entry_count (brick_in s l); promise = promise_in (image_block_at l 0) }); log = working_log (brick_in s l) })
          made a b d = λ i. record { answer = Opened (record { count = a i; promise = b i }); log = d i }

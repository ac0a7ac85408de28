-- The ways through the routines over a row of images.
use mathlib.Core.Path.{◌≡◌, refl, sym, ap, ◌∙◌}
use mathlib.Core.List.{List}
use Prim.Native.Nat.{ℕ, ◌+◌, ◌-◌, ◌*◌, ◌≤◌, ◌<◌}
use native.Mathlib.Omega.{arith}
use native.Mathlib.Numerals.{add-one}
use native.Mathlib.Nat.{suc-mul, mul-le-mul_right}
use lib.Dec.{eqb, ltb}
use lib.ListN.{length, take, drop}
use borrow.Author.Tests.{eq-eqb, ne_eqb, eqb-true, ltb-true, lt-ltb}
use borrow.Rule.Slice.PartMut.{put_mid}
use Rattle.settings.specs.Ranges.{settings_refusal, SettingsRange}
use Rattle.settings.specs.Refusal.{refuse_unless, first_refusal, bad_length, bad_number}
use Rattle.settings.specs.declared.Settings.{Settings}
use Rattle.settings.proofs.Laws.RangeLaws.{settings_passed, in_range_lem}
use Rattle.settings.proofs.Laws.RefusalLaws.{first_stop, passed_first, passed_rest, tested}
use Rattle.message.specs.declared.Message.{Message}
use Rattle.byte_lists.specs.Lists.{put, stacked}
use Rattle.byte_lists.proofs.Laws.StackLaws.{Stacked, stacked_more}
use Rattle.byte_lists.proofs.Laws.PutLaws.{put_mid_lem}
use Rattle.image_block.specs.Block.{block_bytes}
use Rattle.image.specs.Brick.{fresh_brick}
use Rattle.image.specs.Image.{image_of, image_size}
use Rattle.image.specs.Opening.{lending_refusal}
use Rattle.image_write.specs.Saving.{fresh_after}
use Rattle.brick.specs.Receive.{Beside, beside, Outcome, outcome_with, refused_with, front_refusal, outcome}
use Rattle.brick.proofs.Laws.OutcomeLaws.{Fronted}
use Rattle.brick.specs.Receive.{Given}
use Rattle.brick.specs.Receive.{Refused}
use Rattle.volume.specs.Rows.{row_size, image_at, with_image, fresh_row, row_lending_refusal, fresh_row_after, in_row, row_refusal, row_outcome}

module _ (s : Settings) (brick : ℕ) (row : List ℕ) (msg : Message) (block old out : List ℕ) where
  -- a refusal changes nothing
  rows_refused : (k : ℕ) → row_refusal s brick row msg (beside block old out) ≡ k → (k ≡ 0 → ⊥)
      → outcome_with (Refused k) row out ≡ row_outcome s brick row msg block old out
  unfolding row_outcome refused_with
  rows_refused k e z = sym (rw (e, ne_eqb k 0 z) refl)

  pub rows_setting : (k : ℕ) → k ≡ settings_refusal s → (k ≡ 0 → ⊥) → outcome_with (Refused k) row out ≡ row_outcome s brick row msg block old out
  unfolding row_refusal front_refusal
  rows_setting k e z = rows_refused k (sym (first_stop (settings_refusal s) _ (λ q. z (e ∙ q))) ∙ sym e) z

  pub rows_front : (k : ℕ) → k ≡ front_refusal s s.stripes brick (length row) msg (beside block old out) → (k ≡ 0 → ⊥)
      → outcome_with (Refused k) row out ≡ row_outcome s brick row msg block old out
  unfolding row_refusal
  rows_front k e z = rows_refused k (sym e) z

  -- what the image of the stripe makes of it, in its place
  pub rows_acted : (k : ℕ) → k ≡ front_refusal s s.stripes brick (length row) msg (beside block old out) → k ≡ 0
      → (room : ℕ) → room ≡ block_bytes * (s.capacity + 1)
      → (g : Given) (image' out' : List ℕ)
      → length image' ≡ length (take (msg.stripe * room + room - msg.stripe * room) (drop (msg.stripe * room) row))
      → length (take (msg.stripe * room + room - msg.stripe * room) (drop (msg.stripe * room) row)) ≡ room
      → outcome_with g image' out' ≡ outcome s brick (take (msg.stripe * room + room - msg.stripe * room) (drop (msg.stripe * room) row)) msg block old out
      → outcome_with g (put_mid (msg.stripe * room) (msg.stripe * room + room - msg.stripe * room) row image') out'
      ≡ row_outcome s brick row msg block old out
  unfolding row_outcome row_refusal in_row with_image image_at image_size
  rows_acted k e z room er g image' out' el long o =
      let at : ℕ = msg.stripe * room in
      let cut : at + room - at ≡ room = omega arith in
      let q : front_refusal s s.stripes brick (length row) msg (beside block old out) ≡ 0 = sym e ∙ z in
      let same : outcome s brick (take (at + room - at) (drop at row)) msg block old out
      ≡ outcome s brick (take (block_bytes * (s.capacity + 1)) (drop (msg.stripe * (block_bytes * (s.capacity + 1))) row)) msg block old out =
      ap (λ (j : ℕ). outcome s brick (take j (drop at row)) msg block old out) cut
      ∙ ap (λ (j : ℕ). outcome s brick (take j (drop (msg.stripe * j) row)) msg block old out) er in
      let p = o ∙ same in
      ap (λ (r : List ℕ). outcome_with g r out') (put_mid_lem at (at + room) row image' (omega arith) (el ∙ long ∙ sym cut))
      ∙ ap (λ (j : ℕ). outcome_with g (put (msg.stripe * j) image' row) out') er
      ∙ ap (λ (w : Outcome). outcome_with w.given (put (msg.stripe * (block_bytes * (s.capacity + 1))) w.image row) w.out) p
      ∙ sym (rw q refl)

-- the image of the stripe stands within the row
pub image_room_lem : (s : Settings) (brick lent : ℕ) (msg : Message) (b : Beside) (room : ℕ) → Fronted s s.stripes brick lent msg b
    → room ≡ block_bytes * (s.capacity + 1) → msg.stripe * room + room ≤ lent
unfolding image_size
image_room_lem s brick lent msg b room f e =
    let a = mul-le-mul_right room f.stripe-low in
    let c = suc-mul msg.stripe room in
    let d = f.lent_is ∙ ap (λ (j : ℕ). s.stripes * j) (sym e) in
    omega (arith, a, c, d)

-- What passes the checks of a row for a fresh brick.
pub record LentRow (s : Settings) (brick len : ℕ) : Type 0 where
  pub range : SettingsRange s
  pub long : len ≡ row_size s
  pub brick-low : brick < s.n

pub lent_row : (s : Settings) (brick len k : ℕ) → k ≡ row_lending_refusal s brick len → k ≡ 0 → LentRow s brick len
unfolding row_lending_refusal
lent_row s brick len k e z =
    let a = sym e ∙ z in
    let b = passed_rest (settings_refusal s) _ a in
    let c = passed_rest (refuse_unless (eqb len (row_size s)) bad_length) _ b in
    record {
      range = settings_passed s (passed_first (settings_refusal s) _ a);
      long = eqb-true len (row_size s) (tested _ _ (passed_first (refuse_unless (eqb len (row_size s)) bad_length) _ b));
      brick-low = ltb-true brick s.n (tested _ _ (passed_first (refuse_unless (ltb brick s.n) bad_number) _ c));
    }

pub fresh_row_refused : (s : Settings) (brick : ℕ) (row : List ℕ) (k : ℕ) → k ≡ row_lending_refusal s brick (length row) → (k ≡ 0 → ⊥)
    → row ≡ fresh_row_after s brick row
unfolding fresh_row_after
fresh_row_refused s brick row k e z = sym (rw (sym e, ne_eqb k 0 z) refl)

pub fresh_row_written : (s : Settings) (brick : ℕ) (row after : List ℕ) (k : ℕ) → k ≡ row_lending_refusal s brick (length row) → k ≡ 0
    → after ≡ stacked s.stripes (λ (j : ℕ). image_of s brick (fresh_brick s)) → after ≡ fresh_row_after s brick row
unfolding fresh_row_after fresh_row
fresh_row_written s brick row after k e z h = h ∙ sym (rw (sym e ∙ z) refl)

pub row_size_lem : (s : Settings) (row : List ℕ) → length row ≡ row_size s → length row ≡ s.stripes * (block_bytes * (s.capacity + 1))
unfolding row_size image_size
row_size_lem s row e = e

-- the next image of the row that is filled
pub row_within : (s : Settings) (row out : List ℕ) (x at room : ℕ) → length row ≡ row_size s → length out ≡ length row → at ≡ x * room
    → room ≡ block_bytes * (s.capacity + 1) → x < s.stripes → at + room ≤ length out
unfolding row_size image_size
row_within s row out x at room e el ea er h =
    let a = mul-le-mul_right room h in
    let b = suc-mul x room in
    let c = e ∙ ap (λ (j : ℕ). s.stripes * j) (sym er) in
    omega (arith, a, b, c, el, ea)

-- a part of the right length, after a fresh image was written into it
pub fresh_part : (s : Settings) (brick : ℕ) (part : List ℕ) → SettingsRange s → brick < s.n → length part ≡ block_bytes * (s.capacity + 1)
    → fresh_after s brick part ≡ image_of s brick (fresh_brick s)
unfolding fresh_after lending_refusal first_refusal image_size
fresh_part s brick part g l e = rw (in_range_lem s g, eq-eqb (length part) (block_bytes * (s.capacity + 1)) e, lt-ltb brick s.n l) refl

-- one image more of a row
pub stacked_next : (f : ℕ → List ℕ) (size : ℕ) (old out ys : List ℕ) (x : ℕ) → Stacked f size old out x (x * size) → x * size + size ≤ length out
    → length ys ≡ size → ys ≡ f x → Stacked f size old (put_mid (x * size) (x * size + size - x * size) out ys) (x + 1) ((x + 1) * size)
stacked_next f size old out ys x h u l e =
    rw (add-one x, suc-mul x size) (rw add-one at (stacked_more f size old out ys x (x * size) h u l e))

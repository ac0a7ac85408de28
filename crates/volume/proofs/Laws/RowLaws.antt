-- Images in a row: one is replaced, and the others stay.
use mathlib.Core.Path.{◌≡◌, refl, sym, ap, ◌∙◌}
use mathlib.Core.Bool.{Bool, true, false}
use mathlib.Core.List.{List, [], ◌∷◌, ◌++◌}
use Prim.Native.Nat.{ℕ, zero, suc, ◌+◌, ◌*◌, ◌≤◌, ◌<◌}
use native.Mathlib.Nat.{suc-mul, mul-le-mul_right}
use lib.Arith.{lt_of_le-ne}
use native.Mathlib.Omega.{arith}
use lib.Dec.{ltb}
use borrow.Author.Tests.{ltb-true, ltb-false}
use lib.ListN.{length, take, drop, length-drop, take-append-drop}
use lib.Seq.{length-take-le, drop-drop}
use Rattle.settings.specs.Ranges.{SettingsRange}
use Rattle.settings.specs.declared.Settings.{Settings}
use Rattle.byte_lists.specs.Lists.{put}
use Rattle.byte_lists.proofs.Laws.PutLaws.{put_is, put_length, put_in, put_before, put_behind}
use Rattle.byte_lists.proofs.Laws.StackLaws.{stacked_part}
use Rattle.byte_lists.proofs.Laws.TabulateLaws.{length_stacked}
use Rattle.image.specs.Brick.{fresh_brick}
use Rattle.image.specs.Image.{image_of, image_size}
use Rattle.image.proofs.Laws.ImageSoundLaws.{image_length}
use Rattle.image.proofs.Laws.Saved.{fresh_sound}
use Rattle.settings.proofs.Laws.RangeLaws.{in_range_lem}
use Rattle.volume.specs.Rows.{row_size, image_at, with_image, fresh_row}

-- stripe k's image stands within the row
pub image_within : (s : Settings) (k : ℕ) (row : List ℕ) → length row ≡ row_size s → k < s.stripes → k * image_size s + image_size s ≤ length row
unfolding row_size
image_within s k row e h = let a = mul-le-mul_right (image_size s) h in let b = suc-mul k (image_size s) in omega (arith, a, b, e)

pub image_at_length : (s : Settings) (k : ℕ) (row : List ℕ) → length row ≡ row_size s → k < s.stripes → length (image_at s k row) ≡ image_size s
unfolding image_at
image_at_length s k row e h =
    length-take-le (image_size s) (drop (k * image_size s) row) (let d = length-drop (k * image_size s) row in let w = image_within s k row e h in omega (arith, d, w))

module _ (s : Settings) (k : ℕ) (image row : List ℕ) (long : length image ≡ image_size s) (e : length row ≡ row_size s) (h : k < s.stripes) where
  -- the row keeps its length
  pub with_length : length (with_image s k image row) ≡ length row
  unfolding with_image
  with_length = put_length (k * image_size s) image row (omega (arith, image_within s k row e h, long))

  -- the image that was replaced
  pub image_here : image_at s k (with_image s k image row) ≡ image
  unfolding image_at with_image
  image_here = put_in (k * image_size s) (image_size s) image row long (omega (arith, image_within s k row e h))

  -- any other image
  pub image_there : (j : ℕ) → (j ≡ k → ⊥) → image_at s j (with_image s k image row) ≡ image_at s j row
  unfolding image_at with_image
  image_there j n = go (ltb j k) refl
    where
      go : (a : Bool) → ltb j k ≡ a → take (image_size s) (drop (j * image_size s) (put (k * image_size s) image row)) ≡ take (image_size s) (drop (j * image_size s) row)
      go true q =
          let a = mul-le-mul_right (image_size s) (ltb-true j k q) in
          let b = suc-mul j (image_size s) in
          put_before (k * image_size s) (j * image_size s) (image_size s) image row (omega (arith, a, b)) (omega (arith, image_within s k row e h))
      go false q =
          let l : k < j = lt_of_le-ne (ltb-false j k q) (λ z. n (sym z)) in
          let a = mul-le-mul_right (image_size s) l in
          let b = suc-mul k (image_size s) in
          put_behind (k * image_size s) (j * image_size s) (image_size s) image row (omega (arith, a, b, long)) (omega (arith, image_within s k row e h))

-- a part and what stands behind it
part_rest : (n : ℕ) (l : List ℕ) → take n l ++ drop (length (take n l)) l ≡ l
part_rest zero l = refl
part_rest (suc n) [] = refl
part_rest (suc n) (x ∷ l) = ap (λ (r : List ℕ). x ∷ r) (part_rest n l)

-- bytes put back where they stood
put_back : (at n : ℕ) (l : List ℕ) → put at (take n (drop at l)) l ≡ l
put_back at n l =
    put_is at (take n (drop at l)) l
    ∙ ap (λ (r : List ℕ). take at l ++ (take n (drop at l) ++ r)) (sym (drop-drop (length (take n (drop at l))) at l))
    ∙ ap (λ (r : List ℕ). take at l ++ r) (part_rest n (drop at l))
    ∙ take-append-drop at l

pub image_back : (s : Settings) (k : ℕ) (row : List ℕ) → with_image s k (image_at s k row) row ≡ row
unfolding with_image image_at
image_back s k row = put_back (k * image_size s) (image_size s) row

-- a fresh row
module _ (s : Settings) (g : SettingsRange s) (brick : ℕ) where
  fresh_length : length (image_of s brick (fresh_brick s)) ≡ image_size s
  fresh_length = image_length s brick (fresh_brick s) g (fresh_sound s (in_range_lem s g))

  pub fresh_row_length : length (fresh_row s brick) ≡ row_size s
  unfolding fresh_row row_size
  fresh_row_length = length_stacked s.stripes (image_size s) (λ (k : ℕ). image_of s brick (fresh_brick s)) (λ i. fresh_length)

  pub fresh_row_at_lem : (k : ℕ) → k < s.stripes → image_at s k (fresh_row s brick) ≡ image_of s brick (fresh_brick s)
  unfolding fresh_row image_at
  fresh_row_at_lem k h = stacked_part s.stripes (image_size s) (λ (k : ℕ). image_of s brick (fresh_brick s)) k (λ i. fresh_length) h

-- The statements of `specs/SavedTheorem`: there and back, one changed byte, and a fresh image.
use mathlib.Core.Path.{◌≡◌, refl, sym, ap, ◌∙◌}
use mathlib.Core.Bool.{true, false, true≢false}
use mathlib.Core.List.{List, [], ◌∷◌}
use Prim.Native.Nat.{ℕ, zero, suc, ◌+◌, ◌*◌, ◌/◌, ◌%◌, ◌<◌}
use native.Mathlib.Omega.{arith}
use lib.ListN.{take, drop, get_or, set, length-set}
use lib.Seq.{drop-set-add, take-set-lt, get_or-take, get_or-drop}
use Rattle.settings.specs.Ranges.{in_range}
use Rattle.settings.specs.Refusal.{bad_check}
use Rattle.settings.specs.declared.Settings.{Settings}
use Rattle.byte_lists.specs.Little.{Bytes}
use Rattle.image_block.specs.Block.{checked}
use Rattle.byte_lists.proofs.Laws.ZeroLaws.{zeros_length}
use Rattle.image_block.proofs.Laws.ChangeLaws.{change_unchecked}
use Rattle.image.specs.Brick.{entry_count, time_at, means_at, mark_at, fresh_brick, saved_time, rises_at}
use Rattle.byte_lists.proofs.Laws.EachLaws.{each_at, each_not}
use Rattle.image.specs.Image.{image_size}
use Rattle.image.proofs.Laws.ImageLaws.{block_length}
use Rattle.image.specs.Parse.{image_block_at, checked_at}
use Rattle.image.specs.SavedTheorem.{SavedOpens, FreshOpens, OpenedSaves, OneByteChanged}
use Rattle.image.proofs.Laws.ParseLaws.{opened, parse_image, parse_refuses, refusal_5, range_of}
use Rattle.image.specs.Brick.{Sound}
use Rattle.image.proofs.Laws.ImageSoundLaws.{soundness}
use Rattle.image_block.specs.Block.{block_bytes}

pub saved_opens : SavedOpens
saved_opens s brick x a b r = parse_image s brick x a b (soundness s x r)

pub opened_saves : OpenedSaves
opened_saves s brick bytes x e = sym (opened s brick bytes x e).is-image

bytes_take : (n : ℕ) (l : List ℕ) → Bytes l → Bytes (take n l)
unfolding Bytes
bytes_take zero l b = tt
bytes_take (suc n) [] b = tt
bytes_take (suc n) (x ∷ l) b = (b.0, bytes_take n l b.1)

bytes_drop : (n : ℕ) (l : List ℕ) → Bytes l → Bytes (drop n l)
unfolding Bytes
bytes_drop zero l b = b
bytes_drop (suc n) [] b = tt
bytes_drop (suc n) (x ∷ l) b = bytes_drop n l b.1

block_set : (l : List ℕ) (j p v : ℕ) → p < block_bytes → image_block_at (set l (block_bytes * j + p) v) j ≡ set (image_block_at l j) p v
unfolding image_block_at
block_set l j p v h = ap (λ (t : List ℕ). take block_bytes t) (drop-set-add (block_bytes * j) l p v) ∙ take-set-lt block_bytes (drop (block_bytes * j) l) p v h

block_byte : (l : List ℕ) (j p : ℕ) → p < block_bytes → get_or (image_block_at l j) p 0 ≡ get_or l (block_bytes * j + p) 0
unfolding image_block_at
block_byte l j p h = get_or-take block_bytes (drop (block_bytes * j) l) p 0 h ∙ get_or-drop (block_bytes * j) l p 0

block_bytes_lem : (l : List ℕ) (j : ℕ) → Bytes l → Bytes (image_block_at l j)
unfolding image_block_at
block_bytes_lem l j b = bytes_take block_bytes (drop (block_bytes * j) l) (bytes_drop (block_bytes * j) l b)

pub one_byte_changed : OneByteChanged
unfolding image_size checked_at
one_byte_changed s brick bytes x i v e b h hv ne =
    let o = opened s brick bytes x e in
    let m = length-set bytes i v in
    parse_refuses s brick (set bytes i v) bad_check
    (refusal_5 s brick (set bytes i v) o.in-range (m ∙ o.long) o.brick-low
    (each_not (checked_at (set bytes i v)) (s.capacity + 1) (i / block_bytes) (omega (arith, o.long)) fails))
    (λ z. omega (arith, z))
  where
    at : block_bytes * (i / block_bytes) + i % block_bytes ≡ i
    at = omega arith

    fails : checked_at (set bytes i v) (i / block_bytes) ≡ false
    fails =
        let o = opened s brick bytes x e in
        let low : i / block_bytes < s.capacity + 1 = omega (arith, o.long) in
        ap (λ (k : ℕ). checked (image_block_at (set bytes k v) (i / block_bytes))) (sym at)
        ∙ ap checked (block_set bytes (i / block_bytes) (i % block_bytes) v (omega arith))
        ∙ change_unchecked (image_block_at bytes (i / block_bytes)) (i % block_bytes) v
        (block_length bytes (s.capacity + 1) (i / block_bytes) o.long low)
        (block_bytes_lem bytes (i / block_bytes) b) (omega arith) hv
        (λ q. ne (q ∙ block_byte bytes (i / block_bytes) (i % block_bytes) (omega arith) ∙ ap (λ (k : ℕ). get_or bytes k 0) at))
        (each_at (checked_at bytes) (s.capacity + 1) (i / block_bytes) o.checks low)

pub fresh_sound : (s : Settings) → in_range s ≡ true → Sound s (fresh_brick s)
unfolding fresh_brick entry_count time_at means_at mark_at saved_time rises_at
fresh_sound s a =
    record {
      count_low = omega arith;
      count-high = omega (arith, (range_of s a).capacity-low);
      promise-saved = refl;
      entries = λ i h. first i h;
    }
  where
    first : (i : ℕ) → i < 1 → Rattle.image.specs.Brick.EntrySound s (fresh_brick s) i
    first zero h = record { saved = refl; rises = refl; sized = zeros_length s.size; marked = λ e. absurd (true≢false (sym e)) }
    first (suc i) h = absurd (omega arith)

pub fresh_opens : FreshOpens
fresh_opens s brick a b = parse_image s brick (fresh_brick s) a b (fresh_sound s a)

-- Fresh images, one after the other.
use mathlib.Core.Path.{◌≡◌, refl, sym, ap, subst, ◌∙◌}
use mathlib.Core.Logic.{◌⊎◌, inl, inr}
use mathlib.Core.Bool.{true, cond}
use mathlib.Core.List.{List, []}
use Prim.Native.Nat.{ℕ, ◌+◌, ◌-◌, ◌*◌, ◌≤◌, ◌<◌}
use native.Mathlib.Omega.{arith}
use native.Mathlib.Nat.{eq-or-lt_of_le}
use lib.Dec.{eqb}
use lib.ListN.{length, take, drop, replicate, length-drop}
use lib.Seq.{length-take-le}
use borrow.Author.Tests.{eq-eqb, lt-ltb}
use borrow.Rule.Slice.PartMut.{put_mid}
use Rattle.settings.specs.Refusal.{first_refusal}
use Rattle.volume.specs.Rows.{row_size, fresh_row, row_lending_refusal, fresh_row_after}
use Rattle.settings.specs.Ranges.{in_range, settings_refusal}
use Rattle.settings.specs.declared.Settings.{Settings}
use Rattle.image.specs.Image.{image_size}
use Rattle.byte_lists.specs.Lists.{put}
use Rattle.byte_lists.proofs.Laws.PutLaws.{put_mid_lem, put_length, put_in, put_before}
use Rattle.bench_state.specs.State.{world_of}
use Rattle.bench_state.specs.Workers.{fresh_bench}
use Rattle.bench_state.specs.Workers.{Small}
use Rattle.bench_state.proofs.Laws.BenchRangeLaws.{row_of_one}
use Rattle.bench_state.proofs.Laws.StateLaws.{fresh_world}
use Rattle.register.specs.Runs.{fresh_set}
use Rattle.bench_state.specs.Workers.{Begun}
use Rattle.bench_limits.specs.Limits.{kept_length, image_room}
use Rattle.image_block.specs.Block.{block_bytes}

lending_passes : (s : Settings) (brick len : ℕ) → in_range s ≡ true → len ≡ row_size s → brick < s.n → row_lending_refusal s brick len ≡ 0
unfolding row_lending_refusal settings_refusal first_refusal
lending_passes s brick len r e l = rw (r, eq-eqb len (row_size s) e, lt-ltb brick s.n l) refl

pub begun_more : (s : Settings) (images new : List ℕ) (k : ℕ) → Small s → Begun s images k → k < s.n → length new ≡ row_size s
    → new ≡ fresh_row s k → Begun s (put (k * image_room) new images) (k + 1)
begun_more s images new k small h l e f =
    record {
      long = put_length (k * image_room) new images (let a = small.bricks in let b = small.row_fits in let c = h.long in omega arith) ∙ h.long;
      images-fresh = λ b u. by b (eq-or-lt_of_le (let v : b ≤ k = omega arith in v));
    }
  where
    by : (b : ℕ) → (b ≡ k) ⊎ (b < k) → take (row_size s) (drop (b * image_room) (put (k * image_room) new images)) ≡ fresh_row s b
    by b (inl q) =
        ap (λ (j : ℕ). take (row_size s) (drop (j * image_room) (put (k * image_room) new images))) q
        ∙ put_in (k * image_room) (row_size s) new images e (let a = small.bricks in let c = h.long in omega arith)
        ∙ f
        ∙ ap (fresh_row s) (sym q)
    by b (inr v) =
        put_before (k * image_room) (b * image_room) (row_size s) new images (let i = small.row_fits in omega arith)
        (let a = small.bricks in let i = small.row_fits in let c = h.long in omega arith)
        ∙ h.images-fresh b v

-- one more image, as the code stores it
pub begun_stored : (s : Settings) (images new : List ℕ) (k len : ℕ) → Small s → in_range s ≡ true → Begun s images k → k < s.n → len ≡ block_bytes * (s.capacity + 1)
    → length new ≡ length (take (k * image_room + len - k * image_room) (drop (k * image_room) images))
    → new ≡ fresh_row_after s k (take (k * image_room + len - k * image_room) (drop (k * image_room) images))
    → Begun s (put_mid (k * image_room) (k * image_room + len - k * image_room) images new) (k + 1)
unfolding fresh_row_after image_size
begun_stored s images new k len small r h l e el f =
    let a = small.bricks in
    let b = small.log-fits in
    let g = h.long in
    let long : length (take (k * image_room + len - k * image_room) (drop (k * image_room) images)) ≡ row_size s =
    length-take-le (k * image_room + len - k * image_room) (drop (k * image_room) images) (let d = length-drop (k * image_room) images in omega arith)
    ∙ (let o = row_of_one s small.one-stripe in omega (arith, o))
    in
    subst (λ (i : List ℕ). Begun s i (k + 1)) (sym (put_mid_lem (k * image_room) (k * image_room + len) images new (omega arith) (let o = row_of_one s small.one-stripe in omega (arith, el, long, o))))
    (begun_more s images new k small h l (el ∙ long)
    (f ∙ ap (λ (n : ℕ). cond (eqb n 0) (fresh_row s k) (take (k * image_room + len - k * image_room) (drop (k * image_room) images)))
    (passes (take (k * image_room + len - k * image_room) (drop (k * image_room) images)) long)))
  where
    passes : (t : List ℕ) → length t ≡ row_size s → row_lending_refusal s k (length t) ≡ 0
    passes t long = lending_passes s k (length t) r long l

-- a set that began
pub set_begun : (s : Settings) (images kept : List ℕ) → Small s → Begun s images s.n → kept ≡ replicate kept_length 0 → world_of (fresh_bench s) images kept [] ≡ fresh_set s
set_begun s images kept small h z = fresh_world s small images kept h.images-fresh z

-- The world that the record and the buffers stand for: a set that begins, and one part that changes.
use mathlib.Core.Path.{◌≡◌, refl, sym, ap, ap₂, fun_ext, ◌∙◌}
use mathlib.Core.Bool.{Bool, true, cond}
use mathlib.Core.List.{List, [], ◌∷◌}
use mathlib.Core.Logic.{◌⊎◌, inl, inr}
use Prim.Native.Nat.{ℕ, zero, suc, ◌+◌, ◌*◌, ◌≤◌, ◌<◌}
use native.Mathlib.Omega.{arith}
use native.Mathlib.Decide.{ℕ_discrete, dec_lt}
use lib.Dec.{eqb}
use lib.ListN.{length, get_or, set, take, drop, replicate, get_or-replicate, length-replicate, length-drop}
use lib.Seq.{ext_get_or, length-take-le, get_or-take, get_or-drop, get_or-set_same, get_or-set_other}
use borrow.Author.Tests.{eq-eqb, ne_eqb, lt-ltb, le-ltb}
use Rattle.settings.specs.declared.Settings.{Settings}
use Rattle.volume.specs.Rows.{row_size, fresh_row}
use Rattle.coord_record.specs.declared.Coordinator.{Coordinator}
use Rattle.coord_apply.specs.Answers.{Buffered}
use Rattle.register.specs.Runs.{World, idle, fresh_set, put_at}
use Rattle.byte_lists.specs.Lists.{put}
use Rattle.byte_lists.proofs.Laws.PutLaws.{put_length, put_in, put_before, put_behind}
use Rattle.bench_state.specs.State.{images_of, up_of, idle_at, coordinator_kept, world_of}
use Rattle.bench_state.specs.Workers.{fresh_bench, kept_with}
use Rattle.bench_state.specs.Workers.{Small}
use Rattle.bench_limits.specs.Limits.{bench_coordinators, up_flag, stripe_room, kept_room, kept_length, image_room, images_length}

-- a part of a list of zeros is zeros
zero_part : (at k n : ℕ) → at + k ≤ n → take {A = ℕ} k (drop at (replicate n 0)) ≡ replicate k 0
zero_part at k n h =
    let l = length-replicate {A = ℕ} n 0 in
    let d = length-drop at (replicate {A = ℕ} n 0) in
    let t = length-take-le k (drop at (replicate {A = ℕ} n 0)) (omega arith) in
    ext_get_or 0 (take k (drop at (replicate n 0))) (replicate k 0) (t ∙ sym (length-replicate k 0))
    (λ i u.
    get_or-take k (drop at (replicate n 0)) i 0 (omega arith)
    ∙ get_or-drop at (replicate n 0) i 0
    ∙ get_or-replicate n (at + i) 0 0 (omega arith)
    ∙ sym (get_or-replicate k i 0 0 (omega arith)))

fresh_state : (s : Settings) (c : ℕ) → get_or (idle_at s 0 ∷ idle_at s 1 ∷ idle_at s 2 ∷ idle_at s 3 ∷ []) c (idle_at s c) ≡ idle_at s c
fresh_state s zero = refl
fresh_state s (suc zero) = refl
fresh_state s (suc (suc zero)) = refl
fresh_state s (suc (suc (suc zero))) = refl
fresh_state s (suc (suc (suc (suc c)))) = refl

fresh_up : (b : ℕ) → up_of (up_flag ∷ up_flag ∷ up_flag ∷ up_flag ∷ []) b ≡ true
unfolding up_of
fresh_up zero = refl
fresh_up (suc zero) = refl
fresh_up (suc (suc zero)) = refl
fresh_up (suc (suc (suc zero))) = refl
fresh_up (suc (suc (suc (suc c)))) = refl

-- a coordinator with what it keeps
abbrev holding : Coordinator → List ℕ → List ℕ → Buffered
holding state blocks stripe = record { state = state; blocks = blocks; stripe = stripe }

module _ (s : Settings) (small : Small s) where
  fresh_held : (c : ℕ) → coordinator_kept s (idle_at s 0 ∷ idle_at s 1 ∷ idle_at s 2 ∷ idle_at s 3 ∷ []) (replicate kept_length 0) c ≡ idle s c
  unfolding coordinator_kept idle idle_at
  fresh_held c = by (dec_lt c bench_coordinators)
    where
      by : Dec (c < bench_coordinators) → coordinator_kept s (idle_at s 0 ∷ idle_at s 1 ∷ idle_at s 2 ∷ idle_at s 3 ∷ []) (replicate kept_length 0) c ≡ idle s c
      by (yes h) =
          ap (λ (t : Bool). cond t
          (holding (get_or (idle_at s 0 ∷ idle_at s 1 ∷ idle_at s 2 ∷ idle_at s 3 ∷ []) c (idle_at s c)) (take (s.n * s.size) (drop (c * kept_room) (replicate kept_length 0)))
          (take (s.m * s.size) (drop (c * kept_room + stripe_room) (replicate kept_length 0)))) (idle s c)) (lt-ltb c bench_coordinators h)
          ∙ ap (λ (t : Coordinator). holding t (take (s.n * s.size) (drop (c * kept_room) (replicate kept_length 0)))
          (take (s.m * s.size) (drop (c * kept_room + stripe_room) (replicate kept_length 0)))) (fresh_state s c)
          ∙ ap₂ (holding (idle_at s c)) (zero_part (c * kept_room) (s.n * s.size) kept_length (let q = small.blocks-fit in omega arith))
          (zero_part (c * kept_room + stripe_room) (s.m * s.size) kept_length (let q = small.stripe-fits in omega arith))
      by (no h) = ap (λ (t : Bool). cond t
          (holding (get_or (idle_at s 0 ∷ idle_at s 1 ∷ idle_at s 2 ∷ idle_at s 3 ∷ []) c (idle_at s c)) (take (s.n * s.size) (drop (c * kept_room) (replicate kept_length 0)))
          (take (s.m * s.size) (drop (c * kept_room + stripe_room) (replicate kept_length 0)))) (idle s c)) (le-ltb c bench_coordinators (omega arith))

  fresh_images : (images : List ℕ) → ((b : ℕ) → b < s.n → take (row_size s) (drop (b * image_room) images) ≡ fresh_row s b)
      → (b : ℕ) → images_of s images b ≡ fresh_row s b
  unfolding images_of
  fresh_images images h b = by (dec_lt b s.n)
    where
      by : Dec (b < s.n) → images_of s images b ≡ fresh_row s b
      by (yes l) = rw (lt-ltb b s.n l) (h b l)
      by (no l) = rw (le-ltb b s.n (omega arith)) refl

  -- a set that begins
  pub fresh_world : (images kept : List ℕ) → ((b : ℕ) → b < s.n → take (row_size s) (drop (b * image_room) images) ≡ fresh_row s b)
      → kept ≡ replicate kept_length 0 → world_of (fresh_bench s) images kept [] ≡ fresh_set s
  unfolding world_of fresh_bench fresh_set
  fresh_world images kept h e =
      ap₂ (λ (f : ℕ → List ℕ) (g : ℕ → Bool). make f g (coordinator_kept s (idle_at s 0 ∷ idle_at s 1 ∷ idle_at s 2 ∷ idle_at s 3 ∷ []) kept)) (fun_ext (fresh_images images h)) (fun_ext fresh_up)
      ∙ ap (make (fresh_row s) (λ (b : ℕ). true)) (ap (coordinator_kept s (idle_at s 0 ∷ idle_at s 1 ∷ idle_at s 2 ∷ idle_at s 3 ∷ [])) e ∙ fun_ext fresh_held)
    where
      make : (ℕ → List ℕ) → (ℕ → Bool) → (ℕ → Buffered) → World
      make f g h = record { images = f; up = g; coordinators = h; sent = [] }

  -- brick b has another image
  pub image_put : (images new : List ℕ) (b : ℕ) → b < s.n → length new ≡ row_size s → length images ≡ images_length
      → images_of s (put (b * image_room) new images) ≡ put_at (images_of s images) b new
  unfolding images_of put_at
  image_put images new b l e n = fun_ext (λ j. by j (ℕ_discrete j b) (dec_lt j s.n))
    where
      by : (j : ℕ) → Dec (j ≡ b) → Dec (j < s.n) → images_of s (put (b * image_room) new images) j ≡ put_at (images_of s images) b new j
      by j (yes q) u =
          rw (eq-eqb j b q, q, lt-ltb b s.n l)
          (put_in (b * image_room) (row_size s) new images e (let k = small.bricks in omega arith))
      by j (no q) (no u) = rw (ne_eqb j b q, le-ltb j s.n (omega arith)) refl
      by j (no q) (yes u) = rw (ne_eqb j b q, lt-ltb j s.n u) (apart (dec_lt j b))
        where
          apart : Dec (j < b) → take (row_size s) (drop (j * image_room) (put (b * image_room) new images)) ≡ take (row_size s) (drop (j * image_room) images)
          apart (yes v) = put_before (b * image_room) (j * image_room) (row_size s) new images (let k = small.row_fits in omega arith)
              (let k = small.row_fits in let m = small.bricks in omega arith)
          apart (no v) = put_behind (b * image_room) (j * image_room) (row_size s) new images (let k = small.row_fits in omega arith)
              (let k = small.row_fits in let m = small.bricks in omega arith)

  -- coordinator c has another record, other reply blocks and another stripe
  pub held_put : (cs : List Coordinator) (kept blocks stripe : List ℕ) (c : ℕ) (next : Coordinator) → c < bench_coordinators → length cs ≡ bench_coordinators → length kept ≡ kept_length
      → length blocks ≡ s.n * s.size → length stripe ≡ s.m * s.size
      → coordinator_kept s (set cs c next) (kept_with c blocks stripe kept) ≡ put_at (coordinator_kept s cs kept) c (holding next blocks stripe)
  unfolding coordinator_kept put_at kept_with
  held_put cs kept blocks stripe c next l n k eb es = fun_ext (λ j. by j (ℕ_discrete j c) (dec_lt j bench_coordinators))
    where
      first : List ℕ
      first = put (c * kept_room) blocks kept

      long : length first ≡ kept_length
      long = put_length (c * kept_room) blocks kept (let q = small.blocks-fit in omega arith) ∙ k

      by : (j : ℕ) → Dec (j ≡ c) → Dec (j < bench_coordinators) → coordinator_kept s (set cs c next) (kept_with c blocks stripe kept) j
          ≡ put_at (coordinator_kept s cs kept) c (holding next blocks stripe) j
      by j (yes q) u =
          rw (eq-eqb j c q, q, lt-ltb c bench_coordinators l, get_or-set_same cs c next (idle_at s c) (omega arith))
          (ap₂ (holding next)
          (put_before (c * kept_room + stripe_room) (c * kept_room) (s.n * s.size) stripe first (let p = small.blocks-fit in omega arith) (let p = small.stripe-fits in let w = long in omega arith)
          ∙ put_in (c * kept_room) (s.n * s.size) blocks kept eb (omega arith))
          (put_in (c * kept_room + stripe_room) (s.m * s.size) stripe first es (let w = long in omega arith)))
      by j (no q) (no u) = rw (ne_eqb j c q, le-ltb j bench_coordinators (omega arith)) refl
      by j (no q) (yes u) =
          rw (ne_eqb j c q, lt-ltb j bench_coordinators u, get_or-set_other cs c j next (idle_at s j) q)
          (ap₂ (holding (get_or cs j (idle_at s j))) (other (j * kept_room) (s.n * s.size) (apart-blocks (dec_lt j c)))
          (other (j * kept_room + stripe_room) (s.m * s.size) (apart-stripe (dec_lt j c))))
        where
          apart-blocks : Dec (j < c) → (j * kept_room + s.n * s.size ≤ c * kept_room) ⊎ (c * kept_room + kept_room ≤ j * kept_room)
          apart-blocks (yes v) = inl (let p = small.blocks-fit in omega arith)
          apart-blocks (no v) = inr (omega arith)

          apart-stripe : Dec (j < c) → (j * kept_room + stripe_room + s.m * s.size ≤ c * kept_room) ⊎ (c * kept_room + kept_room ≤ j * kept_room + stripe_room)
          apart-stripe (yes v) = inl (let p = small.stripe-fits in omega arith)
          apart-stripe (no v) = inr (omega arith)

          other : (at len : ℕ) → (at + len ≤ c * kept_room) ⊎ (c * kept_room + kept_room ≤ at) → take len (drop at (put (c * kept_room + stripe_room) stripe first)) ≡ take len (drop at kept)
          other at len (inl v) =
              put_before (c * kept_room + stripe_room) at len stripe first (omega arith) (let p = small.stripe-fits in let w = long in omega arith)
              ∙ put_before (c * kept_room) at len blocks kept v (let p = small.blocks-fit in omega arith)
          other at len (inr v) =
              put_behind (c * kept_room + stripe_room) at len stripe first (let p = small.stripe-fits in omega arith) (let w = long in omega arith)
              ∙ put_behind (c * kept_room) at len blocks kept (let p = small.blocks-fit in omega arith) (omega arith)

-- brick b has another flag
pub up_put : (up : List ℕ) (b flag : ℕ) → b < length up → up_of (set up b flag) ≡ put_at (up_of up) b (eqb flag up_flag)
unfolding up_of put_at
up_put up b flag l = fun_ext (λ j. by j (ℕ_discrete j b))
  where
    by : (j : ℕ) → Dec (j ≡ b) → up_of (set up b flag) j ≡ put_at (up_of up) b (eqb flag up_flag) j
    by j (yes q) = rw (eq-eqb j b q, q, get_or-set_same up b flag up_flag l) refl
    by j (no q) = rw (ne_eqb j b q, get_or-set_other up b j flag up_flag q) refl

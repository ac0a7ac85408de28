-- An image block by block: a block put, blocks cleared, blocks moved down.
use mathlib.Core.Path.{◌≡◌, refl, sym, ap, ap₂, subst, ◌∙◌}
use mathlib.Core.Bool.{Bool, true, false, cond, ◌&&◌}
use mathlib.Core.List.{List}
use Prim.Native.Nat.{ℕ, zero, suc, ◌+◌, ◌-◌, ◌*◌, ◌≤◌, ◌<◌}
use native.Mathlib.Omega.{arith}
use native.Mathlib.Decide.{ℕ_discrete}
use lib.Dec.{leb, ltb, eqb}
use lib.ListN.{length, take, drop, length-take, length-drop}
use native.Mathlib.Numerals.{add-one}
use borrow.Author.Tests.{lt-ltb, le-ltb, le-leb, lt-leb, eq-eqb, ne_eqb, ltb-true, ltb-false, leb-true, leb-false}
use Rattle.image_block.specs.Block.{entry_block, unused_block}
use Rattle.byte_lists.specs.Lists.{put, zeros}
use Rattle.byte_lists.proofs.Laws.PutLaws.{put_length, put_behind}
use Rattle.byte_lists.proofs.Laws.ZeroLaws.{zeros_take}
use Rattle.image_block.proofs.Laws.LayoutLaws.{unused_length}
use Rattle.byte_lists.specs.Lists.{stacked}
use Rattle.image.proofs.Laws.ImageLaws.{Even, stacked_at, stacked_length, stacked_of, stacked_ext, stacked_put, block_length}
use Rattle.image.specs.Parse.{image_block_at}
use Rattle.image_write.specs.Workers.{cleared, shifted}
use Rattle.image_block.specs.Block.{block_bytes}
use Rattle.settings.specs.Ranges.{max_size}

-- the bytes l are n blocks, block k being g k
pub record Blocks (g : ℕ → List ℕ) (n : ℕ) (l : List ℕ) : Type 0 where
  pub long : length l ≡ block_bytes * n
  pub at : (k : ℕ) → k < n → image_block_at l k ≡ g k

pub blocks_of_lem : (l : List ℕ) (n : ℕ) → length l ≡ block_bytes * n → Blocks (image_block_at l) n l
blocks_of_lem l n h = record { long = h; at = λ k b. refl }

pub blocks_is : (g : ℕ → List ℕ) (n : ℕ) (l : List ℕ) → Blocks g n l → l ≡ stacked n g
blocks_is g n l b = sym (stacked_of l n b.long) ∙ stacked_ext (image_block_at l) g n b.at

pub blocks_ext : (g h : ℕ → List ℕ) (n : ℕ) (l : List ℕ) → ((k : ℕ) → k < n → g k ≡ h k) → Blocks g n l → Blocks h n l
blocks_ext g h n l e b = record { long = b.long; at = λ k c. b.at k c ∙ e k c }

pub blocks_even : (g : ℕ → List ℕ) (n : ℕ) (l : List ℕ) → Blocks g n l → Even g n
blocks_even g n l b k h = ap length (sym (b.at k h)) ∙ block_length l n k b.long h

pub block_long : (l : List ℕ) (k : ℕ) → block_bytes * k + block_bytes ≤ length l → length (image_block_at l k) ≡ block_bytes
unfolding image_block_at
block_long l k h = let d = length-drop (block_bytes * k) l in let t = length-take block_bytes (drop (block_bytes * k) l) in omega arith

-- one block placed
unfoldable pub placed : (ℕ → List ℕ) → ℕ → List ℕ → ℕ → List ℕ
placed g j b k = cond (eqb k j) b (g k)

pub placed_there : (g : ℕ → List ℕ) (j : ℕ) (b : List ℕ) → placed g j b j ≡ b
unfolding placed
placed_there g j b = rw (eq-eqb j j refl) refl

pub placed_other : (g : ℕ → List ℕ) (j : ℕ) (b : List ℕ) (k : ℕ) → (k ≡ j → ⊥) → placed g j b k ≡ g k
unfolding placed
placed_other g j b k h = rw (ne_eqb k j h) refl

placed_even : (g : ℕ → List ℕ) (n j : ℕ) (b : List ℕ) → Even g n → length b ≡ block_bytes → Even (placed g j b) n
placed_even g n j b e h k c = go (ℕ_discrete k j)
  where
    go : Dec (k ≡ j) → length (placed g j b k) ≡ block_bytes
    go (yes q) = ap (λ (i : ℕ). length (placed g j b i)) q ∙ ap length (placed_there g j b) ∙ h
    go (no q) = ap length (placed_other g j b k q) ∙ e k c

pub blocks_put : (g : ℕ → List ℕ) (n j : ℕ) (b l : List ℕ) → j < n → length b ≡ block_bytes → Blocks g n l → Blocks (placed g j b) n (put (block_bytes * j) b l)
blocks_put g n j b l h nb r =
    let e = blocks_even g n l r in
    let p = placed_even g n j b e nb in
    let is : put (block_bytes * j) b l ≡ stacked n (placed g j b) =
    ap (λ (x : List ℕ). put (block_bytes * j) b x) (blocks_is g n l r)
    ∙ ap (λ (x : List ℕ). put (block_bytes * j) x (stacked n g)) (sym (placed_there g j b))
    ∙ stacked_put g (placed g j b) n j e p h (λ k c ne. sym (placed_other g j b k ne)) in
    record {
      long = ap length is ∙ stacked_length (placed g j b) n p;
      at = λ k c. ap (λ (x : List ℕ). image_block_at x k) is ∙ stacked_at (placed g j b) n k p c;
    }

-- the blocks from one number up to another unused
unfoldable pub cleared_of : (ℕ → List ℕ) → ℕ → ℕ → ℕ → List ℕ
cleared_of g from to k = cond (leb from k && ltb k to) unused_block (g k)

none_cleared : (g : ℕ → List ℕ) (from k : ℕ) → cleared_of g from from k ≡ g k
unfolding cleared_of
none_cleared g from k = go (leb from k) refl
  where
    go : (b : Bool) → leb from k ≡ b → cond (leb from k && ltb k from) unused_block (g k) ≡ g k
    go true e = rw (e, le-ltb k from (leb-true from k e)) refl
    go false e = rw e refl

one_cleared : (g : ℕ → List ℕ) (from i k : ℕ) → from ≤ i → placed (cleared_of g from i) i unused_block k ≡ cleared_of g from (i + 1) k
unfolding placed cleared_of
one_cleared g from i k h = go (ℕ_discrete k i)
  where
    go : Dec (k ≡ i) → cond (eqb k i) unused_block (cond (leb from k && ltb k i) unused_block (g k)) ≡ cond (leb from k && ltb k (i + 1)) unused_block (g k)
    go (yes q) = rw (eq-eqb k i q, le-leb from k (omega (arith, q)), lt-ltb k (i + 1) (omega (arith, q))) refl
    go (no q) = rw (ne_eqb k i q) (ap (λ (b : Bool). cond (leb from k && b) unused_block (g k)) (same (ltb k i) refl))
      where
        same : (b : Bool) → ltb k i ≡ b → ltb k i ≡ ltb k (i + 1)
        same true e = e ∙ sym (lt-ltb k (i + 1) (omega (arith, ltb-true k i e)))
        same false e = e ∙ sym (le-ltb k (i + 1) (next (ltb-false k i e)))
          where
            next : i ≤ k → i + 1 ≤ k
            next w = omega (arith, q, w)

-- clearing is, block by block, what it says
blocks_cleared : (g : ℕ → List ℕ) (n from m : ℕ) (l : List ℕ) → from + m ≤ n → Blocks g n l → Blocks (cleared_of g from (from + m)) n (cleared from m l)
unfolding cleared
blocks_cleared g n from zero l h b =
    let e : from + 0 ≡ from = omega arith in
    blocks_ext g (cleared_of g from (from + 0)) n l (λ k c. sym (ap (λ (j : ℕ). cleared_of g from j k) e ∙ none_cleared g from k)) b
blocks_cleared g n from (suc m) l h b =
    let e : from + m + 1 ≡ from + suc m = omega arith in
    blocks_ext (placed (cleared_of g from (from + m)) (from + m) unused_block) (cleared_of g from (from + suc m)) n (put (block_bytes * (from + m)) unused_block (cleared from m l))
    (λ k c. one_cleared g from (from + m) k (omega arith) ∙ ap (λ (j : ℕ). cleared_of g from j k) e)
    (blocks_put (cleared_of g from (from + m)) n (from + m) unused_block (cleared from m l) (omega arith) unused_length (blocks_cleared g n from m l (omega arith) b))

pub cleared_blocks : (g : ℕ → List ℕ) (n from to : ℕ) (l after : List ℕ) → from ≤ to → to ≤ n → after ≡ cleared from (to - from) l → Blocks g n l
    → Blocks (cleared_of g from to) n after
cleared_blocks g n from to l after h m e b =
    let q : from + (to - from) ≡ to = omega arith in
    subst (λ (x : List ℕ). Blocks (cleared_of g from to) n x) (sym e)
    (subst (λ (k : ℕ). Blocks (cleared_of g from k) n (cleared from (to - from) l)) q (blocks_cleared g n from (to - from) l (omega arith) b))

-- a loop that clears has come to block i
pub record Clearing (l : List ℕ) (from i : ℕ) (image : List ℕ) : Type 0 where
  pub low : from ≤ i
  pub long : length image ≡ length l
  pub is : image ≡ cleared from (i - from) l

pub clearing_none : (l : List ℕ) (from : ℕ) → Clearing l from from l
unfolding cleared
clearing_none l from =
    let z : 0 ≡ from - from = omega arith in
    record { low = omega arith; long = refl; is = ap (λ (k : ℕ). cleared from k l) z }

pub clearing_more : (l : List ℕ) (from i : ℕ) (image b after : List ℕ) → block_bytes * (i + 1) ≤ length l → b ≡ unused_block → after ≡ put (block_bytes * i) b image
    → Clearing l from i image → Clearing l from (i + 1) after
unfolding cleared
clearing_more l from i image b after h eb ea r =
    let n : suc (i - from) ≡ i + 1 - from = omega (arith, r.low) in
    let at : i ≡ from + (i - from) = omega (arith, r.low) in
    let nb : length b ≡ block_bytes = ap length eb ∙ unused_length in
    record {
      low = omega (arith, r.low);
      long = ap length ea ∙ put_length (block_bytes * i) b image (omega (arith, r.long, nb)) ∙ r.long;
      is = ea
          ∙ ap₂ (λ (x y : List ℕ). put (block_bytes * i) x y) eb r.is
          ∙ ap (λ (j : ℕ). put (block_bytes * j) unused_block (cleared from (i - from) l)) at
          ∙ ap (λ (j : ℕ). cleared from j l) n;
    }

-- the entries above place `from` moved down by d
unfoldable pub shifted_of : (ℕ → List ℕ) → (from d kept : ℕ) → ℕ → List ℕ
shifted_of g from d kept k = cond (leb (from + 1) k && leb k (from + kept)) (g (k + d)) (g k)

none_shifted : (g : ℕ → List ℕ) (from d k : ℕ) → shifted_of g from d 0 k ≡ g k
unfolding shifted_of
none_shifted g from d k = go (leb (from + 1) k) refl
  where
    go : (b : Bool) → leb (from + 1) k ≡ b → cond (leb (from + 1) k && leb k (from + 0)) (g (k + d)) (g k) ≡ g k
    go true e = rw (e, lt-leb k (from + 0) (omega (arith, leb-true (from + 1) k e))) refl
    go false e = rw e refl

one_shifted : (g : ℕ → List ℕ) (from d i k : ℕ) → placed (shifted_of g from d i) (from + i + 1) (g (from + i + 1 + d)) k ≡ shifted_of g from d (suc i) k
unfolding placed shifted_of
one_shifted g from d i k = go (ℕ_discrete k (from + i + 1))
  where
    go : Dec (k ≡ from + i + 1)
        → cond (eqb k (from + i + 1)) (g (from + i + 1 + d)) (cond (leb (from + 1) k && leb k (from + i)) (g (k + d)) (g k))
        ≡ cond (leb (from + 1) k && leb k (from + suc i)) (g (k + d)) (g k)
    go (yes q) =
        rw (eq-eqb k (from + i + 1) q, le-leb (from + 1) k (omega (arith, q)), le-leb k (from + suc i) (omega (arith, q))) (ap (λ (j : ℕ). g (j + d)) (sym q))
    go (no q) = rw (ne_eqb k (from + i + 1) q) (ap (λ (b : Bool). cond (leb (from + 1) k && b) (g (k + d)) (g k)) (same (leb k (from + i)) refl))
      where
        same : (b : Bool) → leb k (from + i) ≡ b → leb k (from + i) ≡ leb k (from + suc i)
        same true e = e ∙ sym (le-leb k (from + suc i) (omega (arith, leb-true k (from + i) e)))
        same false e = e ∙ sym (lt-leb k (from + suc i) (next (leb-false k (from + i) e)))
          where
            next : from + i < k → from + suc i < k
            next w = omega (arith, q, w)

-- shifting is, block by block, what it says
blocks_shifted : (g : ℕ → List ℕ) (n from d m : ℕ) (l : List ℕ) → from + d + m < n → Blocks g n l → Blocks (shifted_of g from d m) n (shifted from d m l)
unfolding shifted
blocks_shifted g n from d zero l h b = blocks_ext g (shifted_of g from d 0) n l (λ k c. sym (none_shifted g from d k)) b
blocks_shifted g n from d (suc m) l h b =
    let e : from + d + m + 1 ≡ from + m + 1 + d = omega arith in
    let v : image_block_at l (from + d + m + 1) ≡ g (from + m + 1 + d) = b.at (from + d + m + 1) (omega arith) ∙ ap g e in
    blocks_ext (placed (shifted_of g from d m) (from + m + 1) (image_block_at l (from + d + m + 1))) (shifted_of g from d (suc m)) n
    (put (block_bytes * (from + m + 1)) (image_block_at l (from + d + m + 1)) (shifted from d m l))
    (λ k c. ap (λ (y : List ℕ). placed (shifted_of g from d m) (from + m + 1) y k) v ∙ one_shifted g from d m k)
    (blocks_put (shifted_of g from d m) n (from + m + 1) (image_block_at l (from + d + m + 1)) (shifted from d m l) (omega arith)
    (block_length l n (from + d + m + 1) b.long (omega arith))
    (blocks_shifted g n from d m l (omega arith) b))

pub shifted_blocks : (g : ℕ → List ℕ) (n from d kept : ℕ) (l after : List ℕ) → from + d + kept < n → after ≡ shifted from d kept l → Blocks g n l
    → Blocks (shifted_of g from d kept) n after
shifted_blocks g n from d kept l after h e b =
    subst (λ (x : List ℕ). Blocks (shifted_of g from d kept) n x) (sym e) (blocks_shifted g n from d kept l h b)

shifted_long : (from d k : ℕ) (l : List ℕ) → block_bytes * (from + d + k + 1) ≤ length l → length (shifted from d k l) ≡ length l
unfolding shifted
shifted_long from d zero l h = refl
shifted_long from d (suc k) l h =
    let ih = shifted_long from d k l (omega arith) in
    put_length (block_bytes * (from + k + 1)) (image_block_at l (from + d + k + 1)) (shifted from d k l)
    (omega (arith, block_long l (from + d + k + 1) (omega arith)))
    ∙ ih

-- what is not moved yet is as it was
shifted_later : (from d k j : ℕ) (l : List ℕ) → block_bytes * (from + d + k + 1) ≤ length l → from + k < j
    → image_block_at (shifted from d k l) j ≡ image_block_at l j
unfolding shifted image_block_at
shifted_later from d zero j l h c = refl
shifted_later from d (suc k) j l h c =
    put_behind (block_bytes * (from + k + 1)) (block_bytes * j) block_bytes (image_block_at l (from + d + k + 1)) (shifted from d k l)
    (omega (arith, block_long l (from + d + k + 1) (omega arith))) (omega (arith, shifted_long from d k l (omega arith)))
    ∙ shifted_later from d k j l (omega arith) (omega arith)

-- a loop that shifts has moved i blocks
pub record Shifting (l : List ℕ) (from d i : ℕ) (image : List ℕ) : Type 0 where
  pub long : length image ≡ length l
  pub is : image ≡ shifted from d i l

pub shifting_none : (l : List ℕ) (from d : ℕ) → Shifting l from d 0 l
unfolding shifted
shifting_none l from d = record { long = refl; is = refl }

pub shifting_more : (l : List ℕ) (from d i : ℕ) (image b after : List ℕ) → block_bytes * (from + d + i + 1 + 1) ≤ length l
    → b ≡ image_block_at image (from + d + i + 1) → after ≡ put (block_bytes * (from + i + 1)) b image
    → Shifting l from d i image → Shifting l from d (i + 1) after
unfolding shifted
shifting_more l from d i image b after h eb ea r =
    let v : b ≡ image_block_at l (from + d + i + 1) =
    eb ∙ ap (λ (x : List ℕ). image_block_at x (from + d + i + 1)) r.is ∙ shifted_later from d i (from + d + i + 1) l (omega arith) (omega arith) in
    let nb : length b ≡ block_bytes = ap length v ∙ block_long l (from + d + i + 1) (omega arith) in
    record {
      long = ap length ea ∙ put_length (block_bytes * (from + i + 1)) b image (omega (arith, r.long, nb)) ∙ r.long;
      is = ea ∙ ap₂ (λ (x y : List ℕ). put (block_bytes * (from + i + 1)) x y) v r.is ∙ ap (λ (k : ℕ). shifted from d k l) (sym (add-one i));
    }

-- a zero block taken from zeros
pub zero_entry : (at size : ℕ) (l after : List ℕ) → size ≤ max_size → after ≡ put at (entry_block 0 (take size (zeros max_size))) l → after ≡ put at (entry_block 0 (zeros size)) l
zero_entry at size l after h e = e ∙ ap (λ (b : List ℕ). put at (entry_block 0 b) l) (zeros_take max_size size h)

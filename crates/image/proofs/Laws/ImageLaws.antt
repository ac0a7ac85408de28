-- Blocks in a row: where each one stands, and what placing one among them does.
use mathlib.Core.Path.{◌≡◌, refl, sym, ap, ap₂, ◌∙◌}
use mathlib.Core.List.{List, ◌++◌, append_assoc, append-nil}
use Prim.Native.Nat.{ℕ, zero, suc, ◌+◌, ◌*◌, ◌≤◌, ◌<◌}
use native.Mathlib.Omega.{arith}
use native.Mathlib.Nat.{le_refl}
use native.Mathlib.Decide.{ℕ_discrete}
use lib.Arith.{lt_of_le-ne}
use lib.ListN.{length, take, drop, length-append, length-take, length-drop, drop_of_length-le}
use lib.Seq.{take_all, drop_at, take_at, take-append-le, drop-append-le, take-add}
use Rattle.byte_lists.specs.Lists.{put}
use Rattle.byte_lists.specs.Lists.{stacked}
use Rattle.image.specs.Parse.{image_block_at}
use Rattle.image_block.specs.Block.{block_bytes}

-- the blocks below n have 512 bytes each
abbrev pub Even : (ℕ → List ℕ) → ℕ → Type 0
Even f n = (k : ℕ) → k < n → length (f k) ≡ block_bytes

pub even_less : (f : ℕ → List ℕ) (n : ℕ) → Even f (suc n) → Even f n
even_less f n e k h = e k (omega arith)

pub stacked_length : (f : ℕ → List ℕ) (n : ℕ) → Even f n → length (stacked n f) ≡ block_bytes * n
unfolding stacked
stacked_length f zero e = refl
stacked_length f (suc n) e =
    let ih = stacked_length f n (even_less f n e) in
    let a = length-append (stacked n f) (f n) in
    let b = e n (le_refl _) in
    omega arith

pub stacked_at : (f : ℕ → List ℕ) (n k : ℕ) → Even f n → k < n → image_block_at (stacked n f) k ≡ f k
unfolding stacked image_block_at
stacked_at f zero k e h = absurd (omega arith)
stacked_at f (suc n) k e h = go (ℕ_discrete k n) (stacked_at f n k (even_less f n e))
  where
    long : length (stacked n f) ≡ block_bytes * n
    long = stacked_length f n (even_less f n e)

    go : Dec (k ≡ n) → (k < n → take block_bytes (drop (block_bytes * k) (stacked n f)) ≡ f k) → take block_bytes (drop (block_bytes * k) (stacked n f ++ f n)) ≡ f k
    go (yes q) ih =
        ap (λ (j : ℕ). take block_bytes (drop (block_bytes * j) (stacked n f ++ f n))) q
        ∙ ap (λ (l : List ℕ). take block_bytes l) (drop_at (stacked n f) (f n) (block_bytes * n) long)
        ∙ take_all block_bytes (f n) (omega (arith, e n (le_refl _)))
        ∙ ap f (sym q)
    go (no q) ih =
        let low : k < n = lt_of_le-ne (omega arith) q in
        let d = length-drop (block_bytes * k) (stacked n f) in
        ap (λ (l : List ℕ). take block_bytes l) (drop-append-le (block_bytes * k) (stacked n f) (f n) (omega (arith, long)))
        ∙ take-append-le block_bytes (drop (block_bytes * k) (stacked n f)) (f n) (omega (arith, long))
        ∙ ih low

pub stacked_ext : (f g : ℕ → List ℕ) (n : ℕ) → ((k : ℕ) → k < n → f k ≡ g k) → stacked n f ≡ stacked n g
unfolding stacked
stacked_ext f g zero e = refl
stacked_ext f g (suc n) e = ap₂ (λ (a b : List ℕ). a ++ b) (stacked_ext f g n (λ k h. e k (omega arith))) (e n (le_refl _))

stacked_take : (l : List ℕ) (n : ℕ) → stacked n (image_block_at l) ≡ take (block_bytes * n) l
unfolding stacked image_block_at
stacked_take l zero = refl
stacked_take l (suc n) =
    let m : block_bytes * n + block_bytes ≡ block_bytes * suc n = omega arith in
    ap (λ (a : List ℕ). a ++ take block_bytes (drop (block_bytes * n) l)) (stacked_take l n) ∙ sym (take-add (block_bytes * n) block_bytes l) ∙ ap (λ (k : ℕ). take k l) m

-- bytes are their blocks in a row
pub stacked_of : (l : List ℕ) (n : ℕ) → length l ≡ block_bytes * n → stacked n (image_block_at l) ≡ l
stacked_of l n h = stacked_take l n ∙ take_all (block_bytes * n) l (omega arith)

pub block_length : (l : List ℕ) (n k : ℕ) → length l ≡ block_bytes * n → k < n → length (image_block_at l k) ≡ block_bytes
unfolding image_block_at
block_length l n k h b =
    let d = length-drop (block_bytes * k) l in
    let t = length-take block_bytes (drop (block_bytes * k) l) in
    omega arith

put_append : (at : ℕ) (b l r : List ℕ) → at + length b ≤ length l → put at b (l ++ r) ≡ put at b l ++ r
unfolding put
put_append at b l r h =
    rw (take-append-le at l r (omega arith), drop-append-le (at + length b) l r h)
    (sym (append_assoc (take at l ++ b) (drop (at + length b) l) r))

put_end : (at : ℕ) (b l r : List ℕ) → length l ≡ at → length r ≡ length b → put at b (l ++ r) ≡ l ++ b
unfolding put
put_end at b l r e n =
    let a = length-append l r in
    rw (take_at l r at e, drop_of_length-le (l ++ r) {i = at + length b} (omega arith))
    (append-nil (l ++ b))

-- placing a block changes that one alone
pub stacked_put : (f g : ℕ → List ℕ) (n j : ℕ) → Even f n → Even g n → j < n → ((k : ℕ) → k < n → (k ≡ j → ⊥) → f k ≡ g k)
    → put (block_bytes * j) (g j) (stacked n f) ≡ stacked n g
unfolding stacked
stacked_put f g zero j ef eg h e = absurd (omega arith)
stacked_put f g (suc n) j ef eg h e =
    go (ℕ_discrete j n) (stacked_put f g n j (even_less f n ef) (even_less g n eg))
  where
    long : length (stacked n f) ≡ block_bytes * n
    long = stacked_length f n (even_less f n ef)

    go : Dec (j ≡ n) → (j < n → ((k : ℕ) → k < n → (k ≡ j → ⊥) → f k ≡ g k) → put (block_bytes * j) (g j) (stacked n f) ≡ stacked n g)
        → put (block_bytes * j) (g j) (stacked n f ++ f n) ≡ stacked n g ++ g n
    go (yes q) ih =
        ap (λ (k : ℕ). put (block_bytes * k) (g k) (stacked n f ++ f n)) q
        ∙ put_end (block_bytes * n) (g n) (stacked n f) (f n) long (ef n (le_refl _) ∙ sym (eg n (le_refl _)))
        ∙ ap (λ (l : List ℕ). l ++ g n) (stacked_ext f g n (λ k b. e k (omega arith) (λ w. omega (arith, w, q))))
    go (no q) ih =
        let low : j < n = lt_of_le-ne (omega arith) q in
        put_append (block_bytes * j) (g j) (stacked n f) (f n) (omega (arith, long, eg j h))
        ∙ ap₂ (λ (a b : List ℕ). a ++ b) (ih low (λ k b ne. e k (omega arith) ne)) (e n (le_refl _) (λ w. q (sym w)))

-- Lists of one length in a row, as a loop stores them one after the other.
use mathlib.Core.Path.{◌≡◌, refl, sym, ap, ap₂, ◌∙◌}
use mathlib.Core.List.{List, ◌++◌, append_assoc}
use mathlib.Core.Logic.{◌⊎◌, inl, inr}
use Prim.Native.Nat.{ℕ, zero, suc, ◌+◌, ◌-◌, ◌*◌, ◌≤◌, ◌<◌}
use native.Mathlib.Nat.{zero-mul, suc-mul, mul-le-mul_right, eq-or-lt_of_le}
use native.Mathlib.Numerals.{add-one}
use native.Mathlib.Omega.{arith}
use lib.ListN.{length, take, drop, length-append, length-drop}
use lib.Seq.{length-take-le, take_all, take_at, drop_at, take-append-le, drop-append-le}
use borrow.Rule.Slice.PartMut.{put_mid, post_of, same_len_mid}
use Rattle.byte_lists.specs.Lists.{stacked}
use Rattle.byte_lists.proofs.Laws.TabulateLaws.{length_stacked}

pub part_length : (size : ℕ) (blocks : List ℕ) (at : ℕ) → at + size ≤ length blocks → length (take (at + size - at) (drop at blocks)) ≡ size
part_length size blocks at h =
    length-take-le (at + size - at) (drop at blocks) (let d = length-drop at blocks in omega arith) ∙ (let s : at + size - at ≡ size = omega arith in s)

-- The blocks of a row, one after the other. What the code has after block x: the first x blocks, and then the rest as it was.
pub record Stacked (f : ℕ → List ℕ) (size : ℕ) (old out : List ℕ) (x at : ℕ) : Type 0 where
  pub done : take at out ≡ stacked x f
  pub place : at ≡ x * size
  pub size-kept : length out ≡ length old

pub stacked_none : (f : ℕ → List ℕ) (size : ℕ) (old : List ℕ) → Stacked f size old old 0 0
unfolding stacked
stacked_none f size old = record { done = refl; place = sym (zero-mul size); size-kept = refl }

pub stacked_all : (f : ℕ → List ℕ) (size : ℕ) (old out : List ℕ) (x at count : ℕ) → Stacked f size old out x at → count ≤ x → x ≤ count
    → length old ≡ count * size → out ≡ stacked count f
stacked_all f size old out x at count h a b e =
    let same : x ≡ count = omega arith in
    let q = ap (λ (j : ℕ). j * size) same in
    sym (take_all at out (let k = h.size-kept in let p = h.place in omega arith)) ∙ h.done ∙ ap (λ (j : ℕ). stacked j f) same

pub stacked_more : (f : ℕ → List ℕ) (size : ℕ) (old out ys : List ℕ) (x at : ℕ) → Stacked f size old out x at → at + size ≤ length out
    → length ys ≡ size → ys ≡ f x → Stacked f size old (put_mid at (at + size - at) out ys) (x + 1) (at + size)
unfolding stacked
stacked_more f size old out ys x at h u l e =
    let s : at + size - at ≡ size = omega arith in
    record {
      done =
          ap (take (at + size)) (sym (append_assoc (take at out) ys (post_of at (at + size - at) out)))
          ∙ take_at (take at out ++ ys) (post_of at (at + size - at) out) (at + size)
          (length-append (take at out) ys ∙ (let t = length-take-le at out (omega arith) in omega arith))
          ∙ ap₂ (λ (a b : List ℕ). a ++ b) h.done e
          ∙ ap (λ (j : ℕ). stacked j f) (sym (add-one x));
      place = let p = h.place in omega arith;
      size-kept = same_len_mid at (at + size - at) out ys (l ∙ sym (part_length size out at u)) ∙ h.size-kept;
    }

-- the list at a place of a row
pub stacked_part : (n size : ℕ) (f : ℕ → List ℕ) (k : ℕ) → ((i : ℕ) → length (f i) ≡ size) → k < n → take size (drop (k * size) (stacked n f)) ≡ f k
unfolding stacked
stacked_part zero size f k e h = absurd (omega arith)
stacked_part (suc n) size f k e h = go (eq-or-lt_of_le (let v : k ≤ n = omega arith in v)) (stacked_part n size f k e)
  where
    long : length (stacked n f) ≡ n * size
    long = length_stacked n size f e

    go : (k ≡ n) ⊎ (k < n) → (k < n → take size (drop (k * size) (stacked n f)) ≡ f k) → take size (drop (k * size) (stacked n f ++ f n)) ≡ f k
    go (inl q) ih =
        ap (λ (j : ℕ). take size (drop (j * size) (stacked n f ++ f n))) q
        ∙ ap (take size) (drop_at (stacked n f) (f n) (n * size) long)
        ∙ take_all size (f n) (omega (arith, e n))
        ∙ ap f (sym q)
    go (inr low) ih =
        let d = length-drop (k * size) (stacked n f) in
        let a = mul-le-mul_right size low in
        let b = suc-mul k size in
        ap (take size) (drop-append-le (k * size) (stacked n f) (f n) (omega (arith, long, a, b)))
        ∙ take-append-le size (drop (k * size) (stacked n f)) (f n) (omega (arith, long, a, b, d))
        ∙ ih low

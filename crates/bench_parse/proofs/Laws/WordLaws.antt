-- A line's words, one at a time.
use mathlib.Core.Path.{◌≡◌, refl, sym, ap, ap₂, ◌∙◌}
use mathlib.Core.Bool.{Bool, true, false, cond, not, ◌&&◌}
use mathlib.Core.List.{List, [], ◌∷◌}
use Prim.Native.Nat.{ℕ, zero, suc, ◌+◌, ◌-◌, ◌≤◌, ◌<◌}
use native.Mathlib.Nat.{not-suc-le-zero}
use native.Mathlib.Omega.{arith}
use lib.Dec.{eqb, ltb, leb-suc-suc}
use lib.ListN.{length, take, drop, length-drop}
use borrow.Author.Tests.{lt-leb, le-leb, ltb-false}
use Rattle.std.proofs.Common.{Option, Some, None}
use Rattle.std.specs.List.{position_or_len}
use Rattle.std.specs.Cmp.Lexicographic.{pointwise}
use Rattle.bench_parse.specs.Lines.{space, longer, words}
use Rattle.byte_lists.specs.Lists.{same}
use Rattle.bench_parse.specs.Workers.{words_from}
use Rattle.bench_parse.specs.Workers.{word_length}

pub from_here : (l : List ℕ) (at : ℕ) → at ≤ length l → words_from l at ≡ words (drop at l)
unfolding words_from
from_here l at h = rw (le-leb at (length l) h)

pub from_none : (l : List ℕ) (at : ℕ) → length l < at → words_from l at ≡ []
unfolding words_from
from_none l at h = rw (lt-leb at (length l) h)

-- a word's length is the place of the first space, or of the end
word_position : (t : List ℕ) → word_length t ≡ position_or_len (λ x. eqb x space) t
unfolding word_length
word_position [] = refl
word_position (x ∷ t) = go (eqb x space) (word_position t)
  where
    go : (b : Bool) → word_length t ≡ position_or_len (λ x. eqb x space) t
        → cond b 0 (suc (word_length t)) ≡ cond (not b) (1 + position_or_len (λ x. eqb x space) t) 0
    go true e = refl
    go false e = omega arith

pub length_within : (t : List ℕ) → word_length t ≤ length t
unfolding word_length
length_within [] = omega arith
length_within (x ∷ t) = go (eqb x space) (length_within t)
  where
    go : (b : Bool) → word_length t ≤ length t → cond b 0 (suc (word_length t)) ≤ suc (length t)
    go true h = omega arith
    go false h = omega arith

from_cons : (x : ℕ) (t : List ℕ) (k : ℕ) → words_from (x ∷ t) (suc k) ≡ words_from t k
unfolding words_from
from_cons x t k = rw (leb-suc-suc k (length t))

-- the first word, and the words after it
pub words_split : (t : List ℕ) → words t ≡ take (word_length t) t ∷ words_from t (word_length t + 1)
unfolding words word_length longer
words_split [] = ap (λ (ws : List (List ℕ)). [] ∷ ws) (sym (from_none [] 1 (omega arith)))
words_split (x ∷ t) = go (eqb x space) (words_split t)
  where
    go : (b : Bool) → words t ≡ take (word_length t) t ∷ words_from t (word_length t + 1)
        → cond b ([] ∷ words t) (longer x (words t))
        ≡ take (cond b 0 (suc (word_length t))) (x ∷ t) ∷ words_from (x ∷ t) (cond b 0 (suc (word_length t)) + 1)
    go true ih = ap (λ (ws : List (List ℕ)). [] ∷ ws) (sym (from_here (x ∷ t) 1 (omega arith)))
    go false ih =
        let e : suc (word_length t) + 1 ≡ suc (word_length t + 1) = omega arith in
        ap (longer x) ih
        ∙ ap (λ (ws : List (List ℕ)). (x ∷ take (word_length t) t) ∷ ws)
        (sym (from_cons x t (word_length t + 1)) ∙ ap (words_from (x ∷ t)) (sym e))

pub from_drop : (l : List ℕ) (at k : ℕ) → at ≤ length l → words_from (drop at l) k ≡ words_from l (at + k)
from_drop l zero k h = ap (words_from l) (let e : k ≡ 0 + k = omega arith in e)
from_drop [] (suc at) k h = absurd (not-suc-le-zero h)
from_drop (x ∷ l) (suc at) k h =
    from_drop l at k (omega arith) ∙ sym (from_cons x l (at + k)) ∙ ap (words_from (x ∷ l)) (let e : suc (at + k) ≡ suc at + k = omega arith in e)

-- the word at a place, by the place of its end
module _ (l : List ℕ) (at e : ℕ) (h : at ≤ length l) (f : e ≡ at + word_length (drop at l)) where
  pub end_within : e ≤ length l
  end_within = let w = length_within (drop at l) in let d = length-drop at l in omega arith

  pub split_at_end : words (drop at l) ≡ take (e - at) (drop at l) ∷ words_from l (e + 1)
  split_at_end =
      let n : word_length (drop at l) ≡ e - at = omega arith in
      let m : at + (word_length (drop at l) + 1) ≡ e + 1 = omega arith in
      words_split (drop at l)
      ∙ ap₂ (λ (k : ℕ) (ws : List (List ℕ)). take k (drop at l) ∷ ws) n
      (from_drop l at (word_length (drop at l) + 1) h ∙ ap (words_from l) m)

-- What the search for a space gives.
pub space_found : (t : List ℕ) (k : ℕ)
    → Some k ≡ cond (ltb (position_or_len (λ x. eqb x space) t) (length t)) (Some (position_or_len (λ x. eqb x space) t)) None
    → k ≡ word_length t
space_found t k = go (ltb (position_or_len (λ x. eqb x space) t) (length t))
  where
    go : (b : Bool) → Some k ≡ cond b (Some (position_or_len (λ x. eqb x space) t)) None → k ≡ word_length t
    go true e = let f : k ≡ position_or_len (λ x. eqb x space) t = cc in f ∙ sym (word_position t)
    go false e = cc

pub no_space_found : (t : List ℕ)
    → None ≡ cond (ltb (position_or_len (λ x. eqb x space) t) (length t)) (Some (position_or_len (λ x. eqb x space) t)) None
    → length t ≡ word_length t
no_space_found t = go (ltb (position_or_len (λ x. eqb x space) t) (length t)) refl
  where
    go : (b : Bool) → ltb (position_or_len (λ x. eqb x space) t) (length t) ≡ b
        → ◌≡◌ {A = Option ℕ} None (cond b (Some (position_or_len (λ x. eqb x space) t)) None) → length t ≡ word_length t
    go true f e = cc
    go false f e = let w = length_within t in let g = word_position t in let h = ltb-false (position_or_len (λ x. eqb x space) t) (length t) f in omega arith

-- Two words, compared.
pub same_lem : (a b : List ℕ) → pointwise eqb a b ≡ same a b
unfolding same
same_lem [] [] = refl
same_lem [] (y ∷ b) = refl
same_lem (x ∷ a) [] = refl
same_lem (x ∷ a) (y ∷ b) = ap (λ (t : Bool). eqb x y && t) (same_lem a b)

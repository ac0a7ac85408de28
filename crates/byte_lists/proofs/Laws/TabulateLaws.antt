-- Lists made by a rule: length, entries, how a loop fills them.
use mathlib.Core.Path.{◌≡◌, refl, sym, ap, ◌∙◌}
use mathlib.Core.Logic.{◌⊎◌, inl, inr}
use mathlib.Core.List.{List, [], ◌∷◌, ◌++◌}
use Prim.Native.Nat.{ℕ, zero, suc, ◌+◌, ◌*◌, ◌≤◌, ◌<◌}
use native.Mathlib.Decide.{ℕ_discrete}
use native.Mathlib.Nat.{le_of_suc-le-suc, not-suc-le-zero, eq-or-lt_of_le, zero-mul, suc-mul}
use native.Mathlib.Omega.{arith}
use lib.ListN.{length, get_or, set, length-append, length-set, get_or-append, replicate, get_or-replicate, length-replicate}
use lib.Seq.{ext_get_or, get_or_at, get_or-set_same, get_or-set_other}
use Rattle.byte_lists.specs.Lists.{tabulate, stacked, zeros}

pub length_tabulate : (k : ℕ) (f : ℕ → ℕ) → length (tabulate k f) ≡ k
unfolding tabulate
length_tabulate zero f = refl
length_tabulate (suc k) f = length-append (tabulate k f) (f k ∷ []) ∙ (let e = length_tabulate k f in omega arith)

pub get_d_tabulate : (k : ℕ) (f : ℕ → ℕ) (i : ℕ) → i < k → get_or (tabulate k f) i 0 ≡ f i
unfolding tabulate
get_d_tabulate zero f i h = absurd (not-suc-le-zero h)
get_d_tabulate (suc k) f i h = go (eq-or-lt_of_le (le_of_suc-le-suc h)) (get_d_tabulate k f i)
  where
    go : (i ≡ k) ⊎ (i < k) → (i < k → get_or (tabulate k f) i 0 ≡ f i) → get_or (tabulate k f ++ (f k ∷ [])) i 0 ≡ f i
    go (inl e) ih = get_or_at (tabulate k f) (f k) [] 0 i (length_tabulate k f ∙ sym e) ∙ ap f (sym e)
    go (inr l) ih = get_or-append (tabulate k f) (f k ∷ []) 0 i (let e = length_tabulate k f in omega arith) ∙ ih l

-- a list of k entries, each by the rule, is that table
pub tabulate_by : (k : ℕ) (f : ℕ → ℕ) (l : List ℕ) → length l ≡ k → ((i : ℕ) → i < k → get_or l i 0 ≡ f i) → l ≡ tabulate k f
tabulate_by k f l e h =
    ext_get_or 0 l (tabulate k f) (e ∙ sym (length_tabulate k f)) (λ i u. h i (omega arith) ∙ sym (get_d_tabulate k f i (omega arith)))

pub tabulate_ext : (k : ℕ) (f g : ℕ → ℕ) → ((i : ℕ) → i < k → f i ≡ g i) → tabulate k f ≡ tabulate k g
tabulate_ext k f g h = tabulate_by k g (tabulate k f) (length_tabulate k f) (λ i u. get_d_tabulate k f i u ∙ h i u)

-- A slice filled from the front: entries below k by the rule, the rest as they were.
pub record Filled (f : ℕ → ℕ) (old out : List ℕ) (k : ℕ) : Type 0 where
  pub size : length out ≡ length old
  pub done : (i : ℕ) → i < k → get_or out i 0 ≡ f i
  pub rest : (i : ℕ) → k ≤ i → get_or out i 0 ≡ get_or old i 0

pub filled_more : (f : ℕ → ℕ) (old out : List ℕ) (k v : ℕ) → Filled f old out k → k < length old → v ≡ f k → Filled f old (set out k v) (k + 1)
filled_more f old out k v h u e =
    record {
      size = length-set out k v ∙ h.size;
      done = λ i l. by i (ℕ_discrete i k) l;
      rest = λ i l. get_or-set_other out k i v 0 (λ q. absurd (omega arith)) ∙ h.rest i (omega arith);
    }
  where
    by : (i : ℕ) → Dec (i ≡ k) → i < k + 1 → get_or (set out k v) i 0 ≡ f i
    by i (yes q) l =
        ap (λ (j : ℕ). get_or (set out k v) j 0) q ∙ get_or-set_same out k v 0 (let z = h.size in omega arith) ∙ e ∙ ap f (sym q)
    by i (no n) l = get_or-set_other out k i v 0 n ∙ h.done i (omega arith)

-- an entry that is as the rule says already, and is left
pub filled_keep : (f : ℕ → ℕ) (old out : List ℕ) (k : ℕ) → Filled f old out k → get_or old k 0 ≡ f k → Filled f old out (k + 1)
filled_keep f old out k h e =
    record {
      size = h.size;
      done = λ i l. by i (ℕ_discrete i k) l;
      rest = λ i l. h.rest i (omega arith);
    }
  where
    by : (i : ℕ) → Dec (i ≡ k) → i < k + 1 → get_or out i 0 ≡ f i
    by i (yes q) l = h.rest i (omega arith) ∙ ap (λ (j : ℕ). get_or old j 0) q ∙ e ∙ ap f (sym q)
    by i (no n) l = h.done i (omega arith)

pub filled_all : (f : ℕ → ℕ) (old out : List ℕ) (k : ℕ) → Filled f old out k → length old ≤ k → out ≡ tabulate (length old) f
filled_all f old out k h l = tabulate_by (length old) f out h.size (λ i u. h.done i (omega arith))

pub filled_copy : (from old out : List ℕ) (k : ℕ) → Filled (λ (p : ℕ). get_or from p 0) old out k → length old ≤ k → length from ≡ length old → out ≡ from
filled_copy from old out k h l e = ext_get_or 0 out from (h.size ∙ sym e) (λ i u. h.done i (let z = h.size in omega arith))

-- blocks of one size in a row
pub length_stacked : (k size : ℕ) (f : ℕ → List ℕ) → ((i : ℕ) → length (f i) ≡ size) → length (stacked k f) ≡ k * size
unfolding stacked
length_stacked zero size f h = sym (zero-mul size)
length_stacked (suc k) size f h =
    length-append (stacked k f) (f k) ∙ (let e = length_stacked k size f h in let g = h k in let m = suc-mul k size in omega arith)

-- zeros by a rule
pub zeros_are : (n : ℕ) → tabulate n (λ (p : ℕ). 0) ≡ zeros n
unfolding zeros
zeros_are n = sym (tabulate_by n (λ (p : ℕ). 0) (replicate n 0) (length-replicate n 0) (λ i h. get_or-replicate n i 0 0 h))

-- Rows of bricks, one more at a time, and that they hold different bricks.
use mathlib.Core.Path.{◌≡◌, refl, sym, ap, ◌∙◌}
use mathlib.Core.Bool.{Bool, true, false}
use mathlib.Core.List.{List, [], ◌∷◌, ◌++◌, append-nil}
use Prim.Native.Nat.{ℕ, zero, suc, ◌+◌, ◌≤◌, ◌<◌}
use native.Mathlib.Decide.{ℕ_discrete, dec_lt}
use native.Mathlib.Numerals.{add-one}
use native.Mathlib.Omega.{arith}
use lib.ListN.{length, get_or, take, set, replicate, length-append, length-take, length-set, get_or-append, get_or-eq_default}
use lib.Seq.{take_all, take-append-le, get_or_at, get_or-set_same, get_or-set_other}
use Rattle.coord_tally.specs.Counting.{passing, in_row, picked, at_times}
use Rattle.byte_lists.specs.Lists.{tabulate}
use Rattle.byte_lists.proofs.Laws.TabulateLaws.{tabulate_by, length_tabulate, get_d_tabulate}
use Rattle.settings.specs.Ranges.{max_bricks}

-- the row so far: the first m of those that pass below b, and how many they are
pub record Picks (p : ℕ → Bool) (m b : ℕ) (row : List ℕ) (k : ℕ) : Type 0 where
  pub row_is : row ≡ in_row (take m (passing p b))
  pub many : k ≡ length (take m (passing p b))

passing_yes : (p : ℕ → Bool) (b : ℕ) → p b ≡ true → passing p (b + 1) ≡ passing p b ++ (b ∷ [])
unfolding passing
passing_yes p b e = rw (add-one b, e)

passing_no : (p : ℕ → Bool) (b : ℕ) → p b ≡ false → passing p (b + 1) ≡ passing p b
unfolding passing
passing_no p b e = rw (add-one b, e) (append-nil (passing p b))

take_none : (m : ℕ) → take {A = ℕ} m [] ≡ []
take_none zero = refl
take_none (suc m) = refl

pub picks_none : (p : ℕ → Bool) (m : ℕ) → Picks p m 0 (replicate max_bricks 0) 0
unfolding passing in_row tabulate
picks_none p m = record { row_is = rw (take_none m); many = rw (take_none m) }

pub picks_not : (p : ℕ → Bool) (m b : ℕ) (row : List ℕ) (k : ℕ) (t : Bool) → Picks p m b row k → t ≡ p b → t ≡ false → Picks p m (b + 1) row k
picks_not p m b row k t h e z =
    record { row_is = rw (passing_no p b (sym e ∙ z)) h.row_is; many = rw (passing_no p b (sym e ∙ z)) h.many }

pub picks_full : (p : ℕ → Bool) (m b : ℕ) (row : List ℕ) (k : ℕ) (t : Bool) → Picks p m b row k → t ≡ p b → t ≡ true → m ≤ k → Picks p m (b + 1) row k
picks_full p m b row k t h e z l =
    let same : take m (passing p (b + 1)) ≡ take m (passing p b) =
    ap (take m) (passing_yes p b (sym e ∙ z))
    ∙ take-append-le m (passing p b) (b ∷ []) (let q = length-take m (passing p b) in omega (arith, h.many))
    in record { row_is = rw same h.row_is; many = rw same h.many }

-- past the end of a list there is 0 too
beyond : (l : List ℕ) (b i : ℕ) → (i ≡ length l → ⊥) → get_or (l ++ (b ∷ [])) i 0 ≡ get_or l i 0
beyond l b i h = go (dec_lt i (length l))
  where
    go : Dec (i < length l) → get_or (l ++ (b ∷ [])) i 0 ≡ get_or l i 0
    go (yes u) = get_or-append l (b ∷ []) 0 i u
    go (no u) =
        let past : length l < i = omega arith in
        get_or-eq_default (l ++ (b ∷ [])) 0 (let e = length-append l (b ∷ []) in omega arith) ∙ sym (get_or-eq_default l 0 (omega arith))

row_more : (l : List ℕ) (b : ℕ) → length l < max_bricks → set (in_row l) (length l) b ≡ in_row (l ++ (b ∷ []))
unfolding in_row
row_more l b u =
    tabulate_by max_bricks (λ (i : ℕ). get_or (l ++ (b ∷ [])) i 0) (set (tabulate max_bricks (λ (i : ℕ). get_or l i 0)) (length l) b)
    (length-set (tabulate max_bricks (λ (i : ℕ). get_or l i 0)) (length l) b ∙ length_tabulate max_bricks (λ (i : ℕ). get_or l i 0)) (λ i w. go i w (ℕ_discrete i (length l)))
  where
    go : (i : ℕ) → i < max_bricks → Dec (i ≡ length l) → get_or (set (tabulate max_bricks (λ (i : ℕ). get_or l i 0)) (length l) b) i 0 ≡ get_or (l ++ (b ∷ [])) i 0
    go i w (yes e) =
        ap (λ (j : ℕ). get_or (set (tabulate max_bricks (λ (i : ℕ). get_or l i 0)) (length l) b) j 0) e
        ∙ get_or-set_same (tabulate max_bricks (λ (i : ℕ). get_or l i 0)) (length l) b 0 (let z = length_tabulate max_bricks (λ (i : ℕ). get_or l i 0) in omega arith)
        ∙ sym (get_or_at l b [] 0 i (sym e))
    go i w (no e) =
        get_or-set_other (tabulate max_bricks (λ (i : ℕ). get_or l i 0)) (length l) i b 0 e ∙ get_d_tabulate max_bricks (λ (i : ℕ). get_or l i 0) i w ∙ sym (beyond l b i e)

pub picks_more : (p : ℕ → Bool) (m b : ℕ) (row : List ℕ) (k : ℕ) (t : Bool) → Picks p m b row k → t ≡ p b → t ≡ true → k < m → k < max_bricks
    → Picks p m (b + 1) (set row k b) (k + 1)
picks_more p m b row k t h e z l s =
    let short : length (passing p b) < m = (let q = length-take m (passing p b) in omega (arith, h.many)) in
    let all : take m (passing p b) ≡ passing p b = take_all m (passing p b) (omega arith) in
    let len : k ≡ length (passing p b) = h.many ∙ ap length all in
    let sum : length (passing p b ++ (b ∷ [])) ≡ length (passing p b) + 1 = length-append (passing p b) (b ∷ []) in
    let more : take m (passing p (b + 1)) ≡ passing p b ++ (b ∷ []) =
    ap (take m) (passing_yes p b (sym e ∙ z)) ∙ take_all m (passing p b ++ (b ∷ [])) (omega arith)
    in
    let kept : row ≡ in_row (passing p b) = h.row_is ∙ ap in_row all in
    record {
      row_is = rw (more, kept, len) (row_more (passing p b) b (omega arith));
      many = rw more (omega arith);
    }

pub picks_all : (flags found : List ℕ) (time n m b : ℕ) (row : List ℕ) (k : ℕ) → Picks (at_times flags found time) m b row k → n ≤ b → b ≤ n
    → row ≡ picked flags found time n m
unfolding picked
picks_all flags found time n m b row k h u v =
    h.row_is ∙ ap (λ (j : ℕ). in_row (take m (passing (at_times flags found time) j))) (let e : b ≡ n = omega arith in e)

pub picks_same : (p : ℕ → Bool) (m b : ℕ) (row row' : List ℕ) (k k' : ℕ) → Picks p m b row k → row' ≡ row → k' ≡ k → Picks p m b row' k'
picks_same p m b row row' k k' h e f = record { row_is = e ∙ h.row_is; many = f ∙ h.many }

-- The targets of a read are m different bricks, or one data brick: the Read message that a start sends passes refusal 10's rule.
use mathlib.Core.Path.{◌≡◌, refl, sym, ap, ◌∙◌}
use mathlib.Core.List.{List}
use mathlib.Core.Bool.{Bool, true, false, cond, ◌&&◌, ◌||◌, and-false}
use Prim.Native.Nat.{ℕ, zero, suc, ◌+◌, ◌-◌, ◌≤◌, ◌<◌, min}
use native.Mathlib.Nat.{add-suc, add-zero, le_refl}
use native.Mathlib.Omega.{arith}
use lib.Dec.{eqb, leb, ltb}
use lib.ListN.{get_or}
use borrow.Author.Tests.{eq-eqb, ne_eqb, le-leb, lt-leb, lt-ltb, le-ltb, leb-true, leb-false, ltb-true, ltb-false, eqb-true}
use native.Mathlib.Decide.{ℕ_discrete}
use Rattle.byte_lists.specs.Lists.{tabulate}
use Rattle.coord_record.specs.CountedRules.{steps_above, is_target}
use Rattle.coord_tally.specs.Counting.{target_flag, target_flags}
use Rattle.byte_lists.proofs.Laws.TabulateLaws.{get_d_tabulate, tabulate_ext}
use Rattle.message.specs.Flags.{member, members, flags_within, brick_set}
use Rattle.message.specs.Kinds.{block_targets}
use Rattle.message.specs.Messages.{targets_right}
use Rattle.settings.specs.Count.{count, one_if}
use Rattle.settings.specs.Ranges.{max_bricks}

-- sets that agree count alike
pub count_ext : (p r : ℕ → Bool) (n : ℕ) → ((b : ℕ) → b < n → p b ≡ r b) → count p n ≡ count r n
unfolding count
count_ext p r zero h = refl
count_ext p r (suc n) h = rw (count_ext p r n (λ b l. h b (omega arith)), h n (le_refl _))

module _ (n m first : ℕ) (few : n ≤ max_bricks) (within : m ≤ n) (start : first < n) where
  -- below the first: those that the wrapping reaches
  low_targets : (k : ℕ) → k ≤ first → count (is_target n m first) k ≡ min k (m - (n - first))
  unfolding count is_target steps_above
  low_targets zero h = omega arith
  low_targets (suc k) h = go (ltb (n - first + k) m) refl (low_targets k (omega arith))
    where
      go : (b : Bool) → ltb (n - first + k) m ≡ b → count (is_target n m first) k ≡ min k (m - (n - first))
          → count (is_target n m first) k + one_if (ltb (cond (leb first k) (k - first) (n - first + k)) m) ≡ min (suc k) (m - (n - first))
      go true e ih = let q = ltb-true (n - first + k) m e in rw (lt-leb first k (omega arith), e) (omega arith)
      go false e ih = let q = ltb-false (n - first + k) m e in rw (lt-leb first k (omega arith), e) (omega arith)

  -- from the first upward
  high_targets : (j : ℕ) → j ≤ n - first → count (is_target n m first) (first + j) ≡ min first (m - (n - first)) + min m j
  unfolding count is_target steps_above
  high_targets zero h = ap (count (is_target n m first)) (add-zero first) ∙ low_targets first (omega arith) ∙
      (let z : min first (m - (n - first)) ≡ min first (m - (n - first)) + min m 0 = omega arith in z)
  high_targets (suc j) h = ap (count (is_target n m first)) (add-suc first j) ∙ go (ltb (first + j - first) m) refl (high_targets j (omega arith))
    where
      go : (b : Bool) → ltb (first + j - first) m ≡ b → count (is_target n m first) (first + j) ≡ min first (m - (n - first)) + min m j
          → count (is_target n m first) (first + j) + one_if (ltb (cond (leb first (first + j)) (first + j - first) (n - first + (first + j))) m)
          ≡ min first (m - (n - first)) + min m (suc j)
      go true e ih = let q = ltb-true (first + j - first) m e in rw (le-leb first (first + j) (omega arith), e) (omega arith)
      go false e ih = let q = ltb-false (first + j - first) m e in rw (le-leb first (first + j) (omega arith), e) (omega arith)

  all_targets : count (is_target n m first) n ≡ m
  all_targets =
      let k : n ≡ first + (n - first) = omega arith in
      let c = high_targets (n - first) (omega arith) in ap (count (is_target n m first)) k ∙ (c ∙ (let z : min first (m - (n - first)) + min m (n - first) ≡ m = omega arith in z))

  flag_at : (b : ℕ) → b < max_bricks → get_or (target_flags n m first) b 0 ≡ target_flag n m first b
  unfolding target_flags
  flag_at b l = get_d_tabulate max_bricks (target_flag n m first) b l

  flag_low : (b : ℕ) → target_flag n m first b ≤ one_if (ltb b n)
  unfolding target_flag
  flag_low b = go (ltb b n) (is_target n m first b)
    where
      go : (x y : Bool) → one_if (x && y) ≤ one_if x
      go true true = omega arith
      go true false = omega arith
      go false y = omega arith

  flags_within_lem : (k : ℕ) → k ≤ max_bricks → flags_within (target_flags n m first) n k ≡ true
  unfolding flags_within
  flags_within_lem zero h = refl
  flags_within_lem (suc k) h =
      rw (flags_within_lem k (omega arith), flag_at k h, le-leb (target_flag n m first k) (one_if (ltb k n)) (flag_low k))

  -- the set's members are the targets
  pub target_member : (b : ℕ) → b < n → member (target_flags n m first) b ≡ is_target n m first b
  unfolding member target_flag
  target_member b l = rw (flag_at b (omega arith), lt-ltb b n l) (go (is_target n m first b))
    where
      go : (x : Bool) → eqb (one_if (true && x)) 1 ≡ x
      go true = refl
      go false = refl

  -- "Read targets that aren't m different bricks" are refused: these are.
  pub targets_set : brick_set (target_flags n m first) n m ≡ true
  unfolding brick_set members
  targets_set =
      rw (flags_within_lem max_bricks (le_refl _))
      (eq-eqb (count (member (target_flags n m first)) n) m (count_ext (member (target_flags n m first)) (is_target n m first) n target_member ∙ all_targets))

  pub targets_right_lem : targets_right n m (target_flags n m first) ≡ true
  unfolding targets_right
  targets_right_lem = rw targets_set

-- the only target of a read of one block is that block's brick
pub one_target : (n j b : ℕ) → j < n → is_target n block_targets j b ≡ eqb b j
unfolding is_target steps_above
one_target n j b h = go (leb j b) refl (ℕ_discrete b j)
  where
    go : (x : Bool) → leb j b ≡ x → Dec (b ≡ j) → ltb (cond x (b - j) (n - j + b)) block_targets ≡ eqb b j
    go true ex (yes e) = lt-ltb (b - j) block_targets (omega arith) ∙ sym (eq-eqb b j e)
    go true ex (no e) = let l = leb-true j b ex in le-ltb (b - j) block_targets (omega arith) ∙ sym (ne_eqb b j e)
    go false ex (yes e) = let l = leb-false j b ex in absurd (omega arith)
    go false ex (no e) = let l = leb-false j b ex in le-ltb (n - j + b) block_targets (omega arith) ∙ sym (ne_eqb b j e)

one_flag : (n j b : ℕ) → j < n → target_flag n block_targets j b ≡ one_if (eqb b j)
unfolding target_flag
one_flag n j b h = ap (λ (x : Bool). one_if (ltb b n && x)) (one_target n j b h) ∙ go (eqb b j) refl
  where
    go : (x : Bool) → eqb b j ≡ x → one_if (ltb b n && x) ≡ one_if x
    go true e = let q = eqb-true b j e in rw (lt-ltb b n (omega arith))
    go false e = ap one_if (and-false (ltb b n))

-- "Refusal 10 allows a block read's single target", a data brick.
pub block_target_right : (n m j : ℕ) → n ≤ max_bricks → m ≤ n → j < m → targets_right n m (target_flags n block_targets j) ≡ true
unfolding targets_right target_flags
block_target_right n m j few within low =
    or-true (brick_set (tabulate max_bricks (target_flag n block_targets j)) n m)
    (ap (λ (l : List ℕ). brick_set l m block_targets) same ∙ targets_set m block_targets j (omega arith) (omega arith) low)
  where
    same : tabulate max_bricks (target_flag n block_targets j) ≡ tabulate max_bricks (target_flag m block_targets j)
    same = tabulate_ext max_bricks (target_flag n block_targets j) (target_flag m block_targets j) (λ b l. one_flag n j b (omega arith) ∙ sym (one_flag m j b low))

    or-true : (a : Bool) → {b : Bool} → b ≡ true → a || b ≡ true
    or-true true e = refl
    or-true false e = e

-- Lists of bricks to decode from: the targets of a read, and those that gave the chosen time.
use mathlib.Core.Path.{◌≡◌, refl, ap, ◌∙◌}
use mathlib.Core.Bool.{Bool, true, false, cond}
use mathlib.Core.List.{List}
use Prim.Native.Nat.{ℕ, ◌+◌, ◌-◌, ◌≤◌, ◌<◌}
use native.Mathlib.Omega.{arith}
use lib.Dec.{ltb}
use lib.ListN.{length, get_or, take}
use lib.Seq.{get_or-take, length-take-le}
use borrow.Author.Tests.{lt-ltb, ltb-false, le-leb, lt-leb}
use Rattle.settings.specs.Ranges.{max_bricks}
use Rattle.settings.specs.Count.{count}
use Rattle.coord_record.specs.CountedRules.{steps_above, is_target}
use Rattle.coord_tally.specs.Counting.{upward, target_row, at_times, givers}
use Rattle.coord_tally.specs.FirstTheorem.{FirstOf}
use Rattle.coord_tally.proofs.Laws.RowSets.{target_at, target_long, target_below, target_set, passing_long, passing_below, rising_differ, passing_differ}
use Rattle.erasure.specs.Code.{Bricks}

-- the targets of a read
module _ (n m first : ℕ) (high : n ≤ max_bricks) (fit : m ≤ n) (low : first < n) where
  abbrev pub targets : List ℕ
  targets = take m (target_row n m first)

  pub targets_long : length targets ≡ m
  targets_long = length-take-le m (target_row n m first) (let l = target_long n m first high fit low in omega arith)

  pub target_bricks : Bricks n m targets
  target_bricks =
      let l = targets_long in
      record {
        some = omega arith;
        few = high;
        low = fit;
        enough = omega arith;
        differ = (target_set n m first high fit low).differ;
        below = λ i h.
            (let q = get_or-take m (target_row n m first) i 0 (omega arith) in let z = target_below n m first high fit low i (omega arith) in omega arith);
      }

  -- each is a target
  pub target_is : (i : ℕ) → i < length targets → is_target n m first (get_or targets i 0) ≡ true
  unfolding upward is_target steps_above
  target_is i h =
      let l : i < m = (let e = targets_long in omega arith) in
      ap (is_target n m first) (get_or-take m (target_row n m first) i 0 l ∙ target_at n m first high fit low i l) ∙ go l (ltb (first + i) n) refl
    where
      go : i < m → (b : Bool) → ltb (first + i) n ≡ b → is_target n m first (cond b (first + i) (first + i - n)) ≡ true
      go l true e = rw (le-leb first (first + i) (omega arith), lt-ltb (first + i - first) m (omega arith)) refl
      go l false e =
          let h = ltb-false (first + i) n e in
          rw (lt-leb first (first + i - n) (omega arith), lt-ltb (n - first + (first + i - n)) m (omega arith)) refl

-- the first m of a set of bricks below n
pub first_bricks : {P : ℕ → Type 0} {l : List ℕ} (n m : ℕ) → n ≤ max_bricks → 0 < n → m ≤ n → ((b : ℕ) → P b → b < n) → FirstOf P m l → Bricks n m l
first_bricks {P} {l} n m high pos fit low f =
    record {
      some = pos;
      few = high;
      low = fit;
      enough = omega (arith, f.as_many);
      differ = λ i j u w q. rising_differ l m f.rising i j (omega (arith, u, f.as_many)) (omega (arith, w, f.as_many)) q;
      below = λ i h. low (get_or l i 0) (f.of-the-set i (omega (arith, h, f.as_many)));
    }

-- the bricks that gave a time, where there are m or more
pub giver_bricks : (held found : List ℕ) (time n m : ℕ) → n ≤ max_bricks → 0 < n → m ≤ n → m ≤ count (at_times held found time) n → Bricks n m (givers held found time n)
giver_bricks held found time n m high pos fit enough =
    record {
      some = pos;
      few = high;
      low = fit;
      enough = (let l = passing_long (at_times held found time) n in omega arith);
      differ = passing_differ (at_times held found time) n;
      below = passing_below (at_times held found time) n;
    }

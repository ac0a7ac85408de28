-- What settings that pass satisfy, and the ways through their refusal.
use mathlib.Core.Path.{◌≡◌, refl}
use mathlib.Core.Bool.{Bool, true, false, ◌&&◌}
use Prim.Native.Nat.{ℕ, ◌<◌}
use lib.Dec.{leb}
use borrow.Author.Tests.{leb-true, ltb-true, le-leb}
use Rattle.settings.specs.Ranges.{max_bricks, max_size, min_capacity, max_capacity, max_stripes, bricks_in_range, size_in_range, capacity_in_range, stripes_in_range, in_range}
use Rattle.settings.specs.Ranges.{settings_refusal, code_refusal, stripe_refusal, CodeRange, SettingsRange}
use Rattle.settings.specs.Refusal.{refuse_unless, bad_setting}
use Rattle.settings.proofs.Laws.RefusalLaws.{tested}
use Rattle.settings.specs.declared.Settings.{Settings}
use Rattle.byte_lists.proofs.Laws.BoolLaws.{and_left, and_right}

in_code_range : (n m size : ℕ) → bricks_in_range n m && size_in_range size ≡ true → CodeRange n m size
unfolding bricks_in_range size_in_range
in_code_range n m size e =
    let b = and_left (leb 1 n && leb n max_bricks && leb 1 m && leb m n) _ e in
    let s = and_right (leb 1 n && leb n max_bricks && leb 1 m && leb m n) _ e in
    record {
      n-low = leb-true 1 n (and_left _ _ (and_left _ _ (and_left _ _ b)));
      n-high = leb-true n max_bricks (and_right (leb 1 n) _ (and_left _ _ (and_left _ _ b)));
      m-low = leb-true 1 m (and_right (leb 1 n && leb n max_bricks) _ (and_left _ _ b));
      m-high = leb-true m n (and_right (leb 1 n && leb n max_bricks && leb 1 m) _ b);
      size_low = leb-true 1 size (and_left _ _ s);
      size-high = leb-true size max_size (and_right (leb 1 size) _ s);
    }

-- what n, m and size that pass satisfy
pub code_passed : (n m size : ℕ) → code_refusal n m size ≡ 0 → CodeRange n m size
unfolding code_refusal
code_passed n m size e = in_code_range n m size (tested _ _ e)

-- what settings that pass satisfy
pub settings_passed : (s : Settings) → settings_refusal s ≡ 0 → SettingsRange s
unfolding settings_refusal in_range capacity_in_range stripes_in_range
settings_passed s e =
    let all = tested _ _ e in
    let t = and_left (bricks_in_range s.n s.m && size_in_range s.size && capacity_in_range s.capacity) _ all in
    let c = and_right (bricks_in_range s.n s.m && size_in_range s.size) _ t in
    let k = and_right (bricks_in_range s.n s.m && size_in_range s.size && capacity_in_range s.capacity) _ all in
    record {
      code = in_code_range s.n s.m s.size (and_left _ _ t);
      capacity-low = leb-true min_capacity s.capacity (and_left _ _ c);
      capacity-high = leb-true s.capacity max_capacity (and_right (leb min_capacity s.capacity) _ c);
      stripes-low = leb-true 1 s.stripes (and_left _ _ k);
      stripes-high = leb-true s.stripes max_stripes (and_right (leb 1 s.stripes) _ k);
    }

-- a stripe that passes is below the count
pub stripe_passed : (stripes stripe : ℕ) → stripe_refusal stripes stripe ≡ 0 → stripe < stripes
unfolding stripe_refusal
stripe_passed stripes stripe e = ltb-true stripe stripes (tested _ _ e)

-- The ways through the refusal: k is what the code's own refusal gave.
pub settings_code : (s : Settings) (k : ℕ) → k ≡ code_refusal s.n s.m s.size → (k ≡ 0 → ⊥) → bad_setting ≡ settings_refusal s
unfolding settings_refusal in_range code_refusal
settings_code s k e h = go (bricks_in_range s.n s.m && size_in_range s.size) (capacity_in_range s.capacity) (stripes_in_range s.stripes) e
  where
    go : (a b c : Bool) → k ≡ refuse_unless a bad_setting → bad_setting ≡ refuse_unless (a && b && c) bad_setting
    go true b c d = absurd (h d)
    go false b c d = refl

-- settings in range pass
pub in_range_lem : (s : Settings) → SettingsRange s → in_range s ≡ true
unfolding in_range bricks_in_range size_in_range capacity_in_range stripes_in_range
in_range_lem s g =
    rw (
      le-leb 1 s.n g.code.n-low,
      le-leb s.n max_bricks g.code.n-high,
      le-leb 1 s.m g.code.m-low,
      le-leb s.m s.n g.code.m-high,
      le-leb 1 s.size g.code.size_low,
      le-leb s.size max_size g.code.size-high,
      le-leb min_capacity s.capacity g.capacity-low,
      le-leb s.capacity max_capacity g.capacity-high,
      le-leb 1 s.stripes g.stripes-low,
      le-leb s.stripes max_stripes g.stripes-high,
    ) refl

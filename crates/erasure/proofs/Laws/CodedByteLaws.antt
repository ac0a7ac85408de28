-- The bytes of coded blocks, and of those handed over to decoding, as values of polynomials.
use mathlib.Core.Path.{◌≡◌, sym, ap, ◌∙◌}
use mathlib.Core.List.{List}
use Prim.Native.Nat.{ℕ, ◌*◌, ◌≤◌, ◌<◌}
use native.Mathlib.Decide.{dec_lt}
use native.Mathlib.Omega.{arith}
use lib.ListN.{length, get_or, get_or-eq_default}
use Rattle.erasure.specs.Code.{first_points, coded_of, block_of, blocks_of, Bricks}
use Rattle.erasure.proofs.Laws.BlockOfLaws.{block_within, block_length, block_byte}
use Rattle.erasure.proofs.Laws.PassedLaws.{length_first, bricks_below}
use Rattle.interpolate.proofs.Laws.BlockLaws.{byte_stacked, length_blocks_at, blocks_byte}
use Rattle.interpolate.specs.Bytes.{byte, byte_field}
use Rattle.byte_lists.proofs.Laws.TabulateLaws.{get_d_tabulate, length_stacked}
use Rattle.interpolate.specs.Values.{byte_at, value_at}
use Rattle.interpolate.specs.Workers.{points_of}
use Rattle.poly.specs.Polynomial.{interpolated}
use Rattle.settings.specs.Ranges.{max_bricks}

pub first_at_lem : (m i : ℕ) → i < m → get_or (first_points m) i 0 ≡ i
unfolding first_points
first_at_lem m i h = get_d_tabulate m (λ (i : ℕ). i) i h

pub first_small : (m : ℕ) → m ≤ max_bricks → (k : ℕ) → get_or (first_points m) k 0 < 256
first_small m few k = by (dec_lt k m)
  where
    by : Dec (k < m) → get_or (first_points m) k 0 < 256
    by (yes h) = let e = first_at_lem m k h in omega arith
    by (no h) = let e = get_or-eq_default (first_points m) 0 {n = k} (let l = length_first m in omega arith) in omega arith

pub first_differ : (m : ℕ) (i j : ℕ) → i < m → j < m → get_or (first_points m) i 0 ≡ get_or (first_points m) j 0 → i ≡ j
first_differ m i j hi hj e = sym (first_at_lem m i hi) ∙ e ∙ first_at_lem m j hj

-- byte p of coded block j
pub coded_byte : (n m size : ℕ) (stripe : List ℕ) (j p : ℕ) → j < n → p < size
    → byte_at size (coded_of n m size stripe) j p ≡ value_at (first_points m) size stripe j p
unfolding coded_of
coded_byte n m size stripe j p hj hp = blocks_byte (first_points m) size stripe n j p hj hp

-- values at points, with m for the points' number
pub value_is : (points : List ℕ) (m size : ℕ) (blocks : List ℕ) (x p : ℕ) → length points ≡ m
    → value_at points size blocks x p ≡ (interpolated byte_field m (points_of points) (λ (i : ℕ). byte (byte_at size blocks i p)) (byte x)).0
unfolding value_at
value_is points m size blocks x p e =
    ap (λ (k : ℕ). (interpolated byte_field k (points_of points) (λ (i : ℕ). byte (byte_at size blocks i p)) (byte x)).0) e

-- the blocks of bricks of n, handed over
module _ (n m size : ℕ) (stripe bricks : List ℕ) (b : Bricks n m bricks) where
  length_block : (i : ℕ) → length (block_of size (coded_of n m size stripe) (get_or bricks i 0)) ≡ size
  unfolding coded_of
  length_block i =
      block_length size (coded_of n m size stripe) (get_or bricks i 0)
      (block_within n size (get_or bricks i 0) (coded_of n m size stripe) (length_blocks_at (first_points m) size stripe n) (bricks_below n m bricks b i))

  pub handed_length : length (blocks_of size (coded_of n m size stripe) bricks) ≡ length bricks * size
  unfolding blocks_of
  handed_length = length_stacked (length bricks) size (λ (i : ℕ). block_of size (coded_of n m size stripe) (get_or bricks i 0)) length_block

  -- the byte of brick i that is handed over
  pub handed_byte : (i p : ℕ) → i < length bricks → p < size
      → byte_at size (blocks_of size (coded_of n m size stripe) bricks) i p ≡ value_at (first_points m) size stripe (get_or bricks i 0) p
  unfolding blocks_of
  handed_byte i p hi hp =
      byte_stacked (length bricks) size (λ (i : ℕ). block_of size (coded_of n m size stripe) (get_or bricks i 0)) length_block i p hi hp
      ∙ block_byte size (coded_of n m size stripe) (get_or bricks i 0) p hp
      ∙ coded_byte n m size stripe (get_or bricks i 0) p (b.below i hi) hp

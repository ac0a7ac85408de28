-- Blocks given at further points, compared with the blocks there one after the other.
use mathlib.Core.Path.{◌≡◌, sym, ap, ◌∙◌}
use mathlib.Core.Bool.{Bool, true, false}
use mathlib.Core.List.{List}
use Prim.Native.Nat.{ℕ, ◌+◌, ◌-◌, ◌*◌, ◌≤◌, ◌<◌}
use native.Mathlib.Omega.{arith}
use lib.ListN.{length, get_or, take, drop}
use Rattle.byte_lists.specs.Each.{each}
use Rattle.byte_lists.specs.Lists.{same}
use Rattle.byte_lists.proofs.Laws.EachLaws.{each_none, each_more, each_not}
use Rattle.interpolate.specs.Values.{block_at, blocks_fit}

-- whether block i of those given is the block at its point
abbrev pub fit_at : (points : List ℕ) → (size : ℕ) → (blocks further given : List ℕ) → ℕ → Bool
fit_at points size blocks further given i = same (take size (drop (i * size) given)) (block_at points size blocks (get_or further i 0))

module _ (points : List ℕ) (size : ℕ) (blocks further given : List ℕ) where
  pub fitting_none : each (fit_at points size blocks further given) 0 ≡ true
  fitting_none = each_none (fit_at points size blocks further given)

  -- what the code compares is block i; made is the length of the buffer in which the other one is made
  compared : (i made : ℕ) → made ≡ size
      → same (take (i * size + size - i * size) (drop (i * size) given)) (block_at points made blocks (get_or further i 0)) ≡ fit_at points size blocks further given i
  compared i made m = let p : i * size + size - i * size ≡ size = omega arith in rw (p, m)

  pub fitting_more : (i made : ℕ) (r : Bool) → each (fit_at points size blocks further given) i ≡ true → made ≡ size
      → r ≡ same (take (i * size + size - i * size) (drop (i * size) given)) (block_at points made blocks (get_or further i 0)) → r ≡ true
      → each (fit_at points size blocks further given) (i + 1) ≡ true
  fitting_more i made r h m e t =
      let q : fit_at points size blocks further given i ≡ true = sym (compared i made m) ∙ sym e ∙ t in
      each_more (fit_at points size blocks further given) i ∙ rw (h, q)

  pub fitting_not : (i made : ℕ) (r : Bool) → made ≡ size → i < length further
      → r ≡ same (take (i * size + size - i * size) (drop (i * size) given)) (block_at points made blocks (get_or further i 0)) → r ≡ false
      → false ≡ blocks_fit points size blocks further given
  unfolding blocks_fit
  fitting_not i made r m u e t =
      sym (each_not (fit_at points size blocks further given) (length further) i u (sym (compared i made m) ∙ sym e ∙ t))

  pub fitting_all : (i : ℕ) → length further ≤ i → i ≤ length further → each (fit_at points size blocks further given) i ≡ true
      → true ≡ blocks_fit points size blocks further given
  unfolding blocks_fit
  fitting_all i a b h = let n : i ≡ length further = omega arith in sym h ∙ ap (each (fit_at points size blocks further given)) n

-- where no further point is given
pub nothing_further : (points : List ℕ) (size : ℕ) (blocks further given : List ℕ) → length further ≡ 0 → true ≡ blocks_fit points size blocks further given
unfolding blocks_fit
nothing_further points size blocks further given e =
    sym (ap (each (fit_at points size blocks further given)) e ∙ each_none (fit_at points size blocks further given))

-- the ways of the comparison
pub ruleset fitting = (nothing_further, fitting_none, fitting_more, fitting_not, fitting_all)

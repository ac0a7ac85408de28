-- Quorums: two of them share m bricks, so at least one.
use mathlib.Core.Bool.{Bool}
use Prim.Native.Nat.{ℕ, ◌≤◌}
use native.Mathlib.Omega.{arith}
use Rattle.settings.specs.Count.{count, common}
use Rattle.settings.proofs.Laws.CountLaws.{count_common, count_witness}
use Rattle.order.specs.Quorums.{Quorums, Many}
use Rattle.order.proofs.Laws.TestLaws.{and_left, and_right}

pub many_map : {n k : ℕ} {Q R : ℕ → Type 0} → ((b : ℕ) → Q b → R b) → Many n k Q → Many n k R
many_map f x = record { set = x.set; enough = x.enough; each = λ b l t. f b (x.each b l t) }

module _ (S : Quorums) where
  -- two quorums share at least m bricks
  pub quorums_share : (p r : ℕ → Bool) → S.q ≤ count p S.n → S.q ≤ count r S.n → S.m ≤ count (common p r) S.n
  quorums_share p r x y = omega (arith, count_common p r S.n, S.share)

  -- and so at least one
  pub common_brick : {Q R : ℕ → Type 0} → Many S.n S.q Q → Many S.n S.q R → (b : ℕ) × Q b × R b
  unfolding common
  common_brick x y =
      let k = quorums_share x.set y.set x.enough y.enough in
      let w = count_witness (common x.set y.set) S.n (omega (arith, S.some)) in
      let b = w.0 in
      (b, x.each b w.1 (and_left (x.set b) (y.set b) w.2), y.each b w.1 (and_right (x.set b) (y.set b) w.2))

  -- a quorum is not empty
  pub some_brick : {Q : ℕ → Type 0} → Many S.n S.q Q → (b : ℕ) × Q b
  some_brick x = let w = common_brick x x in (w.0, w.1)

-- What one step leaves, and the parts of what a call leaves.
use mathlib.Core.Path.{◌≡◌, ap}
use mathlib.Core.List.{List}
use Prim.Native.Nat.{ℕ}
use Rattle.coord_apply.specs.Answers.{Buffered, Step, refused, went, answer_of, blocks_after, stripe_after, coded_after, Returned, returned, returned_by}
use Rattle.coord_apply.specs.Acts.{buffered}
use Rattle.coord_apply.specs.Answers.{Answer}
use Rattle.coord_record.specs.declared.Coordinator.{Coordinator}

-- a coordinator with its buffers after a step
unfoldable pub after : Buffered → Step → Buffered
after h (refused number) = h
after h (went w) = w.next

-- the answer and each buffer of a call, by the one equation of its contract
module _ (c : Coordinator) (blocks stripe coded : List ℕ) (p : Step) (a : Answer) (blocks' stripe' coded' : List ℕ)
    (e : returned a blocks' stripe' coded' ≡ returned_by (buffered c blocks stripe) coded p) where
  pub returned_answer : a ≡ answer_of c p
  unfolding returned_by buffered
  returned_answer = ap (λ (x : Returned). x.answer) e

  pub returned_blocks : blocks' ≡ blocks_after (buffered c blocks stripe) p
  unfolding returned_by
  returned_blocks = ap (λ (x : Returned). x.blocks) e

  pub returned_stripe : stripe' ≡ stripe_after (buffered c blocks stripe) p
  unfolding returned_by
  returned_stripe = ap (λ (x : Returned). x.stripe) e

  pub returned_coded : coded' ≡ coded_after coded p
  unfolding returned_by
  returned_coded = ap (λ (x : Returned). x.coded) e

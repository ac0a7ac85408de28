-- Document 02, E7: "the first m in brick number among those". What this says of any set of bricks, that `first_members` is it, and that nothing
-- else is. Proved in `proofs/Laws/FirstMemberLaws`.
use Rattle.std.specs.Prelude.{◌≡◌, ◌≢◌, Bool, true, List, ℕ, ◌≤◌, ◌<◌, length, get_or}
use Rattle.settings.specs.Count.{count}
use Rattle.coord_tally.specs.Counting.{first_members}

-- A list is the first m of a set of bricks: m of the set, rising, so that they are different; and every other brick of the set has a higher
-- number than all of them.
pub record FirstOf (Of : ℕ → Type 0) (m : ℕ) (l : List ℕ) : Type 0 where
  pub as_many : length l ≡ m
  pub rising : (i j : ℕ) → i < j → j < m → get_or l i 0 < get_or l j 0
  pub of-the-set : (i : ℕ) → i < m → Of (get_or l i 0)
  pub others-above : (b : ℕ) → Of b → ((i : ℕ) → i < m → get_or l i 0 ≢ b) → (i : ℕ) → i < m → get_or l i 0 < b

-- the bricks below n that pass a test
abbrev pub Passing : (ℕ → Bool) → (n b : ℕ) → Type 0
Passing p n b = (b < n) × (p b ≡ true)

-- The definition is it, where there are as many.
abbrev pub FirstMembersAreFirst : Type 0
FirstMembersAreFirst = (p : ℕ → Bool) (n m : ℕ) → m ≤ count p n → FirstOf (Passing p n) m (first_members m p n)

-- And it is the only one: the first m of a set, however it is described, are one list.
abbrev pub FirstIsOne : Type 1
FirstIsOne =
    (P Q : ℕ → Type 0) → ((b : ℕ) → P b → Q b) → ((b : ℕ) → Q b → P b) → (m : ℕ) (k l : List ℕ) → FirstOf P m k → FirstOf Q m l → k ≡ l

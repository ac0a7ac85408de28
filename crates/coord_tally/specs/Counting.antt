-- What the counted replies of a round say, brick by brick, and rows of bricks.
use Rattle.std.specs.Prelude.{Bool, cond, not, ◌&&◌, List, [], ◌∷◌, ◌++◌, ℕ, zero, suc, ◌+◌, ◌-◌, max, eqb, ltb, get_or, take}
use Rattle.coord_record.specs.CountedRules.{is_target}
use Rattle.byte_lists.specs.Lists.{tabulate}
use Rattle.message.specs.Flags.{member}
use Rattle.settings.specs.Count.{one_if}
use Rattle.settings.specs.Ranges.{max_bricks}

-- brick b is counted and said no
unfoldable pub said_no : List ℕ → List ℕ → ℕ → Bool
said_no counted granted b = member counted b && not (member granted b)

-- the highest time found among the bricks of a set below n, 0 if there is none
unfoldable pub highest : List ℕ → List ℕ → ℕ → ℕ
highest flags found zero = 0
highest flags found (suc b) = cond (member flags b) (max (highest flags found b) (get_or found b 0)) (highest flags found b)

-- brick b is counted and found another time
unfoldable pub other_time : List ℕ → List ℕ → ℕ → ℕ → Bool
other_time counted found time b = member counted b && not (eqb (get_or found b 0) time)

-- brick b is a target and not counted
unfoldable pub missing : ℕ → ℕ → ℕ → List ℕ → ℕ → Bool
missing n m first counted b = is_target n m first b && not (member counted b)

-- brick b is in a set and found this time
unfoldable pub at_time : ℕ → ℕ → ℕ → Bool
at_time flag found time = eqb flag 1 && eqb found time

unfoldable pub at_times : List ℕ → List ℕ → ℕ → ℕ → Bool
at_times flags found time b = at_time (get_or flags b 0) (get_or found b 0) time

-- the bricks below k that pass, by number
unfoldable pub passing : (ℕ → Bool) → ℕ → List ℕ
passing p zero = []
passing p (suc k) = passing p k ++ cond (p k) (k ∷ []) []

-- a list of bricks in a row of 16, 0 past its end
unfoldable pub in_row : List ℕ → List ℕ
in_row l = tabulate max_bricks (λ (i : ℕ). get_or l i 0)

-- E7: "the first m in brick number among those": the first m members of a set of bricks below n, rising
-- (`FirstTheorem`: m different ones, every other one has a higher number than all of them, and no other list is so)
abbrev pub first_members : (m : ℕ) → (ℕ → Bool) → (n : ℕ) → List ℕ
first_members m p n = take m (passing p n)

-- the bricks of a set that found a time, by number
abbrev pub givers : (flags found : List ℕ) → (time n : ℕ) → List ℕ
givers flags found time n = passing (at_times flags found time) n

-- E7: "the first m in brick number among those that gave the chosen time"
abbrev pub first_givers : (flags found : List ℕ) → (time n m : ℕ) → List ℕ
first_givers flags found time n m = first_members m (at_times flags found time) n

-- the same in a row of 16
unfoldable pub picked : (flags found : List ℕ) → (time n m : ℕ) → List ℕ
picked flags found time n m = in_row (first_givers flags found time n m)

-- the brick that is i above the first, wrapping at n
unfoldable pub upward : ℕ → ℕ → ℕ → ℕ
upward n first i = cond (ltb (first + i) n) (first + i) (first + i - n)

-- "m bricks counted upward from a given one, wrapping at n", in a row of 16
unfoldable pub target_row : ℕ → ℕ → ℕ → List ℕ
target_row n m first = tabulate max_bricks (λ (i : ℕ). cond (ltb i m) (upward n first i) 0)

-- the same as a set of bricks, which goes with a Read message
unfoldable pub target_flag : ℕ → ℕ → ℕ → ℕ → ℕ
target_flag n m first b = one_if (ltb b n && is_target n m first b)

unfoldable pub target_flags : ℕ → ℕ → ℕ → List ℕ
target_flags n m first = tabulate max_bricks (target_flag n m first)

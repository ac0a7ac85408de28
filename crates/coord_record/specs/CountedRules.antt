-- The rules that a counted reply keeps (refusals 6 and 11), and those of the bricks that a recovered read names.
use Rattle.std.specs.Prelude.{Bool, cond, not, ◌&&◌, ◌||◌, List, ℕ, ◌+◌, ◌-◌, eqb, leb, ltb, get_or}
use Rattle.byte_lists.specs.Each.{each}
use Rattle.coord_record.specs.declared.Tally.{Tally}
use Rattle.message.specs.Kinds.{read_kind, order_read_kind, order_block_kind, no_comparison}
use Rattle.message.specs.Messages.{found_right, comparison_right}
use Rattle.settings.specs.Ranges.{max_bricks}

-- "targets are m bricks counted upward from a given one, wrapping at n": how far brick b is above the first
unfoldable pub steps_above : ℕ → ℕ → ℕ → ℕ
steps_above n first b = cond (leb first b) (b - first) (n - first + b)

unfoldable pub is_target : ℕ → ℕ → ℕ → ℕ → Bool
is_target n m first b = ltb (steps_above n first b) m

-- "with a block missing or present against the rules of that round":
-- Read: "its block if yes and the brick is a target". Order-and-read: "on yes gives the entry holding a block .., and its time.
-- With none, or on a no, time 0 and no block". E2's first round of a block write: "every brick gives its newest time and brick j its block";
-- on a no time 0 and no block. Order, Write, Modify: no block, and no time.
unfoldable pub block_right : ℕ → Bool → Bool → Bool → ℕ → Bool
block_right phase target granted held found =
    cond (eqb phase read_kind) (cond (granted && target) held (not held))
    (cond (eqb phase order_read_kind) (cond held granted (eqb found 0))
    (cond (eqb phase order_block_kind && granted) (cond target held (not held)) (not held && eqb found 0)))

-- what is kept of brick b's reply: flags of 0 and 1, a time that a reply may have, the block and the time by the round's rules
unfoldable pub counted_right : ℕ → ℕ → ℕ → ℕ → ℕ → ℕ → ℕ → ℕ → Bool
counted_right n m phase first b granted held found =
    ltb 0 phase && ltb b n && leb granted 1 && leb held 1 && found_right found
    && block_right phase (is_target n m first b) (eqb granted 1) (eqb held 1) found

-- brick b is not counted, and nothing is kept of it; or it is, and what is kept is right
unfoldable pub entry_right : ℕ → ℕ → ℕ → ℕ → ℕ → ℕ → ℕ → ℕ → ℕ → Bool
entry_right n m phase first b counted granted held found =
    cond (eqb counted 0) (eqb granted 0 && eqb held 0 && eqb found 0)
    (eqb counted 1 && counted_right n m phase first b granted held found)

-- E5: what a counted no said, by the comparisons of its round: none is kept of a yes, nor of a brick that is not counted
unfoldable pub said_right : (phase counted granted said : ℕ) → Bool
said_right phase counted granted said = cond (eqb counted 0) (eqb said no_comparison) (comparison_right phase (eqb granted 1) said)

-- what a tally keeps of brick b is right
unfoldable pub kept_right : (n m phase first : ℕ) → Tally → ℕ → Bool
kept_right n m phase first t b =
    entry_right n m phase first b (get_or t.counted b 0) (get_or t.granted b 0) (get_or t.held b 0) (get_or t.found b 0)
    && said_right phase (get_or t.counted b 0) (get_or t.granted b 0) (get_or t.said b 0)

unfoldable pub tally_right : ℕ → ℕ → ℕ → ℕ → Tally → Bool
tally_right n m phase first t = each (kept_right n m phase first t) max_bricks

-- place i of a list of k bricks below n in rising order: the brick there is above the one before; past the k-th it is 0
unfoldable pub brick_right : ℕ → ℕ → ℕ → ℕ → ℕ → Bool
brick_right n k i before here = cond (ltb i k) (ltb here n && (eqb i 0 || ltb before here)) (eqb here 0)

unfoldable pub bricks_right : ℕ → ℕ → List ℕ → Bool
bricks_right n k bricks = each (λ (i : ℕ). brick_right n k i (get_or bricks (i - 1) 0) (get_or bricks i 0)) max_bricks

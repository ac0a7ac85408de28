-- Document 01, "What a brick does", document 02's operations on one block (E2) and its Drop (E6), on the abstract brick.
use Rattle.std.specs.Prelude.{Bool, cond, not, ◌&&◌, List, [], ◌∷◌, ℕ, zero, suc, ◌-◌, ltb, eqb}
use Rattle.settings.specs.declared.Settings.{Settings}
use Rattle.message.specs.Flags.{member}
use Rattle.message.specs.Kinds.{read_kind, order_read_kind, order_block_kind, write_kind, modify_kind, trim_kind, drop_kind}
use Rattle.message.specs.declared.Message.{Message}
use Rattle.message.specs.declared.Reply.{Reply}
use Rattle.brick_answer.specs.Comparisons.{above_newest, not_below_promise, has_free, none_says_no, first_no}
use Rattle.image.specs.Brick.{Brick, LogEntry, entry_count, time_at, means_at, newest}
use Rattle.image_write.specs.Saving.{with_promise, appended, block_entry, mark_entry, lowest_held}
use Rattle.erasure.specs.Recoding.{recoded_block}

-- "Read: yes if newest is not below the promise."
unfoldable pub read_yes : Brick → Bool
read_yes x = not_below_promise x.promise (newest x)

-- "Order t: yes if t is above newest and not below the promise"
unfoldable pub order_yes : Brick → ℕ → Bool
order_yes x t = above_newest (newest x) t && not_below_promise x.promise t

-- "Write t, block: yes if t is above newest, not below the promise, and the log has a free entry"
unfoldable pub write_yes : Settings → Brick → ℕ → Bool
write_yes s x t = order_yes x t && has_free s.capacity (entry_count x)

-- E2: "A brick says yes if its newest is the old time, its own time is above that and not below the promise, and an entry is free."
unfoldable pub modify_yes : Settings → Brick → (t old : ℕ) → Bool
modify_yes s x t old = eqb (newest x) old && write_yes s x t

-- "then the promise becomes t"
unfoldable pub ordered_if_yes : Brick → ℕ → Brick
ordered_if_yes x t = cond (order_yes x t) (with_promise x t) x

-- "then it is appended. The promise is left as it is."
unfoldable pub written_if_yes : Settings → Brick → ℕ → List ℕ → Brick
written_if_yes s x t block = cond (write_yes s x t) (appended x (block_entry t block)) x

-- the block that the newest entry means
unfoldable pub newest_block : Brick → List ℕ
newest_block x = means_at x (entry_count x - 1)

-- E2: "Brick j stores the new block, parity bricks their recoded one, other data bricks a mark meaning the block before it"
unfoldable pub modified_entry : Settings → ℕ → Brick → Message → (new old : List ℕ) → LogEntry
modified_entry s brick x msg new old =
    cond (eqb brick msg.block) (block_entry msg.time new)
    (cond (ltb brick s.m) (mark_entry x msg.time)
    (block_entry msg.time (recoded_block s.n s.m brick msg.block (newest_block x) old new)))

unfoldable pub modified_if_yes : Settings → ℕ → Brick → Message → (new old : List ℕ) → Brick
modified_if_yes s brick x msg new old = cond (modify_yes s x msg.time msg.old) (appended x (modified_entry s brick x msg new old)) x

-- "Trim t: .. drops every entry under t other than the newest."
unfoldable pub trimmed : ℕ → List LogEntry → List LogEntry
trimmed t [] = []
trimmed t (e ∷ []) = e ∷ []
trimmed t (e ∷ f ∷ log) = cond (ltb e.time t) (trimmed t (f ∷ log)) (e ∷ trimmed t (f ∷ log))

unfoldable pub trimmed_to : Brick → ℕ → Brick
trimmed_to x t = record { promise = x.promise; log = lowest_held (trimmed t x.log) }

-- E6: "A brick drops that entry .. the lowest mark that means the dropped block becomes that block first": the entry of time t goes. A mark just
-- goes; where it had its own block, the entry right above it has that block then, if it was a mark.
unfoldable pub dropped : ℕ → List LogEntry → List LogEntry
dropped t [] = []
dropped t (e ∷ log) = cond (eqb e.time t) (cond e.mark log (lowest_held log)) (e ∷ dropped t log)

-- "unless it is the only one it has", "and the promise remains"
unfoldable pub dropped_from : Brick → ℕ → Brick
dropped_from x t = record { promise = x.promise; log = cond (eqb (entry_count x) 1) x.log (dropped t x.log) }

-- E2: "The lookup under max .. gives the highest entry, mark or block": looked for from the newest down, among the first n.
-- By its place in the log and 1; 0 for none.
unfoldable pub under : Brick → ℕ → ℕ → ℕ
under x max zero = 0
under x max (suc i) = cond (ltb (time_at x i) max) (suc i) (under x max i)

unfoldable pub lookup : Brick → ℕ → ℕ
lookup x max = under x max (entry_count x)

-- the entry whose block goes with the reply, by its place and 1, 0 for none: Read gives "its block if yes and the brick is a target",
-- Order-and-read "on yes gives the entry .. with the highest time under max", the first round of a block write the newest of "brick j",
-- the others none
unfoldable pub place_for : ℕ → Brick → Message → ℕ
place_for brick x msg =
    cond (eqb msg.kind read_kind) (cond (read_yes x && member msg.targets brick) (entry_count x) 0)
    (cond (eqb msg.kind order_read_kind) (cond (order_yes x msg.time) (lookup x msg.max) 0)
    (cond (eqb msg.kind order_block_kind) (cond (order_yes x msg.time && eqb brick msg.block) (entry_count x) 0) 0))

-- the time of an entry, by its place and 1; 0 for none
unfoldable pub time_for : Brick → ℕ → ℕ
time_for x place = cond (eqb place 0) 0 (time_at x (place - 1))

-- Read "gives newest", Order-and-read the entry's time; "With none, or on a no, time 0 and no block." In the first round of a block write
-- "every brick gives its newest time".
unfoldable pub found_for : ℕ → Brick → Message → ℕ
found_for brick x msg =
    cond (eqb msg.kind read_kind) (newest x)
    (cond (eqb msg.kind order_block_kind) (cond (order_yes x msg.time) (newest x) 0) (time_for x (place_for brick x msg)))

-- yes: none of the three comparisons says no
unfoldable pub yes_to : Settings → Brick → Message → Bool
yes_to s x msg = none_says_no s.capacity (entry_count x) (newest x) x.promise msg

-- E5: "A brick's reply gains the comparison that said no"
unfoldable pub comparison_to : Settings → Brick → Message → ℕ
comparison_to s x msg = first_no s.capacity (entry_count x) (newest x) x.promise msg

unfoldable pub reply_to : Settings → ℕ → Brick → Message → Reply
reply_to s brick x msg =
    record {
      kind = msg.kind;
      brick = brick;
      stripe = msg.stripe;
      time = msg.time;
      round = msg.round;
      yes = yes_to s x msg;
      found = found_for brick x msg;
      held = not (eqb (place_for brick x msg) 0);
      comparison = comparison_to s x msg;
    }

-- the brick after a message, with its block and, for Modify, the old block
unfoldable pub brick_after : Settings → ℕ → Brick → Message → (block old : List ℕ) → Brick
brick_after s brick x msg block old =
    cond (eqb msg.kind trim_kind) (trimmed_to x msg.time)
    (cond (eqb msg.kind drop_kind) (dropped_from x msg.time)
    (cond (eqb msg.kind write_kind) (written_if_yes s x msg.time block)
    (cond (eqb msg.kind modify_kind) (modified_if_yes s brick x msg block old)
    (cond (eqb msg.kind read_kind) x (ordered_if_yes x msg.time)))))

-- the bytes of the reply's block, or what the buffer held
unfoldable pub block_after : Brick → ℕ → List ℕ → List ℕ
block_after x place out = cond (eqb place 0) out (means_at x (place - 1))

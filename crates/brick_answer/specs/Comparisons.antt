-- Document 01, "What a brick does": the three comparisons of an answer. Document 02, E5: "A brick's reply gains the comparison that said no".
-- newest and promise are the brick's times, count its entries, capacity the most that it may have.
use Rattle.std.specs.Prelude.{Option, Some, None, Bool, false, cond, not, ◌&&◌, ℕ, eqb, leb, ltb}
use Rattle.message.specs.Kinds.{read_kind, modify_kind, no_comparison, newer_time, promise_ahead, full_log}
use Rattle.message.specs.Messages.{stores_entry}
use Rattle.message.specs.declared.Message.{Message}
use Rattle.brick_answer.specs.declared.Comparison.{Comparison}
use Rattle.brick_answer.specs.declared.Comparison.TheVariants.{NewerTime, PromiseAhead, FullLog}

-- "t is above newest"
unfoldable pub above_newest : (newest t : ℕ) → Bool
above_newest newest t = ltb newest t

-- "not below the promise"
unfoldable pub not_below_promise : (promise t : ℕ) → Bool
not_below_promise promise t = leb promise t

-- "the log has a free entry"
unfoldable pub has_free : (capacity count : ℕ) → Bool
has_free capacity count = ltb count capacity

-- "newer time": the message's time is not above newest; "for Modify, a newest other than the old time counts as newer". Read asks for no time.
unfoldable pub newer_says_no : (newest : ℕ) → Message → Bool
newer_says_no newest msg =
    cond (eqb msg.kind read_kind) false
    (cond (eqb msg.kind modify_kind) (not (eqb newest msg.old && above_newest newest msg.time)) (not (above_newest newest msg.time)))

-- "promise": the message's time is below it, of Read the newest time
unfoldable pub promise_says_no : (newest promise : ℕ) → Message → Bool
promise_says_no newest promise msg = not (not_below_promise promise (cond (eqb msg.kind read_kind) newest msg.time))

-- "full log": what stores an entry finds none free
unfoldable pub full_says_no : (capacity count : ℕ) → Message → Bool
full_says_no capacity count msg = stores_entry msg.kind && not (has_free capacity count)

module _ (capacity count newest promise : ℕ) (msg : Message) where
  -- yes: none of them says no
  unfoldable pub none_says_no : Bool
  none_says_no = not (newer_says_no newest msg) && not (promise_says_no newest promise msg) && not (full_says_no capacity count msg)

  -- "newer time first, then promise, then full log"
  unfoldable pub first_no : ℕ
  first_no =
      cond (newer_says_no newest msg) newer_time
      (cond (promise_says_no newest promise msg) promise_ahead (cond (full_says_no capacity count msg) full_log no_comparison))

-- the number in a reply of the comparison that says no
abbrev pub number_of_comparison : Comparison → ℕ
number_of_comparison NewerTime = newer_time
number_of_comparison PromiseAhead = promise_ahead
number_of_comparison FullLog = full_log

-- the number of an answer's comparison: none with a yes
abbrev pub comparison_in : Option Comparison → ℕ
comparison_in None = no_comparison
comparison_in (Some c) = number_of_comparison c

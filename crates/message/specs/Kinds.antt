-- Document 01, "What a brick does": the messages, and document 02's (E2, E6). A reply has the kind of the message that it answers; Trim and Drop
-- have none.
use Rattle.std.specs.Prelude.{ℕ}

abbrev pub read_kind : ℕ
read_kind = 1

abbrev pub order_kind : ℕ
order_kind = 2

abbrev pub order_read_kind : ℕ
order_read_kind = 3

-- E2: "Writing starts with Order-and-read in which every brick gives its newest time and brick j its block": a message of its own
abbrev pub order_block_kind : ℕ
order_block_kind = 4

abbrev pub write_kind : ℕ
write_kind = 5

-- E2: "Modify goes out: old block, new block, that old time, own time"
abbrev pub modify_kind : ℕ
modify_kind = 6

abbrev pub trim_kind : ℕ
trim_kind = 7

-- E6: "The coordinator then sends Drop of that time"
abbrev pub drop_kind : ℕ
drop_kind = 8

-- E2: "Reading block j has brick j as its only target"
abbrev pub block_targets : ℕ
block_targets = 1

-- "Rounds count from 1": the round that a start opens; a write stores in the second, a read recovers from the second on and stores from the third on
abbrev pub first_round : ℕ
first_round = 1

abbrev pub second_round : ℕ
second_round = 2

abbrev pub third_round : ℕ
third_round = 3

-- "if a round 1,001 would be sent"
abbrev pub last_round : ℕ
last_round = 1000

-- E5: "the comparison that said no, newer time first, then promise, then full log"; none goes with a yes
abbrev pub no_comparison : ℕ
no_comparison = 0

abbrev pub newer_time : ℕ
newer_time = 1

abbrev pub promise_ahead : ℕ
promise_ahead = 2

abbrev pub full_log : ℕ
full_log = 3

-- Document 02, E2: "document 001's lookup would let a later recovery undo a finished block write on 5 of 7". One list of events on a set of
-- seven bricks, five of them data, is run twice: by the definitions, and with document 001's lookup in place of theirs, which asks for one
-- round more.
-- Computed in `proofs/Laws/FiveOfSevenLaws`.
use Rattle.std.specs.Prelude.{◌≡◌, cond, not, ◌&&◌, List, [], ◌∷◌, ◌++◌, ℕ, zero, suc, eqb, ltb, replicate}
use Rattle.settings.specs.declared.Settings.{Settings}
use Rattle.message.specs.Kinds.{order_read_kind}
use Rattle.message.specs.declared.Message.{Message}
use Rattle.message.specs.declared.Reply.{Reply}
use Rattle.image.specs.Brick.{Brick, entry_count, time_at, mark_at}
use Rattle.image.specs.Parse.{Parsed, Opens, Refuses, parse}
use Rattle.brick_log.specs.BrickRules.{time_for, block_after}
use Rattle.brick.specs.Receive.{Outcome}
use Rattle.brick.specs.Receive.{Given}
use Rattle.brick.specs.Receive.{Answered, Silent, Refused}
use Rattle.volume.specs.Rows.{image_at, row_outcome}
use Rattle.order.specs.Claim.{read, write_block, ok, bytes, finished, Seen}
use Rattle.register.specs.Runs.{Item, message, reply, World, Event, start_write, start_read, start_write_block, start_read_block, arrives}
use Rattle.register.specs.Runs.{crashes, goes_down, comes_up, Moved, unmoved, joined}
use Rattle.register.specs.Runs.{plain, received, arriving, step, fresh_set, run}

abbrev pub five_of_seven : Settings
five_of_seven = record { n = 7; m = 5; size = 1; capacity = 3; stripes = 1 }

-- Block 2 of the fresh stripe is written by coordinator 0, in two rounds that bricks 0 to 5 hear; of its Trims only brick 0's arrives. Then
-- brick 5 is down and coordinator 1 reads the stripe: of the six bricks that answer, 0 to 4 have the write, 1, 3 and 4 as a mark, and brick 6
-- has not heard of it, so the read recovers: a round of Order-and-read, and then one more, which stores. (By its Trim brick 0 has nothing under
-- time 16, so that with document 001's lookup five blocks of time 0 are found, and no sixth has to be checked.)
unfoldable pub five_of_seven_events : List Event
five_of_seven_events =
    start_write_block 0 0 1 2 (9 ∷ [])
    ∷ arrives 0 ∷ arrives 1 ∷ arrives 2 ∷ arrives 3 ∷ arrives 4 ∷ arrives 5
    ∷ arrives 7 ∷ arrives 8 ∷ arrives 9 ∷ arrives 10 ∷ arrives 11 ∷ arrives 12
    ∷ arrives 13 ∷ arrives 14 ∷ arrives 15 ∷ arrives 16 ∷ arrives 17 ∷ arrives 18
    ∷ arrives 20 ∷ arrives 21 ∷ arrives 22 ∷ arrives 23 ∷ arrives 24 ∷ arrives 25
    ∷ arrives 26
    ∷ goes_down 5
    ∷ start_read 1 0 2 0
    ∷ arrives 33 ∷ arrives 34 ∷ arrives 35 ∷ arrives 36 ∷ arrives 37 ∷ arrives 39
    ∷ arrives 40 ∷ arrives 41 ∷ arrives 42 ∷ arrives 43 ∷ arrives 44 ∷ arrives 45
    ∷ arrives 46 ∷ arrives 47 ∷ arrives 48 ∷ arrives 49 ∷ arrives 50 ∷ arrives 52
    ∷ arrives 53 ∷ arrives 54 ∷ arrives 55 ∷ arrives 56 ∷ arrives 57 ∷ arrives 58
    ∷ []

-- the read stores what it found
unfoldable pub storing : List Event
storing =
    arrives 59 ∷ arrives 60 ∷ arrives 61 ∷ arrives 62 ∷ arrives 63 ∷ arrives 65
    ∷ arrives 66 ∷ arrives 67 ∷ arrives 68 ∷ arrives 69 ∷ arrives 70 ∷ arrives 71
    ∷ []

-- with document 001's lookup the next round is a second Order-and-read, after Drops (E6) that are lost, and another stores
unfoldable pub one_round_more : List Event
one_round_more =
    arrives 66 ∷ arrives 67 ∷ arrives 68 ∷ arrives 69 ∷ arrives 70 ∷ arrives 72
    ∷ arrives 73 ∷ arrives 74 ∷ arrives 75 ∷ arrives 76 ∷ arrives 77 ∷ arrives 78
    ∷ arrives 79 ∷ arrives 80 ∷ arrives 81 ∷ arrives 82 ∷ arrives 83 ∷ arrives 85
    ∷ arrives 86 ∷ arrives 87 ∷ arrives 88 ∷ arrives 89 ∷ arrives 90 ∷ arrives 91
    ∷ []

-- document 001's lookup: the highest entry with a block under max, among the first n; by its place and 1, 0 for none
unfoldable pub block_under : Brick → ℕ → ℕ → ℕ
block_under x max zero = 0
block_under x max (suc i) = cond (ltb (time_at x i) max && not (mark_at x i)) (suc i) (block_under x max i)

-- the reply that gives the entry at this place
unfoldable pub giving_entry : Brick → ℕ → Reply → Reply
giving_entry x place r =
    record {
      kind = r.kind;
      brick = r.brick;
      stripe = r.stripe;
      time = r.time;
      round = r.round;
      yes = r.yes;
      found = time_for x place;
      held = not (eqb place 0);
      comparison = r.comparison;
    }

-- a yes to Order-and-read gives the entry at this place, and nothing else changes
unfoldable pub looked_at : Brick → ℕ → Outcome → (out : List ℕ) → Given → Outcome
looked_at x place o out (Answered r) =
    cond (eqb r.kind order_read_kind && r.yes)
    (record { given = Answered (giving_entry x place r); image = o.image; out = block_after x place out })
    o
looked_at x place o out Silent = o
looked_at x place o out (Refused number) = o

unfoldable pub looked_up : ℕ → Outcome → (out : List ℕ) → Parsed → Outcome
looked_up max o out (Opens x) = looked_at x (block_under x max (entry_count x)) o out o.given
looked_up max o out (Refuses number) = o

-- one message at a brick whose lookup is document 001's
unfoldable pub outcome_of001 : Settings → ℕ → List ℕ → Message → (block old out : List ℕ) → Outcome
outcome_of001 s b row msg block old out =
    looked_up msg.max (row_outcome s b row msg block old out) out (parse s b (image_at s msg.stripe row))

-- runs with such bricks
unfoldable pub arriving_of001 : (s : Settings) → World → Item → Moved s
arriving_of001 s w (message b msg block old) =
    cond (w.up b) (received s w b (outcome_of001 s b (w.images b) msg block old (replicate s.size 0))) (unmoved s w)
arriving_of001 s w (reply r block) = arriving s w (reply r block)

unfoldable pub arriving_at_of001 : (s : Settings) → World → List Item → ℕ → Moved s
arriving_at_of001 s w [] k = unmoved s w
arriving_at_of001 s w (i ∷ is) zero = arriving_of001 s w i
arriving_at_of001 s w (i ∷ is) (suc k) = arriving_at_of001 s w is k

unfoldable pub step_of001 : (s : Settings) → World → Event → Moved s
step_of001 s w (arrives k) = arriving_at_of001 s w w.sent k
step_of001 s w (start_write c number reading content) = step s w (start_write c number reading content)
step_of001 s w (start_read c number reading first) = step s w (start_read c number reading first)
step_of001 s w (start_write_block c number reading block content) = step s w (start_write_block c number reading block content)
step_of001 s w (start_read_block c number reading block) = step s w (start_read_block c number reading block)
step_of001 s w (crashes c left) = step s w (crashes c left)
step_of001 s w (goes_down b) = step s w (goes_down b)
step_of001 s w (comes_up b) = step s w (comes_up b)

unfoldable pub run_from_of001 : (s : Settings) → Moved s → List Event → Moved s
run_from_of001 s r [] = r
run_from_of001 s r (e ∷ es) = run_from_of001 s (joined s r (step_of001 s r.world e)) es

unfoldable pub run_of001 : (s : Settings) → List Event → Moved s
run_of001 s events = run_from_of001 s (unmoved s (fresh_set s)) events

-- what is seen, if the read gives this
unfoldable pub seen_giving : List ℕ → List (Seen (plain five_of_seven))
seen_giving given =
    Seen.began 16 (write_block 2 (9 ∷ []))
    ∷ Seen.ended 16 (finished ok)
    ∷ Seen.began 33 read
    ∷ Seen.ended 33 (finished (bytes given))
    ∷ []

-- The finished block write stays,
abbrev pub FinishedBlockWriteStays : Type 0
FinishedBlockWriteStays = (run five_of_seven (five_of_seven_events ++ storing)).seen 0 ≡ seen_giving (0 ∷ 0 ∷ 9 ∷ 0 ∷ 0 ∷ [])

-- and with document 001's lookup the recovery undoes it.
abbrev pub LookupOf001UndoesIt : Type 0
LookupOf001UndoesIt = (run_of001 five_of_seven (five_of_seven_events ++ one_round_more)).seen 0 ≡ seen_giving (0 ∷ 0 ∷ 0 ∷ 0 ∷ 0 ∷ [])

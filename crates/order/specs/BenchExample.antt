-- Document 01's bench case as a history: a write is cut short with one brick stored, two reads after it give zeros.
-- Facts stand newest first. Its lines are quoted: "set 3 1 1 4", 3 bricks and 1 data block of 1 byte; ..
use Rattle.std.specs.Prelude.{◌≡◌, List, [], ◌∷◌, ℕ}
use Rattle.std.proofs.Common.{lit≤}
use Rattle.order.specs.Claim.{Plain, Blocks, stripe, read, write, bytes, Ending, finished, Seen, OneOrder}
use Rattle.order.specs.Facts.{itself, over, began, promised, launched, stored, showed, ended, recovered, cut, History, seen}
use Rattle.order.specs.Quorums.{Quorums}
use Rattle.order.specs.Valid.{Valid}

abbrev pub three : Quorums
three = record { n = 3; m = 1; q = 2; share = lit≤ tt; some = lit≤ tt }

-- of one block, the block is the stripe
abbrev pub whole : Blocks (List ℕ) (List ℕ)
whole = record { at = λ j s. s; set = λ j b s. b }

abbrev pub one_byte : Plain
one_byte = stripe whole (0 ∷ [])

abbrev pub nought : List ℕ
nought = 0 ∷ []

abbrev pub ten : List ℕ
ten = 10 ∷ []

-- "write 0 1 0a; carry 1 4 2 5 6; crash 0": two bricks promise 16, brick 0 stores it
abbrev pub cut_short : History one_byte
cut_short = ended 16 cut ∷ stored 0 16 ∷ launched 16 itself ∷ promised 1 16 ∷ promised 0 16 ∷ began 16 (write ten) ∷ []

-- "down 0; read 1 2 1; carry 11 13 12 14 16 18 17 19": brick 1 says no, brick 2 shows 0; both promise 33 and give time 0
abbrev pub reading : History one_byte
reading = launched 33 (over 0) ∷ promised 2 33 ∷ promised 1 33 ∷ showed 2 33 0 ∷ began 33 read ∷ cut_short

-- "carry 21 23 22 24"
abbrev pub first_read : History one_byte
first_read = ended 33 (recovered (bytes nought)) ∷ stored 2 33 ∷ stored 1 33 ∷ reading

-- "up 0; read 1 3 0; carry 28 31 29 32 33 36 34 37": brick 0 shows 16 and brick 1 shows 33; 33 is the higher
abbrev pub reading_again : History one_byte
reading_again = launched 49 (over 33) ∷ promised 1 49 ∷ promised 0 49 ∷ showed 1 49 33 ∷ showed 0 49 16 ∷ began 49 read ∷ first_read

-- "carry 38 41 39 42"
abbrev pub bench_history : History one_byte
bench_history = ended 49 (recovered (bytes nought)) ∷ stored 1 49 ∷ stored 0 49 ∷ reading_again

abbrev pub BenchIsValid : Type 0
BenchIsValid = Valid three bench_history

-- What is seen of it: the bench prints these ends.
abbrev pub BenchIsSeen : Type 0
BenchIsSeen =
    seen bench_history
    ≡ Seen.began 16 (write ten) ∷ Seen.ended 16 Ending.cut
    ∷ Seen.began 33 read ∷ Seen.ended 33 (finished (bytes nought))
    ∷ Seen.began 49 read ∷ Seen.ended 49 (finished (bytes nought)) ∷ []

-- The order: the write is nowhere, the two reads stand in turn.
abbrev pub BenchHasOneOrder : Type 0
BenchHasOneOrder =
    (o : OneOrder one_byte (seen bench_history)) × (o.order ≡ record { time = 33; kind = read } ∷ record { time = 49; kind = read } ∷ [])

-- What the inner workers of this crate ask and give.
use Rattle.std.specs.Prelude.{List, ℕ, ◌+◌, ◌*◌, ◌≡◌, length}
use Rattle.bench_print.specs.Printing.{most_decimals, printed_into}
use Rattle.bench_limits.specs.Limits.{stripe_room}

-- room for a number and a space, for a kind and a space, for a letter and a space, for an end and a newline, and for a whole line of them
abbrev pub number_room : ℕ
number_room = most_decimals + 1

abbrev pub kind_room : ℕ
kind_room = 6

abbrev pub letter_room : ℕ
letter_room = 2

abbrev pub end_room : ℕ
end_room = 2 * stripe_room + 1

abbrev pub ended_room : ℕ
ended_room = number_room + kind_room + number_room + letter_room + end_room

-- A text was written from a place on, and the next place is past it.
pub record PrintedAt (at : ℕ) (text old out : List ℕ) (next : ℕ) : Type 0 where
  pub next-is : next ≡ at + length text
  pub holds : out ≡ printed_into at text old

-- What the code's answer stands for, and what a caller has of it.
use Rattle.std.specs.Prelude.{◌≡◌, true, false, cond, List, [], ◌∷◌, ℕ, suc, ◌+◌, ◌≤◌, ◌<◌, leb, eqb, length, drop, get_or}
use Rattle.std.specs.Prelude.{Bool, ◌&&◌, Option, Some, None}
use Rattle.bench_parse.specs.Lines.{every, longest, space, words, number_word, value_of, numbers_of, hex_word, are_numbers, number_in}
use Rattle.bench_parse.specs.Lines.{is_digit, is_lower, is_upper}
use Rattle.bench_parse.specs.Lines.{Line, set_line, write_line, read_line, carry_line, crash_line, down_line, up_line, no_line}
use Rattle.bench_parse.specs.declared.Line as code
use Rattle.bench_parse.specs.declared.Line.TheVariants.{Set, Write, Read, Carry, Crash, Down, Up, Unread}
use Rattle.bench_parse.specs.declared.Number.{Number}

-- the words of a line from a place on, none behind its end
unfoldable pub words_from : List ℕ → ℕ → List (List ℕ)
words_from l at = cond (leb at (length l)) (words (drop at l)) []

-- An answer names the place where a write's hex word, or the first number of a carry, begins.
unfoldable pub line_of : code.Line → List ℕ → Line
line_of (Set n m size capacity) l = set_line n m size capacity
line_of (Write c clock at) l = write_line c clock (drop at l)
line_of (Read c clock brick) l = read_line c clock brick
line_of (Carry at) l = carry_line (numbers_of (words (drop at l)))
line_of (Crash c) l = crash_line c
line_of (Down b) l = down_line b
line_of (Up b) l = up_line b
line_of Unread l = no_line

-- the numbers of a carry line begin behind its first word, of five letters, and a space
abbrev pub after_carry : ℕ
after_carry = 6

-- from that place on a carry line has numbers, one or more
pub record CarryFrom (l : List ℕ) (at : ℕ) : Type 0 where
  pub within : at ≤ length l
  pub after : after_carry ≤ at
  pub short : length l ≤ longest
  pub numbers : every number_word (words (drop at l)) ≡ true

-- from that place on a write line has a hex word
pub record HexFrom (l : List ℕ) (at : ℕ) : Type 0 where
  pub within : at ≤ length l
  pub short : length l ≤ longest
  pub digits : hex_word (drop at l) ≡ true

-- the place that an answer names is such a place
unfoldable pub LineSound : code.Line → List ℕ → Type 0
LineSound (Set n m size capacity) l = Unit {0}
LineSound (Write c clock at) l = HexFrom l at
LineSound (Read c clock brick) l = Unit {0}
LineSound (Carry at) l = CarryFrom l at
LineSound (Crash c) l = Unit {0}
LineSound (Down b) l = Unit {0}
LineSound (Up b) l = Unit {0}
LineSound Unread l = Unit {0}

-- a number of a carry line, and what follows it
pub record NumberAt (l : List ℕ) (at : ℕ) (r : Number) : Type 0 where
  pub starts : at < r.end
  pub ends : r.end ≤ length l
  pub splits : numbers_of (words (drop at l)) ≡ r.value ∷ numbers_of (words_from l (r.end + 1))
  pub later : r.end < length l → CarryFrom l (r.end + 1)

-- The loop over the numbers, `while at <= line.len()`: what is left of them from a place on.
pub record CarryRest (l : List ℕ) (at : ℕ) : Type 0 where
  pub high : at ≤ length l + 1
  pub begins : at ≤ length l → CarryFrom l at

-- what the line is: one that does not read, where nothing was read
abbrev pub read_or_not : Option code.Line → code.Line
read_or_not None = Unread
read_or_not (Some r) = r

-- an answer, with what the line says
pub record ReadAs (r : Option code.Line) (l : List ℕ) (said : Line) : Type 0 where
  pub meaning : line_of (read_or_not r) l ≡ said
  pub sound : LineSound (read_or_not r) l

-- the bytes before the next space
unfoldable pub word_length : List ℕ → ℕ
word_length [] = 0
word_length (x ∷ t) = cond (eqb x space) 0 (suc (word_length t))

-- whether the first word is a number
unfoldable pub starts_number : List (List ℕ) → Bool
starts_number [] = false
starts_number (w ∷ ws) = number_word w

-- the words after the first
unfoldable pub others : List (List ℕ) → List (List ℕ)
others [] = []
others (w ∷ ws) = ws

-- a number read off the front of the words from a place on: its value, and where the words that follow begin
pub record NumberTaken (l : List ℕ) (at : ℕ) (r : Number) : Type 0 where
  pub starts : starts_number (words_from l at) ≡ true
  pub rest-is : words_from l (r.end + 1) ≡ others (words_from l at)
  pub value-is : r.value ≡ number_in (words_from l at) 0
  pub low : at < r.end
  pub high : r.end ≤ length l

-- a number looked for at a place of a line
abbrev pub NumberFrom : List ℕ → ℕ → Option Number → Type 0
NumberFrom l at None = starts_number (words_from l at) ≡ false
NumberFrom l at (Some r) = NumberTaken l at r

-- a word read as a number
unfoldable pub number_read : List ℕ → Option ℕ
number_read w = cond (number_word w) (Some (value_of w)) None

-- the only word left, read as a number
unfoldable pub lone_number : List (List ℕ) → Option ℕ
lone_number ws = cond (are_numbers 1 ws) (Some (number_in ws 0)) None

-- what every reader is given: the place of a word, or the one behind the end
pub record Place (l : List ℕ) (at : ℕ) : Type 0 where
  pub high : at ≤ length l + 1
  pub short : length l ≤ longest

-- one word, a hex word
unfoldable pub hex_alone : List (List ℕ) → Bool
hex_alone ws = eqb (length ws) 1 && hex_word (get_or ws 0 [])

-- whether the rest of a line from a place on is one
pub record HexesFrom (l : List ℕ) (at : ℕ) (r : Bool) : Type 0 where
  pub tests : r ≡ hex_alone (words_from l at)
  pub within : r ≡ true → at ≤ length l
  pub digits : r ≡ true → hex_word (drop at l) ≡ true
  pub only : r ≡ true → words_from l at ≡ drop at l ∷ []

-- digits and letters, opened
unfoldable pub digits : Unit {0}
unfolding is_digit is_lower is_upper
digits = tt

-- Document 01, "The bench": the lines, as lists of bytes without the newline.
use Rattle.std.specs.Prelude.{Bool, true, cond, ◌&&◌, ◌||◌, List, [], ◌∷◌, map, ℕ, ◌+◌, ◌-◌, ◌*◌, eqb, leb, length, get_or}
use Rattle.byte_lists.specs.Lists.{same}

-- whether a test holds of each entry
unfoldable pub every : {A : Type 0} → (A → Bool) → List A → Bool
every p [] = true
every p (x ∷ xs) = p x && every p xs

-- "a line has up to 1,000 bytes"
abbrev pub longest : ℕ
longest = 1000

-- so many bytes of a line are enough to tell that it is too long
abbrev pub held_length : ℕ
held_length = longest + 1

abbrev pub space : ℕ
space = 32

-- a byte more at the front of the first word
unfoldable pub longer : ℕ → List (List ℕ) → List (List ℕ)
longer x [] = (x ∷ []) ∷ []
longer x (w ∷ ws) = (x ∷ w) ∷ ws

-- "Words stand one space apart": the line cut at each space. Two spaces have an empty word between them, and that reads as nothing.
unfoldable pub words : List ℕ → List (List ℕ)
words [] = [] ∷ []
words (x ∷ l) = cond (eqb x space) ([] ∷ words l) (longer x (words l))

-- '0' to '9'
unfoldable pub is_digit : ℕ → Bool
is_digit x = leb 48 x && leb x 57

-- "a number has 1 to 19 digits"
abbrev pub most_digits : ℕ
most_digits = 19

unfoldable pub number_word : List ℕ → Bool
number_word w = leb 1 (length w) && leb (length w) most_digits && every is_digit w

-- the digits' value, after those that have the value v
unfoldable pub value_after : ℕ → List ℕ → ℕ
value_after v [] = v
value_after v (x ∷ w) = value_after (v * 10 + (x - 48)) w

unfoldable pub value_of : List ℕ → ℕ
value_of w = value_after 0 w

unfoldable pub numbers_of : List (List ℕ) → List ℕ
numbers_of ws = map value_of ws

-- 'a' to 'f', 'A' to 'F'
unfoldable pub is_lower : ℕ → Bool
is_lower x = leb 97 x && leb x 102

unfoldable pub is_upper : ℕ → Bool
is_upper x = leb 65 x && leb x 70

-- "hex is of either case"
unfoldable pub is_hex : ℕ → Bool
is_hex x = is_digit x || is_lower x || is_upper x

-- below 16 for every byte; 0 for one that is no hex digit
unfoldable pub hex_value : ℕ → ℕ
hex_value x = cond (is_digit x) (x - 48) (cond (is_lower x) (x - 87) (cond (is_upper x) (x - 55) 0))

unfoldable pub hex_word : List ℕ → Bool
hex_word w = leb 1 (length w) && every is_hex w

-- two hex digits a byte
unfoldable pub bytes_of : List ℕ → List ℕ
bytes_of [] = []
bytes_of (a ∷ []) = []
bytes_of (a ∷ b ∷ w) = (hex_value a * 16 + hex_value b) ∷ bytes_of w

-- What a line says. A write's digits are the hex characters as they stand.
pub data Line : Type 0 where
  set_line : (n m size capacity : ℕ) → Line
  write_line : (c clock : ℕ) (digits : List ℕ) → Line
  read_line : (c clock brick : ℕ) → Line
  carry_line : (messages : List ℕ) → Line
  crash_line : (c : ℕ) → Line
  down_line : (b : ℕ) → Line
  up_line : (b : ℕ) → Line
  no_line : Line

-- exactly k words, each a number
unfoldable pub are_numbers : ℕ → List (List ℕ) → Bool
are_numbers k ws = eqb (length ws) k && every number_word ws

-- the number in word i
unfoldable pub number_in : List (List ℕ) → ℕ → ℕ
number_in ws i = value_of (get_or ws i [])

-- Each line by the words after its first.
-- "`set n m size capacity`"
unfoldable pub set_of : List (List ℕ) → Line
set_of ws = cond (are_numbers 4 ws) (set_line (number_in ws 0) (number_in ws 1) (number_in ws 2) (number_in ws 3)) no_line

-- "`write c clock hex`"
unfoldable pub write_words : List (List ℕ) → Bool
write_words ws = eqb (length ws) 3 && number_word (get_or ws 0 []) && number_word (get_or ws 1 []) && hex_word (get_or ws 2 [])

unfoldable pub write_of : List (List ℕ) → Line
write_of ws = cond (write_words ws) (write_line (number_in ws 0) (number_in ws 1) (get_or ws 2 [])) no_line

-- "`read c clock brick`"
unfoldable pub read_of : List (List ℕ) → Line
read_of ws = cond (are_numbers 3 ws) (read_line (number_in ws 0) (number_in ws 1) (number_in ws 2)) no_line

-- "`carry` takes one number or more"
unfoldable pub carry_of : List (List ℕ) → Line
carry_of ws = cond (leb 1 (length ws) && every number_word ws) (carry_line (numbers_of ws)) no_line

-- "`crash c`, `down b`, `up b`"
unfoldable pub one_of : (ℕ → Line) → List (List ℕ) → Line
one_of make ws = cond (are_numbers 1 ws) (make (number_in ws 0)) no_line

-- the first words
unfoldable pub set_text : List ℕ
set_text = 115 ∷ 101 ∷ 116 ∷ []

unfoldable pub write_text : List ℕ
write_text = 119 ∷ 114 ∷ 105 ∷ 116 ∷ 101 ∷ []

unfoldable pub read_text : List ℕ
read_text = 114 ∷ 101 ∷ 97 ∷ 100 ∷ []

unfoldable pub carry_text : List ℕ
carry_text = 99 ∷ 97 ∷ 114 ∷ 114 ∷ 121 ∷ []

unfoldable pub crash_text : List ℕ
crash_text = 99 ∷ 114 ∷ 97 ∷ 115 ∷ 104 ∷ []

unfoldable pub down_text : List ℕ
down_text = 100 ∷ 111 ∷ 119 ∷ 110 ∷ []

unfoldable pub up_text : List ℕ
up_text = 117 ∷ 112 ∷ []

unfoldable pub command_of : List ℕ → List (List ℕ) → Line
command_of w ws =
    cond (same w set_text) (set_of ws)
    (cond (same w write_text) (write_of ws)
    (cond (same w read_text) (read_of ws)
    (cond (same w carry_text) (carry_of ws)
    (cond (same w crash_text) (one_of crash_line ws)
    (cond (same w down_text) (one_of down_line ws)
    (cond (same w up_text) (one_of up_line ws) no_line))))))

unfoldable pub reads_words : List (List ℕ) → Line
reads_words [] = no_line
reads_words (w ∷ ws) = command_of w ws

-- "any other line, a blank one too, doesn't read"
unfoldable pub reads : List ℕ → Line
reads l = cond (leb (length l) longest) (reads_words (words l)) no_line

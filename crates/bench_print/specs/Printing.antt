-- Document 01, "The bench": "It prints per ended operation: coordinator, kind, time, then ok, the stripe in lower-case hexadecimal,
-- abort or cut; per refusal, `refused` and the number". Document 02, E5: "The letter stands after the time in each bench line". A text is the
-- list of its bytes.
use Rattle.std.specs.Prelude.{Bool, false, cond, List, [], ◌∷◌, ◌++◌, ℕ, zero, suc, ◌+◌, ◌/◌, ◌%◌, eqb, ltb, leb}
use Rattle.byte_lists.specs.Lists.{put}
use Rattle.coord_record.specs.Records.{reading_kind}
use Rattle.coord_apply.specs.Answers.{ok_seen, read_seen, aborted_seen, cut_seen}
use Rattle.coord_apply.specs.declared.Notice.{Notice}

-- a space, and the end of a line
abbrev pub space : ℕ
space = 32

abbrev pub newline : ℕ
newline = 10

-- "refused"
unfoldable pub refused_word : List ℕ
refused_word = 114 ∷ 101 ∷ 102 ∷ 117 ∷ 115 ∷ 101 ∷ 100 ∷ []

-- "read"
unfoldable pub read_word : List ℕ
read_word = 114 ∷ 101 ∷ 97 ∷ 100 ∷ []

-- "write"
unfoldable pub write_word : List ℕ
write_word = 119 ∷ 114 ∷ 105 ∷ 116 ∷ 101 ∷ []

-- "ok"
unfoldable pub ok_word : List ℕ
ok_word = 111 ∷ 107 ∷ []

-- "abort"
unfoldable pub abort_word : List ℕ
abort_word = 97 ∷ 98 ∷ 111 ∷ 114 ∷ 116 ∷ []

-- "cut"
unfoldable pub cut_word : List ℕ
cut_word = 99 ∷ 117 ∷ 116 ∷ []

-- a digit: "0" is 48
abbrev pub digit : ℕ → ℕ
digit k = 48 + k

-- the digits of a number without leading zeros, at most as many as the fuel
unfoldable pub digits_from : ℕ → ℕ → List ℕ
digits_from zero k = []
digits_from (suc fuel) k = cond (ltb k 10) (digit k ∷ []) (digits_from fuel (k / 10) ++ digit (k % 10) ∷ [])

-- so many digits are enough for 64 bits
abbrev pub most_decimals : ℕ
most_decimals = 20

-- a number in decimal
unfoldable pub decimal : ℕ → List ℕ
decimal k = digits_from most_decimals k

-- a hexadecimal digit: "0" is 48, "a" is 97, which is 87 + 10
unfoldable pub hex_digit : ℕ → ℕ
hex_digit k = cond (ltb k 10) (48 + k) (87 + k)

-- two digits a byte
unfoldable pub hex_text : List ℕ → List ℕ
hex_text [] = []
hex_text (b ∷ bytes) = hex_digit (b / 16) ∷ hex_digit (b % 16) ∷ hex_text bytes

-- the line of a refusal
unfoldable pub refused_text : ℕ → List ℕ
refused_text k = refused_word ++ space ∷ decimal k ++ newline ∷ []

unfoldable pub kind_word : ℕ → List ℕ
kind_word kind = cond (eqb kind reading_kind) read_word write_word

-- how an operation ended: ok, the stripe read, aborted, or cut
unfoldable pub end_word : ℕ → List ℕ → List ℕ
end_word what stripe =
    cond (eqb what ok_seen) ok_word
    (cond (eqb what read_seen) (hex_text stripe) (cond (eqb what aborted_seen) abort_word cut_word))

-- the line of an operation that ended
unfoldable pub line_text : (c kind time letter what : ℕ) → List ℕ → List ℕ
line_text c kind time letter what stripe =
    decimal c ++ space ∷ kind_word kind ++ space ∷ decimal time ++ space ∷ letter ∷ space ∷ end_word what stripe ++ newline ∷ []

-- whether what is seen is the end of an operation: neither nothing nor a beginning
unfoldable pub is_end : ℕ → Bool
is_end what = cond (ltb what ok_seen) false (leb what cut_seen)

-- what is printed at the coordinator c
unfoldable pub ended_text : ℕ → Notice → List ℕ → List ℕ
ended_text c seen stripe = cond (is_end seen.what) (line_text c seen.kind seen.time seen.letter seen.what stripe) []

-- a list with a text in place of what it had from a place on
abbrev pub printed_into : ℕ → List ℕ → List ℕ → List ℕ
printed_into at text old = put at text old

-- Document 01, "The bench": "`bench` reads standard input", in chunks, and cuts it into lines.
use Rattle.std.specs.Prelude.{◌≡◌, Bool, true, false, cond, ◌||◌, List, [], ◌∷◌, ◌++◌, ℕ, ◌+◌, ◌-◌, ◌≤◌, eqb, ltb, length, take, drop}
use Rattle.byte_lists.specs.Lists.{put}
use Rattle.bench_parse.specs.Lines.{longer}
use Rattle.bench_print.specs.Printing.{newline}
use Rattle.bench_lines.specs.declared.Cut.{Cut}

-- "one line each": the input cut at each newline. A last line without a newline is a line, a newline at the very end starts no further line,
-- and empty input has no line.
unfoldable pub lines : List ℕ → List (List ℕ)
lines [] = []
lines (x ∷ l) = cond (eqb x newline) ([] ∷ lines l) (longer x (lines l))

-- the bytes before the first newline, or all of them
unfoldable pub before_newline : List ℕ → List ℕ
before_newline [] = []
before_newline (x ∷ l) = cond (eqb x newline) [] (x ∷ before_newline l)

unfoldable pub has_newline : List ℕ → Bool
has_newline [] = false
has_newline (x ∷ l) = eqb x newline || has_newline l

-- how many bytes are done with: those before the newline, and the newline
unfoldable pub done_with : List ℕ → ℕ
done_with l = length (before_newline l) + cond (has_newline l) 1 0

-- what a line of so much room, of which some is taken, takes of these bytes
abbrev pub fitting : ℕ → ℕ → List ℕ → List ℕ
fitting room held bytes = take (room - held) bytes

-- One call of `cut_line`, for the rest of a chunk from a place on and a line of which some bytes are held: where the chunk goes on, how many
-- bytes of the line are held then, whether a newline ended it, and the line's buffer.
pub record CutOff (rest : List ℕ) (from : ℕ) (line : List ℕ) (held : ℕ) (r : Cut) (line' : List ℕ) : Type 0 where
  pub next-is : r.next ≡ from + done_with rest
  pub held-is : r.held ≡ held + length (fitting (length line) held (before_newline rest))
  pub whole_is : r.whole ≡ has_newline rest
  pub line-is : line' ≡ put held (fitting (length line) held (before_newline rest)) line

-- Calls for one chunk, from a line's buffer, the bytes held of it and a place in the chunk to others, and the lines handed on: of each line that
-- a newline ended the bytes that are held. The next line starts with none.
pub data Cuts (chunk : List ℕ) : List ℕ → ℕ → ℕ → List (List ℕ) → List ℕ → ℕ → ℕ → Type 0 where
  none : (line : List ℕ) (held at : ℕ) → Cuts chunk line held at [] line held at
  part : {line line'' : List ℕ} {held held'' at at'' : ℕ} {handed : List (List ℕ)} (r : Cut) (line' : List ℕ)
      → CutOff (drop at chunk) at line held r line' → r.whole ≡ false → Cuts chunk line' r.held r.next handed line'' held'' at''
      → Cuts chunk line held at handed line'' held'' at''
  whole : {line line'' : List ℕ} {held held'' at at'' : ℕ} {handed : List (List ℕ)} (r : Cut) (line' : List ℕ)
      → CutOff (drop at chunk) at line held r line' → r.whole ≡ true → Cuts chunk line' 0 r.next handed line'' held'' at''
      → Cuts chunk line held at (take r.held line' ∷ handed) line'' held'' at''

-- at the end of the input: bytes that are held are a last line
unfoldable pub last_line : List ℕ → ℕ → List (List ℕ)
last_line line held = cond (ltb 0 held) (take held line ∷ []) []

-- The chunks of an input, one after the other, each from its start to its end; and all that is handed on.
pub data HandedOn : List ℕ → ℕ → List (List ℕ) → List (List ℕ) → Type 0 where
  ended : (line : List ℕ) (held : ℕ) → HandedOn line held [] (last_line line held)
  chunk : {line line' : List ℕ} {held held' at : ℕ} {bytes : List ℕ} {chunks first rest : List (List ℕ)}
      → Cuts bytes line held 0 first line' held' at → length bytes ≤ at → HandedOn line' held' chunks rest
      → HandedOn line held (bytes ∷ chunks) (first ++ rest)

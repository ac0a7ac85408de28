-- Document 01, "The bench": "`bench` reads standard input", line by line, and plays each line on what the lines before it left.
use Rattle.std.specs.Prelude.{List, [], ◌∷◌, ◌++◌, ℕ}
use Rattle.bench_parse.specs.Lines.{reads}
use Rattle.bench_lines.specs.Cutting.{lines}
use Rattle.bench_rules.specs.Play.{Stage, waiting, Turn, turn}

-- nothing is played
unfoldable pub stays : Stage → Turn
stays stage = record { stage = stage; events = []; printed = [] }

-- one turn after the other: their events and what they print, in order
unfoldable pub follows : Turn → Turn → Turn
follows t u = record { stage = u.stage; events = t.events ++ u.events; printed = t.printed ++ u.printed }

-- each line as it reads, refused ones too: the bench "plays on"
unfoldable pub plays_lines : Stage → List (List ℕ) → Turn
plays_lines stage [] = stays stage
plays_lines stage (l ∷ ls) = follows (turn stage (reads l)) (plays_lines (turn stage (reads l)).stage ls)

-- the whole input, from the bench without a set
unfoldable pub script : List ℕ → Turn
script input = plays_lines waiting (lines input)

-- Document 01, "The bench": "`bench` reads standard input", line by line. Whoever cuts an input by calls of `bench_lines::cut_line`, in whatever
-- chunks it was read, hands on its lines, in order and each once.
use Rattle.std.specs.Prelude.{◌≡◌, ℕ, length, take}
use mathlib.Core.List.{List, map, flatten}
use Rattle.bench_parse.specs.Lines.{held_length}
use Rattle.bench_lines.specs.Cutting.{lines, HandedOn}

-- From an empty line of 1,001 bytes: the first 1,001 bytes of each line of the input.
abbrev pub CuttingGivesTheLines : Type 0
CuttingGivesTheLines =
    (line : List ℕ) (chunks handed : List (List ℕ)) → length line ≡ held_length → HandedOn line 0 chunks handed
    → handed ≡ map (take held_length) (lines (flatten chunks))

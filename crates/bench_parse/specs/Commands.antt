-- A line by its first word.
use Rattle.std.specs.Prelude.{cond, List, ℕ, ◌≤◌, Option, Some, None}
use Rattle.bench_parse.specs.Lines.{Line, crash_line, down_line, up_line, set_of, write_of, read_of, carry_of, one_of}
use Rattle.bench_parse.specs.Lines.{set_text, write_text, read_text, carry_text, crash_text, down_text, up_text}
use Rattle.bench_parse.specs.Workers.{after_carry}
use Rattle.bench_parse.specs.declared.Command.{Command}
use Rattle.bench_parse.specs.declared.Command.TheVariants.{Set, Write, Read, Carry, Crash, Down, Up}
use Rattle.byte_lists.specs.Lists.{same}

-- the first word as a command, if it is one
unfoldable pub command_in : List ℕ → Option Command
command_in w =
    cond (same w set_text) (Some Set)
    (cond (same w write_text) (Some Write)
    (cond (same w read_text) (Some Read)
    (cond (same w carry_text) (Some Carry)
    (cond (same w crash_text) (Some Crash) (cond (same w down_text) (Some Down) (cond (same w up_text) (Some Up) None))))))

-- what a line of a command says, by the words after its first
unfoldable pub by_command : Command → List (List ℕ) → Line
by_command Set ws = set_of ws
by_command Write ws = write_of ws
by_command Read ws = read_of ws
by_command Carry ws = carry_of ws
by_command Crash ws = one_of crash_line ws
by_command Down ws = one_of down_line ws
by_command Up ws = one_of up_line ws

-- the place behind the first word and a space
abbrev pub Follows : Command → ℕ → Type 0
Follows Set at = Unit {0}
Follows Write at = Unit {0}
Follows Read at = Unit {0}
Follows Carry at = after_carry ≤ at
Follows Crash at = Unit {0}
Follows Down at = Unit {0}
Follows Up at = Unit {0}

-- the first words, opened
unfoldable pub command_texts : Unit {0}
unfolding command_in set_text write_text read_text carry_text crash_text down_text up_text
command_texts = tt

-- Document 01, "The bench": "It prints per ended operation: coordinator, kind, time, then ok, the stripe in lower-case hexadecimal, abort or
-- cut". Document 02, E5: "The letter stands after the time in each bench line". Here that line
-- is made from what is seen of a run alone, by the words of the claim of one order, and from the letter of the event.
use Rattle.std.specs.Prelude.{List, [], ◌∷◌, ◌++◌, ℕ}
use Rattle.settings.specs.declared.Settings.{Settings}
use Rattle.order.specs.Claim.{Result, ok, bytes, Ending, finished, aborted, cut}
use Rattle.register.specs.Runs.{plain}
use Rattle.bench_print.specs.Printing.{space, newline, read_word, write_word, ok_word, abort_word, cut_word, decimal, hex_text, kind_word}

-- "coordinator, kind, time", the letter, and how it ended
unfoldable pub end_line : ℕ → List ℕ → (time letter : ℕ) → List ℕ → List ℕ
end_line c word time letter how = decimal c ++ space ∷ word ++ space ∷ decimal time ++ space ∷ letter ∷ space ∷ how ++ newline ∷ []

-- the line of an operation that ended; what is finished with ok is a write, what gave bytes a read, and of any other the kind is told
-- (no line starts an operation on one block, so none ends with a block)
unfoldable pub told_end : (s : Settings) → (c kind time letter : ℕ) → Ending (plain s) → List ℕ
told_end s c kind time letter (finished ok) = end_line c write_word time letter ok_word
told_end s c kind time letter (finished (bytes l)) = end_line c read_word time letter (hex_text l)
told_end s c kind time letter (finished (Result.block l)) = end_line c read_word time letter (hex_text l)
told_end s c kind time letter aborted = end_line c (kind_word kind) time letter abort_word
told_end s c kind time letter cut = end_line c (kind_word kind) time letter cut_word

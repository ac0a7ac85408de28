-- What the program's own functions give. That `read` fills the chunk with the input's next bytes, and that `write` writes out the text that it is
-- handed, no contract can say of the process's own streams. Nor can a function's contract name what a call inside it answered: `turn` takes
-- `read`'s answer as a parameter, and of all turns, and of the program, it is said that there are answers with which they are such a chain.
use Rattle.std.specs.Prelude.{◌≡◌, ◌↔◌, Bool, true, false, cond, IsTrue, MatchOption, List, [], ◌∷◌, ◌++◌, ℕ, zero, suc, ◌≤◌, ℤ, pos, negsuc, length, take}
use Rattle.std.specs.IoError.{error_kind, raw_os_error}
use Rattle.std.specs.declared.io.Error.{Error}
use Rattle.std.specs.declared.io.ErrorKind.TheVariants.{Interrupted}
use Rattle.bench_io.specs.Counts.{Moved}
use Rattle.bench_parse.specs.Lines.{held_length}
use Rattle.bench_lines.specs.Cutting.{Cuts, last_line}
use Rattle.bench_player.specs.Calls.{Calls}
use Rattle.bench_player.specs.Lining.{stage_of, bench_refused}
use Rattle.bench_limits.specs.Limits.{kept_length, images_length, numbers_length, bytes_length, text_length}
use Rattle.register.specs.Runs.{Event}
use Rattle.bench_rules.specs.Play.{waiting}
use Rattle.bench_rules.specs.Turning.{Lent}
use Rattle.bench_state.specs.declared.Bench.{Bench}
use Rattle.bench_io.specs.declared.Pass.{Pass}
use Rattle.bench_io.specs.declared.Answer as code
use Rattle.bench_io.specs.declared.Answer.TheVariants as answer
use Rattle.bench_io.specs.declared.Standing.{Standing}
use Rattle.bench_io.specs.declared.Standing.TheVariants as standing

-- How the program stands: it goes on; it is at the end of the input; reading failed, or writing did.
abbrev pub goes_on : Standing
goes_on = standing.GoesOn

abbrev pub at_end : Standing
at_end = standing.Ended

abbrev pub cannot_read : Standing
cannot_read = standing.CannotRead

abbrev pub cannot_write : Standing
cannot_write = standing.CannotWrite

-- how it stands after `write` took a text, or did not
unfoldable pub write_status : Bool → Standing
write_status written = cond written goes_on cannot_write

-- the system's number for an error where a signal interrupted a call (EINTR)
abbrev pub interrupted_error : ℤ
interrupted_error = pos 4

-- whether errno says so
pub record Interrupts (error : ℤ) (r : Bool) : Type 0 where
  pub only : r ≡ true → error ≡ interrupted_error
  pub always : error ≡ interrupted_error → r ≡ true

-- whether an error of std's says so: by its number, or where it is not the system's and has none, by its kind
abbrev pub TellsInterrupt : Error → Bool → Type 0
TellsInterrupt error r = MatchOption (raw_os_error error) (IsTrue r ↔ (error_kind error ≡ Interrupted)) (λ number. Interrupts number r)

-- How it stands after a call of `read`, by its answer: some bytes came; 0, the end of the input; -1, a call that a signal interrupted, which is
-- made again, or one that failed.
unfoldable pub read_status : ℤ → (interrupted : Bool) → Standing
read_status (pos zero) interrupted = at_end
read_status (pos (suc k)) interrupted = goes_on
read_status (negsuc k) interrupted = cond interrupted goes_on cannot_read

-- how many bytes came with that answer
unfoldable pub arrived : ℤ → ℕ
arrived (pos k) = k
arrived (negsuc k) = 0

-- what the program leaves with: 0, or 1 where reading or writing failed
abbrev pub failed_status : ℕ
failed_status = 1

unfoldable pub left_with : Standing → ℕ
left_with standing.GoesOn = failed_status
left_with standing.Ended = 0
left_with standing.CannotRead = failed_status
left_with standing.CannotWrite = failed_status

-- how it stands after the last line
abbrev pub after_last : Standing → Standing
after_last standing.GoesOn = at_end
after_last standing.Ended = at_end
after_last standing.CannotRead = cannot_read
after_last standing.CannotWrite = cannot_write

-- What a call of `read` answered, as a number: so many bytes, or -1; and whether a signal interrupted it, so that it is made again.
abbrev pub got_of : code.Answer → ℤ
got_of (answer.Came n) = pos n
got_of answer.Interrupted = negsuc 0
got_of answer.Failed = negsuc 0

abbrev pub tells_again : code.Answer → Bool
tells_again (answer.Came n) = false
tells_again answer.Interrupted = true
tells_again answer.Failed = false

-- The held bytes were played if they are a line, and then the next line holds none yet.
pub record HeldPlayed (ended : Bool) (held : ℕ) (line : List ℕ) (b : Bench) (l : Lent) (out : List ℕ) (r : Pass) (l' : Lent) (out' : List ℕ) : Type 0 where
  pub text : List ℕ
  pub calls : Calls b l out (cond ended (take held line ∷ []) []) text r.bench l' out'
  pub held-is : r.held ≡ cond ended 0 held
  pub written : Bool
  pub status-is : r.status ≡ write_status written

-- A pass over a chunk: cut by `cut_line` from its start on, and each line that is handed on was played, in order; if the program goes on, to
-- the chunk's end.
pub record ChunkPlayed
    (chunk line : List ℕ) (held : ℕ) (b : Bench) (l : Lent) (out : List ℕ) (r : Pass) (line' : List ℕ) (l' : Lent) (out' : List ℕ) : Type 0 where
  pub handed : List (List ℕ)
  pub text : List ℕ
  pub at : ℕ
  pub cut : Cuts chunk line held 0 handed line' r.held at
  pub calls : Calls b l out handed text r.bench l' out'
  pub to_the_end : r.status ≡ goes_on → length chunk ≤ at
  pub written : Bool
  pub status-is : r.status ≡ write_status written
  pub within : r.held ≤ length line'

-- The end of the input: a last line without a newline was played, and no byte is held any more.
pub record PlayedLast (line : List ℕ) (held : ℕ) (b : Bench) (l : Lent) (out : List ℕ) (r : Pass) (l' : Lent) (out' : List ℕ) : Type 0 where
  pub text : List ℕ
  pub calls : Calls b l out (last_line line held) text r.bench l' out'
  pub held-is : r.held ≡ 0
  pub written : Bool
  pub status-is : r.status ≡ cond written at_end cannot_write

-- One turn, by what `read` answered and left in the chunk: the bytes that came were played, none where the call is made again; or the input is
-- at its end, and the last line was played; or reading failed, and nothing changed.
pub data TurnMade (got : ℤ) (interrupted : Bool) (chunk line : List ℕ) (p : Pass) (l : Lent) (out : List ℕ) (r : Pass) : List ℕ → Lent → List ℕ → Type 0 where
  came : {line' : List ℕ} {l' : Lent} {out' : List ℕ} → read_status got interrupted ≡ goes_on
      → ChunkPlayed (take (arrived got) chunk) line p.held p.bench l out r line' l' out' → TurnMade got interrupted chunk line p l out r line' l' out'
  ended : {l' : Lent} {out' : List ℕ} → read_status got interrupted ≡ at_end → PlayedLast line p.held p.bench l out r l' out'
      → TurnMade got interrupted chunk line p l out r line l' out'
  failed : read_status got interrupted ≡ cannot_read → r.status ≡ cannot_read → r.bench ≡ p.bench → TurnMade got interrupted chunk line p l out r line l out

-- what a turn handed to `write`
unfoldable pub text_of : {got : ℤ} {interrupted : Bool} {chunk line out line' out' : List ℕ} {p r : Pass} {l l' : Lent}
    → TurnMade got interrupted chunk line p l out r line' l' out' → List ℕ
text_of (came e q) = q.text
text_of (ended e q) = q.text
text_of (failed e s b) = []

-- Turns one after the other, each on what the one before left, and only where the program goes on; of all of them the bytes that came, a chunk for
-- each turn, and what was handed to `write`.
pub data Turns (p₀ : Pass) (line₀ : List ℕ) (l₀ : Lent) (out₀ : List ℕ) : List (List ℕ) → List ℕ → Pass → List ℕ → Lent → List ℕ → Type 0 where
  none : Turns p₀ line₀ l₀ out₀ [] [] p₀ line₀ l₀ out₀
  next : {chunks : List (List ℕ)} {text line line' out out' : List ℕ} {p r : Pass} {l l' : Lent} (got : ℤ) (interrupted : Bool) (chunk : List ℕ)
      → Turns p₀ line₀ l₀ out₀ chunks text p line l out → p.status ≡ goes_on → Moved (length chunk) got
      → (t : TurnMade got interrupted chunk line p l out r line' l' out')
      → Turns p₀ line₀ l₀ out₀ (chunks ++ take (arrived got) chunk ∷ []) (text ++ text_of t) r line' l' out'

-- the number of turns that a run is given: 2^64 - 1
abbrev pub most_turns : ℕ
most_turns = 18446744073709551615

-- All turns, from a bench without a set and no byte held, to the first after which the program does not go on, or to the last that it is given.
pub record Ran (line : List ℕ) (l : Lent) (out : List ℕ) (status : Standing) (l' : Lent) (out' : List ℕ) : Type 0 where
  pub first : Bench
  pub no-set : (k : Lent) (events : List Event) → stage_of first k events ≡ waiting
  pub right : bench_refused first images_length kept_length numbers_length bytes_length text_length ≡ 0
  pub chunks : List (List ℕ)
  pub text : List ℕ
  pub last : Pass
  pub line' : List ℕ
  pub turns : Turns (record { bench = first; held = 0; status = goes_on }) line l out chunks text last line' l' out'
  pub status-is : last.status ≡ status
  pub stopped : status ≡ goes_on → length chunks ≡ most_turns

-- The whole program, on buffers of its own: 0 where it stands at the end of the input, else 1.
pub record RunLeft (left : ℕ) : Type 0 where
  pub line : List ℕ
  pub l : Lent
  pub out : List ℕ
  pub status : Standing
  pub l' : Lent
  pub out' : List ℕ
  pub line-long : length line ≡ held_length
  pub images-long : length l.images ≡ images_length
  pub kept-long : length l.kept ≡ kept_length
  pub numbers-long : length l.numbers ≡ numbers_length
  pub bytes-long : length l.bytes ≡ bytes_length
  pub out-long : length out ≡ text_length
  pub ran : Ran line l out status l' out'
  pub left_is : left ≡ left_with status

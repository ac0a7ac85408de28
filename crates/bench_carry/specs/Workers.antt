-- The loop over the numbers of a carry line.
use Rattle.std.specs.Prelude.{◌≡◌, List, [], ◌++◌, ℕ, ◌+◌, ◌*◌, ◌/◌, ◌≤◌, length}
use Rattle.bench_parse.specs.Workers.{CarryRest, words_from}
use Rattle.bench_parse.specs.Lines.{numbers_of}
use Rattle.bench_rules.specs.Play.{carried_all}
use Rattle.bench_rules.specs.Turning.{Lent, world_in}
use Rattle.bench_rules.specs.Workers.{BenchReady}
use Rattle.bench_rules.specs.declared.After.{After}
use Rattle.bench_print.specs.Printing.{printed_into}
use Rattle.bench_state.specs.declared.Bench.{Bench}
use Rattle.register.specs.Runs.{Event}
use Rattle.bench_limits.specs.Limits.{line_room}

-- a byte of a carry line prints so many at most: a number takes two bytes or more, and prints one line
abbrev text_a_byte : ℕ
text_a_byte = line_room / 2

-- The loop over a line's numbers: text is what was printed so far, happened the events so far, and the rest of the numbers is still to be carried.
-- Without an event so far every byte of the record and of the buffers is kept.
pub record Carrying (b : Bench) (l : Lent) (line : List ℕ) (first : ℕ) (out : List ℕ) (place : ℕ) (r : After) (l' : Lent) (out' : List ℕ) : Type 0 where
  pub text : List ℕ
  pub happened : List Event
  pub ready : BenchReady r.bench l'
  pub settings-kept : r.bench.settings ≡ b.settings
  pub out-long : length out' ≡ length out
  pub text-is : out' ≡ printed_into 0 text out
  pub used-is : r.used ≡ length text
  pub room : r.used ≤ text_a_byte * place
  pub rest : CarryRest line place
  pub world-so : (carried_all b.settings (world_in b l) (numbers_of (words_from line first))).world
      ≡ (carried_all b.settings (world_in r.bench l') (numbers_of (words_from line place))).world
  pub printed-so : (carried_all b.settings (world_in b l) (numbers_of (words_from line first))).printed
      ≡ text ++ (carried_all b.settings (world_in r.bench l') (numbers_of (words_from line place))).printed
  pub events-so : (carried_all b.settings (world_in b l) (numbers_of (words_from line first))).events
      ≡ happened ++ (carried_all b.settings (world_in r.bench l') (numbers_of (words_from line place))).events
  pub no-event-keeps : happened ≡ [] → (r.bench ≡ b) × (l' ≡ l)

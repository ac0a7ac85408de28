-- What the inner workers of this crate ask and give.
use Rattle.std.specs.Prelude.{◌≡◌, List, [], ℕ, ◌+◌, ◌≤◌, length}
use Rattle.bench_print.specs.Printing.{printed_into}
use Rattle.bench_state.specs.Workers.{Fits}
use Rattle.bench_state.specs.declared.Bench.{Bench}
use Rattle.bench_rules.specs.Play.{Played}
use Rattle.bench_rules.specs.declared.After.{After}
use Rattle.bench_rules.specs.Turning.{Lent, world_in}
use Rattle.bench_limits.specs.Limits.{last_message, kept_length, images_length, numbers_length, bytes_length, line_room, text_length}

-- A set that is played: settings within the bench's limits, 127 messages at most, buffers of the right lengths.
pub record BenchReady (b : Bench) (l : Lent) : Type 0 where
  pub fits : Fits b.settings
  pub few : b.sent ≤ last_message
  pub images-long : length l.images ≡ images_length
  pub kept-long : length l.kept ≡ kept_length
  pub numbers-long : length l.numbers ≡ numbers_length
  pub bytes-long : length l.bytes ≡ bytes_length

-- From a bench and its buffers, with a text of `at` bytes printed so far, to another: the world is the one played, and what it prints follows the text.
-- Where no event happened (refused, or lost at a brick that is down) every byte of the record and of the buffers is kept, those that mean nothing too.
pub record Turned (b : Bench) (l : Lent) (at : ℕ) (out : List ℕ) (p : Played) (r : After) (l' : Lent) (out' : List ℕ) : Type 0 where
  pub world_is : world_in r.bench l' ≡ p.world
  pub settings-kept : r.bench.settings ≡ b.settings
  pub few : r.bench.sent ≤ last_message
  pub text-is : out' ≡ printed_into at p.printed out
  pub used-is : r.used ≡ at + length p.printed
  pub short : r.used ≤ at + line_room
  pub no-event-keeps : p.events ≡ [] → (r.bench ≡ b) × (l' ≡ l)

-- a line or a part of one at the beginning of the printed text
pub record Lined (b : Bench) (l : Lent) (out : List ℕ) (p : Played) (r : After) (l' : Lent) (out' : List ℕ) : Type 0 where
  pub world_is : world_in r.bench l' ≡ p.world
  pub settings-kept : r.bench.settings ≡ b.settings
  pub few : r.bench.sent ≤ last_message
  pub text-is : out' ≡ printed_into 0 p.printed out
  pub used-is : r.used ≡ length p.printed
  pub within : r.used ≤ text_length
  pub no-event-keeps : p.events ≡ [] → (r.bench ≡ b) × (l' ≡ l)

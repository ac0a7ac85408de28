-- Document 01, "Times".
use Rattle.std.specs.Prelude.{Result, Ok, Err, Bool, cond, ◌&&◌, ℕ, ◌%◌, ◌+◌, ◌-◌, ◌*◌, ◌^◌, max, ◌≤◌, ◌<◌, leb, ltb, ◌≡◌}
use Rattle.settings.specs.Refusal.{number_of_refusal, passed, bad_number, bad_record, bad_reading, clock_spent}
use Rattle.settings.specs.declared.Clock.{Clock}
use Rattle.settings.specs.declared.Refusal.{Refusal}

-- "count 1 to 2^40−1"
unfoldable pub max_count : ℕ
max_count = 2 ^ 40 - 1

-- "'no upper end' is 2^44"
unfoldable pub no_upper_end : ℕ
no_upper_end = 2 ^ 44

-- "coordinator number (0 to 15)"
abbrev pub coordinator_count : ℕ
coordinator_count = 16

abbrev pub last_coordinator : ℕ
last_coordinator = coordinator_count - 1

-- whose time it is
abbrev pub coordinator_of : ℕ → ℕ
coordinator_of t = t % coordinator_count

-- "A time is count × 16 + coordinator number (0 to 15)"
unfoldable pub time_of : ℕ → ℕ → ℕ
time_of count coordinator = count * coordinator_count + coordinator

-- A valid time: its count is at least 1 and at most 2^40−1. Time 0, "before all others", is not among them.
unfoldable pub valid_time : ℕ → Bool
valid_time t = leb (time_of 1 0) t && ltb t no_upper_end

-- "A clock reading gives count = the larger of the reading and last count + 1"
unfoldable pub next_count : ℕ → ℕ → ℕ
next_count last reading = max reading (last + 1)

-- Why a clock gives no time, lowest number first: 3 a coordinator number above 15, 6 a last count that no clock has,
-- 7 a reading above 2^40−1, 8 a last count of 2^40−1.
unfoldable pub draw_refusal : Clock → ℕ → ℕ
draw_refusal c reading =
    cond (ltb last_coordinator c.coordinator) bad_number
    (cond (ltb max_count c.last) bad_record
    (cond (ltb max_count reading) bad_reading
    (cond (leb max_count c.last) clock_spent passed)))

-- The clock after a reading that is not refused: its last count is the count drawn.
unfoldable pub advanced : Clock → ℕ → Clock
advanced c reading = record { coordinator = c.coordinator; last = next_count c.last reading }

-- What a clock gives: a time and the clock that follows it, or the number of the refusal.
pub data Draw : Type 0 where
  Drawn : ℕ → Clock → Draw
  Refused : ℕ → Draw

-- the answer of the code, by the paper's number
abbrev pub draw_in : Result (ℕ × Clock) Refusal → Draw
draw_in (Ok (t, next)) = Drawn t next
draw_in (Err r) = Refused (number_of_refusal r)

-- "The clock gives a time together with the clock that follows it."
unfoldable pub draw_of : Clock → ℕ → Draw
draw_of c reading =
    cond (leb (draw_refusal c reading) passed)
    (Drawn (time_of (next_count c.last reading) c.coordinator) (advanced c reading))
    (Refused (draw_refusal c reading))

-- The paper's number for each answer of a clock: 0 for a time, else the refusal's.
unfoldable pub number_of : Draw → ℕ
number_of (Drawn t next) = passed
number_of (Refused number) = number

-- what a clock and a reading that are not refused satisfy
pub record Draws (c : Clock) (reading : ℕ) : Type 0 where
  pub coordinator-high : c.coordinator ≤ last_coordinator
  pub last-high : c.last < max_count
  pub reading-high : reading ≤ max_count

-- What a draw gave: the time of the count, and a clock of the same coordinator whose last count is that count, above the old one.
pub record Gave (c : Clock) (reading t : ℕ) (next : Clock) : Type 0 where
  pub drew : Draws c reading
  pub time : t ≡ time_of next.last c.coordinator
  pub same : next.coordinator ≡ c.coordinator
  pub count : next.last ≡ next_count c.last reading

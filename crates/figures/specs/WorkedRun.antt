-- Runs as lists of events, computed on `run`, images and all, in `proofs/Laws/WorkedRunLaws`: document 01's bench case, and two stripes.
use Rattle.std.specs.Prelude.{◌≡◌, List, [], ◌∷◌}
use Rattle.settings.specs.declared.Settings.{Settings}
use Rattle.order.specs.Claim.{read, write, ok, bytes, finished, cut, Seen}
use Rattle.register.specs.Runs.{untouched, Event, start_write, start_read, arrives, crashes, goes_down, comes_up, run}

-- `set 3 1 1 4`
abbrev pub bench_settings : Settings
bench_settings = record { n = 3; m = 1; size = 1; capacity = 4; stripes = 1 }

-- the lines of the bench case; what the bench numbers from 1 stands here at a place from 0
unfoldable pub bench_events : List Event
bench_events =
    start_write 0 0 1 (10 ∷ [])
    ∷ arrives 0
    ∷ arrives 3
    ∷ arrives 1
    ∷ arrives 4
    ∷ arrives 5
    ∷ crashes 0 untouched
    ∷ goes_down 0
    ∷ start_read 1 0 2 1
    ∷ arrives 10
    ∷ arrives 12
    ∷ arrives 11
    ∷ arrives 13
    ∷ arrives 15
    ∷ arrives 17
    ∷ arrives 16
    ∷ arrives 18
    ∷ arrives 20
    ∷ arrives 22
    ∷ arrives 21
    ∷ arrives 23
    ∷ comes_up 0
    ∷ start_read 1 0 3 0
    ∷ arrives 27
    ∷ arrives 30
    ∷ arrives 28
    ∷ arrives 31
    ∷ arrives 32
    ∷ arrives 35
    ∷ arrives 33
    ∷ arrives 36
    ∷ arrives 37
    ∷ arrives 40
    ∷ arrives 38
    ∷ arrives 41
    ∷ []

-- "0 write 16 cut", "1 read 33 00", "1 read 49 00"
abbrev pub WorkedRunIsSeen : Type 0
WorkedRunIsSeen =
    (run bench_settings bench_events).seen 0
    ≡ Seen.began 16 (write (10 ∷ []))
    ∷ Seen.ended 16 cut
    ∷ Seen.began 33 read
    ∷ Seen.ended 33 (finished (bytes (0 ∷ [])))
    ∷ Seen.began 49 read
    ∷ Seen.ended 49 (finished (bytes (0 ∷ [])))
    ∷ []

-- E1: a volume of two stripes on one brick. Coordinator 0 writes 0a to stripe 0, then 0b to stripe 1, and reads stripe 0.
abbrev pub volume_settings : Settings
volume_settings = record { n = 1; m = 1; size = 1; capacity = 2; stripes = 2 }

unfoldable pub volume_events : List Event
volume_events =
    start_write 0 0 1 (10 ∷ [])
    ∷ arrives 0
    ∷ arrives 1
    ∷ arrives 2
    ∷ arrives 3
    ∷ start_write 0 1 1 (11 ∷ [])
    ∷ arrives 5
    ∷ arrives 6
    ∷ arrives 7
    ∷ arrives 8
    ∷ start_read 0 0 1 0
    ∷ arrives 10
    ∷ arrives 11
    ∷ []

-- "one clock for all stripes": times 16, 32 and 48; what is seen, stripe by stripe
abbrev pub VolumeRunIsSeen : Type 0
VolumeRunIsSeen =
    ((run volume_settings volume_events).seen 0
    ≡ Seen.began 16 (write (10 ∷ []))
    ∷ Seen.ended 16 (finished ok)
    ∷ Seen.began 48 read
    ∷ Seen.ended 48 (finished (bytes (10 ∷ [])))
    ∷ [])
    × ((run volume_settings volume_events).seen 1 ≡ Seen.began 32 (write (11 ∷ [])) ∷ Seen.ended 32 (finished ok) ∷ [])

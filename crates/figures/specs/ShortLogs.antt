-- Document 02, E6: "With short logs, a few writes cut short fill every brick and nothing is stored again." One schedule on a set of two bricks, both
-- of them data, with logs of two entries, is run twice: as it is, and with the recovery's Drops lost. Then a set of two bricks, one of
-- them data: there one write cut short is enough, and logs of three entries bear it.
-- Computed in `proofs/Laws/ShortLogLaws`.
use Rattle.std.specs.Prelude.{◌≡◌, Bool, true, false, cond, List, [], ◌∷◌, ◌++◌, ℕ, eqb}
use Rattle.settings.specs.declared.Settings.{Settings}
use Rattle.order.specs.Claim.{read, write, ok, bytes, finished, aborted, cut, Ending, Seen}
use Rattle.coord_letters.specs.Letters.{no_letter, letter_c, letter_g}
use Rattle.register.specs.RunLetters.{letter_at}
use Rattle.register.specs.Runs.{untouched, World, fresh_set, Event, start_write, start_read, arrives, crashes, plain, step, run}

abbrev pub short_logs : Settings
short_logs = record { n = 2; m = 2; size = 1; capacity = 2; stripes = 1 }

-- A write by coordinator 0, cut when brick 0 has stored it, and one by coordinator 1, cut when brick 1 has: both logs are full, and neither write
-- is on two bricks.
unfoldable pub cut_writes : List Event
cut_writes =
    start_write 0 0 1 (10 ∷ 11 ∷ [])
    ∷ arrives 0 ∷ arrives 1 ∷ arrives 2 ∷ arrives 3 ∷ arrives 4 ∷ crashes 0 untouched
    ∷ start_write 1 0 2 (12 ∷ 13 ∷ [])
    ∷ arrives 7 ∷ arrives 8 ∷ arrives 9 ∷ arrives 10 ∷ arrives 12 ∷ crashes 1 untouched
    ∷ []

-- Coordinator 2 reads: its Read round, and a round of Order-and-read that finds the later write on one brick. Its Drops, 22 and 23, are sent.
unfoldable pub first_look : List Event
first_look =
    start_read 2 0 3 0
    ∷ arrives 14 ∷ arrives 15 ∷ arrives 16 ∷ arrives 17
    ∷ arrives 18 ∷ arrives 19 ∷ arrives 20 ∷ arrives 21
    ∷ []

-- The next round finds the earlier write on one brick. Its Drops, 28 and 29, are sent.
unfoldable pub second_look : List Event
second_look = arrives 24 ∷ arrives 25 ∷ arrives 26 ∷ arrives 27 ∷ []

-- The last one finds time 0 on both, and its Write round goes to both bricks. Coordinator 3 begins a write meanwhile, whose Order round is granted.
-- Then the read ends; its Trims, if it was stored, are 44 and 45. Then the write's blocks arrive, and the replies to them.
unfoldable pub stores : List Event
stores =
    arrives 30 ∷ arrives 31 ∷ arrives 32 ∷ arrives 33 ∷ arrives 34 ∷ arrives 35 ∷ arrives 36
    ∷ start_write 3 0 4 (14 ∷ 15 ∷ [])
    ∷ arrives 38 ∷ arrives 39 ∷ arrives 40 ∷ arrives 41
    ∷ arrives 37 ∷ arrives 44 ∷ arrives 45
    ∷ arrives 42 ∷ arrives 43 ∷ arrives 44 ∷ arrives 45 ∷ arrives 46 ∷ arrives 47
    ∷ []

-- the schedule, with the Drops of both rounds reaching both bricks, or lost
unfoldable pub schedule : (drops : Bool) → List Event
schedule drops =
    cut_writes ++ first_look ++ cond drops (arrives 22 ∷ arrives 23 ∷ []) [] ++ second_look ++ cond drops (arrives 28 ∷ arrives 29 ∷ []) [] ++ stores

-- what is seen, by how the read and the last write end
unfoldable pub seen_ending : (after_read after_write : Ending (plain short_logs)) → List (Seen (plain short_logs))
seen_ending after_read after_write =
    Seen.began 16 (write (10 ∷ 11 ∷ []))
    ∷ Seen.ended 16 cut
    ∷ Seen.began 33 (write (12 ∷ 13 ∷ []))
    ∷ Seen.ended 33 cut
    ∷ Seen.began 50 read
    ∷ Seen.began 67 (write (14 ∷ 15 ∷ []))
    ∷ Seen.ended 50 after_read
    ∷ Seen.ended 67 after_write
    ∷ []

-- The Drops make room: the read stores what it found, and the next write is stored.
abbrev pub DropsMakeRoom : Type 0
DropsMakeRoom = (run short_logs (schedule true)).seen 0 ≡ seen_ending (finished (bytes (0 ∷ 0 ∷ []))) (finished ok)

-- Without them both logs stay full, and nothing is stored.
abbrev pub WithoutDropsNothingIsStored : Type 0
WithoutDropsNothingIsStored = (run short_logs (schedule false)).seen 0 ≡ seen_ending aborted aborted

-- Two bricks, one of them data, with logs of so many entries; with two, `set 2 1 1 2`. A quorum is both bricks.
abbrev pub two_bricks : (capacity : ℕ) → Settings
two_bricks capacity = record { n = 2; m = 1; size = 1; capacity = capacity; stripes = 1 }

-- A write by coordinator 0, cut when brick 0 has stored it. Then coordinator 1 reads: its Read round, a round of Order-and-read that finds the
-- write on brick 0, and its Write round to both bricks.
unfoldable pub cut_then_read : List Event
cut_then_read =
    start_write 0 0 1 (10 ∷ [])
    ∷ arrives 0 ∷ arrives 1 ∷ arrives 2 ∷ arrives 3 ∷ arrives 4 ∷ crashes 0 untouched
    ∷ start_read 1 0 2 0
    ∷ arrives 7 ∷ arrives 8 ∷ arrives 9 ∷ arrives 10
    ∷ arrives 11 ∷ arrives 12 ∷ arrives 13 ∷ arrives 14
    ∷ arrives 15 ∷ arrives 16 ∷ arrives 17 ∷ arrives 18
    ∷ []

-- Then coordinator 2 writes, and both try once more.
unfoldable pub more_tries : List Event
more_tries =
    start_write 2 0 3 (11 ∷ [])
    ∷ arrives 19 ∷ arrives 20 ∷ arrives 21 ∷ arrives 22
    ∷ arrives 23 ∷ arrives 24 ∷ arrives 25 ∷ arrives 26
    ∷ start_read 1 0 4 0
    ∷ arrives 27 ∷ arrives 28 ∷ arrives 29 ∷ arrives 30
    ∷ arrives 31 ∷ arrives 32 ∷ arrives 33 ∷ arrives 34
    ∷ arrives 35 ∷ arrives 36 ∷ arrives 37 ∷ arrives 38
    ∷ start_write 2 0 5 (12 ∷ [])
    ∷ arrives 39 ∷ arrives 40 ∷ arrives 41 ∷ arrives 42
    ∷ arrives 43 ∷ arrives 44 ∷ arrives 45 ∷ arrives 46
    ∷ []

-- With two entries each of them ends aborted.
abbrev pub OneCutFillsABrick : Type 0
OneCutFillsABrick =
    (run (two_bricks 2) (cut_then_read ++ more_tries)).seen 0
    ≡ Seen.began 16 (write (10 ∷ []))
    ∷ Seen.ended 16 cut
    ∷ Seen.began 33 read
    ∷ Seen.ended 33 aborted
    ∷ Seen.began 50 (write (11 ∷ []))
    ∷ Seen.ended 50 aborted
    ∷ Seen.began 65 read
    ∷ Seen.ended 65 aborted
    ∷ Seen.began 82 (write (12 ∷ []))
    ∷ Seen.ended 82 aborted
    ∷ []

-- the letters that events show, in their order (E5)
unfoldable pub letters_from : (s : Settings) → World → List Event → List ℕ
letters_from s w [] = []
letters_from s w (e ∷ events) =
    cond (eqb (letter_at s w e) no_letter) [] (letter_at s w e ∷ []) ++ letters_from s (step s w e).world events

-- Each abort is for full logs alone: its letter is G.
abbrev pub EachTryEndsG : Type 0
EachTryEndsG =
    letters_from (two_bricks 2) (fresh_set (two_bricks 2)) (cut_then_read ++ more_tries) ≡ letter_c ∷ letter_g ∷ letter_g ∷ letter_g ∷ letter_g ∷ []

-- With three entries the same read stores what it found, and gives it.
abbrev pub AThirdEntryBearsOneCut : Type 0
AThirdEntryBearsOneCut =
    (run (two_bricks 3) cut_then_read).seen 0
    ≡ Seen.began 16 (write (10 ∷ []))
    ∷ Seen.ended 16 cut
    ∷ Seen.began 33 read
    ∷ Seen.ended 33 (finished (bytes (10 ∷ [])))
    ∷ []

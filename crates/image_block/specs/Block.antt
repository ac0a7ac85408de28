-- Document 01, "The saved brick": one block of 512 bytes. After the check, at bytes 0 and 1, come its 510 other bytes, its body.
use Rattle.std.specs.Prelude.{Bool, List, [], ◌∷◌, ◌++◌, ℕ, suc, ◌+◌, ◌-◌, ◌*◌, ◌%◌, length, take, drop}
use Rattle.byte_lists.specs.Little.{little}
use Rattle.settings.specs.declared.Settings.{Settings}
use Rattle.byte_lists.specs.Lists.{zeros, same}

-- "blocks of 512 bytes", "Bytes 0–1 hold the check"
abbrev pub block_bytes : ℕ
block_bytes = 512

abbrev pub check_bytes : ℕ
check_bytes = 2

abbrev pub body_bytes : ℕ
body_bytes = block_bytes - check_bytes

-- the fields of the head and of an entry: how many bytes a block size, an entry count and a time have
abbrev pub size_bytes : ℕ
size_bytes = 2

abbrev pub count_bytes : ℕ
count_bytes = 2

abbrev pub time_bytes : ℕ
time_bytes = 8

-- and where those that are read back stand. The head: ".. 10–11 entry count .., 12–19 promise";
abbrev pub count_from : ℕ
count_from = 10

abbrev pub promise_from : ℕ
promise_from = 12

abbrev pub head_end : ℕ
head_end = 20

-- an entry: "4–11 time, .., block from 16"
abbrev pub time_from : ℕ
time_from = 4

abbrev pub held_from : ℕ
held_from = 16

-- the sum of the bytes, the first one k times, the next k + 1 times, and so on
unfoldable pub weighted : ℕ → List ℕ → ℕ
weighted k [] = 0
weighted k (b ∷ bs) = k * b + weighted (suc k) bs

-- "mod 65521"
abbrev pub check_modulus : ℕ
check_modulus = 65521

-- "the check: (1 + sum over offsets p = 2..511 of (p−1) × byte) mod 65521"
unfoldable pub check_of : List ℕ → ℕ
check_of body = (1 + weighted 1 body) % check_modulus

-- "Bytes 0–1 hold the check"
unfoldable pub sealed : List ℕ → List ℕ
sealed body = little check_bytes (check_of body) ++ body

-- whether a block's check holds: bytes 0 and 1 are those of the check
unfoldable pub checked : List ℕ → Bool
checked block = same (take check_bytes block) (little check_bytes (check_of (drop check_bytes block)))

-- "Byte 2 is the kind: 0 unused, 1 head, 2 entry"; E2: "image kind 3", a mark
abbrev pub kind_from : ℕ
kind_from = 2

abbrev pub unused_kind : ℕ
unused_kind = 0

abbrev pub head_kind : ℕ
head_kind = 1

abbrev pub entry_kind : ℕ
entry_kind = 2

abbrev pub mark_kind : ℕ
mark_kind = 3

-- "Block 0 is the head: 4 n, 5 m, 6 brick, 7 capacity, 8–9 block size, 10–11 entry count (1 to capacity), 12–19 promise."
-- "All other bytes are zero"
unfoldable pub head_body : Settings → ℕ → ℕ → ℕ → List ℕ
head_body s brick count promise =
    head_kind ∷ 0 ∷ s.n ∷ s.m ∷ brick ∷ s.capacity
    ∷ little size_bytes s.size ++ little count_bytes count ++ little time_bytes promise
    ++ zeros (block_bytes - head_end)

unfoldable pub head_block : Settings → ℕ → ℕ → ℕ → List ℕ
head_block s brick count promise = sealed (head_body s brick count promise)

-- a block of the log: "4–11 time, 12–13 block size, block from 16", the bytes that are there
unfoldable pub slot_body : (kind time size : ℕ) → List ℕ → List ℕ
slot_body kind time size block =
    kind ∷ 0
    ∷ little time_bytes time ++ little size_bytes size ++ 0 ∷ 0
    ∷ block
    ++ zeros (block_bytes - held_from - length block)

-- "entries in rising time: 4–11 time, 12–13 block size, block from 16"
unfoldable pub entry_body : ℕ → List ℕ → List ℕ
entry_body time block = slot_body entry_kind time (length block) block

unfoldable pub entry_block : ℕ → List ℕ → List ℕ
entry_block time block = sealed (entry_body time block)

-- E2: a mark, "image kind 3: time, size, no block bytes"
unfoldable pub mark_body : (time size : ℕ) → List ℕ
mark_body time size = slot_body mark_kind time size []

unfoldable pub mark_block : (time size : ℕ) → List ℕ
mark_block time size = sealed (mark_body time size)

-- "an unused block is 510 zeros after a check of 1"
unfoldable pub unused_body : List ℕ
unused_body = unused_kind ∷ zeros (body_bytes - 1)

unfoldable pub unused_block : List ℕ
unused_block = sealed unused_body

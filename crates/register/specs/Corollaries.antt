-- What demand 3 means for a dealer, of any run under settings in range and any stripe. Proved in `proofs/Laws/CorollaryLaws`.
use Rattle.std.specs.Prelude.{◌≡◌, ◌≢◌, ◌⊎◌, true, List, [], ℕ, ◌≤◌, ◌<◌, length, replicate}
use Rattle.settings.specs.Ranges.{in_range}
use Rattle.settings.specs.declared.Settings.{Settings}
use Rattle.order.specs.Claim.{Action, write, Result, ok, bytes, given, finished, Seen, Operation, ◌∈◌, Before}
use Rattle.order.specs.OrderUse.{EndedBefore, BeganBefore, ReadGave, OnlyWriteOf, WriteWithin, NoBlockWrites, IsWrite}
use Rattle.order.specs.OrderUse.{BlockGave, BlockWritten, OnlyBlockWriteOf, BlockWriteWithin, OperationGave, CutAtTwo, AfterOneList}
use Rattle.register.specs.Runs.{zero_stripe, stripe_blocks, plain, World, Event, step, run}

-- ANY TWO, whatever else is read and written of the stripe. The printed line, "a write cut short is there from the next read on or stays away
-- for good", of any two finished operations, each on the stripe or on one block, of which t ended before u began. There are two lists of
-- operations that began: t gave what the plain stripe gives after the first, u what it gives after the first, t and the second (a read changes
-- nothing); what ended before t began, by ok, abort or cut, stands in the first list or in neither; what stands in the second neither ended
-- before t began nor began after u ended.
abbrev pub OrderCutAtTwo : Type 0
OrderCutAtTwo =
    (s : Settings) → in_range s ≡ true → (events : List Event) (stripe : ℕ) → stripe < s.stripes
    → (t u : ℕ) (x y : Action (stripe_blocks s)) (a b : Result (List ℕ) (List ℕ))
    → let l = (run s events).seen stripe in OperationGave l t x a → OperationGave l u y b → EndedBefore l t u
    → CutAtTwo l t x a u y b

-- Two finished reads, each of the stripe or of one block, also two beside each other, gave what the plain stripe gives after one list of
-- operations that began, if every write of the run, of the stripe or of one block, had ended before both began, by ok, abort or cut, or began
-- after both had ended. (A write among the two would itself have to end before it began.)
abbrev pub ReadsSeeOneStripe : Type 0
ReadsSeeOneStripe =
    (s : Settings) → in_range s ≡ true → (events : List Event) (stripe : ℕ) → stripe < s.stripes
    → (t u : ℕ) (x y : Action (stripe_blocks s)) (a b : Result (List ℕ) (List ℕ))
    → let l = (run s events).seen stripe in OperationGave l t x a → OperationGave l u y b
    → ((w : ℕ) → IsWrite l w → (EndedBefore l w t × EndedBefore l w u) ⊎ (EndedBefore l t w × EndedBefore l u w))
    → AfterOneList l t x a u y b

-- So a write of the stripe is there whole or away, also for reads of different blocks. Write w of v ended before both reads began, by ok, abort
-- or cut, and every other write of the run had ended before all three began, or began after both reads had ended: then both gave what they
-- read of v, or both gave what the plain stripe gives after one list of operations in which w does not stand. (Let m be 2 and w, of A and B,
-- neither of them zeros, the only write: it is excluded that a read of block 0 gives A and a later one of block 1 gives zeros.)
abbrev pub StripeWriteIsThereOrAway : Type 0
StripeWriteIsThereOrAway =
    (s : Settings) → in_range s ≡ true → (events : List Event) (stripe : ℕ) → stripe < s.stripes
    → (w t u : ℕ) (v : List ℕ) (x y : Action (stripe_blocks s)) (a b : Result (List ℕ) (List ℕ))
    → let l = (run s events).seen stripe in Seen.began w (write v) ∈ l → EndedBefore l w t → EndedBefore l w u → OperationGave l t x a → OperationGave l u y b
    → ((i : ℕ) → IsWrite l i → i ≢ w
    → (EndedBefore l i w × EndedBefore l i t × EndedBefore l i u) ⊎ (EndedBefore l t i × EndedBefore l u i))
    → ((a ≡ given x v) × (b ≡ given y v))
    ⊎ ((c : AfterOneList l t x a u y b) × ((o : Operation (plain s)) → o ∈ c.list → o.time ≢ w))

-- WHOLE STRIPES. A write of one block leaves a stripe that no one wrote whole, so the first three ask that none began on that stripe.

-- The printed line, in two statements. Write w of v ended, by ok, abort or cut, before read t began, and t ended before read u began.
-- It stays away for good: if no other write is of v and t gave other bytes, then u gave other bytes.
abbrev pub WriteStaysAway : Type 0
WriteStaysAway =
    (s : Settings) → in_range s ≡ true → (events : List Event) (stripe : ℕ) → stripe < s.stripes → (w t u : ℕ) (v a b : List ℕ)
    → let l = (run s events).seen stripe in NoBlockWrites l
    → OnlyWriteOf l w v → EndedBefore l w t → EndedBefore l t u → ReadGave l t a → ReadGave l u b
    → a ≢ v → b ≢ v

-- It is there from the next read on: if t gave v and u did not, then u gave the bytes of another write, one that neither ended before t
-- began nor began after u ended.
abbrev pub WriteIsThereUntilAnother : Type 0
WriteIsThereUntilAnother =
    (s : Settings) → in_range s ≡ true → (events : List Event) (stripe : ℕ) → stripe < s.stripes → (w t u : ℕ) (v b : List ℕ)
    → let l = (run s events).seen stripe in NoBlockWrites l
    → EndedBefore l w t → EndedBefore l t u → ReadGave l t v → ReadGave l u b → b ≢ v
    → (x : ℕ) × (x ≢ w) × WriteWithin l t u x b

-- A finished read gave zeros, or the bytes of one write, whole, that began before that read ended.
abbrev pub ReadGivesOneWrite : Type 0
ReadGivesOneWrite =
    (s : Settings) → in_range s ≡ true → (events : List Event) (stripe : ℕ) → stripe < s.stripes → (t : ℕ) (a : List ℕ)
    → let l = (run s events).seen stripe in NoBlockWrites l → ReadGave l t a
    → (a ≡ zero_stripe s) ⊎ ((x : ℕ) × Before (Seen.began x (write a)) (Seen.ended t (finished (bytes a))) l)

-- Two finished reads, also two beside each other, gave the same bytes if every write of the run, of the stripe or of one block, had ended
-- before both began, by ok, abort or cut, or began after both had ended. (So a write cut short is there for both, or for neither.)
abbrev pub CutWriteIsThereOrAway : Type 0
CutWriteIsThereOrAway =
    (s : Settings) → in_range s ≡ true → (events : List Event) (stripe : ℕ) → stripe < s.stripes → (t u : ℕ) (a b : List ℕ)
    → let l = (run s events).seen stripe in ReadGave l t a → ReadGave l u b
    → ((w : ℕ) → IsWrite l w → (EndedBefore l w t × EndedBefore l w u) ⊎ (EndedBefore l t w × EndedBefore l u w))
    → a ≡ b

-- What was stored is there: a finished read that began after a finished write gave that write's bytes if every other write of the run, of
-- the stripe or of one block, had ended before that write began, or began after the read ended.
abbrev pub WhatWasStoredIsThere : Type 0
WhatWasStoredIsThere =
    (s : Settings) → in_range s ≡ true → (events : List Event) (stripe : ℕ) → stripe < s.stripes → (w t : ℕ) (v a : List ℕ)
    → let l = (run s events).seen stripe in Seen.began w (write v) ∈ l → Seen.ended w (finished ok) ∈ l → ReadGave l t a → EndedBefore l w t
    → ((x : ℕ) → IsWrite l x → x ≢ w → EndedBefore l x w ⊎ EndedBefore l t x)
    → a ≡ v

-- ONE BLOCK, whatever else is read and written of its stripe: the same five of block j. A write of the stripe writes block j too, and a read
-- of the stripe gives it too. Proved in `proofs/Laws/BlockCorollaryLaws`.

-- The printed line of one block, in two statements. Write w of v as block j ended, by ok, abort or cut, before read t of it began, and t ended
-- before read u of it began. It stays away for good: if no other write writes v there and t gave other bytes, then u gave other bytes.
abbrev pub BlockWriteStaysAway : Type 0
BlockWriteStaysAway =
    (s : Settings) → in_range s ≡ true → (events : List Event) (stripe : ℕ) → stripe < s.stripes → (j w t u : ℕ) (v a b : List ℕ)
    → let l = (run s events).seen stripe in OnlyBlockWriteOf l j w v → EndedBefore l w t → EndedBefore l t u
    → BlockGave l j t a → BlockGave l j u b
    → a ≢ v → b ≢ v

-- It is there from the next read on: if t gave v and u did not, then u gave what another write wrote there, one that neither ended before t
-- began nor began after u ended.
abbrev pub BlockWriteIsThereUntilAnother : Type 0
BlockWriteIsThereUntilAnother =
    (s : Settings) → in_range s ≡ true → (events : List Event) (stripe : ℕ) → stripe < s.stripes → (j w t u : ℕ) (v b : List ℕ)
    → let l = (run s events).seen stripe in EndedBefore l w t → EndedBefore l t u → BlockGave l j t v → BlockGave l j u b → b ≢ v
    → (x : ℕ) × (x ≢ w) × BlockWriteWithin l j t u x b

-- A finished read gave zeros as block j, or what one write wrote there, whole, that began before that read ended.
abbrev pub BlockReadGivesOneWrite : Type 0
BlockReadGivesOneWrite =
    (s : Settings) → in_range s ≡ true → (events : List Event) (stripe : ℕ) → stripe < s.stripes → (j t : ℕ) (a : List ℕ) → j < s.m
    → let l = (run s events).seen stripe in BlockGave l j t a
    → (a ≡ replicate s.size 0) ⊎ ((x : ℕ) × BlockWritten l j x a × BeganBefore l x t)

-- Two finished reads of block j, also two beside each other, gave the same bytes there if every write of it had ended before both began, by
-- ok, abort or cut, or began after both had ended. (So a write cut short is there for both, or for neither.)
abbrev pub CutBlockWriteIsThereOrAway : Type 0
CutBlockWriteIsThereOrAway =
    (s : Settings) → in_range s ≡ true → (events : List Event) (stripe : ℕ) → stripe < s.stripes → (j t u : ℕ) (a b : List ℕ)
    → let l = (run s events).seen stripe in BlockGave l j t a → BlockGave l j u b
    → ((w : ℕ) (v : List ℕ) → BlockWritten l j w v
    → (EndedBefore l w t × EndedBefore l w u) ⊎ (EndedBefore l t w × EndedBefore l u w))
    → a ≡ b

-- What was stored in a block is there: a finished read of block j that began after a finished write of it gave what that wrote there if every
-- other write of it had ended before that write began, or began after the read ended.
abbrev pub WhatWasStoredInABlockIsThere : Type 0
WhatWasStoredInABlockIsThere =
    (s : Settings) → in_range s ≡ true → (events : List Event) (stripe : ℕ) → stripe < s.stripes → (j w t : ℕ) (v a : List ℕ)
    → let l = (run s events).seen stripe in BlockWritten l j w v → Seen.ended w (finished ok) ∈ l → BlockGave l j t a → EndedBefore l w t
    → ((x : ℕ) (c : List ℕ) → BlockWritten l j x c → x ≢ w → EndedBefore l x w ⊎ EndedBefore l t x)
    → a ≡ v

-- One event shows one thing at most, so what is seen of a stripe stands in the order of the events;
abbrev pub OneThingSeen : Type 0
OneThingSeen = (s : Settings) (w : World) (e : Event) (stripe : ℕ) → length ((step s w e).seen stripe) ≤ 1

-- and what it shows is of one stripe.
abbrev pub SeenOnOneStripe : Type 0
SeenOnOneStripe = (s : Settings) (w : World) (e : Event) (j k : ℕ) → j ≢ k → ((step s w e).seen j ≡ []) ⊎ ((step s w e).seen k ≡ [])

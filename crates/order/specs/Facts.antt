-- What happened to one stripe, as facts; a history is a list of them, newest first. An operation is named by its time.
use Rattle.std.specs.Prelude.{List, [], ◌∷◌, ◌++◌, ℕ}
use Rattle.order.specs.Claim.{Plain, Ending, Seen}

-- What a store is made from: the operation itself, which sets the whole stripe, or its predecessor, an earlier time
-- (0: the fresh stripe).
pub data Source : Type 0 where
  itself : Source
  over : ℕ → Source

-- How an operation ended: with an answer after its Write round that says nothing of the stripe (a write's ok);
-- with what recovery found; with what one round of reading found, which saw this time; not at all.
pub data End (P : Plain) : Type 0 where
  written : P.Given → End P
  recovered : P.Given → End P
  one_round : ℕ → P.Given → End P
  aborted : End P
  cut : End P

pub data Fact (P : Plain) : Type 0 where
  -- the operation of this time began
  began : ℕ → P.Kind → Fact P
  -- this brick said yes to Order, or Order-and-read, of this time
  promised : ℕ → ℕ → Fact P
  -- the coordinator of this time sends its Write round, which stores what was made from this source
  launched : ℕ → Source → Fact P
  -- this brick said yes to Write of this time
  stored : ℕ → ℕ → Fact P
  -- this brick said yes to the Read round of this time, and showed this newest time
  showed : ℕ → ℕ → ℕ → Fact P
  -- the operation of this time ended
  ended : ℕ → End P → Fact P

abbrev pub History : Plain → Type 0
History P = List (Fact P)

-- What is seen of a history: beginnings and ends, in the order of the events.
unfoldable pub ending_of : {P : Plain} → End P → Ending P
ending_of (written g) = Ending.finished g
ending_of (recovered g) = Ending.finished g
ending_of (one_round c g) = Ending.finished g
ending_of aborted = Ending.aborted
ending_of cut = Ending.cut

unfoldable pub shows : {P : Plain} → Fact P → List (Seen P)
shows (began t k) = Seen.began t k ∷ []
shows (promised b t) = []
shows (launched t s) = []
shows (stored b t) = []
shows (showed b t c) = []
shows (ended t e) = Seen.ended t (ending_of e) ∷ []

unfoldable pub seen : {P : Plain} → History P → List (Seen P)
seen [] = []
seen (f ∷ h) = seen h ++ shows f

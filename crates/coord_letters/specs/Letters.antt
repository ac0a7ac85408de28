-- Document 02, E5: "On the panel I'd like a letter after the time." A letter is its byte; 0 is none.
use Rattle.std.specs.Prelude.{Bool, cond, not, ◌&&◌, List, ℕ, eqb, get_or}
use Rattle.byte_lists.specs.Each.{some}
use Rattle.coord_record.specs.declared.Op.{Op}
use Rattle.coord_record.specs.declared.Tally.{Tally}
use Rattle.coord_tally.specs.Counting.{said_no}
use Rattle.message.specs.Kinds.{read_kind, third_round, full_log}
use Rattle.message.specs.Messages.{stores_entry}

abbrev pub no_letter : ℕ
no_letter = 0

-- "F: read in one round."
abbrev pub letter_f : ℕ
letter_f = 70

-- "H: a read recovered at the first time tried."
abbrev pub letter_h : ℕ
letter_h = 72

-- "L: a read recovered at a lower time."
abbrev pub letter_l : ℕ
letter_l = 76

-- "S: written, stripe or block."
abbrev pub letter_s : ℕ
letter_s = 83

-- "O: an Order or Order-and-read was told no."
abbrev pub letter_o : ℕ
letter_o = 79

-- "G: every no to a Write or Modify came from a full log alone."
abbrev pub letter_g : ℕ
letter_g = 71

-- "W: any other no there."
abbrev pub letter_w : ℕ
letter_w = 87

-- "X: all said yes, but no block found, time 0 on too few, rounds spent, or blocks that disagree."
abbrev pub letter_x : ℕ
letter_x = 88

-- "a cut operation shows C"
abbrev pub letter_c : ℕ
letter_c = 67

-- The letter of a read that gave an answer: F in its Read round. A recovery's first Order-and-read round is the second, and its store follows
-- the round that found enough blocks: so a store in the third round is of the first time tried (H), a later one of a lower time (L).
unfoldable pub read_letter : Op → ℕ
read_letter op = cond (eqb op.phase read_kind) letter_f (cond (eqb op.round third_round) letter_h letter_l)

-- brick b is counted, and said no by another comparison than that of a full log
unfoldable pub said_other : (counted granted said : List ℕ) → ℕ → Bool
said_other counted granted said b = said_no counted granted b && not (eqb (get_or said b 0) full_log)

-- The letter of an abort. X if no counted brick said no. Of a round that stores: W if a counted no was not that of a full log, else G. Of any
-- other round that aborts, an Order or Order-and-read: O.
unfoldable pub abort_letter : (n : ℕ) → Op → Tally → ℕ
abort_letter n op t =
    cond (not (some (said_no t.counted t.granted) n)) letter_x
    (cond (stores_entry op.phase) (cond (some (said_other t.counted t.granted t.said) n) letter_w letter_g) letter_o)

-- One line after the other of a chunk.
pub mod PassLaws
-- What a call of `read` answered, and the turn that follows.
pub mod ReadLaws
-- One turn after the other, to the end of the input.
pub mod ProgramLaws
-- The program's status tells why it stopped (StopTheorem).
pub mod StopLaws

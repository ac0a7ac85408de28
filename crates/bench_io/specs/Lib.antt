-- The statement: why the program stops, by its status.
pub mod StopTheorem
-- What the inner workers state.
pub mod Workers
-- What a call of `read` may answer.
pub mod Counts

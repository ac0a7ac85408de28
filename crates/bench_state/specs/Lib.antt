-- What the bench keeps, as the world of a run; and what the inner workers state.
pub mod State
pub mod Workers

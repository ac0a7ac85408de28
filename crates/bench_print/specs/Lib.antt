-- What the bench prints: the texts, and what the inner workers state.
pub mod Printing
pub mod Workers

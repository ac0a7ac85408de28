-- A whole call, which is the contract of `play_line`; calls one after the other; and what the inner workers state.
pub mod Lining
pub mod Calls
pub mod Workers

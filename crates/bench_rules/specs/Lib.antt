-- What a line does: the bytes of a write, the rules, the lent buffers as a world; and what the inner workers state.
pub mod Content
pub mod Play
pub mod Turning
pub mod Workers

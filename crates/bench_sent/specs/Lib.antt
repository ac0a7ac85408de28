-- What the bench has sent, in lent buffers; and what the inner workers state.
pub mod Sent
pub mod Workers

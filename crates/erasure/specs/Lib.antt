-- Code: what encoding and decoding give. Recoding: what a change of one block gives. CodeTheorems: what is proved of them.
-- Refusals: what is refused, and what the buffers hold then. Workers: what the inner functions ask.
pub mod Code
pub mod CodeTheorems
pub mod Recoding
pub mod Refusals
pub mod Workers

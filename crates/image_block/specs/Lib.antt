-- Block: the 512-byte block of document 01. Workers: what the inner workers ask and give.
pub mod Block
pub mod Workers

-- Blocks: what reply blocks decode to, what a read gives and what a recovery stores. Workers: what inner workers ask.
pub mod Blocks
pub mod Workers

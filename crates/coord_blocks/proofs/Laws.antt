-- The laws of `coord_blocks`, for its own proofs and those of the crates above. No contract cites them.
pub mod BufferLaws
pub mod OneBlockLaws

-- The laws of `image_view`, for its own proofs and those of the crates above. No contract cites them.
-- ViewLaws: the entry at a place, from bytes, and the entries of a view. FoundNumberLaws: the numbers of what a view gives.
pub mod FoundNumberLaws
pub mod ViewLaws

-- The laws of `message`, for its own proofs and those of the crates above. No contract cites them.
pub mod FlagLaws
pub mod MessageLaws

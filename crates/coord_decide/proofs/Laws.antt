-- The laws of `coord_decide`, for its own proofs and those of the crates above. No contract cites them.
pub mod SaysLaws
pub mod DecidingLaws

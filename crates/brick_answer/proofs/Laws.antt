-- The laws of `brick_answer`, for its own proofs and those of the crates above. No contract cites them.
pub mod ComparisonLaws

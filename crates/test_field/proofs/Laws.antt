-- The laws of `test_field`, for its own proofs and those of the crates above. No contract cites them.
pub mod FieldBoundaryLaws

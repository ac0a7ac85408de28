-- The laws of `bench_commit`, for its own proofs and those of the crates above. No contract cites them.
pub mod ActedLaws
pub mod CommitLaws
pub mod CommitStepLaws
pub mod ListsLaws

-- The laws of `coordinator`, for its own proofs and those of the crates above. No contract cites them.
pub mod RoutineLaws

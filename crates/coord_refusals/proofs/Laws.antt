-- The laws of `coord_refusals`, for its own proofs and those of the crates above. No contract cites them.
pub mod IdleTheoremLaws
pub mod RefusedLaws

-- The laws of `interpolate`, for its own proofs and those of the crates above. No contract cites them.
pub mod BlockLaws
pub mod ByteLaws
pub mod FurtherBlockLaws
pub mod PolynomialLaws
pub mod WeightRowLaws
pub mod WeightLaws

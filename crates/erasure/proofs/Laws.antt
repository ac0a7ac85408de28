-- The laws of `erasure`, for its own proofs and those of the crates above. No contract cites them.
pub mod ListLaws
pub mod CodeTheoremLaws
pub mod OnePolynomialLaws
pub mod PassedLaws
pub mod CodeRefusalLaws
pub mod CodedByteLaws
pub mod BlockOfLaws
pub mod AlteredLaws
pub mod RecodingLaws
pub mod WeightFactorLaws

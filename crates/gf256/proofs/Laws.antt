-- The laws of `gf256`, for its own proofs and those of the crates above. No contract cites them.
pub mod BitLaws
pub mod FieldLaws
pub mod LookupLaws
pub mod ProductLaws
pub mod TableLaws
pub mod TableTheoremLaws
pub mod XorLaws

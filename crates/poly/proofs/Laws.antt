-- The laws of `poly`, for its own proofs and those of the crates above. No contract cites them.
pub mod InterpolationLaws
pub mod RingLaws
pub mod SumLaws
pub mod CoefficientLaws
pub mod RootLaws
pub mod BasisLaws
pub mod BasisPartLaws

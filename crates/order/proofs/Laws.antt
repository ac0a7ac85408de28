-- The laws of `order`, for its own proofs and those of the crates above. No contract cites them.

-- The theorem; what one order means for those who read and write.
pub mod OneOrderTheorem
pub mod OrderUseLaws
pub mod LastSetLaws
pub mod StripeUseLaws
pub mod BlockUseLaws
pub mod OrderCutLaws
-- Definitions for proofs: tests on histories that compute, and the order of a history.
pub mod Tests
pub mod Order
-- The theorem's lemmas, lowest first.
pub mod ClaimLaws
pub mod PlaceLaws
pub mod TestLaws
pub mod QuorumSetLaws
pub mod FactLaws
pub mod StoredLaws
pub mod GoneLaws
pub mod LiveLaws
pub mod SortLaws
pub mod ChainLaws
pub mod PlacedLaws
pub mod RealTimeLaws
pub mod SeenLaws
pub mod ValueLaws
pub mod WalkLaws
pub mod OrderLaws
-- Histories written out, shown valid.
pub mod ExampleLaws
pub mod ClaimExampleLaws
pub mod BenchExampleLaws
pub mod RolledForwardExample
pub mod BlockExample

-- The laws of `coord_tally`, for its own proofs and those of the crates above. No contract cites them.
pub mod CountingLaws
pub mod TargetRowLaws
pub mod RowSets
pub mod FirstMemberLaws

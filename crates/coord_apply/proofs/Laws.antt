-- The laws of `coord_apply`, for its own proofs and those of the crates above. No contract cites them.
pub mod ActLaws
pub mod FirstLaws
pub mod NoticeLaws
pub mod AnswerLaws

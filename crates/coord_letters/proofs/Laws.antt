-- The laws of `coord_letters`, for its own proofs and those of the crates above. No contract cites them.
pub mod LetterLaws

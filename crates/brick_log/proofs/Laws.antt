-- The laws of `brick_log`, for its own proofs and those of the crates above. No contract cites them.
-- AnsweredLaws: what a brick does, by kind and answer. LookLaws: what is found in the log, SearchLaws: by a search from its back. LogChangeLaws: what a message changes, at the image.
-- TrimLaws, DropLaws: what a Trim and a Drop leave. RemovalLaws: both by their plans.
pub mod AnsweredLaws
pub mod DropLaws
pub mod LogChangeLaws
pub mod LookLaws
pub mod RemovalLaws
pub mod SearchLaws
pub mod TrimLaws

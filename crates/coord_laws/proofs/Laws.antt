-- The laws of `coord_laws`, for its own proofs and those of the crates above. No contract cites them.
pub mod CodedBlockLaws
pub mod OpCaseLaws
pub mod StepRunLaws
pub mod StripeLaws
pub mod SentMessageLaws
pub mod SoundnessLaws
pub mod TallyLaws
pub mod TargetLaws
pub mod UnletteredLaws

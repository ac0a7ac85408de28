-- The laws of `coord_record`, for its own proofs and those of the crates above. No contract cites them.
pub mod RuleLaws
pub mod RecordSoundLaws
pub mod SoundPartLaws

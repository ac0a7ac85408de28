-- The digits of a write.
pub mod ShortLaws

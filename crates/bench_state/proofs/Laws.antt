-- The bench's record and buffers: limits, parts of a buffer, the world, a set that begins.
pub mod FillLaws
pub mod FrontLaws
pub mod KeptPartLaws
pub mod BenchRangeLaws
pub mod StateLaws

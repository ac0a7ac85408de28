-- The laws of `byte_lists`, for its own proofs and those of the crates above. No contract cites them.
pub mod LittleLaws
pub mod EachLaws
pub mod TabulateLaws
pub mod PutLaws
pub mod StackLaws
pub mod SameLaws
pub mod BoolLaws
pub mod ZeroLaws
pub mod OverRangeLaws

-- The laws of `settings`, for its own proofs and those of the crates above. No contract cites them.
pub mod CountLaws
pub mod DrawLaws
pub mod QuorumLaws
pub mod RangeLaws
pub mod RefusalLaws
pub mod TimeLaws

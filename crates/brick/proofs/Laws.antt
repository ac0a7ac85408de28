-- The laws of `brick`, for its own proofs and those of the crates above. No contract cites them.
-- BrickLaws: what each message does to a brick. BrickActLaws: what an opened brick makes of
-- it. OutcomeLaws: the ways through `receive`, and the parts of what it leaves. OutcomeLengthLaws: an
-- image keeps its length. GivenNumberLaws: the number of an answer.
pub mod BrickActLaws
pub mod BrickLaws
pub mod GivenNumberLaws
pub mod OutcomeLaws
pub mod OutcomeLengthLaws

-- The laws of `test_brick`, for its own proofs. No contract cites them.
-- BrickBoundaryLaws: buffers filled entry by entry, and the ways through the routines.
pub mod BrickBoundaryLaws

-- The laws of `image_write`, for its own proofs and those of the crates above. No contract cites them.
-- BlocksLaws: an image block by block. FreshImageLaws: a fresh one. ImageStepLaws: each change of a brick, by place and at its image.
-- LowestLaws: a log with its lowest entry as a block. RemovedLaws: entries taken out, by place and at the image.
pub mod BlocksLaws
pub mod FreshImageLaws
pub mod HoldLaws
pub mod LowestLaws
pub mod ImageStepLaws
pub mod RemovedLaws

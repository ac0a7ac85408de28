-- The laws of `image_block`, for its own proofs and those of the crates above. No contract cites them.
-- Blocks: BlockStoreLaws, LayoutLaws. The check: CheckLaws, CheckRowLaws, ChangeLaws, CheckFigures.
pub mod BlockStoreLaws
pub mod ChangeLaws
pub mod CheckFigures
pub mod CheckLaws
pub mod CheckRowLaws
pub mod LayoutLaws

-- The laws of `image`, for its own proofs and those of the crates above. No contract cites them.
-- LogPlaceLaws: a log by place. The others: blocks and fields of an image, opening, what an opened image satisfies.
pub mod FieldTestLaws
pub mod FitLaws
pub mod HolderLaws
pub mod HubLaws
pub mod ImageLaws
pub mod ImageSoundLaws
pub mod LogPlaceLaws
pub mod OpenLaws
pub mod ParseLaws
pub mod Saved
pub mod ScanLaws
pub mod ShownNumberLaws

-- The laws of `volume`, for its own proofs and those of the crates above. No contract cites them.
-- ClientPlaceLaws: client blocks and places, one to one. PlaceRefusalLaws: a place in a buffer of two. RowLaws: images in a
-- row. RowCallLaws: the ways through the row's routines. RowTheoremLaws: a message leaves the other images alone.
pub mod ClientPlaceLaws
pub mod PlaceRefusalLaws
pub mod RowLaws
pub mod RowCallLaws
pub mod RowTheoremLaws

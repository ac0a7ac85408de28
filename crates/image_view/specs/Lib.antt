-- View: a saved brick opened as a view, its count and the entry at a place. ViewCount: the answer to "the count".
pub mod View
pub mod ViewCount

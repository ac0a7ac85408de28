-- Rows stored and read back, broadcasts, and the items that rows stand for.
pub mod SentItemLaws
pub mod SendLaws
pub mod SentRowLaws

-- The bench's limits and the layout of its lent buffers, as `src` has them.
pub mod Limits
